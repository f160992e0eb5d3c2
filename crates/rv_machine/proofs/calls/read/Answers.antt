-- A read that stores its bytes, and one that doesn't.
use Rattle.std.proofs.Common.{◌≡◌, ℕ, Bool, true, false, cond, List, length, slice_get, Some, is_some, refl, sym, ap, ◌∙◌}
use Rattle.std.proofs.lemmas.Bool.{false≢true}
use Rattle.rv_pages.specs.Memory.{Memory, bytes_at, with_bytes, IsMapped}
use Rattle.rv_pages.proofs.MemoryReads.{mapped_some, some_mapped}
use Rattle.rv_machine.specs.MachineState.{MachineState}
use Rattle.rv_machine.specs.StateChanges.{put}
use Rattle.rv_machine.specs.StateFields.{machine_state}
use Rattle.rv_machine.specs.SystemCalls.{argument, not_mapped, bytes_read, moved, received, read_from}
use Rattle.rv_machine.proofs.calls.read.Goals as goal

read_stored : (s : MachineState) (journal : List (List ℕ)) (item bytes : List ℕ) (memory : Memory) (behind after : MachineState) →
    slice_get journal s.item ≡ Some item → bytes ≡ bytes_read s item → IsMapped s.memory (argument s 1) (length bytes) → memory ≡ with_bytes s.memory (argument s 1) bytes →
    behind ≡ moved (record s { memory = memory }) item (length bytes) → after ≡ put behind 10 (length bytes) → after ≡ read_from s (slice_get journal s.item)
read_stored s journal item bytes memory behind after at is mapped stored moves puts =
    puts
    ∙ ap (λ t. put t 10 (length bytes)) (moves ∙ ap (λ m. moved (record s { memory = m }) item (length bytes)) stored)
    ∙ ap (λ b. cond b (received s item bytes) (put s 10 not_mapped)) (sym (mapped_some s.memory (length bytes) (argument s 1) mapped))
    ∙ ap (λ xs. cond (is_some (bytes_at s.memory (argument s 1) (length xs))) (received s item xs) (put s 10 not_mapped)) is
    ∙ ap (read_from s) (sym at)

no_or_yes : (b : Bool) → (b ≡ true → ⊥) → b ≡ false
no_or_yes true h = absurd (h refl)
no_or_yes false h = refl

read_refused : (s : MachineState) (journal : List (List ℕ)) (item bytes : List ℕ) (memory : Memory) (after : MachineState) →
    slice_get journal s.item ≡ Some item → bytes ≡ bytes_read s item → (IsMapped s.memory (argument s 1) (length bytes) → ⊥) → memory ≡ s.memory →
    after ≡ put (record s { memory = memory }) 10 not_mapped → after ≡ read_from s (slice_get journal s.item)
read_refused s journal item bytes memory after at is missing same puts =
    puts
    ∙ ap (λ m. put (record s { memory = m }) 10 not_mapped) same
    ∙ ap (λ b. cond b (received s item bytes) (put s 10 not_mapped)) (sym (no_or_yes _ (λ some. missing (some_mapped s.memory (length bytes) (argument s 1) some))))
    ∙ ap (λ xs. cond (is_some (bytes_at s.memory (argument s 1) (length xs))) (received s item xs) (put s 10 not_mapped)) is
    ∙ ap (read_from s) (sym at)

pub returns-then-store_bytes-clause-state : goal.returns-then-store_bytes-clause-state
returns-then-store_bytes-clause-state c =
    let item : List ℕ = c.item-item.result.now in
    read_stored (machine_state c.state.inside) c.args.journal.now item c.next_bytes-bytes.result.now c.store_bytes.new.self c.move_on.new.state _
    c.item-item.ensures.value (c.next_bytes-bytes.ensures.value ∙ ap (λ s. bytes_read s item) (sym c.state.view_is)) (c.if-store_bytes.ensures.stored.0 refl) (c.if-store_bytes.ensures.written refl)
    c.move_on.ensures c.put-then-store_bytes.ensures
    ∙ ap (λ s. read_from s (slice_get c.args.journal.now s.item)) c.state.view_is

pub returns-else-store_bytes-clause-state : goal.returns-else-store_bytes-clause-state
returns-else-store_bytes-clause-state c =
    let item : List ℕ = c.item-item.result.now in
    read_refused (machine_state c.state.inside) c.args.journal.now item c.next_bytes-bytes.result.now c.store_bytes.new.self _
    c.item-item.ensures.value (c.next_bytes-bytes.ensures.value ∙ ap (λ s. bytes_read s item) (sym c.state.view_is)) (λ mapped. false≢true (c.if-store_bytes.ensures.stored.1 mapped)) (c.if-store_bytes.ensures.refused refl)
    c.put-else-store_bytes.ensures
    ∙ ap (λ s. read_from s (slice_get c.args.journal.now s.item)) c.state.view_is
