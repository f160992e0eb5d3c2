-- A step maps no page anew, and what else callers of a step need.
use Rattle.std.proofs.Common.{◌≡◌, ◌==◌, ◌+◌, ◌%◌, ℕ, zero, suc, add-one, add-zero, add-suc, ap, Bool, true, false, cond, ◌||◌, List, length, slice_get, refl, ◌∙◌, Option, None, Some, is_some}
use Rattle.std.specs.Prelude.{nat_le}
use Rattle.rv_pages.specs.Memory.{page_numbers, wrapped, word_at, bytes_at, number_at, with_bytes, with_number}
use Rattle.rv_pages.proofs.MemoryReads.{some_mapped}
use Rattle.rv_pages.proofs.Stores.{with_bytes_numbers}
use Rattle.rv_decode.specs.declared.instruction.Inst.{Inst}
use Rattle.rv_decode.specs.Rows.{decoded}
use Rattle.rv_machine.specs.declared.effect.Effect.{Effect}
use Rattle.rv_machine.specs.declared.effect.Effect.TheVariants.{Put, Jump, Branch, Load, Store, Nothing, Call, Break}
use Rattle.rv_machine.specs.declared.effect.Width.{Width}
use Rattle.rv_machine.specs.Effects.{bytes_of}
use Rattle.rv_machine.specs.MachineState.{MachineState}
use Rattle.rv_machine.specs.StateChanges.{put, gone_on, trapped}
use Rattle.rv_machine.specs.SystemCalls.{argument, not_mapped, no_such_call, bytes_read, received, read_from, sent, exited, called}
use Rattle.rv_machine.specs.StepTable.{next, executed, said, effect_in, applied, jumped, loaded, is_running}
use Rattle.rv_machine.specs.States.{state_number}
use Rattle.rv_machine.proofs.Stores.{with_number_numbers}

cond_pages : (b : Bool) (s t u : MachineState) → page_numbers t.memory ≡ page_numbers s.memory → page_numbers u.memory ≡ page_numbers s.memory → page_numbers (cond b t u).memory ≡ page_numbers s.memory
cond_pages true s t u e f = e
cond_pages false s t u e f = f

jumped_pages : (s : MachineState) (rd target : ℕ) → page_numbers (jumped s rd target).memory ≡ page_numbers s.memory
jumped_pages s rd target = cond_pages (target % 4 == 0) s _ (trapped s 0) refl refl

loaded_pages : (s : MachineState) (rd : ℕ) (width : Width) (with_sign : Bool) (o : Option ℕ) → page_numbers (loaded s rd width with_sign o).memory ≡ page_numbers s.memory
loaded_pages s rd width with_sign None = refl
loaded_pages s rd width with_sign (Some n) = refl

stored_pages : (s : MachineState) (at : ℕ) (width : Width) (value : ℕ) (b : Bool) → is_some (number_at s.memory at (bytes_of width)) ≡ b → page_numbers (cond b (record s { pc = wrapped (s.pc + 4); memory = with_number s.memory at (bytes_of width) value }) (trapped s 7)).memory ≡ page_numbers s.memory
stored_pages s at width value true e = with_number_numbers s.memory at (bytes_of width) value e
stored_pages s at width value false e = refl

-- what a system call does
received_pages : (s : MachineState) (item bytes : List ℕ) → is_some (bytes_at s.memory (argument s 1) (length bytes)) ≡ true → page_numbers (received s item bytes).memory ≡ page_numbers s.memory
received_pages s item bytes e =
    let t : MachineState = record s { memory = with_bytes s.memory (argument s 1) bytes } in
    cond_pages (nat_le (length item) (s.offset + length bytes)) t (record t { item = s.item + 1; offset = 0 }) (record t { offset = s.offset + length bytes }) refl refl
    ∙ with_bytes_numbers s.memory (argument s 1) bytes (some_mapped s.memory (length bytes) (argument s 1) e)

read_pages_by : (s : MachineState) (item bytes : List ℕ) (b : Bool) → is_some (bytes_at s.memory (argument s 1) (length bytes)) ≡ b → page_numbers (cond b (received s item bytes) (put s 10 not_mapped)).memory ≡ page_numbers s.memory
read_pages_by s item bytes true e = received_pages s item bytes e
read_pages_by s item bytes false e = refl

read_pages : (s : MachineState) (o : Option (List ℕ)) → page_numbers (read_from s o).memory ≡ page_numbers s.memory
read_pages s None = refl
read_pages s (Some item) = read_pages_by s item (bytes_read s item) _ refl

sent_pages : (s : MachineState) → page_numbers (sent s).memory ≡ page_numbers s.memory
sent_pages s = cond_pages (is_some (bytes_at s.memory (argument s 1) (argument s 2))) s _ (put s 10 not_mapped) refl refl

pub called_pages : (s : MachineState) (journal : List (List ℕ)) → page_numbers (called s journal).memory ≡ page_numbers s.memory
called_pages s journal =
    cond_pages (argument s 7 == 63) s (read_from s (slice_get journal s.item)) _ (read_pages s (slice_get journal s.item))
    (cond_pages (argument s 7 == 64) s (sent s) _ (sent_pages s)
    (cond_pages (argument s 7 == 93 || argument s 7 == 94) s (exited s) (put s 10 no_such_call) refl refl))

pub applied_pages : (s : MachineState) (journal : List (List ℕ)) (effect : Effect) → page_numbers (applied s journal effect).memory ≡ page_numbers s.memory
applied_pages s journal (Put rd value) = refl
applied_pages s journal (Jump rd target) = jumped_pages s rd target
applied_pages s journal (Branch taken target) = cond_pages taken s (jumped s 0 target) (gone_on s) (jumped_pages s 0 target) refl
applied_pages s journal (Load rd at width with_sign) = loaded_pages s rd width with_sign _
applied_pages s journal (Store at width value) = stored_pages s at width value _ refl
applied_pages s journal Nothing = refl
applied_pages s journal Call = called_pages s journal
applied_pages s journal Break = refl

said_pages : (s : MachineState) (journal : List (List ℕ)) (o : Option Inst) → page_numbers (said s journal o).memory ≡ page_numbers s.memory
said_pages s journal None = refl
said_pages s journal (Some inst) = applied_pages s journal (effect_in s inst)

executed_pages : (s : MachineState) (journal : List (List ℕ)) (word : Option ℕ) → page_numbers (executed s journal word).memory ≡ page_numbers s.memory
executed_pages s journal None = refl
executed_pages s journal (Some word) = said_pages s journal (decoded word)

if_running : (s t : MachineState) (running : Bool) → page_numbers t.memory ≡ page_numbers s.memory → page_numbers (cond running t s).memory ≡ page_numbers s.memory
if_running s t true e = e
if_running s t false e = refl

-- a step maps no page and unmaps none
pub next_keeps_pages : (s : MachineState) (journal : List (List ℕ)) → page_numbers (next s journal).memory ≡ page_numbers s.memory
next_keeps_pages s journal = if_running s _ (is_running s.status) (executed_pages s journal (word_at s.memory s.pc))

-- nor do any steps
pub state_number_keeps_pages : (s : MachineState) (journal : List (List ℕ)) (n : ℕ) → page_numbers (state_number s journal n).memory ≡ page_numbers s.memory
state_number_keeps_pages s journal zero = refl
state_number_keeps_pages s journal (suc n) = next_keeps_pages (state_number s journal n) journal ∙ state_number_keeps_pages s journal n

-- one more step
pub state_number-add-one : (s : MachineState) (journal : List (List ℕ)) (n : ℕ) → state_number s journal (n + 1) ≡ next (state_number s journal n) journal
state_number-add-one s journal n = rw (add-one n) refl

-- steps from a state that steps led to
pub state_number-add : (s : MachineState) (journal : List (List ℕ)) (m n : ℕ) → state_number s journal (m + n) ≡ state_number (state_number s journal m) journal n
state_number-add s journal m zero = rw (add-zero m) refl
state_number-add s journal m (suc n) = rw (add-suc m n) (ap (λ t. next t journal) (state_number-add s journal m n))

-- a stopped state is that of every later number
pub next_stopped : (s : MachineState) (journal : List (List ℕ)) → is_running s.status ≡ false → next s journal ≡ s
next_stopped s journal e = ap (λ b. cond b (executed s journal (word_at s.memory s.pc)) s) e

pub state_number_stopped : (s : MachineState) (journal : List (List ℕ)) (n : ℕ) → is_running s.status ≡ false → state_number s journal n ≡ s
state_number_stopped s journal zero e = refl
state_number_stopped s journal (suc n) e = ap (λ t. next t journal) (state_number_stopped s journal n e) ∙ next_stopped s journal e
