-- A read that has an item, and a call that reads none.
use Rattle.std.proofs.Common.{◌≡◌, ◌≢◌, ℕ, ◌≤◌, ◌==◌, Bool, true, false, cond, if◌then◌else◌, List, [], length, get_or, slice_get, Some, refl, sym, ap, subst, ◌∙◌, arith, rules}
use Rattle.std.proofs.lemmas.Option.{slice_get_past}
use Rattle.rv_machine.specs.MachineState.{MachineState}
use Rattle.rv_machine.specs.StateChanges.{addresses}
use Rattle.rv_machine.specs.StateFields.{machine_state}
use Rattle.rv_machine.specs.SystemCalls.{argument, are_mapped, bytes_read, written_by_read, written_by_call}
use Rattle.rv_machine.proofs.calls.span_read.Goals.{then-state-ne-READ-via-then-state-ne-READ, then-state-ne-READ-via-else-state-ne-READ+then-state-count}
use Rattle.rv_machine.proofs.calls.span_read.Goals as goal

item_read : (s : MachineState) (journal : List (List ℕ)) (item bytes : List ℕ) → argument s 7 ≡ 63 → slice_get journal s.item ≡ Some item → bytes ≡ bytes_read s item →
    written_by_call s journal ≡ (if are_mapped s.memory (argument s 1) (length bytes) then addresses (argument s 1) (length bytes) else [])
item_read s journal item bytes called at is =
    ap (λ a. cond (a == 63) (written_by_read s (slice_get journal s.item)) []) called
    ∙ ap (written_by_read s) at
    ∙ ap (λ xs. cond (are_mapped s.memory (argument s 1) (length xs)) (addresses (argument s 1) (length xs)) []) (sym is)

no_read : (s : MachineState) (journal : List (List ℕ)) → argument s 7 ≢ 63 → written_by_call s journal ≡ []
no_read s journal other = by_test (argument s 7 == 63) (search rules)
  where
    by_test : (b : Bool) → b ≡ false → cond b (written_by_read s (slice_get journal s.item)) [] ≡ []
    by_test true e = absurd cc
    by_test false e = refl

none_left : (s : MachineState) (journal : List (List ℕ)) → length journal ≤ s.item → written_by_call s journal ≡ []
none_left s journal past =
    ap (λ o. cond (argument s 7 == 63) (written_by_read s o) []) (slice_get_past journal s.item past) ∙ either (argument s 7 == 63) []
  where
    either : (b : Bool) (l : List ℕ) → cond b l l ≡ l
    either true l = refl
    either false l = refl

pub returns-then-state-ne-READ : goal.returns-then-state-ne-READ
returns-then-state-ne-READ c =
    let s = machine_state c.state.inside in
    let journal = c.args.journal.now in
    let P : MachineState → Type 0 = λ t. written_by_call t journal ≡ [] in
    subst P c.state.view_is (elim c.then-state-ne-READ.branch [
      | then-state-ne-READ-via-then-state-ne-READ w ↦ no_read s journal w.if-state-ne-READ.true
      | then-state-ne-READ-via-else-state-ne-READ+then-state-count w ↦ none_left s journal (omega (arith, w.count.ensures.value, w.if-state-count.true))
    ])

pub returns : goal.returns
returns c =
    let s = machine_state c.state.inside in
    let journal = c.args.journal.now in
    let item : List ℕ = c.item.result.now in
    let bytes : List ℕ = c.next_bytes.result.now in
    let at = get_or c.state.inside.x 11 0 in
    let P : MachineState → Type 0 = λ t. written_by_call t journal ≡ (if are_mapped t.memory at (length bytes) then addresses at (length bytes) else []) in
    subst P c.state.view_is (item_read s journal item bytes c.if-state-ne-READ.false c.item.ensures.value (c.next_bytes.ensures.value ∙ ap (λ t. bytes_read t item) (sym c.state.view_is)))
