-- No public clause cites this file. What a visitor that passes on one state does with those that it gets.
use Rattle.std.specs.Prelude.{◌≡◌, ◌≢◌, ℕ, true, List}
use Rattle.rv_machine.specs.MachineState.{MachineState}
use Rattle.reverse_queries.specs.declared.picked.Picked.{Picked}

-- it got a state: it passes on the one with the number, and is otherwise unchanged
pub record PassesOn {V : Type 0} (got : V → ℕ → MachineState → List (List ℕ) → V → Type 0) (old : Picked V) (n : ℕ) (s : MachineState)
    (journal : List (List ℕ)) (new : Picked V) : Type 0 where
  pub same_place : new.place ≡ old.place
  pub reference : new.visitor.ghost_name ≡ old.visitor.ghost_name
  pub gives : n ≡ old.place → got old.visitor.now n s journal new.visitor.now × (new.passed ≡ true)
  pub others : n ≢ old.place → (new.visitor.now ≡ old.visitor.now) × (new.passed ≡ old.passed)
