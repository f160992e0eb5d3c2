-- A walk over a run: a place in it, and how far it has come.
use Rattle.std.specs.Prelude.{ℕ, ◌*◌, ◌≤◌, max, List, refl}
use Rattle.std.specs.Coded.{Coded, code_by, coded×, coded_ℕ, coded_list}
use Rattle.rv_machine.specs.MachineState.{MachineState}
use Rattle.rv_machine.specs.StateCode.{state_code}
use Rattle.run_timeline.specs.Moves.{Run}

pub record WalkState : Type 0 where
  pub run : Run
  -- the number of the state at its place, and the greatest such number so far
  pub place : ℕ
  pub reached : ℕ
  -- how many marks it keeps at most
  pub room : ℕ

-- At most as many steps as between two marks. That is one, or at most twice the distance of a full set of marks over
-- the way reached.
abbrev pub IsFew : WalkState → ℕ → Type 0
IsFew w n = n * w.room ≤ max w.room (2 * w.reached)

-- the codes of a run and of a walk for comparisons: the tuples of their fields
abbrev pub run_code : Coded Run
run_code =
    code_by (MachineState × (List (List ℕ) × ℕ))
    (coded× state_code (coded× (coded_list (coded_list coded_ℕ)) coded_ℕ))
    (λ r. (r.first, (r.journal, r.most))) (λ p. record { first = p.0; journal = p.1.0; most = p.1.1 }) (λ _. refl)

abbrev pub walk_code : Coded WalkState
walk_code =
    code_by (Run × (ℕ × (ℕ × ℕ)))
    (coded× run_code (coded× coded_ℕ (coded× coded_ℕ coded_ℕ)))
    (λ w. (w.run, (w.place, (w.reached, w.room)))) (λ p. record { run = p.0; place = p.1.0; reached = p.1.1.0; room = p.1.1.1 }) (λ _. refl)
