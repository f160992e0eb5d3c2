-- What a job does piece by piece: a list of deeds, and what it means that they were done.
use Rattle.std.specs.Prelude.{◌≡◌, ℕ, ◌+◌, ◌*◌, ◌<◌, cond, List, [], ◌∷◌, length, map, sum_by}
use Rattle.std.specs.List.{flat_map}
use Rattle.plan_types.specs.declared.action.Action.{Action}
use Rattle.level_book.specs.CostFold.{steps_of}
use Rattle.keepers.specs.Counts.{raised}
use Rattle.keepers.specs.Claims.{Tells}
use Rattle.rv_machine.specs.MachineState.{MachineState}
use Rattle.reverse_runner.specs.StateOrder.{handed_by}
use Rattle.reverse_runner.specs.KeepersSeen.{Calls, calls_of, Called}
use Rattle.reverse_queries.specs.Queries.{hands_out}
use Rattle.reversal.specs.Output.{line_of, Adds}
use Rattle.reversal.specs.Moment.{Moment}

-- A deed: what it writes, its machine steps, and its calls of the keepers. Each piece is one write. It also says how
-- many steps it may have taken where it stops.
pub record Deed : Type 0 where
  pub pieces : List (List ℕ)
  pub steps : ℕ
  pub spent : ℕ
  pub calls : Calls

-- no calls
abbrev pub no_calls : Calls
no_calls = record { puts = λ _. 0; gets = λ _. 0; frees = λ _. 0 }

-- the states that are shown, by their numbers
abbrev pub States : Type 0
States = ℕ → MachineState

-- An action writes the lines of its states, takes its forward steps, and calls the keepers for its images. A step of
-- the list is a unit of so many machine steps.
abbrev pub deed_of : States → (unit steps : ℕ) → Action → Deed
deed_of shown unit steps action = record {
  pieces = map (line_of shown) (handed_by unit steps action);
  steps = unit * steps_of action;
  spent = 0;
  calls = calls_of action;
}

-- an action's deed that writes the line of one state alone
abbrev pub deed_for : States → (unit steps place : ℕ) → Action → Deed
deed_for shown unit steps place action = record {
  pieces = cond (hands_out unit steps place action) (line_of shown place ∷ []) [];
  steps = unit * steps_of action;
  spent = 0;
  calls = calls_of action;
}

-- an action's deed that writes no lines
abbrev pub unseen_deed : (unit : ℕ) → Action → Deed
unseen_deed unit action = record { pieces = []; steps = unit * steps_of action; spent = 0; calls = calls_of action }

-- an action's deed that writes no lines and calls none of the given keepers
abbrev pub silent_deed : Action → Deed
silent_deed action = record { pieces = []; steps = steps_of action; spent = 0; calls = no_calls }

-- the text is written, in so many pieces, after everything else
abbrev pub writing : List (List ℕ) → Deed
writing texts = record { pieces = texts; steps = 0; spent = 0; calls = no_calls }

-- a deed calls the keeper of this level
abbrev pub CallsLevel : Deed → ℕ → Type 0
CallsLevel deed k = 0 < deed.calls.puts k + deed.calls.gets k + deed.calls.frees k

-- a deed calls some keeper
abbrev pub CallsSome : Deed → Type 0
CallsSome deed = (level : ℕ) × CallsLevel deed level

-- ---- what was done

abbrev pub bytes_of : List (List ℕ) → List ℕ
bytes_of pieces = flat_map (λ piece. piece) pieces

abbrev pub bytes_written : List Deed → List ℕ
bytes_written ds = flat_map (λ (d : Deed). bytes_of d.pieces) ds

abbrev pub writes_made : List Deed → ℕ
writes_made ds = sum_by (λ (d : Deed). length d.pieces) ds

abbrev pub steps_made : List Deed → ℕ
steps_made ds = sum_by (λ (d : Deed). d.steps) ds

abbrev pub calls_made : List Deed → Calls
calls_made ds = record {
  puts = λ k. sum_by (λ (d : Deed). d.calls.puts k) ds;
  gets = λ k. sum_by (λ (d : Deed). d.calls.gets k) ds;
  frees = λ k. sum_by (λ (d : Deed). d.calls.frees k) ds;
}

-- exactly these deeds were done
pub record Did (ds : List Deed) (old new : Moment) : Type 0 where
  pub added : Tells old.told new.told (Adds (bytes_written ds))
  pub wrote : new.writes ≡ raised old.writes (writes_made ds)
  pub counted : new.steps ≡ old.steps + steps_made ds
  pub called : Called (calls_made ds) old.calls new.calls
