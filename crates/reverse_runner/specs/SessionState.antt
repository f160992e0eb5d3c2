-- The model of a session: its configuration, its states, the pairs of its levels, and whether it has ended.
use Rattle.std.specs.Prelude.{◌≡◌, ℕ, Bool, List, Option, refl}
use Rattle.std.specs.Coded.{Coded, code_by, coded×, coded_ℕ, coded_bool, coded_list, coded_option}
use Rattle.keepers.specs.Claims.{Images}
use Rattle.schedule_rules.specs.Situation.{Situation, situation_code}
use Rattle.rv_pages.specs.Memory.{page_numbers}
use Rattle.rv_machine.specs.MachineState.{MachineState}
use Rattle.rv_machine.specs.StateCode.{state_code}
use Rattle.image_store.specs.declared.shelf.Kept.{Kept}
use Rattle.image_store.specs.Shelves.{ShelfState}
use Rattle.reverse_runner.specs.ActionEffects.{TapeState, Levels, Holdings}

pub record SessionState : Type 0 where
  -- the steps, the slots of the book, and the configuration
  pub situation : Situation
  -- how many steps of the machine a step of the schedule is
  pub unit : ℕ
  -- the state in work
  pub work : MachineState
  -- the tape
  pub tape : TapeState
  -- which images the levels keep
  pub store : List ShelfState
  -- the recorded input
  pub journal : List (List ℕ)
  -- how many actions were performed
  pub done : ℕ
  -- whether an action was refused
  pub ended : Bool

-- the levels of a session over what its keepers claim, and all that it holds
abbrev pub levels_of : SessionState → (ℕ → Option Images) → Levels
levels_of s told = record { store = s.store; told = told }

abbrev pub holdings_of : SessionState → (ℕ → Option Images) → Holdings
holdings_of s told = record { work = s.work; tape = s.tape; levels = levels_of s told }

-- two states map the same pages
abbrev pub SamePages : MachineState → MachineState → Type 0
SamePages a b = page_numbers a.memory ≡ page_numbers b.memory

-- what is kept of a pair, a level and a session are stored as the tuples of their fields
abbrev pub kept_code : Coded Kept
kept_code =
    code_by (ℕ × (ℕ × List ℕ)) (coded× coded_ℕ (coded× coded_ℕ (coded_list coded_ℕ)))
    (λ k. (k.slot, (k.length, k.digest))) (λ p. record { slot = p.0; length = p.1.0; digest = p.1.1 }) (λ _. refl)

abbrev pub shelf_code : Coded ShelfState
shelf_code =
    code_by (List (Option Kept) × ℕ) (coded× (coded_list (coded_option kept_code)) coded_ℕ)
    (λ s. (s.pairs, s.room)) (λ p. record { pairs = p.0; room = p.1 }) (λ _. refl)

abbrev pub tape_code : Coded TapeState
tape_code =
    code_by (List MachineState × MachineState) (coded× (coded_list state_code) state_code)
    (λ t. (t.states, t.after)) (λ p. record { states = p.0; after = p.1 }) (λ _. refl)

abbrev pub session_code : Coded SessionState
session_code =
    code_by (Situation × (ℕ × (MachineState × (TapeState × (List ShelfState × (List (List ℕ) × (ℕ × Bool)))))))
    (coded× situation_code (coded× coded_ℕ
    (coded× state_code (coded× tape_code (coded× (coded_list shelf_code) (coded× (coded_list (coded_list coded_ℕ)) (coded× coded_ℕ coded_bool)))))))
    (λ s. (s.situation, (s.unit, (s.work, (s.tape, (s.store, (s.journal, (s.done, s.ended))))))))
    (λ p. record {
      situation = p.0;
      unit = p.1.0;
      work = p.1.1.0;
      tape = p.1.1.1.0;
      store = p.1.1.1.1.0;
      journal = p.1.1.1.1.1.0;
      done = p.1.1.1.1.1.1.0;
      ended = p.1.1.1.1.1.1.1;
    })
    (λ _. refl)
