-- `ask`: a state of a run by its number, or the last step that writes or changes a word.
use Rattle.std.specs.Prelude.{◌≡◌, ℕ, ◌++◌, List, [], ◌∷◌, length, codes, decimal, Option, None, Some, ◌*◌, map}
use Rattle.requests.specs.declared.question.Question.{Question}
use Rattle.level_book.specs.CostFold.{forward}
use Rattle.reverse_queries.specs.Queries.{WritesIn, ChangesIn, IsLast, front_to, up_to}
use Rattle.reverse_queries.specs.ListExecution.{IsOut}
use Rattle.requests.specs.declared.question.Question.TheVariants.{State, LastWrite, LastChange}
use Rattle.reversal.specs.Job.{Run, last_of, state_of}
use Rattle.reversal.specs.Output.{line_of}
use Rattle.reversal.specs.Moment.{Moment, AllTell}
use Rattle.reversal.specs.Deeds.{States, deed_for, unseen_deed, writing, CallsSome}
use Rattle.reversal.specs.RunTrace.{AreOfRun, IsFound, ComesTo, ComesToDamage}
use Rattle.reversal.specs.Course.{Course}

-- A question is about a run by a schedule's text. It uses the table of all that is done over such a run.

-- ---- a state

-- The list is performed up to the action that gives the state, and its line is written.
abbrev pub asking_state : (place : ℕ) → Run → Course
asking_state place run = record {
  levels = length run.slots;
  deeds = λ shown. map (deed_for shown.states run.unit run.steps place) (front_to run.unit run.steps place run.list);
  output = λ shown. line_of shown.states place;
  steps = λ shown. run.unit * forward (front_to run.unit run.steps place run.list);
  write_place = λ place. place;
  storage_place = λ place. place;
  shows = λ shown old. AreOfRun run shown.states old;
  answers = λ shown old new. IsFound (λ states. states place ≡ shown.states place) run (Some place) old new;
  answers_partly = λ shown performed old new. ComesTo (IsOut run.unit run.steps place (shown.states place)) run performed old;
  holds = λ Same shown performed old new. Unit {0};
  damage = λ shown performed level put got old new. ComesToDamage run performed level put got old;
  stops = λ shown performed level old new. Unit {0};
  may_want = CallsSome;
}

-- ---- the last step that writes or changes a word

-- the number of a step, or that there is none
abbrev pub answer_text : Option ℕ → List ℕ
answer_text (Some n) = decimal n ++ 10 ∷ []
answer_text None = codes "none\n"

-- The answer is the last step with this property, by the states that were given. If the keepers claim their content, it
-- is so by the run's states.
abbrev pub IsLastStep : (States → ℕ → Type 0) → Run → Option ℕ → Moment → Moment → Type 0
IsLastStep Holds run answer old new =
    IsFound (λ states. IsLast (Holds states) (last_of run) answer) run answer old new
    × (AllTell (length run.slots) old.images → IsLast (Holds (state_of run)) (last_of run) answer)

-- The list is performed up to the action that gives the state before that step. If there is none, it is performed to
-- its end. The number is written after all actions. So an ending at that write has no action's number.
abbrev pub asking_last : (States → ℕ → Type 0) → Run → Course
asking_last Holds run = record {
  levels = length run.slots;
  deeds = λ shown. map (unseen_deed run.unit) (up_to run.unit run.steps shown.answer run.list) ++ writing (answer_text shown.answer ∷ []) ∷ [];
  output = λ shown. answer_text shown.answer;
  steps = λ shown. run.unit * forward (up_to run.unit run.steps shown.answer run.list);
  write_place = λ place. 0;
  storage_place = λ place. place;
  shows = λ shown old. AreOfRun run shown.states old;
  answers = λ shown old new. IsLastStep Holds run shown.answer old new;
  answers_partly = λ shown performed old new. IsLastStep Holds run shown.answer old new;
  holds = λ Same shown performed old new. Unit {0};
  damage = λ shown performed level put got old new. ComesToDamage run performed level put got old;
  stops = λ shown performed level old new. Unit {0};
  may_want = CallsSome;
}

-- ---- a question

abbrev pub asking : Question → Run → Course
asking (State place) run = asking_state place run
asking (LastWrite address) run = asking_last (λ states. WritesIn states run.journal address) run
asking (LastChange address) run = asking_last (λ states. ChangesIn states address) run
