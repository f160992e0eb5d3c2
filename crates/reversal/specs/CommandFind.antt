-- `ask find`: the last state of a run with a digest, found by workers.
use Rattle.std.specs.Prelude.{ℕ, List, [], ◌∷◌, Option}
use Rattle.rv_machine.specs.MachineState.{MachineState}
use Rattle.segment_sweep.specs.LastMatch.{Query, Found}
use Rattle.segment_sweep.specs.MarkedRun.{last_start}
use Rattle.requests.specs.Request.{Choice, worker_count}
use Rattle.reversal.specs.Job.{seek}
use Rattle.reversal.specs.Deeds.{Deed, no_calls, writing}
use Rattle.reversal.specs.Course.{Course}
use Rattle.reversal.specs.Table.{Table, does}
use Rattle.reversal.specs.InputMeaning.{over_program}
use Rattle.reversal.specs.CommandAsk.{answer_text}

-- the table needs no book, no schedule and no keeper
abbrev pub find_table : List Choice → (steps : ℕ) → (digest : List ℕ) → (program : List ℕ) → (journal : Option (List ℕ)) → Table
find_table options steps digest program journal =
    over_program options program journal (λ start items. does (seek start items steps (worker_count options) digest))

-- what is looked for: states 0 to `steps` of a run from this one
abbrev pub query_of : MachineState → List (List ℕ) → ℕ → List ℕ → Query
query_of first journal steps digest = record { start = first; journal = journal; digest = digest; count = steps }

-- The steps to the start of the last segment are taken; each worker has a segment. If memory runs out, only some of
-- them are.
abbrev pub marking : (steps workers : ℕ) → Deed
marking steps workers = record { pieces = []; steps = last_start steps workers; spent = last_start steps workers; calls = no_calls }

-- The workers look for the place; it doesn't depend on their number. Its number is written, or that there is none.
abbrev pub searching : MachineState → List (List ℕ) → (steps workers : ℕ) → List ℕ → Course
searching first journal steps workers digest = record {
  levels = 0;
  deeds = λ shown. marking steps workers ∷ writing (answer_text shown.answer ∷ []) ∷ [];
  output = λ shown. answer_text shown.answer;
  steps = λ shown. last_start steps workers;
  write_place = λ place. 0;
  storage_place = λ place. place;
  shows = λ shown old. Unit {0};
  answers = λ shown old new. Found (query_of first journal steps digest) shown.answer;
  answers_partly = λ shown performed old new. Found (query_of first journal steps digest) shown.answer;
  holds = λ Same shown performed old new. Unit {0};
  damage = λ shown performed level put got old new. ⊥;
  stops = λ shown performed level old new. Unit {0};
  may_want = λ deed. Unit {0};
}
