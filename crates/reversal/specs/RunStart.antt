-- How a run begins in a decision.
use Rattle.std.specs.Prelude.{ℕ, List}
use Rattle.level_book.specs.Valid.{Valid}
use Rattle.input_journal.specs.Form.{IsRecorded}
use Rattle.rv_machine.specs.MachineState.{MachineState, IsMachineState}
use Rattle.requests.specs.declared.question.Question.{Question}
use Rattle.requests.specs.Operands.{question_bound}
use Rattle.requests.specs.Bounds.{IsWithin}
use Rattle.reversal.specs.Job.{Run, last_of, Job, perform, ask, console}
use Rattle.reversal.specs.Table.{Decision, refuse, accept}

-- at a machine state, with recorded input
pub record IsStart (first : MachineState) (journal : List (List ℕ)) : Type 0 where
  pub state : IsMachineState first
  pub recorded : IsRecorded journal

-- and so does a run with a valid list
pub record IsGoneOver (run : Run) : Type 0 where
  pub start : IsStart run.first run.journal
  pub valid : Valid run.steps run.slots run.list

-- and one with a question within its bounds
pub record IsAskedOf (question : Question) (run : Run) : Type 0 where
  pub over : IsGoneOver run
  pub within : IsWithin (question_bound (last_of run) question)

abbrev pub Begins : Job → Type 0
Begins (perform run) = IsGoneOver run
Begins (ask question run) = IsAskedOf question run
Begins (console first journal p orders) = IsStart first journal
Begins job = Unit {0}

abbrev pub BeginsBy : Decision → Type 0
BeginsBy (refuse refusal) = Unit {0}
BeginsBy (accept job) = Begins job
