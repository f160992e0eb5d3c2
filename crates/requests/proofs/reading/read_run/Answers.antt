use Rattle.std.proofs.Common.{refl, [], ◌∷◌, option_map}
use Rattle.std.specs.Prelude.{codes}
use Rattle.requests.specs.Forms.{fixed, named, named_or_none, scheduled, numbered, run_form}
use Rattle.requests.specs.RequestModel.{as_schedule}
use Rattle.requests.proofs.FormValues.{takes_none, takes_more, form_gives}
use Rattle.requests.proofs.reading.read_run.Goals as goal

pub returns : goal.returns
returns c =
    form_gives run_form _ _ _ (tt, (c.name-program.result.now, ((option_map (λ name. name.now) c.name_or_dash-journal.result), (c.name-book.result.now, ((as_schedule c.schedule-schedule.result), (c.number-steps.result, tt)))))) _ _ c.of-words.ensures (
    takes_more (fixed (codes "run")) (named ∷ named_or_none ∷ named ∷ scheduled ∷ numbered ∷ []) _ _ _ tt (c.name-program.result.now, ((option_map (λ name. name.now) c.name_or_dash-journal.result), (c.name-book.result.now, ((as_schedule c.schedule-schedule.result), (c.number-steps.result, tt))))) c.word.ensures (
    takes_more named (named_or_none ∷ named ∷ scheduled ∷ numbered ∷ []) _ _ _ c.name-program.result.now ((option_map (λ name. name.now) c.name_or_dash-journal.result), (c.name-book.result.now, ((as_schedule c.schedule-schedule.result), (c.number-steps.result, tt)))) c.name-program.ensures (
    takes_more named_or_none (named ∷ scheduled ∷ numbered ∷ []) _ _ _ (option_map (λ name. name.now) c.name_or_dash-journal.result) (c.name-book.result.now, ((as_schedule c.schedule-schedule.result), (c.number-steps.result, tt))) c.name_or_dash-journal.ensures (
    takes_more named (scheduled ∷ numbered ∷ []) _ _ _ c.name-book.result.now ((as_schedule c.schedule-schedule.result), (c.number-steps.result, tt)) c.name-book.ensures (
    takes_more scheduled (numbered ∷ []) _ _ _ (as_schedule c.schedule-schedule.result) (c.number-steps.result, tt) c.schedule-schedule.ensures (
    takes_more numbered ([]) _ _ _ c.number-steps.result tt c.number-steps.ensures (takes_none _))))))
    ) c.finish.ensures refl
