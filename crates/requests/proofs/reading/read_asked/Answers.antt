use Rattle.std.proofs.Common.{[], ◌∷◌, option_map}
use Rattle.std.specs.Prelude.{codes}
use Rattle.requests.specs.Forms.{fixed, named, named_or_none, schedule_named, numbered}
use Rattle.requests.proofs.FormValues.{takes_none, takes_more}
use Rattle.requests.proofs.reading.read_asked.Goals as goal

pub returns : goal.returns
returns c p v last taken =
    takes_more (fixed (codes "ask")) (fixed c.args.word.now ∷ named ∷ named_or_none ∷ named ∷ schedule_named ∷ numbered ∷ p ∷ []) _ _ _ tt (tt, (c.name-program.result.now, ((option_map (λ name. name.now) c.name_or_dash-journal.result), (c.name-book.result.now, (c.schedule_name-schedule.result.now, (c.number-steps.result, (v, tt))))))) c.word.ensures (
    takes_more (fixed c.args.word.now) (named ∷ named_or_none ∷ named ∷ schedule_named ∷ numbered ∷ p ∷ []) _ _ _ tt (c.name-program.result.now, ((option_map (λ name. name.now) c.name_or_dash-journal.result), (c.name-book.result.now, (c.schedule_name-schedule.result.now, (c.number-steps.result, (v, tt)))))) c.word-2.ensures (
    takes_more named (named_or_none ∷ named ∷ schedule_named ∷ numbered ∷ p ∷ []) _ _ _ c.name-program.result.now ((option_map (λ name. name.now) c.name_or_dash-journal.result), (c.name-book.result.now, (c.schedule_name-schedule.result.now, (c.number-steps.result, (v, tt))))) c.name-program.ensures (
    takes_more named_or_none (named ∷ schedule_named ∷ numbered ∷ p ∷ []) _ _ _ (option_map (λ name. name.now) c.name_or_dash-journal.result) (c.name-book.result.now, (c.schedule_name-schedule.result.now, (c.number-steps.result, (v, tt)))) c.name_or_dash-journal.ensures (
    takes_more named (schedule_named ∷ numbered ∷ p ∷ []) _ _ _ c.name-book.result.now (c.schedule_name-schedule.result.now, (c.number-steps.result, (v, tt))) c.name-book.ensures (
    takes_more schedule_named (numbered ∷ p ∷ []) _ _ _ c.schedule_name-schedule.result.now (c.number-steps.result, (v, tt)) c.schedule_name-schedule.ensures (
    takes_more numbered (p ∷ []) _ _ _ c.number-steps.result (v, tt) c.number-steps.ensures (
    takes_more p ([]) _ _ _ v tt taken (takes_none _))))))))
