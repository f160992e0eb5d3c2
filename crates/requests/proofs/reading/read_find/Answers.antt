use Rattle.std.proofs.Common.{refl, [], ◌∷◌, option_map}
use Rattle.std.specs.Prelude.{codes}
use Rattle.requests.specs.Forms.{fixed, named, named_or_none, numbered, digested, find_form}
use Rattle.requests.proofs.FormValues.{takes_none, takes_more, form_gives}
use Rattle.requests.proofs.reading.read_find.Goals as goal

pub returns : goal.returns
returns c =
    form_gives find_form _ _ _ (tt, (tt, (c.name-program.result.now, ((option_map (λ name. name.now) c.name_or_dash-journal.result), (c.number-steps.result, (c.digest-digest.result, tt)))))) _ _ c.of-words.ensures (
    takes_more (fixed (codes "ask")) (fixed (codes "find") ∷ named ∷ named_or_none ∷ numbered ∷ digested ∷ []) _ _ _ tt (tt, (c.name-program.result.now, ((option_map (λ name. name.now) c.name_or_dash-journal.result), (c.number-steps.result, (c.digest-digest.result, tt))))) c.word.ensures (
    takes_more (fixed (codes "find")) (named ∷ named_or_none ∷ numbered ∷ digested ∷ []) _ _ _ tt (c.name-program.result.now, ((option_map (λ name. name.now) c.name_or_dash-journal.result), (c.number-steps.result, (c.digest-digest.result, tt)))) c.word-2.ensures (
    takes_more named (named_or_none ∷ numbered ∷ digested ∷ []) _ _ _ c.name-program.result.now ((option_map (λ name. name.now) c.name_or_dash-journal.result), (c.number-steps.result, (c.digest-digest.result, tt))) c.name-program.ensures (
    takes_more named_or_none (numbered ∷ digested ∷ []) _ _ _ (option_map (λ name. name.now) c.name_or_dash-journal.result) (c.number-steps.result, (c.digest-digest.result, tt)) c.name_or_dash-journal.ensures (
    takes_more numbered (digested ∷ []) _ _ _ c.number-steps.result (c.digest-digest.result, tt) c.number-steps.ensures (
    takes_more digested ([]) _ _ _ c.digest-digest.result tt c.digest-digest.ensures (takes_none _))))))
    ) c.finish.ensures refl
