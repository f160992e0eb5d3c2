use Rattle.std.proofs.Common.{refl}
use Rattle.std.specs.Prelude.{codes}
use Rattle.requests.specs.declared.question.Question.TheVariants as about
use Rattle.requests.specs.Forms.{ask_form, numbered}
use Rattle.requests.proofs.FormValues.{form_gives}
use Rattle.requests.proofs.reading.read_ask_state.Goals as goal

pub returns : goal.returns
returns c =
    form_gives (ask_form (codes "state") numbered about.State) _ _ _ _ _ _ c.of-words.ensures (c.read_asked.ensures numbered c.number.result _ c.number.ensures) c.finish.ensures refl
