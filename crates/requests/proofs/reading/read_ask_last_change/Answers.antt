use Rattle.std.proofs.Common.{refl}
use Rattle.std.specs.Prelude.{codes}
use Rattle.requests.specs.declared.question.Question.TheVariants as about
use Rattle.requests.specs.Forms.{ask_form, addressed}
use Rattle.requests.proofs.FormValues.{form_gives}
use Rattle.requests.proofs.reading.read_ask_last_change.Goals as goal

pub returns : goal.returns
returns c =
    form_gives (ask_form (codes "last-change") addressed about.LastChange) _ _ _ _ _ _ c.of-words.ensures (c.read_asked.ensures addressed c.address.result _ c.address.ensures) c.finish.ensures refl
