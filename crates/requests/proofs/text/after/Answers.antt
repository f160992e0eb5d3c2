use Rattle.std.proofs.lemmas.Slice.Eq.{strip_prefix_is}
use Rattle.std.proofs.lemmas.Bool.Decides.{Decides-eqb}
use Rattle.requests.proofs.Texts.{after_gives}
use Rattle.requests.proofs.text.after.Goals as goal

pub returns : goal.returns
returns c =
    let r = c.strip_prefix.result in
    after_gives c.args.text.now c.args.bytes.now r (strip_prefix_is Decides-eqb c.args.bytes.now c.args.text.now r c.strip_prefix.ensures.cases)
