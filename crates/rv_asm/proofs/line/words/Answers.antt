use Rattle.std.proofs.Common.{true, false, is_some, sym, ap, ◌∙◌}
use Rattle.rv_asm.proofs.Instructions.{some_words}
use Rattle.rv_asm.proofs.line.words.Goals as goal

pub returns-then-is_some : goal.returns-then-is_some
returns-then-is_some c = some_words c.args.name.now true (ap is_some (sym c.named.ensures) ∙ sym c.is_some.ensures ∙ c.if-is_some.true)

pub returns-else-is_some : goal.returns-else-is_some
returns-else-is_some c = some_words c.args.name.now false (ap is_some (sym c.named.ensures) ∙ sym c.is_some.ensures ∙ c.if-is_some.false)
