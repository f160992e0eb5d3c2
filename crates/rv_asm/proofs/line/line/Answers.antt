use Rattle.std.proofs.Common.{sym, ◌∙◌}
use Rattle.line_texts.specs.Cursors.{token_of}
use Rattle.rv_asm.specs.LabelMap.{names_at}
use Rattle.rv_asm.proofs.Instructions.{line_empty, line_label}
use Rattle.rv_asm.proofs.line.line.Goals as goal

pub returns-in_default : goal.returns-in_default
returns-in_default c = line_empty (names_at c.args.labels.now.by_name) c.args.number c.args.place _ _ (sym c.line_tokens-tokens.ensures ∙ c.in_default.ensures.0)

pub returns-in-None : goal.returns-in-None
returns-in-None c =
    line_label (names_at c.args.labels.now.by_name) c.args.number c.args.place _ _ (token_of c.in-Some.first.column c.in-Some.first.text.now) c.next.new.self c.take_colon.new.tokens c.take_colon.result c.is_earlier.result
    (sym c.line_tokens-tokens.ensures ∙ c.in-Some.ensures) c.take_colon.ensures.label c.take_colon.ensures.goes c.if-not-take_colon.false c.is_earlier.ensures c.if-is_earlier.false c.in-None.ensures.0
