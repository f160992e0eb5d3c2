use Rattle.std.proofs.Common.{sym, ◌∙◌}
use Rattle.line_texts.specs.Cursors.{token_of}
use Rattle.rv_asm.proofs.Instructions.{words_empty, words_label}
use Rattle.rv_asm.proofs.assembling.add_label.Goals as goal

pub returns-in_default-clause-words : goal.returns-in_default-clause-words
returns-in_default-clause-words c = words_empty _ (sym c.line_tokens-tokens.ensures ∙ c.in_default.ensures.0)

pub returns-in-None-clause-words : goal.returns-in-None-clause-words
returns-in-None-clause-words c =
    words_label _ (token_of c.in-Some.first.column c.in-Some.first.text.now) c.next.new.self c.take_colon.new.tokens c.take_colon.result (sym c.line_tokens-tokens.ensures ∙ c.in-Some.ensures)
    c.take_colon.ensures.label c.if-not-take_colon.false c.take_colon.ensures.goes c.in-None.ensures.0
