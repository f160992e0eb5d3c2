use Rattle.std.proofs.Common.{sym, ◌∙◌}
use Rattle.line_texts.specs.Cursors.{token_of}
use Rattle.rv_asm.specs.LabelMap.{names_at}
use Rattle.rv_asm.proofs.CanonicalLines.{coded_base}
use Rattle.rv_asm.proofs.Instructions.{with_code, unnamed}
use Rattle.rv_asm.proofs.line.instruction.Goals as goal

pub said-requires : goal.said-requires
said-requires c = coded_base c.args.name.text.now c.in-Some.code (sym c.named.ensures ∙ c.in-Some.is)

pub returns-in-Some : goal.returns-in-Some
returns-in-Some c =
    c.said.ensures
    ∙ with_code c.args.is_labelled (names_at c.args.labels.now.by_name) c.args.place c.args.end (token_of c.args.name.column c.args.name.text.now) c.args.tokens.now c.in-Some.code (sym c.named.ensures ∙ c.in-Some.is)

pub returns-in-None : goal.returns-in-None
returns-in-None c =
    unnamed c.args.is_labelled (names_at c.args.labels.now.by_name) c.args.place c.args.end c.unnamed_column.result (token_of c.args.name.column c.args.name.text.now) c.args.tokens.now
    (sym c.named.ensures ∙ c.in-None.is) c.unnamed_column.ensures
