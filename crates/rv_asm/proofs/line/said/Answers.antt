use Rattle.std.proofs.Common.{List, sym, ap, ◌∙◌}
use Rattle.rv_asm.specs.declared.table.Want.{Want}
use Rattle.rv_asm.specs.LineMeaning.{no_operands, operands_of}
use Rattle.rv_asm.specs.LabelMap.{names_at}
use Rattle.rv_asm.proofs.OperandRanges.{in_format}
use Rattle.rv_asm.proofs.line.said.Goals as goal

pub packed-requires-clause-operands : goal.packed-requires-clause-operands
packed-requires-clause-operands c =
    let names = names_at c.args.labels.now.by_name in
    in_format names c.args.place c.args.end c.args.code.format c.args.tokens.now c.in-Ok.operands
    (ap (λ (ws : List Want). operands_of names c.args.place c.args.end ws c.args.tokens.now no_operands) (sym c.wants.ensures) ∙ sym c.operands.ensures ∙ c.in-Ok.is)
