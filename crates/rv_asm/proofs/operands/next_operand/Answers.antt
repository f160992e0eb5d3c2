use Rattle.std.proofs.Common.{sym, ap, ◌∙◌}
use Rattle.rv_asm.specs.declared.table.Want.{Want}
use Rattle.rv_asm.specs.LabelMap.{names_at}
use Rattle.rv_asm.specs.Encoder.{next_of}
use Rattle.rv_asm.proofs.Instructions.{mark_next}
use Rattle.rv_asm.proofs.operands.next_operand.Goals as goal

pub returns-in-Mark-clause-value : goal.returns-in-Mark-clause-value
returns-in-Mark-clause-value c =
    let names = names_at c.args.labels.now.by_name in
    mark_next names c.args.place c.args.end c.in-Mark.byte c.args.tokens.now c.args.operands c.mark.result c.mark.ensures.value
    ∙ ap (λ (w : Want). next_of names c.args.place c.args.end w c.args.tokens.now c.args.operands) (sym c.in-Mark.is)
