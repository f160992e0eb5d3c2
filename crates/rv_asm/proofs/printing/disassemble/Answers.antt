use Rattle.std.proofs.Common.{◌++◌, List, ℕ, sym, ap, subst, ◌∙◌, length, arith, length-append}
use Rattle.std.specs.Prelude.{codes}
use Rattle.rv_asm.specs.Table.{wants}
use Rattle.rv_asm.specs.Canonical.{IsCanonical, unpacked}
use Rattle.line_texts.specs.Numbers.{hex_word}
use Rattle.rv_asm.proofs.CanonicalLines.{canonical_row, canonical_word, short_name, printed_whole}
use Rattle.rv_asm.proofs.printing.disassemble.Goals as goal

pub push-requires : goal.push-requires
push-requires c = omega (arith, short_name c.args.word c.in-Some.name.now c.in-Some.code c.in-Some.ensures.row, ap length c.clear.ensures)

pub push_operands-requires-clause-room : goal.push_operands-requires-clause-room
push_operands-requires-clause-room c =
    omega (arith, short_name c.args.word c.in-Some.name.now c.in-Some.code c.in-Some.ensures.row, ap length c.clear.ensures, ap length c.push.ensures, length-append c.clear.new.self c.in-Some.name.now)

pub returns-in-Some-clause-canonical : goal.returns-in-Some-clause-canonical
returns-in-Some-clause-canonical c =
    subst (IsCanonical c.args.word)
    (sym (printed_whole _ c.in-Some.name.now _ _ _ (unpacked c.in-Some.code.format c.args.word) _ (wants c.in-Some.code.format) c.clear.ensures c.push.ensures c.push_operands.ensures.text c.unpacked.ensures c.wants.ensures))
    (canonical_row c.args.word c.in-Some.name.now c.in-Some.code (omega arith) c.in-Some.ensures.row)

pub returns-in-None-clause-canonical : goal.returns-in-None-clause-canonical
returns-in-None-clause-canonical c =
    subst (IsCanonical c.args.word)
    (sym (c.push_digits.ensures.text ∙ ap (λ (l : List ℕ). l ++ hex_word c.args.word) (c.push-in-None.ensures ∙ ap (λ (l : List ℕ). l ++ codes ".word 0x") c.clear.ensures)))
    (canonical_word c.args.word (omega arith) c.in-None.ensures.row)
