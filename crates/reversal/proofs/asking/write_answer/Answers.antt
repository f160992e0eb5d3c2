use Rattle.std.proofs.Common.{ℕ, length, ap, arith}
use Rattle.std.proofs.lemmas.List.{length-append}
use Rattle.line_texts.proofs.Decimal.{decimal_is_short}
use Rattle.reversal.proofs.asking.write_answer.Goals as goal

pub push_decimal-requires : goal.push_decimal-requires
push_decimal-requires g c = omega (arith, ap length c.new-line.ensures, decimal_is_short c.from.result (omega (arith, c.from.ensures)))

pub push-requires : goal.push-requires
push-requires g c = omega (arith, length-append {A = ℕ}, ap length c.new-line.ensures, ap length c.push_decimal.ensures, decimal_is_short c.from.result (omega (arith, c.from.ensures)))
