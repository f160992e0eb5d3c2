use Rattle.std.proofs.Common.{ℕ, length, ap, arith}
use Rattle.std.proofs.lemmas.List.{length-append}
use Rattle.line_texts.proofs.Decimal.{decimal_is_short}
use Rattle.reversal.proofs.decision.valid_line.Goals as goal

pub push_decimal-requires : goal.push_decimal-requires
push_decimal-requires c = omega (arith, length-append {A = ℕ}, ap length c.new-line.ensures, ap length c.push.ensures, decimal_is_short c.args.count c.ranges.count.fits)

pub push-requires-2 : goal.push-requires-2
push-requires-2 c = omega (arith, length-append {A = ℕ}, ap length c.new-line.ensures, ap length c.push.ensures, ap length c.push_decimal.ensures, decimal_is_short c.args.count c.ranges.count.fits)
