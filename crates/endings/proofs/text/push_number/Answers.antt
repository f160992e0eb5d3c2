use Rattle.std.proofs.Common.{ℕ, length, ap, arith}
use Rattle.std.proofs.lemmas.List.{length-append}
use Rattle.line_texts.proofs.Decimal.{decimal_is_short}
use Rattle.endings.proofs.text.push_number.Goals as goal

pub push_decimal-requires : goal.push_decimal-requires
push_decimal-requires c = omega (arith, length-append {A = ℕ}, ap length c.push.ensures, decimal_is_short c.args.n c.ranges.n.fits)

pub returns-clause-room : goal.returns-clause-room
returns-clause-room c = omega (arith, length-append {A = ℕ}, ap length c.push.ensures, ap length c.push_decimal.ensures, decimal_is_short c.args.n c.ranges.n.fits)
