use Rattle.std.proofs.Common.{ℕ, length, ap, arith}
use Rattle.std.proofs.lemmas.List.{length-append}
use Rattle.state_image.proofs.DigitLengths.{short_32, short_64}
use Rattle.state_image.proofs.text.push_place.Goals as goal

pub push_decimal-requires : goal.push_decimal-requires
push_decimal-requires c = omega (arith, length-append {A = ℕ}, ap length c.push.ensures, short_32 c.args.item c.ranges.item.fits)

pub push-requires-2 : goal.push-requires-2
push-requires-2 c = omega (arith, length-append {A = ℕ}, ap length c.push.ensures, ap length c.push_decimal.ensures, short_32 c.args.item c.ranges.item.fits)

pub push_decimal-requires-2 : goal.push_decimal-requires-2
push_decimal-requires-2 c = omega (arith, length-append {A = ℕ}, ap length c.push.ensures, ap length c.push_decimal.ensures, ap length c.push-2.ensures, short_32 c.args.item c.ranges.item.fits, short_32 c.args.offset c.ranges.offset.fits)

pub push-requires-3 : goal.push-requires-3
push-requires-3 c = omega (arith, length-append {A = ℕ}, ap length c.push.ensures, ap length c.push_decimal.ensures, ap length c.push-2.ensures, ap length c.push_decimal-2.ensures, short_32 c.args.item c.ranges.item.fits, short_32 c.args.offset c.ranges.offset.fits)

pub push_decimal-requires-3 : goal.push_decimal-requires-3
push_decimal-requires-3 c = omega (arith, length-append {A = ℕ}, ap length c.push.ensures, ap length c.push_decimal.ensures, ap length c.push-2.ensures, ap length c.push_decimal-2.ensures, ap length c.push-3.ensures, short_32 c.args.item c.ranges.item.fits, short_32 c.args.offset c.ranges.offset.fits, short_64 c.args.written c.ranges.written.fits)

pub returns-clause-room : goal.returns-clause-room
returns-clause-room c = omega (arith, length-append {A = ℕ}, ap length c.push.ensures, ap length c.push_decimal.ensures, ap length c.push-2.ensures, ap length c.push_decimal-2.ensures, ap length c.push-3.ensures, ap length c.push_decimal-3.ensures, short_32 c.args.item c.ranges.item.fits, short_32 c.args.offset c.ranges.offset.fits, short_64 c.args.written c.ranges.written.fits)
