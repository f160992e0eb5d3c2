use Rattle.std.proofs.Common.{ℕ, length, ap, arith}
use Rattle.std.proofs.lemmas.List.{length-append}
use Rattle.state_image.proofs.DigitLengths.{short_8}
use Rattle.state_image.proofs.text.push_status.Goals as goal

pub push_decimal-requires : goal.push_decimal-requires
push_decimal-requires c = omega (arith, length-append {A = ℕ}, ap length c.push.ensures, ap length c.push-in-Exited.ensures, short_8 c.in-Exited.code (omega arith))

pub push_decimal-requires-in-Trapped : goal.push_decimal-requires-in-Trapped
push_decimal-requires-in-Trapped c = omega (arith, length-append {A = ℕ}, ap length c.push.ensures, ap length c.push-in-Trapped.ensures, short_8 c.in-Trapped.cause (omega arith))

pub returns-in-Exited-clause-room : goal.returns-in-Exited-clause-room
returns-in-Exited-clause-room c = omega (arith, length-append {A = ℕ}, ap length c.push.ensures, ap length c.push-in-Exited.ensures, ap length c.push_decimal.ensures, short_8 c.in-Exited.code (omega arith))

pub returns-in-Trapped-clause-room : goal.returns-in-Trapped-clause-room
returns-in-Trapped-clause-room c = omega (arith, length-append {A = ℕ}, ap length c.push.ensures, ap length c.push-in-Trapped.ensures, ap length c.push_decimal-in-Trapped.ensures, short_8 c.in-Trapped.cause (omega arith))
