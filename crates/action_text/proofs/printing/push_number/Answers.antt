use Rattle.std.proofs.Common.{ap, length, arith, length-append, ◌≤◌}
use Rattle.std.specs.Prelude.{decimal}
use Rattle.std.proofs.lemmas.Fmt.{length-decimal-le}
use Rattle.action_text.proofs.printing.push_number.Goals as goal

pub push_decimal-requires : goal.push_decimal-requires
push_decimal-requires c =
    let short : length (decimal c.from.result) ≤ 7 = length-decimal-le 7 c.from.result (omega arith) (omega (arith, c.requires.number, c.from.ensures)) (omega (arith, c.requires.number, c.from.ensures)) in
    omega (arith, short, c.requires.room, ap length c.push.ensures, length-append c.args.line.now c.args.before.now)

pub returns-clause-short : goal.returns-clause-short
returns-clause-short c =
    let short : length (decimal c.from.result) ≤ 7 = length-decimal-le 7 c.from.result (omega arith) (omega (arith, c.requires.number, c.from.ensures)) (omega (arith, c.requires.number, c.from.ensures)) in
    omega (arith, short, ap length c.push.ensures, length-append c.args.line.now c.args.before.now, ap length c.push_decimal.ensures, length-append c.push.new.self (decimal c.from.result))
