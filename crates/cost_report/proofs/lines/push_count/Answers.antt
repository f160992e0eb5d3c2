use Rattle.std.proofs.Common.{◌≤◌, ap, length, arith, length-append}
use Rattle.std.specs.Prelude.{decimal}
use Rattle.std.proofs.lemmas.Fmt.{length-decimal-le}
use Rattle.cost_report.proofs.lines.push_count.Goals as goal

pub push_decimal-requires : goal.push_decimal-requires
push_decimal-requires c =
    let short : length (decimal c.args.n) ≤ 20 = length-decimal-le 20 c.args.n (omega arith) (omega (arith, c.ranges.n.fits)) (omega (arith, c.ranges.n.fits)) in
    omega (arith, short, c.requires, ap length c.push.ensures, length-append c.args.line.now c.args.word.now)

pub returns-clause-short : goal.returns-clause-short
returns-clause-short c =
    let short : length (decimal c.args.n) ≤ 20 = length-decimal-le 20 c.args.n (omega arith) (omega (arith, c.ranges.n.fits)) (omega (arith, c.ranges.n.fits)) in
    omega (arith, short, ap length c.push.ensures, length-append c.args.line.now c.args.word.now, ap length c.push_decimal.ensures, length-append c.push.new.self (decimal c.args.n))
