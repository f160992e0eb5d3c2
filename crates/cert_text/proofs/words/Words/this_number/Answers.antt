use Rattle.std.proofs.Common.{◌≤◌, ap, length, arith}
use Rattle.std.specs.Prelude.{decimal}
use Rattle.std.proofs.lemmas.Fmt.{length-decimal-le}
use Rattle.cert_text.proofs.words.Words.this_number.Goals as goal

pub push_decimal-requires : goal.push_decimal-requires
push_decimal-requires c =
    let short : length (decimal c.args.n) ≤ 20 = length-decimal-le 20 c.args.n (omega arith) (omega (arith, c.ranges.n.fits)) (omega (arith, c.ranges.n.fits)) in
    omega (arith, short, ap length c.new-digits.ensures)
