use Rattle.std.proofs.Common.{◌≤◌, ◌∙◌, ap, length, arith, length-append}
use Rattle.std.specs.Prelude.{decimal}
use Rattle.std.proofs.lemmas.Fmt.{length-decimal-le}
use Rattle.cert_text.proofs.piece.Piece.number.Goals as goal

pub push_decimal-requires : goal.push_decimal-requires
push_decimal-requires g c =
    let short : length (decimal c.args.n) ≤ 20 = length-decimal-le 20 c.args.n (omega arith) (omega (arith, c.ranges.n.fits)) (omega (arith, c.ranges.n.fits)) in
    omega (arith, short, ap length c.new-word.ensures)

pub word-requires : goal.word-requires
word-requires g c =
    let short : length (decimal c.args.n) ≤ 20 = length-decimal-le 20 c.args.n (omega arith) (omega (arith, c.ranges.n.fits)) (omega (arith, c.ranges.n.fits)) in
    omega (arith, short, ap length (c.bytes.ensures.value ∙ c.push_decimal.ensures), length-append c.new-word.result (decimal c.args.n), ap length c.new-word.ensures)
