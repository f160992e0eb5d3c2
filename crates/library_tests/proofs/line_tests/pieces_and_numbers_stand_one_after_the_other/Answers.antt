use Rattle.std.proofs.Common.{ℕ, List, [], ◌∷◌, ◌++◌, length, ap, arith, ◌∙◌}
use Rattle.std.proofs.lemmas.Fmt.{length-decimal-le}
use Rattle.library_tests.proofs.line_tests.pieces_and_numbers_stand_one_after_the_other.Goals as goal

-- the greatest number of 64 bits has 20 digits
pub push_decimal-requires : goal.push_decimal-requires
push_decimal-requires g c =
    let written = c.push.ensures ∙ ap (λ (text : List ℕ). text ++ (110 ∷ 32 ∷ [])) c.new-line.ensures in
    omega (arith, length-decimal-le 20 18446744073709551615 (omega arith) (omega arith) (omega arith), ap length written)

pub push_decimal-requires-2 : goal.push_decimal-requires-2
push_decimal-requires-2 g c = omega (arith, length-decimal-le 1 0 (omega arith) (omega arith) (omega arith), ap length c.clear.ensures)
