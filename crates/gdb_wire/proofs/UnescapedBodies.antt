-- What a body stands for, from one of its bytes on.
use Rattle.std.proofs.Common.{◌≡◌, ◌≢◌, ◌+◌, ◌<◌, ◌≤◌, ℕ, List, [], ◌∷◌, length, drop, get_or, suc, refl, ◌∙◌, ap, arith, bit_xor, inl, inr, ◌⊎◌}
use Rattle.std.proofs.Math.Seq.{drop-cons}
use Rattle.std.proofs.Math.ListN.{drop_of_length-le}
use Rattle.std.proofs.lemmas.Bool.Decides.{nat_tests}
use Rattle.gdb_wire.specs.Escapes.{unescaped}

pub plain_cons : (b : ℕ) (rest : List ℕ) → (rest ≡ []) ⊎ (b ≢ 125) → unescaped (b ∷ rest) ≡ b ∷ unescaped rest
plain_cons b [] h = refl
plain_cons b (c ∷ rest) (inl e) = absurd (cc e)
plain_cons b (c ∷ rest) (inr n) = grind (arith, nat_tests)

pub turned_cons : (b c : ℕ) (rest : List ℕ) → b ≡ 125 → unescaped (b ∷ c ∷ rest) ≡ bit_xor c 32 ∷ unescaped rest
turned_cons b c rest e = grind (arith, nat_tests)

-- what a body stands for, from a byte on that isn't }, or is the last
pub plain : (xs : List ℕ) (at : ℕ) → at < length xs → (length xs ≤ at + 1) ⊎ (get_or xs at 0 ≢ 125) →
    unescaped (drop at xs) ≡ get_or xs at 0 ∷ unescaped (drop (at + 1) xs)
plain xs at l h =
    let m : suc at ≡ at + 1 = omega arith in
    let cons = drop-cons xs at 0 l ∙ ap (λ i. get_or xs at 0 ∷ drop i xs) m in
    let last : (drop (at + 1) xs ≡ []) ⊎ (get_or xs at 0 ≢ 125) = elim h [ inl s ↦ inl (drop_of_length-le xs s) | inr n ↦ inr n ] in
    ap unescaped cons ∙ plain_cons (get_or xs at 0) (drop (at + 1) xs) last
