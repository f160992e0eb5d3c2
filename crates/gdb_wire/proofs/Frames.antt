-- Which bytes are a packet that has come whole, and which are less than one.
use Rattle.std.proofs.Common.{◌≡◌, ◌+◌, ◌-◌, ◌<◌, ℕ, List, ◌∷◌, ◌++◌, length, take, drop, get_or, suc, refl, sym, ◌∙◌, ap, arith, length-append, inl, inr}
use Rattle.std.specs.List.{between}
use Rattle.std.proofs.Math.Seq.{get_or-append_seam, drop-cons}
use Rattle.std.proofs.lemmas.List.{get_or-take, get_or_append_left, take-append-drop, take-take, length-take-le}
use Rattle.std.proofs.lemmas.Slice.{between_is}
use Rattle.std.proofs.lemmas.Bool.{cases_lt}
use Rattle.gdb_wire.specs.Items.{IsBody, IsPartial}

-- where bytes without # come before the # at k, and a body before another #, it is the same one
pub one_end : (rest body digits : List ℕ) (k : ℕ) → IsBody (take k rest) → k < length rest → get_or rest k 0 ≡ 35 → IsBody body →
    rest ≡ body ++ 35 ∷ digits → length body ≡ k
one_end rest body digits k before within hash b e =
    elim (cases_lt (length body) k) [
      | inl l ↦
          let taken = length-take-le k rest (omega arith) in
          absurd (before (length body) 0 (omega (arith, taken))
          (get_or-take k rest (length body) 0 l ∙ (ap (λ l. get_or l (length body) 0) e ∙ get_or-append_seam body 35 digits 0)))
      | inr g ↦ elim (cases_lt k (length body)) [
        | inl l ↦ absurd (b k 0 l (sym (get_or_append_left body (35 ∷ digits) 0 k l) ∙ (sym (ap (λ l. get_or l k 0) e) ∙ hash)))
        | inr h ↦ omega arith
      ]
    ]

pub none_partial : (rest : List ℕ) → IsBody rest → IsPartial (36 ∷ rest)
none_partial rest none = (
  refl,
  λ body digits b e.
      let long = ap length e ∙ length-append body (35 ∷ digits) in
      absurd (none (length body) 0 (omega (arith, long)) (ap (λ l. get_or l (length body) 0) e ∙ get_or-append_seam body 35 digits 0)),
)

pub short_partial : (rest : List ℕ) (k : ℕ) → IsBody (take k rest) → k < length rest → get_or rest k 0 ≡ 35 → length rest - k < 3 → IsPartial (36 ∷ rest)
short_partial rest k before within hash few = (
  refl,
  λ body digits b e.
      let long = ap length e ∙ length-append body (35 ∷ digits) in
      let same = one_end rest body digits k before within hash b e in
      omega (arith, long, same),
)

-- a packet that has come whole is $, what is before its #, and # with two bytes
pub whole : (rest : List ℕ) (k : ℕ) → k + 2 < length rest → get_or rest k 0 ≡ 35 →
    take (k + 4) (36 ∷ rest) ≡ 36 ∷ (take k rest ++ 35 ∷ between (k + 1) (k + 3) rest)
whole rest k within hash =
    let t = take (k + 3) rest in
    let n : k + 4 ≡ suc (k + 3) = omega arith in
    let long = length-take-le (k + 3) rest (omega arith) in
    let lt : k < length t = omega (arith, long) in
    let m : suc k ≡ k + 1 = omega arith in
    let front : take k t ≡ take k rest = take-take k (k + 3) rest (omega arith) in
    let at : get_or t k 0 ≡ 35 = get_or-take (k + 3) rest k 0 (omega arith) ∙ hash in
    let back : drop (suc k) t ≡ between (k + 1) (k + 3) rest = ap (λ i. drop i t) m ∙ sym (between_is rest (k + 1) (k + 3)) in
    let tail : drop k t ≡ 35 ∷ between (k + 1) (k + 3) rest = drop-cons t k 0 lt ∙ (ap (λ x. x ∷ drop (suc k) t) at ∙ ap (λ l. 35 ∷ l) back) in
    let split : t ≡ take k rest ++ 35 ∷ between (k + 1) (k + 3) rest =
    sym (take-append-drop k t) ∙ (ap (λ l. l ++ drop k t) front ∙ ap (λ l. take k rest ++ l) tail) in
    ap (λ i. take i (36 ∷ rest)) n ∙ ap (λ l. 36 ∷ l) split
