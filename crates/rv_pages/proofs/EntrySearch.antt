-- What `find` finds among the entries of kept pages.
use Rattle.std.proofs.Common.{◌≡◌, ℕ, suc, zero, ◌+◌, ◌<◌, ◌≤◌, ◌⊎◌, inl, inr, true, false, cond, List, [], ◌∷◌, ◌++◌, length, get_or, refl, sym, ap, arith, Some, None}
use Rattle.std.proofs.lemmas.Bool.{cases_lt}
use Rattle.std.specs.List.{enumerate_from}
use Rattle.std.specs.Ordering.{nat_cmp, eq_by_cmp, is_eq}
use Rattle.std.specs.Cmp.{nat_cmp_is}
use Rattle.std.specs.declared.cmp.Ordering.TheVariants.{Less, Equal, Greater}
use Rattle.std.specs.FinMap.{find}

-- only equal numbers tie
pub tied_same : (a : ℕ) → eq_by_cmp nat_cmp a a ≡ true
tied_same a = ap is_eq (sym (nat_cmp_is a a Equal refl))

pub tied_other : (a b : ℕ) → (a ≡ b → ⊥) → eq_by_cmp nat_cmp a b ≡ false
tied_other a b h =
    elim (cases_lt a b) [
      | inl l ↦ ap is_eq (sym (nat_cmp_is a b Less l))
      | inr r ↦ let over : b < a = elim (cases_lt b a) [ inl l ↦ l | inr l ↦ absurd (h (omega arith)) ] in ap is_eq (sym (nat_cmp_is a b Greater over))
    ]

-- in the first part, or not there
pub find_first_part : (es fs : List (ℕ × ℕ)) (q v : ℕ) → find nat_cmp q es ≡ Some v → find nat_cmp q (es ++ fs) ≡ Some v
find_first_part [] fs q v h = absurd (cc)
find_first_part (e ∷ es) fs q v h =
    elim (eq_by_cmp nat_cmp q e.0) as (λ b. cond b (Some e.1) (find nat_cmp q es) ≡ Some v → cond b (Some e.1) (find nat_cmp q (es ++ fs)) ≡ Some v) [
      | true ↦ λ t. t
      | false ↦ λ t. find_first_part es fs q v t
    ] h

pub find_second_part : (es fs : List (ℕ × ℕ)) (q : ℕ) → find nat_cmp q es ≡ None → find nat_cmp q (es ++ fs) ≡ find nat_cmp q fs
find_second_part [] fs q h = refl
find_second_part (e ∷ es) fs q h =
    elim (eq_by_cmp nat_cmp q e.0) as (λ b. cond b (Some e.1) (find nat_cmp q es) ≡ None → cond b (Some e.1) (find nat_cmp q (es ++ fs)) ≡ find nat_cmp q fs) [
      | true ↦ λ t. absurd (cc)
      | false ↦ λ t. find_second_part es fs q t
    ] h

-- among numbered elements
pub find_numbered : (a : ℕ) (xs : List ℕ) (k q : ℕ) → k < length xs → q ≡ a + k → find nat_cmp q (enumerate_from a xs) ≡ Some (get_or xs k 0)
find_numbered a [] k q h e = absurd (omega arith)
find_numbered a (x ∷ xs) zero q h e =
    let is : q ≡ a = omega arith in
    rw is (rw (tied_same a) refl)
find_numbered a (x ∷ xs) (suc k) q h e =
    let apart : q ≡ a → ⊥ = λ (s : q ≡ a). omega arith in
    rw (tied_other q a apart) (find_numbered (a + 1) xs k q (omega arith) (omega arith))

pub find_not_numbered : (a : ℕ) (xs : List ℕ) (q : ℕ) → (q < a) ⊎ (a + length xs ≤ q) → find nat_cmp q (enumerate_from a xs) ≡ None
find_not_numbered a [] q h = refl
find_not_numbered a (x ∷ xs) q h =
    let apart : q ≡ a → ⊥ = λ (s : q ≡ a). elim h [ inl l ↦ omega arith | inr r ↦ omega arith ] in
    let rest : (q < a + 1) ⊎ (a + 1 + length xs ≤ q) = elim h [ inl l ↦ inl (omega arith) | inr r ↦ inr (omega arith) ] in
    rw (tied_other q a apart) (find_not_numbered (a + 1) xs q rest)
