-- An element of a list, and what stands before it and behind it.
use Rattle.std.proofs.Common.{◌≡◌, ℕ, zero, suc, ◌+◌, ◌<◌, ◌≤◌, List, [], ◌∷◌, length, map, drop, Some, sym, ◌∙◌, ap, add-one, arith, slice_get}
use Rattle.std.proofs.lemmas.Option.{same_Some, none-some}

pub get_map : {A B : Type 0} (f : A → B) (xs : List A) (i : ℕ) (a : A) → slice_get xs i ≡ Some a → slice_get (map f xs) i ≡ Some (f a)
get_map f [] i a h = absurd (none-some a h)
get_map f (x ∷ xs) zero a h = ap (λ y. Some (f y)) (same_Some x a h)
get_map f (x ∷ xs) (suc i) a h = get_map f xs i a h

pub drop_at : {A : Type 0} (xs : List A) (i : ℕ) (a : A) → slice_get xs i ≡ Some a → drop i xs ≡ a ∷ drop (i + 1) xs
drop_at xs i a h = by_suc xs i a h ∙ ap (λ n. a ∷ drop n xs) (sym (add-one i))
  where
    by_suc : {A : Type 0} (xs : List A) (i : ℕ) (a : A) → slice_get xs i ≡ Some a → drop i xs ≡ a ∷ drop (suc i) xs
    by_suc [] i a h = absurd (none-some a h)
    by_suc (x ∷ xs) zero a h = ap (λ y. y ∷ xs) (same_Some x a h)
    by_suc (x ∷ xs) (suc i) a h = by_suc xs i a h

-- what stands at the front behind the first i
pub at_front : {A : Type 0} (xs : List A) (i : ℕ) (a : A) (ys : List A) → drop i xs ≡ a ∷ ys → (slice_get xs i ≡ Some a) × (drop (i + 1) xs ≡ ys) × (i < length xs)
at_front xs i a ys h = let r = by_suc xs i a ys h in (r.0, ap (λ n. drop n xs) (add-one i) ∙ r.1, r.2)
  where
    by_suc : {A : Type 0} (xs : List A) (i : ℕ) (a : A) (ys : List A) → drop i xs ≡ a ∷ ys → (slice_get xs i ≡ Some a) × (drop (suc i) xs ≡ ys) × (i < length xs)
    by_suc [] zero a ys h = absurd cc
    by_suc [] (suc i) a ys h = absurd cc
    by_suc (x ∷ xs) zero a ys h = (let same : x ≡ a = cc in ap (λ y. Some y) same, (let same : xs ≡ ys = cc in same), omega arith)
    by_suc (x ∷ xs) (suc i) a ys h =
        let rest = by_suc xs i a ys h in
        (rest.0, rest.1, omega (arith, rest.2))

-- nothing is left behind all
pub none_left : {A : Type 0} (xs : List A) (i : ℕ) → drop i xs ≡ [] → length xs ≤ i
none_left [] i h = omega arith
none_left (x ∷ xs) zero h = absurd cc
none_left (x ∷ xs) (suc i) h = let rest = none_left xs i h in omega (arith, rest)
