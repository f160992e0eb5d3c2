-- Lists of numbers that rise: those of one that pass a test are another, where it has just these members.
use Rattle.std.proofs.Common.{◌≡◌, ℕ, zero, suc, ◌+◌, ◌<◌, ◌≤◌, ◌⊎◌, Bool, true, false, cond, List, [], ◌∷◌, length, get_or, filter, map, Contains, inl, inr, refl, sym, ap, ◌∙◌, subst, arith}
use Rattle.std.proofs.lemmas.Bool.{cases_eq}
use Rattle.std.proofs.lemmas.List.{get_or_default}
use Rattle.std.proofs.lemmas.Map.Keys.{sorted_from_strictly_increasing, sorted_head, sorted_tail}
use Rattle.std.specs.Cmp.{ranked}
use Rattle.std.specs.List.{AllByRecursion, range_with_len}
use Rattle.std.specs.List.Sorted.{IsStrictlySortedBy, IsStrictlyIncreasing}
use Rattle.std.specs.Ordering.{nat_cmp}
use Rattle.std.specs.declared.cmp.Ordering.TheVariants.{Less}

abbrev pub Mem : List ℕ → ℕ → Type 0
Mem [] n = ⊥
Mem (x ∷ xs) n = (x ≡ n) ⊎ Mem xs n

abbrev pub Up : List ℕ → Type 0
Up [] = Unit {0}
Up (x ∷ xs) = AllByRecursion (λ y. x < y) xs × Up xs

above : (a : ℕ) (xs : List ℕ) (n : ℕ) → AllByRecursion (λ y. a < y) xs → Mem xs n → a < n
above a [] n h m = absurd m
above a (x ∷ xs) n h (inl e) = subst (λ k. a < k) e h.0
above a (x ∷ xs) n h (inr m) = above a xs n h.1 m

not_both : (b : Bool) → b ≡ true → b ≡ false → ⊥
not_both b p q = cc

-- the same first number
same_head : (n x : ℕ) (ns xs : List ℕ) → AllByRecursion (λ y. n < y) ns → AllByRecursion (λ y. x < y) xs → Mem (x ∷ xs) n → Mem (n ∷ ns) x → n ≡ x
same_head n x ns xs up up' (inl e) m = sym e
same_head n x ns xs up up' (inr m') (inl e) = e
same_head n x ns xs up up' (inr m') (inr m) = absurd (let a = above n ns x up m in let b = above x xs n up' m' in omega (arith, a, b))

in_rest : (x n : ℕ) (xs : List ℕ) → (x ≡ n → ⊥) → Mem (x ∷ xs) n → Mem xs n
in_rest x n xs apart (inl e) = absurd (apart e)
in_rest x n xs apart (inr m) = m

abbrev Filtered : (ℕ → Bool) → List ℕ → List ℕ → Type 0
Filtered p ns xs = Up ns → Up xs → ((x : ℕ) → Mem xs x → Mem ns x) → ((n : ℕ) → Mem ns n → p n ≡ true → Mem xs n) → ((x : ℕ) → Mem xs x → p x ≡ true) → filter p ns ≡ xs

step : (p : ℕ → Bool) (n : ℕ) (ns xs : List ℕ) (b : Bool) → p n ≡ b → ((ys : List ℕ) → Filtered p ns ys) → Filtered p (n ∷ ns) xs
step p n ns [] true is ih up up' within all pass = absurd (all n (inl refl) is)
step p n ns (x ∷ xs) true is ih up up' within all pass =
    let same : n ≡ x = same_head n x ns xs up.0 up'.0 (all n (inl refl) is) (within x (inl refl)) in
    let rest : filter p ns ≡ xs =
    ih xs up.1 up'.1
    (λ y m. in_rest n y ns (λ (e : n ≡ y). let more = above x xs y up'.0 m in omega (arith, more, same, e)) (within y (inr m)))
    (λ y m ok. in_rest x y xs (λ (e : x ≡ y). let more = above n ns y up.0 m in omega (arith, more, same, e)) (all y (inr m) ok))
    (λ y m. pass y (inr m)) in
    ap (λ b. cond b (n ∷ filter p ns) (filter p ns)) is ∙ (λ i. same i ∷ rest i)
step p n ns xs false is ih up up' within all pass =
    ap (λ b. cond b (n ∷ filter p ns) (filter p ns)) is
    ∙ ih xs up.1 up'
    (λ y m. in_rest n y ns (λ (e : n ≡ y). not_both (p y) (pass y m) (ap p (sym e) ∙ is)) (within y m))
    (λ y m ok. all y (inr m) ok)
    pass

pub filter_is : (p : ℕ → Bool) (ns xs : List ℕ) → Filtered p ns xs
filter_is p [] [] up up' within all pass = refl
filter_is p [] (x ∷ xs) up up' within all pass = absurd (within x (inl refl))
filter_is p (n ∷ ns) xs up up' within all pass = step p n ns xs (p n) refl (filter_is p ns) up up' within all pass

-- numbers in ascending order rise
all_above : (n : ℕ) (ns : List ℕ) → AllByRecursion (λ m. nat_cmp n m ≡ Less) ns → AllByRecursion (λ m. n < m) ns
all_above n [] h = tt
all_above n (m ∷ ms) h = (ranked n m Less (sym h.0), all_above n ms h.1)

up_sorted : (ns : List ℕ) → IsStrictlySortedBy nat_cmp ns → Up ns
up_sorted [] h = tt
up_sorted (n ∷ ns) h = (all_above n ns (sorted_head nat_cmp n ns h), up_sorted ns (sorted_tail nat_cmp n ns h))

pub up_increasing : (ns : List ℕ) → IsStrictlyIncreasing ns → Up ns
up_increasing ns h = up_sorted ns (sorted_from_strictly_increasing ns h)

-- members by their places
pub mem_at : (ns : List ℕ) (k : ℕ) → k < length ns → Mem ns (get_or ns k 0)
mem_at [] k low = absurd (omega arith)
mem_at (n ∷ ns) zero low = inl refl
mem_at (n ∷ ns) (suc k) low = inr (mem_at ns k (omega arith))

pub mem_contained : (ns : List ℕ) (n : ℕ) → Contains ns n → Mem ns n
mem_contained ns n there = subst (Mem ns) (get_or_default ns there.0 0 n there.1 ∙ there.2) (mem_at ns there.0 there.1)

pub place_of : (ns : List ℕ) (n : ℕ) → Mem ns n → (k : ℕ) × ((k < length ns) × (get_or ns k 0 ≡ n))
place_of [] n m = absurd m
place_of (x ∷ ns) n (inl e) = (0, (omega arith, e))
place_of (x ∷ ns) n (inr m) = (let there = place_of ns n m in (suc there.0, (omega (arith, there.1.0), there.1.1)))

-- numbers of a function, from one on
module _ (f : ℕ → ℕ) where
  pub mem_from : (n from y : ℕ) → Mem (map f (range_with_len from n)) y → (k : ℕ) × ((k < from + n) × (f k ≡ y))
  mem_from zero from y m = absurd m
  mem_from (suc n) from y (inl e) = (from, (omega arith, e))
  mem_from (suc n) from y (inr m) = (let there = mem_from n (from + 1) y m in (there.0, (omega (arith, there.1.0), there.1.1)))

  pub from_mem : (n from k : ℕ) → from ≤ k → k < from + n → Mem (map f (range_with_len from n)) (f k)
  from_mem zero from k low high = absurd (omega arith)
  from_mem (suc n) from k low high = elim (cases_eq from k) [
    | inl e ↦ inl (ap f e)
    | inr apart ↦ inr (from_mem n (from + 1) k (omega (arith, low, apart)) (omega (arith, high)))
  ]

  -- it is among the first, or it isn't
  pub decided : (n y : ℕ) → ((k : ℕ) × ((k < n) × (f k ≡ y))) ⊎ ((k : ℕ) → k < n → f k ≡ y → ⊥)
  decided zero y = inr (λ k low e. omega (arith, low))
  decided (suc n) y = elim (cases_eq (f n) y) [
    | inl e ↦ inl (n, (omega arith, e))
    | inr apart ↦ elim (decided n y) [
      | inl there ↦ inl (there.0, (omega (arith, there.1.0), there.1.1))
      | inr none ↦ inr (λ k low e. elim (cases_eq k n) [
        | inl same ↦ apart (ap f (sym same) ∙ e)
        | inr other ↦ none k (omega (arith, low, other)) e
      ])
    ]
  ]

module _ (f : ℕ → ℕ) (count : ℕ) (up : (j k : ℕ) → j < k → k < count → f j < f k) where
  later : (n from a : ℕ) → a < from → from + n ≤ count → AllByRecursion (λ y. f a < y) (map f (range_with_len from n))
  later zero from a less fits = tt
  later (suc n) from a less fits = (up a from less (omega arith), later n (from + 1) a (omega arith) (omega arith))

  pub up_from : (n from : ℕ) → from + n ≤ count → Up (map f (range_with_len from n))
  up_from zero from fits = tt
  up_from (suc n) from fits = (later n (from + 1) from (omega arith) (omega arith), up_from n (from + 1) (omega arith))
