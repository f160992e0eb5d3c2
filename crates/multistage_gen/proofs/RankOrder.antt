-- The order of ranks, and the levels by it.
use Rattle.std.proofs.Common.{◌≡◌, ◌==◌, ◌⊎◌, ℕ, zero, suc, ◌+◌, ◌<◌, ◌≤◌, Bool, true, false, nat_lt, cond, ◌&&◌, ◌||◌, List, [], ◌∷◌, length, map, take, replicate, get_or, refl, sym, ap, ◌∙◌, inl, inr, arith}
use Rattle.std.specs.List as holes
use Rattle.std.specs.List.{count_by}
use Rattle.std.specs.List.Sorted.{IsPermutation, IsSorted}
use Rattle.std.specs.Cmp.{IsTotalOrder}
use Rattle.std.specs.declared.cmp.Ordering.{Ordering}
use Rattle.std.specs.declared.cmp.Ordering.TheVariants.{Less, Equal, Greater}
use Rattle.std.specs.Ordering.{nat_cmp, ordering_then, is_lt}
use Rattle.std.proofs.lemmas.Bool.{cases_eq}
use Rattle.std.proofs.lemmas.Bool.Decides.{nat_tests}
use Rattle.std.proofs.lemmas.Cmp.{nat_cmp_total, on_total, then_total, back_total}
use Rattle.std.proofs.lemmas.List.{get_or-map, get_or_read, length-map, length-replicate, get_or-replicate, take_all}
use Rattle.std.proofs.lemmas.List.Edits.{swapped_from_swap, length-swap}
use Rattle.std.proofs.lemmas.List.Sorted.{IsPermutation-keeps, length_permutation, sorted_far, ranks_by, sum_by-IsPermutation}
use Rattle.std.proofs.lemmas.List.Sums.{sum_by-cons, sum_by_more}
use Rattle.revolve_gen.specs.Places.{places_on}
use Rattle.multistage_gen.specs.declared.ranking.Rank.{Rank}
use Rattle.multistage_gen.specs.Ranks.{is_before, StandByPlace, AreLevels}

abbrev pub rank_cmp : Rank → Rank → Ordering
rank_cmp a b = ordering_then (nat_cmp b.saving.0 a.saving.0) (nat_cmp a.place b.place)

pub rank_total : IsTotalOrder rank_cmp
rank_total = then_total (back_total (on_total (λ (r : Rank). r.saving.0) nat_cmp_total)) (on_total (λ (r : Rank). r.place) nat_cmp_total)

lt_of : (s t u v : Bool) → is_lt (ordering_then (cond s Less (cond t Equal Greater)) (cond u Less (cond v Equal Greater))) ≡ (s || t && u)
lt_of true t u v = refl
lt_of false true true v = refl
lt_of false true false true = refl
lt_of false true false false = refl
lt_of false false u v = refl

pub lt_before : (a b : Rank) → is_lt (rank_cmp a b) ≡ is_before a b
lt_before a b = lt_of (nat_lt b.saving.0 a.saving.0) (b.saving.0 == a.saving.0) (nat_lt a.place b.place) (a.place == b.place)

-- the order, as numbers
turned : (s t p q : ℕ) → (nat_lt s t || (s == t) && nat_lt q p) ≡ false → (p ≡ q → ⊥) → (nat_lt t s || (t == s) && nat_lt p q) ≡ true
turned s t p q h ne = grind (arith, nat_tests)

pub turns : (a b : Rank) → is_before b a ≡ false → (a.place ≡ b.place → ⊥) → is_before a b ≡ true
turns a b h ne = turned a.saving.0 b.saving.0 a.place b.place h ne

parted : (s t u p q r : ℕ) → (nat_lt u s || (u == s) && nat_lt p r) ≡ true → (nat_lt u t || (u == t) && nat_lt q r) ≡ false → (nat_lt t s || (t == s) && nat_lt p q) ≡ true
parted s t u p q r h g = grind (arith, nat_tests)

pub parts : (a b c : Rank) → is_before a c ≡ true → is_before b c ≡ false → is_before a b ≡ true
parts a b c h g = parted a.saving.0 b.saving.0 c.saving.0 a.place b.place c.place h g

-- no two ranks are of one place
abbrev AreApart : Rank → List Rank → Type 0
AreApart d l = (i j : ℕ) → i < length l → j < length l → (get_or l i d).place ≡ (get_or l j d).place → i ≡ j

abbrev CameFrom : ℕ → ℕ → ℕ → ℕ → Type 0
CameFrom a b i m = ((i ≡ a) × (m ≡ b)) ⊎ (((i ≡ b) × (m ≡ a)) ⊎ ((i ≡ a → ⊥) × (i ≡ b → ⊥) × (m ≡ i)))

came_from : (d : Rank) (l : List Rank) (a b i : ℕ) → a < length l → b < length l → i < length l →
    (m : ℕ) × (m < length l) × (get_or (holes.swap l a b) i d ≡ get_or l m d) × CameFrom a b i m
came_from d l a b i ha hb hi =
    let s = swapped_from_swap l (holes.swap l a b) a b d ha hb refl in
    elim (cases_eq i a) [
      | inl e ↦ (b, hb, ap (λ k. get_or (holes.swap l a b) k d) e ∙ s.0, inl (e, refl))
      | inr ne ↦ elim (cases_eq i b) [
        | inl e ↦ (a, ha, ap (λ k. get_or (holes.swap l a b) k d) e ∙ s.1, inr (inl (e, refl)))
        | inr nb ↦ (i, hi, s.2 i ne nb, inr (inr (ne, nb, refl)))
      ]
    ]

one_origin : (a b i j m n : ℕ) → CameFrom a b i m → CameFrom a b j n → m ≡ n → i ≡ j
one_origin a b i j m n (inl x) (inl y) e = omega arith
one_origin a b i j m n (inl x) (inr (inl y)) e = omega arith
one_origin a b i j m n (inl x) (inr (inr y)) e = absurd (y.1 (sym (sym x.1 ∙ e ∙ y.2)))
one_origin a b i j m n (inr (inl x)) (inl y) e = omega arith
one_origin a b i j m n (inr (inl x)) (inr (inl y)) e = omega arith
one_origin a b i j m n (inr (inl x)) (inr (inr y)) e = absurd (y.0 (sym (sym x.1 ∙ e ∙ y.2)))
one_origin a b i j m n (inr (inr x)) (inl y) e = absurd (x.1 (sym x.2 ∙ e ∙ y.1))
one_origin a b i j m n (inr (inr x)) (inr (inl y)) e = absurd (x.0 (sym x.2 ∙ e ∙ y.1))
one_origin a b i j m n (inr (inr x)) (inr (inr y)) e = sym x.2 ∙ e ∙ y.2

swap_apart : (d : Rank) (l : List Rank) (a b : ℕ) → a < length l → b < length l → AreApart d l → AreApart d (holes.swap l a b)
swap_apart d l a b ha hb apart i j hi hj e =
    let len = length-swap l a b in
    let x = came_from d l a b i ha hb (omega arith) in
    let y = came_from d l a b j ha hb (omega arith) in
    one_origin a b i j x.0 y.0 x.3 y.3 (apart x.0 y.0 x.1 y.1 (ap (λ (r : Rank). r.place) (sym x.2) ∙ e ∙ ap (λ (r : Rank). r.place) y.2))

sorted_apart : (d : Rank) (ranks order : List Rank) → StandByPlace ranks → IsPermutation ranks order → AreApart d order
sorted_apart d ranks order by_place moved =
    IsPermutation-keeps ranks (AreApart d) (λ i j hi hj e. sym (by_place i d hi) ∙ e ∙ by_place j d hj) (λ l a b ha hb apart. swap_apart d l a b ha hb apart) order moved

abbrev one_if : Bool → ℕ
one_if t = cond t 1 0

-- a test that the first k elements pass, and no others
count_first : {X : Type 0} (test : X → Bool) (xs : List X) (k : ℕ) → k ≤ length xs → ((i : ℕ) (d : X) → i < k → test (get_or xs i d) ≡ true) →
    ((i : ℕ) (d : X) → k ≤ i → i < length xs → test (get_or xs i d) ≡ false) → count_by test xs ≡ k
count_first test [] k le pass fail = omega arith
count_first test (x ∷ xs) zero le pass fail =
    let here = ap one_if (fail 0 x (omega arith) (omega arith)) in
    let rest = count_first test xs zero (omega arith) (λ i d h. absurd (omega arith)) (λ i d h g. fail (suc i) d (omega arith) (omega arith)) in
    sum_by-cons (λ y. cond (test y) 1 0) x xs ∙ omega arith
count_first test (x ∷ xs) (suc k) le pass fail =
    let here = ap one_if (pass 0 x (omega arith)) in
    let rest = count_first test xs k (omega arith) (λ i d h. pass (suc i) d (omega arith)) (λ i d h g. fail (suc i) d (omega arith) (omega arith)) in
    sum_by-cons (λ y. cond (test y) 1 0) x xs ∙ omega arith

-- the places on level 0 are those whose ranks pass
abbrev level_if : Bool → ℕ
level_if t = cond t 0 1

one_level : (t : Bool) (l : ℕ) → l ≡ level_if t → one_if (l == 0) ≡ one_if t
one_level true l e = ap (λ l. one_if (l == 0)) e
one_level false l e = ap (λ l. one_if (l == 0)) e

places_count : (test : Rank → Bool) (level : ℕ → ℕ) (xs : List Rank) (d : Rank) (k : ℕ) → k ≤ length xs →
    ((p : ℕ) → p < length xs → level p ≡ level_if (test (get_or xs p d))) → places_on level 0 k ≡ count_by test (take k xs)
places_count test level xs d zero le is = refl
places_count test level xs d (suc k) le is =
    let so_far = places_count test level xs d k (omega arith) is in
    let here = one_level (test (get_or xs k d)) (level k) (is k (omega arith)) in
    let more = sum_by_more (λ x. one_if (test x)) xs k d (omega arith) in
    let e : suc k ≡ k + 1 = omega arith in
    (λ i. so_far i + here i) ∙ sym more ∙ ap (λ n. count_by test (take n xs)) (sym e)

level_known : (t : Bool) (l : ℕ) → l ≡ level_if t → l < 2
level_known true l e = omega arith
level_known false l e = omega arith

passes : (t : Bool) (l : ℕ) → l ≡ level_if t → l ≡ 0 → t ≡ true
passes true l e h = refl
passes false l e h = absurd (omega arith)

fails : (t : Bool) (l : ℕ) → l ≡ level_if t → l ≡ 1 → t ≡ false
fails true l e h = absurd (omega arith)
fails false l e h = refl

pub split_levels : (ranks order : List Rank) (room : ℕ) (cut : Rank) → StandByPlace ranks → IsPermutation ranks order → IsSorted rank_cmp order → room < length ranks →
    cut ≡ get_or order room cut → AreLevels ranks room (map (λ (rank : Rank). cond (is_before rank cut) 0 1) ranks)
split_levels ranks order room cut by_place moved sorted less at =
    let test : Rank → Bool = λ rank. is_before rank cut in
    let level_of : Rank → ℕ = λ rank. cond (test rank) 0 1 in
    let levels = map level_of ranks in
    let len = length_permutation ranks order moved in
    let is : (p : ℕ) (d : Rank) → p < length ranks → get_or levels p 0 ≡ level_of (get_or ranks p d) = λ p d h. get_or-map level_of ranks p d 0 h in
    let weak = ranks_by rank_total (λ (r : Rank). r) in
    let at_any : (d : Rank) → cut ≡ get_or order room d = λ d. get_or_read order room cut (omega arith) at d in
    let early : (i : ℕ) (d : Rank) → i < room → test (get_or order i d) ≡ true = λ i d h.
    let r = get_or order i d in
    let far = sorted_far _ weak order sorted i room d (omega arith) (omega arith) in
    turns r cut (sym (lt_before cut r) ∙ ap (λ x. is_lt (rank_cmp x r)) (at_any d) ∙ far) (λ e.
    let same : i ≡ room = sorted_apart d ranks order by_place moved i room (omega arith) (omega arith) (e ∙ ap (λ (x : Rank). x.place) (at_any d)) in
    absurd (omega arith)) in
    let late : (i : ℕ) (d : Rank) → room ≤ i → i < length order → test (get_or order i d) ≡ false = λ i d h g.
    let r = get_or order i d in
    let far = sorted_far _ weak order sorted room i d h g in
    sym (lt_before r cut) ∙ ap (λ x. is_lt (rank_cmp r x)) (at_any d) ∙ far in
    let count : count_by test ranks ≡ room = sym (sum_by-IsPermutation (λ r. cond (test r) 1 0) ranks order moved) ∙ count_first test order room (omega arith) early late in
    let all = ap (count_by test) (take_all (length ranks) ranks (omega arith)) in
    record {
      many = length-map ranks level_of;
      known = λ p h. level_known (test (get_or ranks p cut)) (get_or levels p 0) (is p cut h);
      first = (let placed = places_count test (λ p. get_or levels p 0) ranks cut (length ranks) (omega arith) (λ p h. is p cut h) in omega arith);
      order = λ p q d hp hq e f. parts (get_or ranks p d) (get_or ranks q d) cut
          (passes (test (get_or ranks p d)) (get_or levels p 0) (is p d hp) e) (fails (test (get_or ranks q d)) (get_or levels q 0) (is q d hq) f);
    }

all_on_first : (level : ℕ → ℕ) (n : ℕ) → ((p : ℕ) → p < n → level p ≡ 0) → places_on level 0 n ≡ n
all_on_first level zero is = refl
all_on_first level (suc n) is =
    let so_far = all_on_first level n (λ p h. is p (omega arith)) in
    let here = ap (λ l. one_if (l == 0)) (is n (omega arith)) in
    omega arith

pub fast_levels : (ranks : List Rank) (room : ℕ) → length ranks ≤ room → AreLevels ranks room (replicate (length ranks) 0)
fast_levels ranks room le =
    let n = length ranks in
    let levels : List ℕ = replicate n 0 in
    let is : (p : ℕ) → p < n → get_or levels p 0 ≡ 0 = λ p h. get_or-replicate n p 0 0 h in
    let below : (p : ℕ) → p < n → get_or levels p 0 < 2 = λ p h. (let e = is p h in omega arith) in
    let all : places_on (λ p. get_or levels p 0) 0 n ≡ n = all_on_first (λ p. get_or levels p 0) n is in
    record {
      many = length-replicate n 0;
      known = below;
      first = omega arith;
      order = λ p q d hp hq e f. absurd (let g = sym (is q hq) ∙ f in omega arith);
    }
