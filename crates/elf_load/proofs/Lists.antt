-- Members of lists, and lists in ascending order.
use Rattle.std.proofs.Common.{◌≡◌, ℕ, zero, suc, ◌+◌, ◌-◌, ◌<◌, ◌≤◌, ◌⊎◌, inl, inr, Bool, true, false, cond, List, [], ◌∷◌, ◌++◌, map, filter, length, get_or, refl, sym, ap, subst, ◌∙◌, arith}
use Rattle.std.proofs.lemmas.List.FromFn.{length-range_with_len, get_or-range_with_len}
use Rattle.std.specs.List.{All, Any, Contains, range_with_len}
use Rattle.std.proofs.lemmas.List.Elements.{All-contains, Contains-get_or}
use Rattle.std.specs.List.Sorted.{IsStrictlyIncreasing, IsPermutation}
use Rattle.std.proofs.lemmas.List.Sorted.{Contains-permutation}

-- a member is the first element, or one of the others
pub contains_head : {X : Type 0} (x : X) (xs : List X) → Contains (x ∷ xs) x
contains_head x xs = (0, omega arith, refl)

pub contains_later : {X : Type 0} (x : X) (xs : List X) (y : X) → Contains xs y → Contains (x ∷ xs) y
contains_later x xs y h = let l = h.1 in (suc h.0, omega (arith, l), h.2)

contains_at : {X : Type 0} (k : ℕ) (x : X) (xs : List X) (y : X) → k < length (x ∷ xs) → get_or (x ∷ xs) k y ≡ y → (x ≡ y) ⊎ Contains xs y
contains_at zero x xs y l e = inl e
contains_at (suc k) x xs y l e = inr (k, omega (arith, l), e)

pub contains_cases : {X : Type 0} (x : X) (xs : List X) (y : X) → Contains (x ∷ xs) y → (x ≡ y) ⊎ Contains xs y
contains_cases x xs y h = contains_at h.0 x xs y h.1 h.2

pub contains_none : {X : Type 0} (y : X) → Contains [] y → ⊥
contains_none y h = let l = h.1 in omega (arith, l)

-- the same of an element of a kind
pub any_of : {X : Type 0} (P : X → Type 0) (xs : List X) (x : X) → Contains xs x → P x → Any P xs
any_of P xs x h p = (h.0, x, h.1, h.2, p)

pub any_member : {X : Type 0} (P : X → Type 0) (xs : List X) → Any P xs → (x : X) × Contains xs x × P x
any_member P xs h = (h.1, (h.0, h.2, h.3), h.4)

pub any_head : {X : Type 0} (P : X → Type 0) (x : X) (xs : List X) → P x → Any P (x ∷ xs)
any_head P x xs p = any_of P (x ∷ xs) x (contains_head x xs) p

pub any_later : {X : Type 0} (P : X → Type 0) (x : X) (xs : List X) → Any P xs → Any P (x ∷ xs)
any_later P x xs h = let w = any_member P xs h in any_of P (x ∷ xs) w.0 (contains_later x xs w.0 w.1) w.2

pub any_cases : {X : Type 0} (P : X → Type 0) (x : X) (xs : List X) → Any P (x ∷ xs) → P x ⊎ Any P xs
any_cases P x xs h =
    let w = any_member P (x ∷ xs) h in
    elim (contains_cases x xs w.0 w.1) [ inl e ↦ inl (subst P (sym e) w.2) | inr c ↦ inr (any_of P xs w.0 c w.2) ]

pub any_none : {X : Type 0} (P : X → Type 0) → Any P [] → ⊥
any_none P h = let w = any_member P [] h in contains_none w.0 w.1

pub any_weaker : {X : Type 0} (P Q : X → Type 0) → ((x : X) → P x → Q x) → (xs : List X) → Any P xs → Any Q xs
any_weaker P Q f xs h = let w = any_member P xs h in any_of Q xs w.0 w.1 (f w.0 w.2)

pub any_append_left : {X : Type 0} (P : X → Type 0) (xs ys : List X) → Any P xs → Any P (xs ++ ys)
any_append_left P [] ys h = absurd (any_none P h)
any_append_left P (x ∷ xs) ys h = elim (any_cases P x xs h) [ inl p ↦ any_head P x (xs ++ ys) p | inr r ↦ any_later P x (xs ++ ys) (any_append_left P xs ys r) ]

pub any_append_right : {X : Type 0} (P : X → Type 0) (xs ys : List X) → Any P ys → Any P (xs ++ ys)
any_append_right P [] ys h = h
any_append_right P (x ∷ xs) ys h = any_later P x (xs ++ ys) (any_append_right P xs ys h)

pub any_append_cases : {X : Type 0} (P : X → Type 0) (xs ys : List X) → Any P (xs ++ ys) → Any P xs ⊎ Any P ys
any_append_cases P [] ys h = inr h
any_append_cases P (x ∷ xs) ys h =
    elim (any_cases P x (xs ++ ys) h) [
      | inl p ↦ inl (any_head P x xs p)
      | inr r ↦ elim (any_append_cases P xs ys r) [ inl q ↦ inl (any_later P x xs q) | inr q ↦ inr q ]
    ]

pub any_map : {X Y : Type 0} (P : Y → Type 0) (f : X → Y) (xs : List X) → Any (λ x. P (f x)) xs → Any P (map f xs)
any_map P f [] h = absurd (any_none (λ x. P (f x)) h)
any_map P f (x ∷ xs) h = elim (any_cases (λ x. P (f x)) x xs h) [ inl p ↦ any_head P (f x) (map f xs) p | inr r ↦ any_later P (f x) (map f xs) (any_map P f xs r) ]

pub any_from_map : {X Y : Type 0} (P : Y → Type 0) (f : X → Y) (xs : List X) → Any P (map f xs) → Any (λ x. P (f x)) xs
any_from_map P f [] h = absurd (any_none P h)
any_from_map P f (x ∷ xs) h = elim (any_cases P (f x) (map f xs) h) [ inl p ↦ any_head (λ x. P (f x)) x xs p | inr r ↦ any_later (λ x. P (f x)) x xs (any_from_map P f xs r) ]

pub any_permutation : {X : Type 0} (P : X → Type 0) (xs ys : List X) → IsPermutation xs ys → Any P xs → Any P ys
any_permutation P xs ys p h = let w = any_member P xs h in any_of P ys w.0 (Contains-permutation xs ys w.0 p w.1) w.2

-- an element of a kind, where all are of another
pub any_weaker_all : {X : Type 0} (P Q R : X → Type 0) → ((x : X) → R x → P x → Q x) → (xs : List X) → All R xs → Any P xs → Any Q xs
any_weaker_all P Q R f xs all h = let w = any_member P xs h in any_of Q xs w.0 w.1 (f w.0 (All-contains R xs w.0 all w.1) w.2)

-- what holds of each member holds of all
pub all_members : {X : Type 0} (P : X → Type 0) (xs : List X) → ((x : X) → Contains xs x → P x) → All P xs
all_members P xs f k d l = f (get_or xs k d) (Contains-get_or xs k d l)

-- what a filter keeps
from_either : (y x : ℕ) (ys zs : List ℕ) (b : Bool) → (Contains zs x → Contains ys x) → Contains (cond b (y ∷ zs) zs) x → Contains (y ∷ ys) x
from_either y x ys zs true f h = elim (contains_cases y zs x h) [ inl e ↦ subst (λ z. Contains (y ∷ ys) z) e (contains_head y ys) | inr r ↦ contains_later y ys x (f r) ]
from_either y x ys zs false f h = contains_later y ys x (f h)

pub contains_filter : (p : ℕ → Bool) (xs : List ℕ) (x : ℕ) → Contains xs x → p x ≡ true → Contains (filter p xs) x
contains_filter p [] x h t = h
contains_filter p (y ∷ ys) x h t =
    elim (contains_cases y ys x h) [
      | inl e ↦ rw (ap p e ∙ t) (subst (λ z. Contains (z ∷ filter p ys) x) (sym e) (contains_head x (filter p ys)))
      | inr r ↦ elim (p y) as (λ b. Contains (cond b (y ∷ filter p ys) (filter p ys)) x) [
        | true ↦ contains_later y (filter p ys) x (contains_filter p ys x r t)
        | false ↦ contains_filter p ys x r t
      ]
    ]

from_choice : (p : ℕ → Bool) (y x : ℕ) (ys : List ℕ) (b : Bool) → p y ≡ b → ((x : ℕ) → Contains ys x → p x ≡ true) → Contains (cond b (y ∷ ys) ys) x → p x ≡ true
from_choice p y x ys true e f h = elim (contains_cases y ys x h) [ inl same ↦ ap p (sym same) ∙ e | inr r ↦ f x r ]
from_choice p y x ys false e f h = f x h

pub filter_holds : (p : ℕ → Bool) (xs : List ℕ) (x : ℕ) → Contains (filter p xs) x → p x ≡ true
filter_holds p [] x h = absurd (contains_none x h)
filter_holds p (y ∷ ys) x h = from_choice p y x (filter p ys) (p y) refl (filter_holds p ys) h

pub filter_contains : (p : ℕ → Bool) (xs : List ℕ) (x : ℕ) → Contains (filter p xs) x → Contains xs x
filter_contains p [] x h = h
filter_contains p (y ∷ ys) x h = from_either y x ys (filter p ys) (p y) (filter_contains p ys x) h

-- so many numbers from one on
pub contains_run : (a n p : ℕ) → a ≤ p → p < a + n → Contains (range_with_len a n) p
contains_run a n p low high =
    let inside : p - a < n = omega arith in
    let is : a + (p - a) ≡ p = omega arith in
    (p - a, omega (arith, inside, length-range_with_len a n), get_or-range_with_len a n (p - a) p inside ∙ is)

pub run_contains : (a n p : ℕ) → Contains (range_with_len a n) p → (a ≤ p) × (p < a + n)
run_contains a n p h =
    let l = h.1 in
    let inside : h.0 < n = omega (arith, l, length-range_with_len a n) in
    let is : a + h.0 ≡ p = sym (get_or-range_with_len a n h.0 p inside) ∙ h.2 in
    (omega (arith, is), omega (arith, is, inside))

range_suc : (a n : ℕ) → range_with_len a (suc n) ≡ range_with_len a n ++ (a + n) ∷ []
range_suc a zero = let here : a ≡ a + 0 = omega arith in ap (λ k. k ∷ []) here
range_suc a (suc n) = let next : a + 1 + n ≡ a + suc n = omega arith in ap (λ xs. a ∷ xs) (range_suc (a + 1) n) ∙ ap (λ k. a ∷ (range_with_len (a + 1) n ++ k ∷ [])) next

pub range_more : (a n : ℕ) → range_with_len a (n + 1) ≡ range_with_len a n ++ (a + n) ∷ []
range_more a n = let one : n + 1 ≡ suc n = omega arith in ap (range_with_len a) one ∙ range_suc a n

-- a list in ascending order, from a number on
abbrev pub Rises : ℕ → List ℕ → Type 0
Rises low [] = Unit {0}
Rises low (x ∷ xs) = (low ≤ x) × Rises (x + 1) xs

pub rises_weaker : (low mid : ℕ) (xs : List ℕ) → low ≤ mid → Rises mid xs → Rises low xs
rises_weaker low mid [] l h = tt
rises_weaker low mid (x ∷ xs) l h = (omega (arith, h.0), h.1)

pub rises_low : (low : ℕ) (xs : List ℕ) (p : ℕ) → Rises low xs → Contains xs p → low ≤ p
rises_low low [] p h c = absurd (contains_none p c)
rises_low low (x ∷ xs) p h c =
    elim (contains_cases x xs p c) [ inl e ↦ omega (arith, e, h.0) | inr r ↦ let above = rises_low (x + 1) xs p h.1 r in omega (arith, above, h.0) ]

pub rises_run : (low a n mid : ℕ) (ys : List ℕ) → low ≤ mid → low ≤ a → (0 < n → a + n ≤ mid) → Rises mid ys → Rises low (range_with_len a n ++ ys)
rises_run low a zero mid ys l m fits h = rises_weaker low mid ys l h
rises_run low a (suc n) mid ys l m fits h =
    let end : a + suc n ≤ mid = fits (omega arith) in
    (m, rises_run (a + 1) (a + 1) n mid ys (omega arith) (omega arith) (λ some. omega arith) h)

-- the same by places
rises_at : (low : ℕ) (xs : List ℕ) (k : ℕ) → Rises low xs → k + 1 < length xs → get_or xs k 0 < get_or xs (k + 1) 0
rises_at low [] k h l = absurd (omega arith)
rises_at low (x ∷ []) k h l = absurd (omega arith)
rises_at low (x ∷ (y ∷ ys)) zero h l = omega (arith, h.1.0)
rises_at low (x ∷ (y ∷ ys)) (suc k) h l =
    let next : suc k + 1 ≡ suc (k + 1) = omega arith in
    subst (λ i. get_or (y ∷ ys) k 0 < get_or (x ∷ (y ∷ ys)) i 0) (sym next) (rises_at (x + 1) (y ∷ ys) k h.1 (omega arith))

pub increasing_from_rises : (low : ℕ) (xs : List ℕ) → Rises low xs → IsStrictlyIncreasing xs
increasing_from_rises low xs h k l = rises_at low xs k h l

tail_increases : (x : ℕ) (xs : List ℕ) → IsStrictlyIncreasing (x ∷ xs) → IsStrictlyIncreasing xs
tail_increases x xs h k l = let next : suc k + 1 ≡ suc (k + 1) = omega arith in subst (λ i. get_or xs k 0 < get_or (x ∷ xs) i 0) next (h (suc k) (omega arith))

rises_above : (x : ℕ) (xs : List ℕ) → IsStrictlyIncreasing (x ∷ xs) → Rises (x + 1) xs
rises_above x [] h = tt
rises_above x (y ∷ ys) h = let first = h 0 (omega arith) in (omega (arith, first), rises_above y ys (tail_increases x (y ∷ ys) h))

pub rises_from_increasing : (xs : List ℕ) → IsStrictlyIncreasing xs → Rises 0 xs
rises_from_increasing [] h = tt
rises_from_increasing (x ∷ xs) h = (omega arith, rises_above x xs h)

-- lists in ascending order with the same members are the same
same_tail : (x low : ℕ) (xs ys : List ℕ) → Rises (x + 1) xs → ((p : ℕ) → Contains (x ∷ xs) p → Contains (x ∷ ys) p) → (p : ℕ) → Contains xs p → Contains ys p
same_tail x low xs ys h f p c =
    elim (contains_cases x ys p (f p (contains_later x xs p c))) [
      | inl e ↦ absurd (let above = rises_low (x + 1) xs p h c in omega (arith, above, e))
      | inr r ↦ r
    ]

pub same_rising : (low : ℕ) (xs ys : List ℕ) → Rises low xs → Rises low ys → ((p : ℕ) → Contains xs p → Contains ys p) → ((p : ℕ) → Contains ys p → Contains xs p) → xs ≡ ys
same_rising low [] [] h g f e = refl
same_rising low [] (y ∷ ys) h g f e = absurd (contains_none y (e y (contains_head y ys)))
same_rising low (x ∷ xs) [] h g f e = absurd (contains_none x (f x (contains_head x xs)))
same_rising low (x ∷ xs) (y ∷ ys) h g f e =
    let above_y : y ≤ x = rises_low y (y ∷ ys) x (omega arith, g.1) (f x (contains_head x xs)) in
    let above_x : x ≤ y = rises_low x (x ∷ xs) y (omega arith, h.1) (e y (contains_head y ys)) in
    let same : y ≡ x = omega arith in
    let g' : Rises (x + 1) ys = subst (λ z. Rises (z + 1) ys) same g.1 in
    let f' : (p : ℕ) → Contains (x ∷ xs) p → Contains (x ∷ ys) p = subst (λ z. (p : ℕ) → Contains (x ∷ xs) p → Contains (z ∷ ys) p) same f in
    let e' : (p : ℕ) → Contains (x ∷ ys) p → Contains (x ∷ xs) p = subst (λ z. (p : ℕ) → Contains (z ∷ ys) p → Contains (x ∷ xs) p) same e in
    ap (λ zs. x ∷ zs) (same_rising (x + 1) xs ys h.1 g' (same_tail x low xs ys h.1 f') (same_tail x low ys xs g' e')) ∙ ap (λ z. z ∷ ys) (sym same)
