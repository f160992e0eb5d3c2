-- States that are dealt out to workers, and what they hand back.
use Rattle.std.proofs.Common.{◌≡◌, ℕ, zero, suc, ◌+◌, ◌-◌, ◌*◌, ◌/◌, ◌%◌, ◌<◌, ◌≤◌, inl, inr, List, [], ◌∷◌, ◌++◌, length, map, Option, Some, get_or, slice_get, slice_set, ◌⊎◌, refl, sym, ap, subst, ◌∙◌, arith}
use Rattle.std.specs.List.{AllByRecursion}
use Rattle.std.proofs.Math.Nat.{add-mul, mul_comm, mul-le-mul}
use Rattle.std.proofs.lemmas.Nat.{div-add-mod', mod_below}
use Rattle.std.proofs.lemmas.Bool.{cases_lt}
use Rattle.std.proofs.lemmas.List.{length-map}
use Rattle.rv_machine.specs.MachineState.{MachineState}
use Rattle.unit_undo.specs.declared.undo.TheConstants.{MOST_ENTRIES}
use Rattle.unit_digests.specs.declared.sharing.Taken.{Taken}
use Rattle.unit_digests.specs.declared.sharing.Deal.{Deal}
use Rattle.unit_digests.specs.declared.sharing.Digester.{Digester}
use Rattle.unit_digests.specs.Digests.{AreDigests, IsKnown}
use Rattle.unit_digests.specs.WorkDivision.{IsTaken, IsDealt, HasNumber, part_of, mapped}

-- ---- places of lists

pub get_front : {X : Type 0} (xs ys : List X) (k : ℕ) (x : X) → slice_get xs k ≡ Some x → slice_get (xs ++ ys) k ≡ Some x
get_front [] ys k x is = cc
get_front (y ∷ xs) ys zero x is = is
get_front (y ∷ xs) ys (suc k) x is = get_front xs ys k x is

pub get_seam : {X : Type 0} (xs : List X) (y : X) → slice_get (xs ++ y ∷ []) (length xs) ≡ Some y
get_seam [] y = refl
get_seam (x ∷ xs) y = get_seam xs y

pub get_inside : {X : Type 0} (xs : List X) (k : ℕ) (x : X) → slice_get xs k ≡ Some x → k < length xs
get_inside [] k x is = cc
get_inside (y ∷ xs) zero x is = omega arith
get_inside (y ∷ xs) (suc k) x is = let h = get_inside xs k x is in omega (arith, h)

pub get_some : {X : Type 0} (xs : List X) (k : ℕ) → k < length xs → (x : X) × (slice_get xs k ≡ Some x)
get_some [] k h = absurd (omega (arith, h))
get_some (y ∷ xs) zero h = (y, refl)
get_some (y ∷ xs) (suc k) h = get_some xs k (omega (arith, h))

-- ---- turns

some_more : (m n : ℕ) → m < n → (j : ℕ) × (n ≡ suc (m + j))
some_more m n h = (n - suc m, omega (arith, h))

next_turn : (m w : ℕ) → (m + 1) * w ≡ m * w + w
next_turn m w = add-mul m 1 w ∙ omega arith

turns_more : (m j w : ℕ) → suc (m + j) * w ≡ m * w + w + j * w
turns_more m j w = let e = add-mul m j w in let f = next_turn (m + j) w in let g : suc (m + j) ≡ m + j + 1 = omega arith in ap (λ n. n * w) g ∙ omega (arith, e, f)

-- all parts together are no fewer than all digests
pub parts_enough : (w room all : ℕ) → 1 ≤ w → part_of w ≤ room → all ≤ MOST_ENTRIES → all ≤ w * room
parts_enough w room all some is few =
    let parts = div-add-mod' MOST_ENTRIES w in
    let rest = mod_below MOST_ENTRIES w (omega (arith, some)) in
    let whole = mul-le-mul {n₁ = MOST_ENTRIES / w + 1} {m₁ = w} {n₂ = room} {m₂ = w} is (omega arith) in
    let turned = mul_comm w room in
    let next = next_turn (MOST_ENTRIES / w) w in
    omega (arith, parts, rest, whole, turned, next, few)

-- after so many turns there is room for one more
pub turn_fits : (w room taken end number all : ℕ) → 0 < end → end + number + taken * w ≡ all → all ≤ w * room → taken < room
turn_fits w room taken end number all some at fits = elim (cases_lt taken room) [
  | inl h ↦ h
  | inr h ↦ let more = mul-le-mul {n₁ = room} {m₁ = w} {n₂ = taken} {m₂ = w} h (omega arith) in let turned = mul_comm w room in absurd (omega (arith, some, at, fits, more, turned))
]

pub turn_next : (w taken end number all : ℕ) → 0 < end - w → end + number + taken * w ≡ all → end - w + number + (taken + 1) * w ≡ all
turn_next w taken end number all some at = let next = next_turn taken w in omega (arith, some, at, next)

-- of those that are dealt to a worker, this is the last below `end`, and the one before it is a turn away
pub dealt_last : (w taken end number all n turn : ℕ) → n < end → end - w ≤ n → end + number + taken * w ≡ all → n + 1 + number + turn * w ≡ all → n ≡ end - 1
dealt_last w taken end number all n turn below above at is = elim (cases_lt turn taken) [
  | inl h ↦
      let j = some_more turn taken h in
      let e = ap (λ k. k * w) j.1 ∙ turns_more turn j.0 w in
      omega (arith, below, above, at, is, e)
  | inr h ↦ elim (cases_lt taken turn) [
    | inl h' ↦
        let j = some_more taken turn h' in
        let e = ap (λ k. k * w) j.1 ∙ turns_more taken j.0 w in
        absurd (omega (arith, below, above, at, is, e))
    | inr h' ↦ let same : turn ≡ taken = omega (arith, h, h') in let e = ap (λ k. k * w) same in omega (arith, below, above, at, is, e)
  ]
]

-- what a worker took, and the digest of the next state
pub whole_next : (deal : Deal) (number end : ℕ) (taken new : List Taken) (t : Taken) → new ≡ taken ++ t ∷ [] → t.number ≡ end - 1 → end + number + length taken * deal.workers ≡ deal.end →
    ((n : ℕ) → IsDealt deal number n → end ≤ n → HasNumber taken n) → (n : ℕ) → IsDealt deal number n → end - deal.workers ≤ n → HasNumber new n
whole_next deal number end taken new t more is at whole n dealt above = elim (cases_lt n end) [
  | inl h ↦ (
    length taken,
    t,
    subst (λ (xs : List Taken). slice_get xs (length taken) ≡ Some t) (sym more) (get_seam taken t),
    is ∙ sym (dealt_last deal.workers (length taken) end number deal.end n dealt.1.0 h above at dealt.1.1),
  )
  | inr h ↦
      let before = whole n dealt h in
      let there = subst (λ (xs : List Taken). slice_get xs before.0 ≡ Some before.1) (sym more) (get_front taken (t ∷ []) before.0 before.1 before.2) in
      (before.0, before.1, there, before.3)
]

-- each state is dealt to a worker
pub dealt_to : (deal : Deal) (n : ℕ) → 1 ≤ deal.workers → deal.least ≤ n → n < deal.end → (worker : ℕ) × (worker < deal.workers) × IsDealt deal worker n
dealt_to deal n some least below =
    let behind = deal.end - 1 - n in
    let parts = div-add-mod' behind deal.workers in
    (behind % deal.workers, mod_below behind deal.workers (omega (arith, some)), (least, (behind / deal.workers, omega (arith, parts, below))))

-- ---- what is known

set_here : {X : Type 0} (xs : List X) (i : ℕ) (x : X) → i < length xs → slice_get (slice_set xs i x) i ≡ Some x
set_here [] i x h = absurd (omega (arith, h))
set_here (y ∷ xs) zero x h = refl
set_here (y ∷ xs) (suc i) x h = set_here xs i x (omega (arith, h))

set_there : {X : Type 0} (xs : List X) (i k : ℕ) (x y : X) → slice_get xs k ≡ Some y → (slice_get (slice_set xs i x) k ≡ Some x) ⊎ (slice_get (slice_set xs i x) k ≡ Some y)
set_there [] i k x y is = cc
set_there (z ∷ xs) zero zero x y is = inl refl
set_there (z ∷ xs) zero (suc k) x y is = inr is
set_there (z ∷ xs) (suc i) zero x y is = inr is
set_there (z ∷ xs) (suc i) (suc k) x y is = set_there xs i k x y is

set_from : {X : Type 0} (xs : List X) (i k : ℕ) (x y : X) → slice_get (slice_set xs i x) k ≡ Some y → ((k ≡ i) × (x ≡ y)) ⊎ (slice_get xs k ≡ Some y)
set_from [] i k x y is = inr is
set_from (z ∷ xs) zero zero x y is = inl (refl, cc)
set_from (z ∷ xs) zero (suc k) x y is = inr is
set_from (z ∷ xs) (suc i) zero x y is = inr is
set_from (z ∷ xs) (suc i) (suc k) x y is = elim (set_from xs i k x y is) [ inl h ↦ inl (ap suc h.0, h.1) | inr h ↦ inr h ]

pub some_same : {X : Type 0} (x y : X) → Some x ≡ Some y → x ≡ y
some_same x y e = cc

-- where the digest that is put is right, all are that were
pub put_right : (known : List (Option (List ℕ))) (states : List MachineState) (t : Taken) → AreDigests known states → IsTaken states t → AreDigests (slice_set known t.number (Some t.digest)) states
put_right known states t are is k s digest there known_there = elim (set_from known t.number k (Some t.digest) (Some digest) known_there) [
  | inl h ↦ sym (some_same t.digest digest h.1) ∙ is s (subst (λ (n : ℕ). slice_get states n ≡ Some s) h.0 there)
  | inr h ↦ are k s digest there h
]

-- a digest that is put is known, and others stay
pub put_known : (known : List (Option (List ℕ))) (i : ℕ) (digest : List ℕ) → i < length known → IsKnown (slice_set known i (Some digest)) i
put_known known i digest h = (digest, set_here known i (Some digest) h)

pub still_known : (known : List (Option (List ℕ))) (i n : ℕ) (digest : List ℕ) → IsKnown known n → IsKnown (slice_set known i (Some digest)) n
still_known known i n digest is = elim (set_there known i n (Some digest) (Some is.0) is.1) [ inl h ↦ (digest, h) | inr h ↦ (is.0, h) ]

-- ---- what workers keep

pub all_front : {X : Type 0} (P : X → Type 0) (xs ys : List X) → AllByRecursion P (xs ++ ys) → AllByRecursion P xs
all_front P [] ys all = tt
all_front P (x ∷ xs) ys all = (all.0, all_front P xs ys all.1)

pub all_back : {X : Type 0} (P : X → Type 0) (xs ys : List X) → AllByRecursion P (xs ++ ys) → AllByRecursion P ys
all_back P [] ys all = all
all_back P (x ∷ xs) ys all = all_back P xs ys all.1

-- ---- going through lists

pub all_at : {X : Type 0} (P : X → Type 0) (xs : List X) (k : ℕ) (d : X) → AllByRecursion P xs → k < length xs → P (get_or xs k d)
all_at P [] k d all h = absurd (omega (arith, h))
all_at P (x ∷ xs) zero d all h = all.0
all_at P (x ∷ xs) (suc k) d all h = all_at P xs k d all.1 (omega (arith, h))

pub item_at : {X : Type 0} (xs : List X) (k i : ℕ) (x d : X) → slice_get xs k ≡ Some x → k < i + 1 → (k < i) ⊎ (get_or xs i d ≡ x)
item_at {X = X} xs k i x d is below = elim (cases_lt k i) [
  | inl h ↦ inl h
  | inr h ↦ let same : k ≡ i = omega (arith, h, below) in inr (subst (λ (j : ℕ). get_or xs j d ≡ x) same (read xs k is))
]
  where
    read : (xs : List X) (k : ℕ) → slice_get xs k ≡ Some x → get_or xs k d ≡ x
    read [] k is = cc
    read (y ∷ xs) zero is = cc
    read (y ∷ xs) (suc k) is = read xs k is

-- ---- workers

module _ {X Y : Type 0} (f : X → Y) where
  map_end : (xs : List X) (x : X) → map f (xs ++ x ∷ []) ≡ map f xs ++ f x ∷ []
  map_end [] x = refl
  map_end (y ∷ xs) x = ap (λ ys. f y ∷ ys) (map_end xs x)

pub pages_more : (old new : List Digester) (x y : Digester) → map mapped new ≡ map mapped old → mapped y ≡ mapped x → map mapped (new ++ y ∷ []) ≡ map mapped (old ++ x ∷ [])
pages_more old new x y same is = map_end mapped new y ∙ ap (λ ps. ps ++ mapped y ∷ []) same ∙ ap (λ p. map mapped old ++ p ∷ []) is ∙ sym (map_end mapped old x)

pub pages_front : (P : List ℕ → Type 0) (xs : List Digester) (x : Digester) → AllByRecursion P (map mapped (xs ++ x ∷ [])) → AllByRecursion P (map mapped xs)
pages_front P xs x all = all_front P (map mapped xs) (mapped x ∷ []) (subst (AllByRecursion P) (map_end mapped xs x) all)

pub pages_last : (P : List ℕ → Type 0) (xs : List Digester) (x : Digester) → AllByRecursion P (map mapped (xs ++ x ∷ [])) → P (mapped x)
pages_last P xs x all = (all_back P (map mapped xs) (mapped x ∷ []) (subst (AllByRecursion P) (map_end mapped xs x) all)).0

pub same_count : (new old : List Digester) → map mapped new ≡ map mapped old → length new ≡ length old
same_count new old same = sym (length-map new mapped) ∙ ap length same ∙ length-map old mapped

pub all_by_place : (P : Digester → Type 0) (xs : List Digester) → ((i : ℕ) (d : Digester) → slice_get xs i ≡ Some d → P d) → AllByRecursion P xs
all_by_place P [] each = tt
all_by_place P (x ∷ xs) each = (each zero x refl, all_by_place P xs (λ i. each (suc i)))

-- the worker at each place, where one more comes
pub each_more : (P : ℕ → Digester → Type 0) (xs : List Digester) (x : Digester) → ((i : ℕ) (d : Digester) → slice_get xs i ≡ Some d → P i d) → P (length xs) x →
    (i : ℕ) (d : Digester) → slice_get (xs ++ x ∷ []) i ≡ Some d → P i d
each_more P [] x each is zero d at = subst (P zero) (some_same x d at) is
each_more P [] x each is (suc i) d at = cc
each_more P (y ∷ xs) x each is zero d at = each zero d at
each_more P (y ∷ xs) x each is (suc i) d at = each_more (λ j. P (suc j)) xs x (λ j e. each (suc j) e) is i d at
