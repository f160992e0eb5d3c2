-- A list is in the nested or in the disk class, or it isn't.
use Rattle.std.proofs.Common.{◌≡◌, ◌≢◌, ◌⊎◌, ℕ, ◌<◌, ◌≤◌, List, [], ◌∷◌, length, Option, Some, None, slice_get, refl, inl, inr, arith}
use Rattle.std.proofs.lemmas.Bool.{cases_lt, cases_eq}
use Rattle.plan_types.specs.declared.action.Keep.TheVariants.{Nothing, Store, Tape}
use Rattle.plan_types.specs.declared.action.Dest.TheVariants.{Work, Level}
use Rattle.plan_types.specs.declared.action.Action.{Action}
use Rattle.plan_types.specs.declared.action.Action.TheVariants.{Forward, Reverse, Copy, Move, EndForward, EndReverse}
use Rattle.level_book.specs.declared.book.Slots.{Slots}
use Rattle.level_book.specs.declared.book.Slots.TheVariants.{Count, Unlimited}
use Rattle.level_book.specs.NestedClass.{Image, GoesOnTop, IsNewest, older_than_newest, KeepsFaster, IsNestedFrom, Nested}
use Rattle.level_book.specs.DiskClass.{NeverStores, ForwardsFirst, Disk}
use Rattle.level_book.specs.Valid.{Valid}

-- it is so, or it isn't
abbrev IsKnown : Type 0 → Type 0
IsKnown P = P ⊎ (P → ⊥)

both_known : (P Q : Type 0) → IsKnown P → IsKnown Q → IsKnown (P × Q)
both_known P Q (inl p) (inl q) = inl (p, q)
both_known P Q (inl p) (inr other) = inr (λ h. other h.1)
both_known P Q (inr other) q = inr (λ h. other h.0)

three_known : (P Q R : Type 0) → IsKnown P → IsKnown Q → IsKnown R → IsKnown (P × Q × R)
three_known P Q R (inl p) (inl q) (inl r) = inl (p, q, r)
three_known P Q R (inl p) (inl q) (inr other) = inr (λ h. other h.2)
three_known P Q R (inl p) (inr other) r = inr (λ h. other h.1)
three_known P Q R (inr other) q r = inr (λ h. other h.0)

if_known : (P Q : Type 0) → IsKnown P → IsKnown Q → IsKnown (P → Q)
if_known P Q (inl p) (inl q) = inl (λ _. q)
if_known P Q (inl p) (inr other) = inr (λ f. other (f p))
if_known P Q (inr other) q = inl (λ p. absurd (other p))

below : (m n : ℕ) → IsKnown (m < n)
below m n = elim (cases_lt m n) [ inl less ↦ inl less | inr more ↦ inr (λ h. absurd (omega (arith, more, h))) ]

at_most : (m n : ℕ) → IsKnown (m ≤ n)
at_most m n = elim (cases_lt n m) [ inl more ↦ inr (λ h. absurd (omega (arith, more, h))) | inr le ↦ inl le ]

-- ---- the nested class

on_top : (images : List Image) (n k : ℕ) → IsKnown (GoesOnTop images n k)
on_top [] n k = inl tt
on_top (newest ∷ older) n k = both_known (newest.position < n) (k ≤ newest.level) (below newest.position n) (at_most k newest.level)

newest_known : (images : List Image) (n k : ℕ) → IsKnown (IsNewest images n k)
newest_known [] n k = inr (λ h. h)
newest_known (newest ∷ older) n k = both_known (newest.position ≡ n) (newest.level ≡ k) (cases_eq newest.position n) (cases_eq newest.level k)

keeps_known : (n k : ℕ) (list : List Action) → IsKnown (KeepsFaster n k list)
keeps_known n k [] = inr (λ h. h)
keeps_known n k (Forward from to Nothing ∷ rest) = inr (λ h. h)
keeps_known n k (Forward from to Tape ∷ rest) = cases_eq from n
keeps_known n k (Forward from to (Store j) ∷ rest) = both_known (from ≡ n) (j < k) (cases_eq from n) (below j k)
keeps_known n k (Reverse from to ∷ rest) = inr (λ h. h)
keeps_known n k (Copy m j dest ∷ rest) = inr (λ h. h)
keeps_known n k (Move m j dest ∷ rest) = inr (λ h. h)
keeps_known n k (EndForward ∷ rest) = inr (λ h. h)
keeps_known n k (EndReverse ∷ rest) = inr (λ h. h)

nested_from : (left : ℕ) (images : List Image) (list : List Action) → IsKnown (IsNestedFrom left images list)
nested_from left images [] = inl tt
nested_from left images (Forward from to Nothing ∷ rest) = nested_from left images rest
nested_from left images (Forward from to Tape ∷ rest) = nested_from left images rest
nested_from left images (Forward from to (Store k) ∷ rest) =
    both_known (GoesOnTop images from k) (IsNestedFrom left (record { position = from; level = k } ∷ images) rest) (on_top images from k) (nested_from left (record { position = from; level = k } ∷ images) rest)
nested_from left images (Reverse from to ∷ rest) = nested_from to images rest
nested_from left images (Copy n k Work ∷ rest) = both_known (IsNewest images n k) (IsNestedFrom left images rest) (newest_known images n k) (nested_from left images rest)
nested_from left images (Copy n k (Level j) ∷ rest) = inr (λ h. h)
nested_from left images (Move n k Work ∷ rest) =
    three_known (IsNewest images n k) (n < left → KeepsFaster n k rest) (IsNestedFrom left (older_than_newest images) rest) (newest_known images n k)
    (if_known (n < left) (KeepsFaster n k rest) (below n left) (keeps_known n k rest)) (nested_from left (older_than_newest images) rest)
nested_from left images (Move n k (Level j) ∷ rest) = inr (λ h. h)
nested_from left images (EndForward ∷ rest) = nested_from left images rest
nested_from left images (EndReverse ∷ rest) = nested_from left images rest

pub nested_or_not : (steps : ℕ) (slots : List Slots) (list : List Action) → Valid steps slots list → Nested steps slots list ⊎ (Nested steps slots list → ⊥)
nested_or_not steps slots list valid = both_known (Valid steps slots list) (IsNestedFrom steps [] list) (inl valid) (nested_from steps [] list)

-- ---- the disk class

not_known : (P : Type 0) → IsKnown P → IsKnown (P → ⊥)
not_known P (inl p) = inr (λ other. other p)
not_known P (inr other) = inl other

never_stores : (k : ℕ) (list : List Action) → IsKnown (NeverStores k list)
never_stores k [] = inl tt
never_stores k (Forward from to Nothing ∷ rest) = never_stores k rest
never_stores k (Forward from to Tape ∷ rest) = never_stores k rest
never_stores k (Forward from to (Store j) ∷ rest) = both_known (j ≢ k) (NeverStores k rest) (not_known (j ≡ k) (cases_eq j k)) (never_stores k rest)
never_stores k (Reverse from to ∷ rest) = never_stores k rest
never_stores k (Copy n from to ∷ rest) = never_stores k rest
never_stores k (Move n from to ∷ rest) = never_stores k rest
never_stores k (EndForward ∷ rest) = never_stores k rest
never_stores k (EndReverse ∷ rest) = never_stores k rest

forwards_first : (list : List Action) → IsKnown (ForwardsFirst list)
forwards_first [] = inl tt
forwards_first (Forward from to keep ∷ rest) = forwards_first rest
forwards_first (Reverse from to ∷ rest) = inr (λ h. h)
forwards_first (Copy n from to ∷ rest) = inr (λ h. h)
forwards_first (Move n from to ∷ rest) = inr (λ h. h)
forwards_first (EndForward ∷ rest) = never_stores 1 rest
forwards_first (EndReverse ∷ rest) = inr (λ h. h)

unlimited_known : (o : Option Slots) → IsKnown (o ≡ Some Unlimited)
unlimited_known None = inr (λ e. cc)
unlimited_known (Some (Count n)) = inr (λ e. cc)
unlimited_known (Some Unlimited) = inl refl

pub disk_or_not : (steps : ℕ) (slots : List Slots) (list : List Action) → Valid steps slots list → Disk steps slots list ⊎ (Disk steps slots list → ⊥)
disk_or_not steps slots list valid = elim (cases_eq (length slots) 2) [
  | inr other ↦ inr (λ d. other d.two)
  | inl two ↦ elim (unlimited_known (slice_get slots 1)) [
    | inr other ↦ inr (λ d. other d.unlimited)
    | inl unlimited ↦ elim (nested_or_not steps slots list valid) [
      | inr other ↦ inr (λ d. other d.nested)
      | inl nested ↦ elim (forwards_first list) [
        | inr other ↦ inr (λ d. other d.forwards)
        | inl forwards ↦ inl (record { two = two; unlimited = unlimited; nested = nested; forwards = forwards })
      ]
    ]
  ]
]
