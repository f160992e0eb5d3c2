-- Numbers that are at most what splits cost.
use Rattle.std.proofs.Common.{◌≡◌, ℕ, ◌+◌, ◌-◌, ◌*◌, ◌<◌, ◌≤◌, ◌^◌, List, [], ◌∷◌, ◌++◌, length, slice_index, slice_index_or, Option, Some, None, IfSome, Vec, Global, rules, arith, inl, inr, refl, ap, sym, ◌∙◌, subst}
use Rattle.std.proofs.lemmas.Bool.{cases_lt}
use Rattle.std.proofs.lemmas.List.{get_or_push, get_or_append_left, length_push}
use Rattle.std.proofs.lemmas.List.Elements.{All-append}
use Rattle.level_book.specs.UnderTable.{Entry, number, never, IsAtMost, sum_of}
use Rattle.cost_tables.specs.declared.cost.Cost.{Cost}
use Rattle.cost_tables.specs.declared.cost.Cost.TheVariants.{Number, Never}
use Rattle.cost_tables.specs.TableRows.{value_of, TableRows, tables_in}
use Rattle.table_clauses.specs.declared.search.Pair.{Pair}
use Rattle.table_clauses.specs.Columns.{AreSplitsAt, AreSplitsOf, IsPair, IsPairBefore}
use Rattle.table_clauses.specs.Splits.{at_step, AreBelowSplits, IsAhead, IsBackward, IsBelowSplits, IsColumn}

pub below_sum : (n a : ℕ) (x y : Cost) → ((v w : ℕ) → x ≡ Number v → y ≡ Number w → n ≤ a + v + w) → IsAtMost (number n) (sum_of a (value_of x) (value_of y))
below_sum n a (Number v) (Number w) below = below v w refl refl
below_sum n a (Number v) Never below = tt
below_sum n a Never (Number w) below = tt
below_sum n a Never Never below = tt

-- what is at most a first cost and such a number is at most what each split costs
pub within_sum : (own x y : Entry) (first least a : ℕ) → IsAtMost own (number (first + least)) → IsAtMost (number least) (sum_of a x y) → IsAtMost own (sum_of (first + a) x y)
within_sum own (number v) never first least a le below = tt
within_sum own never (number w) first least a le below = tt
within_sum own never never first least a le below = tt
within_sum never (number v) (number w) first least a le below = absurd le
within_sum (number n) (number v) (number w) first least a le below = omega (arith, le, below)

-- a sum of numbers that stand at the same place is that of a split
pub is_below_splits : (forward r n : ℕ) (fresh held : List Cost) (back ahead : List ℕ) → IsBackward fresh back → IsAhead forward held ahead → r < length fresh → length held ≡ length fresh →
    ((i : ℕ) → i < r → n ≤ slice_index back (length back - r + i) + slice_index ahead i) → IsBelowSplits forward (at_step fresh) (at_step held) (r + 1) n
is_below_splits forward r n fresh held back ahead back_is ahead_is short same least = λ j i one some sum.
    let at : i - 1 ≡ length fresh - (length back - r + (j - 1) + 1) = omega (arith, back_is.count) in
    let le : n ≤ slice_index back (length back - r + (j - 1)) + slice_index ahead (j - 1) = least (j - 1) (omega arith) in
    let steps : (j - 1 + 1) * forward ≡ j * forward = ap (λ j. j * forward) (omega arith) in
    below_sum n (j * forward) (slice_index_or fresh (i - 1) (Number 0)) (slice_index_or held (j - 1) (Number 0)) (λ v w is_v is_w.
    let P : ℕ → Type 0 = λ i. slice_index_or fresh i (Number 0) ≡ Number v in
    let left = back_is.below (length back - r + (j - 1)) v (omega (arith, back_is.count)) (subst P at is_v) in
    let right = ahead_is.below (j - 1) w (omega arith) is_w in
    omega (arith, le, left, right, steps))

-- one number more
pub below_pushed : (forward r n : ℕ) (fresh held : ℕ → Entry) (xs ys : List ℕ) → length xs ≡ r → AreBelowSplits forward fresh held xs → n ≤ 2 ^ 63 → IsBelowSplits forward fresh held (r + 1) n → ys ≡ xs ++ n ∷ [] →
    AreBelowSplits forward fresh held ys
below_pushed forward r n fresh held xs ys count are small below pushed =
    let P : List ℕ → Type 0 = AreBelowSplits forward fresh held in
    subst P (sym pushed) (record {
      small = All-append (λ n. n ≤ 2 ^ 63) xs (n ∷ []) are.small (search (rules, small));
      below = λ l one le. elim (cases_lt r l) [
        | inl lt ↦
            let last : r + 1 ≡ l = omega (arith, length_push xs n) in
            let at : l - 1 ≡ r = omega arith in
            let same : n ≡ slice_index (xs ++ n ∷ []) (l - 1) = sym (ap (λ i. slice_index (xs ++ n ∷ []) i) at ∙ get_or_push xs n 0 r count) in
            let L : ℕ → Type 0 = λ l. IsBelowSplits forward fresh held l n in
            let N : ℕ → Type 0 = IsBelowSplits forward fresh held l in
            subst N same (subst L last below)
        | inr before ↦
            let N : ℕ → Type 0 = IsBelowSplits forward fresh held l in
            subst N (sym (get_or_append_left xs (n ∷ []) 0 (l - 1) (omega (arith, count)))) (are.below l one (omega (arith, count)))
      ];
    })

-- ---- columns of tables

-- the same numbers serve for entries that are the same
pub same_splits : (steps forward : ℕ) (f g h k : ℕ → Entry) (least : List ℕ) → length least ≡ steps → ((l : ℕ) → 1 ≤ l → l ≤ steps → f l ≡ g l) → ((l : ℕ) → 1 ≤ l → l ≤ steps → h l ≡ k l) →
    AreBelowSplits forward f h least → AreBelowSplits forward g k least
same_splits steps forward f g h k least count fresh held are = record {
  small = are.small;
  below = λ l one le j i first some sum.
      let P : Entry → Type 0 = λ x. IsAtMost (number (slice_index least (l - 1))) (sum_of (j * forward) x (h j)) in
      let Q : Entry → Type 0 = λ y. IsAtMost (number (slice_index least (l - 1))) (sum_of (j * forward) (g i) y) in
      subst Q (held j first (omega arith)) (subst P (fresh i some (omega arith)) (are.below l one le j i first some sum));
}

pub splits_of_columns : (t : TableRows) (forward k m : ℕ) (fresh held : List Cost) (least : List ℕ) → IsColumn t.steps (λ l. (tables_in t).fresh k l m) fresh → IsColumn t.steps (λ l. (tables_in t).held k l m) held →
    length least ≡ length fresh → AreBelowSplits forward (at_step fresh) (at_step held) least → AreSplitsAt t forward k m least
splits_of_columns t forward k m fresh held least fresh_is held_is count are =
    let all : length least ≡ t.steps = count ∙ fresh_is.count in
    record { count = all; below = same_splits t.steps forward (at_step fresh) _ (at_step held) _ least all fresh_is.value held_is.value are }

pub splits_of_pair : (t : TableRows) (forward k m : ℕ) (pair : Pair) (least : List ℕ) → IsPair t k m pair → AreSplitsAt t forward k m least →
    AreBelowSplits forward (at_step pair.fresh.items) (at_step pair.held.items) least
splits_of_pair t forward k m pair least is are =
    same_splits t.steps forward _ (at_step pair.fresh.items) _ (at_step pair.held.items) least are.count (λ l one le. sym (is.fresh.value l one le)) (λ l one le. sym (is.held.value l one le)) are.below

pub splits_at : (t : TableRows) (forward k m : ℕ) (splits : List (Vec ℕ Global)) (least : List ℕ) → AreSplitsOf t forward k splits → m < length splits → ((d : Vec ℕ Global) → least ≡ (slice_index_or splits m d).items) →
    AreSplitsAt t forward k m least
splits_at t forward k m [] least are lt is = absurd (omega arith)
splits_at t forward k m (x ∷ xs) least are lt is =
    let P : List ℕ → Type 0 = AreSplitsAt t forward k m in
    subst P (sym (is x)) (are.each m x lt)

-- for a free slot less
module _ (t : TableRows) (forward k m : ℕ) (splits : List (Vec ℕ Global)) (least : List ℕ) (are : AreSplitsOf t forward k splits) (within : m ≤ length splits) (is : (d : Vec ℕ Global) → 1 ≤ m → least ≡ (slice_index_or splits (m - 1) d).items) where
  pub enough_before : (o : Option Pair) → IsPairBefore t k m o → IfSome o (λ _. t.steps ≤ length least)
  enough_before None before = search rules
  enough_before (Some pair) before = omega (arith, (splits_at t forward k (m - 1) splits least are (omega (arith, before.0)) (λ d. is d before.0)).count)

  pub below_before : (o : Option Pair) → IsPairBefore t k m o → IfSome o (λ pair. AreBelowSplits forward (at_step pair.fresh.items) (at_step pair.held.items) least)
  below_before None before = search rules
  below_before (Some pair) before = splits_of_pair t forward k (m - 1) pair least before.1 (splits_at t forward k (m - 1) splits least are (omega (arith, before.0)) (λ d. is d before.0))
