-- The counts of the first actions of a list, and how large they are.
use Rattle.std.proofs.Common.{◌≡◌, ℕ, zero, suc, ◌+◌, ◌*◌, ◌^◌, ◌<◌, ◌≤◌, Bool, List, [], ◌∷◌, length, take, get_or, cond, sum, count_by, subst, arith}
use Rattle.std.specs.Prelude.{slice_index}
use Rattle.std.specs.List.{AllByRecursion}
use Rattle.std.proofs.lemmas.List.{length-take-le, take_all}
use Rattle.std.proofs.lemmas.List.Sums.{sum_by_more, count_by-le-length}
use Rattle.plan_types.specs.declared.action.Keep.TheVariants.{Nothing, Store, Tape}
use Rattle.plan_types.specs.declared.action.Action.{Action}
use Rattle.plan_types.specs.declared.action.Action.TheVariants.{Forward, Reverse, Copy, Move, EndForward, EndReverse}
use Rattle.level_book.specs.CostFold.{steps_of, is_taped, is_reversed, is_write, is_read, forward, taped, reversed, writes, reads}
use Rattle.cost_fold.specs.declared.counting.SoFar.{SoFar}
use Rattle.cost_fold.specs.CountableActions.{CanBeTallied}
use Rattle.cost_fold.specs.CountsOf.{HasRoomForOne}
use Rattle.cost_fold.specs.TotalCount.{all_counted}

-- an action steps forward a million steps at most
pub steps_of-le : (a : Action) → CanBeTallied a → steps_of a ≤ 1000000
steps_of-le (Forward from to Nothing) h = omega arith
steps_of-le (Forward from to (Store k)) h = omega arith
steps_of-le (Forward from to Tape) h = omega arith
steps_of-le (Reverse from to) h = omega arith
steps_of-le (Copy n k to) h = omega arith
steps_of-le (Move n k to) h = omega arith
steps_of-le EndForward h = omega arith
steps_of-le EndReverse h = omega arith

-- each action of a list that can be counted can be
pub can_at : (list : List Action) (i : ℕ) (d : Action) → AllByRecursion CanBeTallied list → i < length list → CanBeTallied (get_or list i d)
can_at [] i d can within = absurd (omega arith)
can_at (a ∷ list) zero d can within = can.0
can_at (a ∷ list) (suc i) d can within = can_at list i d can.1 (omega arith)

-- these are the counts of the list
pub record AreSoFar (list : List Action) (counts : SoFar) : Type 0 where
  pub forward : counts.forward ≡ forward list
  pub taped : counts.taped ≡ taped list
  pub reversed : counts.reversed ≡ reversed list
  pub writes : (k : ℕ) → k < 4 → slice_index counts.writes k ≡ writes k list
  pub reads : (k : ℕ) → k < 4 → slice_index counts.reads k ≡ reads k list

-- the counts of all actions are those of the list
pub whole : (list : List Action) (counts : SoFar) (i : ℕ) → length list ≤ i → AreSoFar (take i list) counts → AreSoFar list counts
whole list counts i all so_far = let P : List Action → Type 0 = λ xs. AreSoFar xs counts in subst P (take_all i list all) so_far

-- what one action adds to a count
abbrev pub one : (Action → Bool) → Action → ℕ
one p a = cond (p a) 1 0

-- the counts with one action more are those of the list with one action more
pub counted_more : (list : List Action) (i : ℕ) (d : Action) (old new : SoFar) → i < length list → AreSoFar (take i list) old →
    new.forward ≡ old.forward + steps_of (get_or list i d) →
    new.taped ≡ old.taped + one is_taped (get_or list i d) →
    new.reversed ≡ old.reversed + one is_reversed (get_or list i d) →
    ((k : ℕ) → k < 4 → slice_index new.writes k ≡ slice_index old.writes k + one (is_write k) (get_or list i d)) →
    ((k : ℕ) → k < 4 → slice_index new.reads k ≡ slice_index old.reads k + one (is_read k) (get_or list i d)) →
    AreSoFar (take (i + 1) list) new
counted_more list i d old new within so_far forward taped reversed writes reads = record {
  forward = omega (arith, forward, so_far.forward, sum_by_more steps_of list i d within);
  taped = omega (arith, taped, so_far.taped, sum_by_more (one is_taped) list i d within);
  reversed = omega (arith, reversed, so_far.reversed, sum_by_more (one is_reversed) list i d within);
  writes = λ k h. omega (arith, writes k h, so_far.writes k h, sum_by_more (one (is_write k)) list i d within);
  reads = λ k h. omega (arith, reads k h, so_far.reads k h, sum_by_more (one (is_read k)) list i d within);
}

-- a count of the first actions is no larger than their number
count_so_far : (p : Action → Bool) (list : List Action) (i : ℕ) → i ≤ length list → count_by p (take i list) ≤ i
count_so_far p list i within = omega (arith, count_by-le-length p (take i list), length-take-le i list within)

-- the counts of no more actions than a list may have can take one more
pub room_so_far : (list : List Action) (i : ℕ) (counts : SoFar) → i ≤ length list → length list ≤ 16777216 →
    AreSoFar (take i list) counts → counts.forward ≤ 1000000 * i → HasRoomForOne counts
room_so_far list i counts within few so_far steps = record {
  forward = omega arith;
  taped = omega (arith, so_far.taped, count_so_far is_taped list i within);
  reversed = omega (arith, so_far.reversed, count_so_far is_reversed list i within);
  writes = λ k h. omega (arith, so_far.writes k h, count_so_far (is_write k) list i within);
  reads = λ k h. omega (arith, so_far.reads k h, count_so_far (is_read k) list i within);
}

-- four counts, each of them within a bound, are within four times that bound
sum_of_four : (m : ℕ) (xs : List ℕ) → length xs ≡ 4 → ((k : ℕ) → k < 4 → slice_index xs k ≤ m) → sum xs ≤ 4 * m
sum_of_four m [] four each = absurd (omega (arith, four))
sum_of_four m (a ∷ []) four each = absurd (omega (arith, four))
sum_of_four m (a ∷ b ∷ []) four each = absurd (omega (arith, four))
sum_of_four m (a ∷ b ∷ c ∷ []) four each = absurd (omega (arith, four))
sum_of_four m (a ∷ b ∷ c ∷ d ∷ []) four each = omega (arith, each 0 (omega arith), each 1 (omega arith), each 2 (omega arith), each 3 (omega arith))
sum_of_four m (a ∷ b ∷ c ∷ d ∷ e ∷ xs) four each = absurd (omega (arith, four))

-- paid at the greatest cost, the counts of a list that isn't too long fit in 64 bits
pub all_fit : (list : List Action) (counts : SoFar) → length list ≤ 16777216 → length counts.writes ≡ 4 → length counts.reads ≡ 4 →
    AreSoFar list counts → counts.forward ≤ 1000000 * length list → all_counted counts.forward counts.reversed counts.writes counts.reads * 1000000 < 2 ^ 64
all_fit list counts few writes_four reads_four so steps =
    let written : sum counts.writes ≤ 4 * length list =
    sum_of_four (length list) counts.writes writes_four (λ k h. omega (arith, so.writes k h, count_by-le-length (is_write k) list)) in
    let read : sum counts.reads ≤ 4 * length list =
    sum_of_four (length list) counts.reads reads_four (λ k h. omega (arith, so.reads k h, count_by-le-length (is_read k) list)) in
    omega (arith, so.reversed, count_by-le-length is_reversed list)
