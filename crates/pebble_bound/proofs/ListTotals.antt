-- What a valid list does from its start to its end.
use Rattle.std.proofs.Common.{◌≡◌, ◌⊎◌, ℕ, zero, suc, ◌+◌, ◌-◌, ◌*◌, ◌==◌, ◌<◌, ◌≤◌, true, false, ◌&&◌, ◌||◌, nat_le, nat_lt, List, [], ◌∷◌, map, refl, sym, ◌∙◌, ap, subst, inl, inr, arith, Option, Some, None, true≢false, add-one}
use Rattle.std.specs.FinSet as set
use Rattle.std.specs.Ordering.{nat_cmp}
use Rattle.std.specs.List.{list_any}
use Rattle.std.proofs.lemmas.Bool.{cases_lt}
use Rattle.std.proofs.lemmas.Bool.Decides.{nat_tests}
use Rattle.std.proofs.lemmas.List.Sums.{sum_by-cons}
use Rattle.plan_types.specs.declared.action.Keep.TheVariants.{Nothing, Store, Tape}
use Rattle.plan_types.specs.declared.action.Dest.TheVariants.{Work, Level}
use Rattle.plan_types.specs.declared.action.Action.{Action}
use Rattle.plan_types.specs.declared.action.Action.TheVariants.{Forward, Reverse, Copy, Move, EndForward, EndReverse}
use Rattle.level_book.specs.declared.book.Slots.{Slots}
use Rattle.level_book.specs.BookCosts.{BookCosts, slots_of, total_room}
use Rattle.level_book.specs.Configuration.{Configuration, start}
use Rattle.level_book.specs.CostFold.{forward, steps_of}
use Rattle.level_book.specs.Moves.{Goes}
use Rattle.level_book.specs.Valid.{Leads, Valid}
use Rattle.schedule_rules.specs.Transitions.{after}
use Rattle.schedule_rules.proofs.MovesByRules.{goes_after}
use Rattle.schedule_rules.proofs.Reachability.{sound_start}
use Rattle.binomials.specs.Binomials.{beta_before}
use Rattle.binomials.proofs.Monotonicity.{beta_before_law}
use Rattle.pebble_bound.specs.Crossings.{is_crossed, is_taped_at, crossings, tapings, passing}
use Rattle.pebble_bound.proofs.ConfigurationMeasures.{still_to_tape, untaped}
use Rattle.pebble_bound.proofs.SublevelCounts.{few, one_if}
use Rattle.pebble_bound.proofs.StepCovers.{Covers, alone, with_next}
use Rattle.pebble_bound.proofs.HeldPositions.{held_within_room}
use Rattle.pebble_bound.proofs.BackwardCover.{Occupied, reversed_same, covered_on}

-- what ends has nothing left to reverse
ended_done : (steps : ℕ) (slots : List Slots) (c : Configuration) (a : Action) (d : Configuration) → Goes steps slots c a d → (after c a).ended ≡ true → (after c a).reverse ≡ 0
ended_done steps slots c (Forward from to Nothing) d g e = absurd (true≢false (sym e ∙ g.0))
ended_done steps slots c (Forward from to (Store k)) d g e = absurd (true≢false (sym e ∙ g.0))
ended_done steps slots c (Forward from to Tape) d g e = absurd (true≢false (sym e ∙ g.0))
ended_done steps slots c (Reverse from to) d g e = absurd (true≢false (sym e ∙ g.0))
ended_done steps slots c (Copy n k Work) d g e = absurd (true≢false (sym e ∙ g.0))
ended_done steps slots c (Copy n k (Level j)) d g e = absurd (true≢false (sym e ∙ g.0))
ended_done steps slots c (Move n k Work) d g e = absurd (true≢false (sym e ∙ g.0))
ended_done steps slots c (Move n k (Level j)) d g e = absurd (true≢false (sym e ∙ g.0))
ended_done steps slots c EndForward d g e = absurd (true≢false (sym e ∙ g.0))
ended_done steps slots c EndReverse d g e = g.2

ended_on : (steps : ℕ) (slots : List Slots) (c : Configuration) (list : List Action) (d : Configuration) → Leads steps slots c list d →
    (c.ended ≡ true → c.reverse ≡ 0) → d.ended ≡ true → d.reverse ≡ 0
ended_on steps slots c [] d h so e =
    let P : Configuration → Type 0 = λ m. m.ended ≡ true → m.reverse ≡ 0 in
    subst P (sym h) so e
ended_on steps slots c (a ∷ rest) d h so e =
    let P : Configuration → Type 0 = λ m. m.ended ≡ true → m.reverse ≡ 0 in
    ended_on steps slots h.0 rest d h.2 (subst P (sym (goes_after steps slots c a h.0 h.1)) (ended_done steps slots c a h.0 h.1)) e

none_left : (t : Option ℕ) (r : ℕ) → r ≡ 0 → still_to_tape t r ≡ 0
none_left None r e = e
none_left (Some n) r e = omega arith

last_untaped : (steps : ℕ) (slots : List Slots) (list : List Action) (valid : Valid steps slots list) → untaped valid.0 ≡ 0
last_untaped steps slots list valid =
    let last = valid.0 in
    none_left last.tape last.reverse (ended_on steps slots (start steps slots) list last valid.1 (λ e. absurd (true≢false (sym e))) valid.2)

-- nothing is held at the start
none_held : (slots : List Slots) (i : ℕ) → list_any (λ images. set.contains images i) (map (λ (_ : Slots). set.empty {R = nat_cmp}) slots) ≡ false
none_held [] i = refl
none_held (level ∷ slots) i = ap (λ b. b || list_any (λ images. set.contains images i) (map (λ (_ : Slots). set.empty {R = nat_cmp}) slots)) (set.contains-empty nat_cmp i) ∙ none_held slots i

-- a cover whose only place is at 0
from_start : (steps room : ℕ) (slots : List Slots) (x : ℕ → ℕ) (end c : ℕ) → Covers (Occupied (start steps slots)) x end c 0 → (k : ℕ) → few x k end ≤ beta_before c k
from_start steps room slots x end c (alone _ _ h f) k = omega (arith, f k)
from_start steps room slots x end _ (with_next c _ p r hp hr he at f rest) k = elim at [
  | inl e ↦ absurd (omega arith)
  | inr h ↦ absurd (true≢false (sym h ∙ none_held slots p))
]

pub few_crossed : (steps : ℕ) (book : BookCosts) (list : List Action) → Valid steps (slots_of book) list → (k : ℕ) → few (crossings list) k steps ≤ beta_before (total_room book steps) k
few_crossed steps book list valid k =
    let slots = slots_of book in
    let room = total_room book steps in
    elim (covered_on steps room slots (start steps slots) list valid.0 (sound_start steps slots) (λ m sound. held_within_room steps book m sound) valid.1 (last_untaped steps slots list valid)) [
      | inl none ↦ omega (arith, ap (few (crossings list) k) none)
      | inr (first, covers) ↦ from_start steps room slots (crossings list) steps room covers k
    ]

at_most_below : (a k : ℕ) → nat_le a k ≡ nat_lt a (suc k)
at_most_below a k = grind (arith, nat_tests)

pub at_most_few : (x : ℕ → ℕ) (k n : ℕ) → passing (λ i. nat_le (x i) k) n ≡ few x (suc k) n
at_most_few x k zero = refl
at_most_few x k (suc n) = omega (arith, at_most_few x k n, ap one_if (at_most_below (x n) k))

-- what an action tapes
taped_before : (steps : ℕ) (slots : List Slots) (c : Configuration) (a : Action) (d : Configuration) (i : ℕ) → Goes steps slots c a d →
    one_if (is_taped_at i a) + one_if (nat_lt i (untaped (after c a))) ≡ one_if (nat_lt i (untaped c))
taped_before steps slots c (Forward from to Nothing) d i g = omega arith
taped_before steps slots c (Forward from to (Store k)) d i g = omega arith
taped_before steps slots c (Forward from to Tape) d i g =
    let before : untaped c ≡ suc from = ap (λ t. still_to_tape t c.reverse) g.4 ∙ omega (arith, g.2, g.3) in
    let later : c.reverse - 1 ≡ from = omega (arith, g.2, g.3) in
    rw (before, later) (one_taped_more from i)
  where
    one_taped_more : (n i : ℕ) → one_if (n == i) + one_if (nat_lt i n) ≡ one_if (nat_lt i (suc n))
    one_taped_more n i = grind (arith, nat_tests)
taped_before steps slots c (Reverse from to) d i g =
    omega (arith, ap (λ n. one_if (nat_lt i n)) (reversed_same c to c.tape g.2 (omega (arith, g.3, g.4))))
taped_before steps slots c (Copy n k Work) d i g = omega arith
taped_before steps slots c (Copy n k (Level j)) d i g = omega arith
taped_before steps slots c (Move n k Work) d i g = omega arith
taped_before steps slots c (Move n k (Level j)) d i g = omega arith
taped_before steps slots c EndForward d i g = omega arith
taped_before steps slots c EndReverse d i g = omega arith

taped_on : (steps : ℕ) (slots : List Slots) (c : Configuration) (list : List Action) (d : Configuration) (i : ℕ) → Leads steps slots c list d → untaped d ≡ 0 →
    tapings list i ≡ one_if (nat_lt i (untaped c))
taped_on steps slots c [] d i h end =
    let none : untaped c ≡ 0 = ap untaped (sym h) ∙ end in
    rw none (none_below i)
  where
    none_below : (i : ℕ) → one_if false ≡ one_if (nat_lt i 0)
    none_below i = grind (arith, nat_tests)
taped_on steps slots c (a ∷ rest) d i h end =
    let next : h.0 ≡ after c a = goes_after steps slots c a h.0 h.1 in
    omega (
      arith,
      sum_by-cons (λ (b : Action). one_if (is_taped_at i b)) a rest,
      taped_on steps slots h.0 rest d i h.2 end,
      ap (λ (m : Configuration). one_if (nat_lt i (untaped m))) next,
      taped_before steps slots c a h.0 i h.1,
    )

pub taped_once : (steps : ℕ) (slots : List Slots) (list : List Action) → Valid steps slots list → (i : ℕ) → tapings list i ≡ one_if (nat_lt i steps)
taped_once steps slots list valid i = taped_on steps slots (start steps slots) list valid.0 i valid.1 (last_untaped steps slots list valid)

-- the sum of x over the numbers below n
abbrev total : (ℕ → ℕ) → ℕ → ℕ
total x zero = 0
total x (suc n) = total x n + x n

total_plus : (x y z : ℕ → ℕ) (n : ℕ) → ((i : ℕ) → x i ≡ y i + z i) → total x n ≡ total y n + total z n
total_plus x y z zero h = refl
total_plus x y z (suc n) h = omega (arith, total_plus x y z n h, h n)

total_none : (n : ℕ) → total (λ i. 0) n ≡ 0
total_none zero = refl
total_none (suc n) = omega (arith, total_none n)

-- an action advances no more steps than those from `from` to `to`
inside : (from to n : ℕ) → (one_if (nat_le from n && nat_lt n to) ≡ 0) ⊎ ((one_if (nat_le from n && nat_lt n to) ≡ 1) × (from ≤ n) × (n < to))
inside from to n = elim (cases_lt n to) [
  | inl below ↦ elim (cases_lt n from) [
    | inl before ↦ inl (grind (arith, nat_tests))
    | inr at ↦ inr (grind (arith, nat_tests), at, below)
  ]
  | inr past ↦ inl (grind (arith, nat_tests))
]

total_width : (from to n : ℕ) → (total (λ i. one_if (nat_le from i && nat_lt i to)) n ≤ to - from) × (total (λ i. one_if (nat_le from i && nat_lt i to)) n ≤ n - from)
total_width from to zero = (omega arith, omega arith)
total_width from to (suc n) =
    let rest = total_width from to n in
    let here = inside from to n in
    (omega (arith, rest.0, rest.1, here), omega (arith, rest.0, rest.1, here))

crossed_width : (a : Action) (n : ℕ) → total (λ i. one_if (is_crossed i a)) n ≤ steps_of a
crossed_width (Forward from to Nothing) n = (total_width from to n).0
crossed_width (Forward from to (Store k)) n = (total_width from to n).0
crossed_width (Forward from to Tape) n = omega (arith, total_none n)
crossed_width (Reverse from to) n = omega (arith, total_none n)
crossed_width (Copy m k to) n = omega (arith, total_none n)
crossed_width (Move m k to) n = omega (arith, total_none n)
crossed_width EndForward n = omega (arith, total_none n)
crossed_width EndReverse n = omega (arith, total_none n)

-- the forward steps of an action, those that it tapes too
steps_before : (steps : ℕ) (slots : List Slots) (c : Configuration) (a : Action) (d : Configuration) (n : ℕ) → Goes steps slots c a d →
    total (λ i. one_if (is_crossed i a)) n + untaped c ≤ steps_of a + untaped (after c a)
steps_before steps slots c (Forward from to Nothing) d n g = omega (arith, crossed_width (Forward from to Nothing) n)
steps_before steps slots c (Forward from to (Store k)) d n g = omega (arith, crossed_width (Forward from to (Store k)) n)
steps_before steps slots c (Forward from to Tape) d n g =
    let before : untaped c ≡ to = ap (λ t. still_to_tape t c.reverse) g.4 ∙ sym g.3 in
    omega (arith, total_none n, before, g.2, g.3)
steps_before steps slots c (Reverse from to) d n g = omega (arith, total_none n, reversed_same c to c.tape g.2 (omega (arith, g.3, g.4)))
steps_before steps slots c (Copy m k Work) d n g = omega (arith, total_none n)
steps_before steps slots c (Copy m k (Level j)) d n g = omega (arith, total_none n)
steps_before steps slots c (Move m k Work) d n g = omega (arith, total_none n)
steps_before steps slots c (Move m k (Level j)) d n g = omega (arith, total_none n)
steps_before steps slots c EndForward d n g = omega (arith, total_none n)
steps_before steps slots c EndReverse d n g = omega (arith, total_none n)

steps_on : (steps : ℕ) (slots : List Slots) (c : Configuration) (list : List Action) (d : Configuration) (n : ℕ) → Leads steps slots c list d → untaped d ≡ 0 →
    total (crossings list) n + untaped c ≤ forward list
steps_on steps slots c [] d n h end = omega (arith, ap untaped h, total_none n)
steps_on steps slots c (a ∷ rest) d n h end =
    let next : h.0 ≡ after c a = goes_after steps slots c a h.0 h.1 in
    omega (
      arith,
      sum_by-cons steps_of a rest,
      total_plus (crossings (a ∷ rest)) (λ i. one_if (is_crossed i a)) (crossings rest) n (λ i. sum_by-cons (λ (b : Action). one_if (is_crossed i b)) a rest),
      steps_on steps slots h.0 rest d n h.2 end,
      ap untaped next,
      steps_before steps slots c a h.0 n h.1,
    )

-- the counts for 1 up to k, added up
abbrev few_sum : (ℕ → ℕ) → ℕ → ℕ → ℕ
few_sum x zero n = 0
few_sum x (suc k) n = few_sum x k n + few x (suc k) n

-- how far a number is below k, counted in ones
abbrev missing : ℕ → ℕ → ℕ
missing a zero = 0
missing a (suc k) = missing a k + one_if (nat_lt a (suc k))

below_or : (a k : ℕ) → (suc k ≤ a) ⊎ (one_if (nat_lt a (suc k)) ≡ 1)
below_or a k = elim (cases_lt a (suc k)) [ inl lt ↦ inr (grind (arith, nat_tests)) | inr ge ↦ inl ge ]

missing_enough : (a k : ℕ) → k ≤ a + missing a k
missing_enough a zero = omega arith
missing_enough a (suc k) = let rest = missing_enough a k in let here = below_or a k in omega (arith, rest, here)

few_sum_next : (x : ℕ → ℕ) (k n : ℕ) → few_sum x k (suc n) ≡ few_sum x k n + missing (x n) k
few_sum_next x zero n = refl
few_sum_next x (suc k) n = omega (arith, few_sum_next x k n)

total_enough : (x : ℕ → ℕ) (k n : ℕ) → k * n ≤ total x n + few_sum x k n
total_enough x k zero = omega arith
total_enough x k (suc n) = omega (arith, total_enough x k n, few_sum_next x k n, missing_enough (x n) k)

few_sum_most : (x : ℕ → ℕ) (c n k : ℕ) → ((j : ℕ) → few x j n ≤ beta_before c j) → few_sum x k n ≤ beta_before (suc c) k
few_sum_most x c n zero h = omega arith
few_sum_most x c n (suc k) h = omega (arith, few_sum_most x c n k h, h (suc k), beta_before_law c k)

-- the forward steps of a list, where few steps are crossed seldom
pub forward_from : (steps c : ℕ) (slots : List Slots) (list : List Action) → Valid steps slots list → ((k : ℕ) → few (crossings list) k steps ≤ beta_before c k) →
    (k : ℕ) → steps + k * steps ≤ forward list + beta_before (c + 1) k
forward_from steps c slots list valid seldom k =
    let all = steps_on steps slots (start steps slots) list valid.0 steps valid.1 (last_untaped steps slots list valid) in
    let few_all = few_sum_most (crossings list) c steps k seldom in
    omega (arith, all, few_all, total_enough (crossings list) k steps, ap (λ m. beta_before m k) (add-one c))
