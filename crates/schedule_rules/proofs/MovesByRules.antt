-- The two readings of what may be done, the moves and the rules, agree.
use Rattle.std.proofs.Common.{◌≡◌, ◌≢◌, ℕ, zero, suc, ◌+◌, ◌<◌, ◌≤◌, Bool, true, false, not, cond, ◌&&◌, ◌||◌, ◌==◌, nat_lt, nat_le, List, [], ◌∷◌, length, slice_index_or, refl, sym, ◌∙◌, ap, arith, Option, get_or, Some, None, is_some, is_none, IsSome, true≢false}
use Rattle.std.specs.FinSet as set
use Rattle.std.specs.Ordering.{nat_cmp}
use Rattle.std.specs.List.{list_any}
use Rattle.std.proofs.lemmas.Bool.Decides.{nat_tests}
use Rattle.plan_types.specs.declared.action.Keep.TheVariants.{Nothing, Store, Tape}
use Rattle.plan_types.specs.declared.action.Dest.TheVariants.{Work, Level}
use Rattle.plan_types.specs.declared.action.Action.{Action}
use Rattle.plan_types.specs.declared.action.Action.TheVariants.{Forward, Reverse, Copy, Move, EndForward, EndReverse}
use Rattle.level_book.specs.declared.book.Slots.{Slots}
use Rattle.level_book.specs.declared.book.Slots.TheVariants.{Count, Unlimited}
use Rattle.level_book.specs.Configuration.{Configuration, held_on}
use Rattle.level_book.specs.Moves.{Goes, MayAdvance, HasRoom}
use Rattle.level_book.specs.Rules.{rule, tests, first_number, is_full}
use Rattle.schedule_rules.specs.Transitions.{after}

abbrev AllFalse : List Bool → Type 0
AllFalse [] = Unit {0}
AllFalse (b ∷ bs) = (b ≡ false) × AllFalse bs

-- where no test has a number, each is false
all_false : (n : ℕ) (bs : List Bool) → 0 < n → first_number n bs ≡ 0 → AllFalse bs
all_false n [] h e = tt
all_false n (true ∷ bs) h e = absurd (omega arith)
all_false n (false ∷ bs) h e = (refl, all_false (n + 1) bs (omega arith) e)

-- the test of rule 15 comes first
not_after_end : (b : Bool) (n : ℕ) → cond b 15 n ≡ 0 → (b ≡ false) × (n ≡ 0)
not_after_end true n e = absurd (omega arith)
not_after_end false n e = (refl, e)

-- no rule is broken: the action isn't after the end, and each test is false
none_broken : (steps : ℕ) (slots : List Slots) (c : Configuration) (a : Action) → rule steps slots c a ≡ 0 → (c.ended ≡ false) × AllFalse (tests steps slots c a)
none_broken steps slots c a e =
    let h = not_after_end c.ended (first_number 1 (tests steps slots c a)) e in
    (h.0, all_false 1 (tests steps slots c a) (omega arith) h.1)

advances : (steps from to : ℕ) (c : Configuration) → not (from == c.work) ≡ false → (nat_le to from || nat_lt steps to) ≡ false → nat_lt c.reverse to ≡ false → MayAdvance c from to
advances steps from to c h1 h2 h3 = record {
  here = grind (arith, nat_tests);
  ahead = grind (arith, nat_tests);
  within = grind (arith, nat_tests);
}

has_room : (slots : Slots) (images : set.FinSet nat_cmp) → is_full slots images ≡ false → HasRoom slots images
has_room (Count m) images h = grind (arith, nat_tests)
has_room Unlimited images h = tt

-- the test with this index is false
test_at : (i : ℕ) (bs : List Bool) → AllFalse bs → get_or bs i false ≡ false
test_at i [] h = refl
test_at zero (b ∷ bs) h = h.0
test_at (suc i) (b ∷ bs) h = test_at i bs h.1

-- the levels of an action with one level are in the book, and those of one with two
one_level : (n k : ℕ) → list_any (λ j. nat_le n j) (k ∷ []) ≡ false → k < n
one_level n k h = grind (arith, nat_tests)

two_levels : (n k j : ℕ) → list_any (λ i. nat_le n i) (k ∷ j ∷ []) ≡ false → (k < n) × (j < n)
two_levels n k j h = (grind (arith, nat_tests), grind (arith, nat_tests))

-- what a test says that is asked only where others are false
asked : (a b : Bool) → a ≡ false → (not a && b) ≡ false → b ≡ false
asked true b h e = absurd (true≢false h)
asked false b h e = e

asked_both : (a s b : Bool) → a ≡ false → s ≡ false → ((not a && not s) && b) ≡ false → b ≡ false
asked_both true s b h g e = absurd (true≢false h)
asked_both false true b h g e = absurd (true≢false g)
asked_both false false b h g e = e

not_false : (b : Bool) → not b ≡ false → b ≡ true
not_false true h = refl
not_false false h = absurd (true≢false h)

differ : (j k : ℕ) → (j == k) ≡ false → j ≢ k
differ j k h = grind (arith, nat_tests)

no_tape_there : (t : Option ℕ) → is_some t ≡ false → t ≡ None
no_tape_there None h = refl
no_tape_there (Some n) h = absurd (true≢false h)

tape_there : (t : Option ℕ) → is_none t ≡ false → IsSome t
tape_there None h = absurd (true≢false h)
tape_there (Some n) h = refl

-- where no rule is broken, the action leads to what the table of changes says
pub goes : (steps : ℕ) (slots : List Slots) (c : Configuration) (a : Action) → rule steps slots c a ≡ 0 → Goes steps slots c a (after c a)
goes steps slots c (Forward from to Nothing) e =
    let h = none_broken steps slots c (Forward from to Nothing) e in
    (h.0, advances steps from to c h.1.0 h.1.1.0 h.1.1.1.0, refl)
goes steps slots c (Forward from to (Store k)) e =
    let h = none_broken steps slots c (Forward from to (Store k)) e in
    let test = λ (i : ℕ). test_at i (tests steps slots c (Forward from to (Store k))) h.1 in
    let known = test 16 in (
      h.0,
      advances steps from to c (test 0) (test 1) (test 2),
      record {
        level = one_level (length slots) k known;
        room = has_room (slice_index_or slots k (Count 0)) (held_on c k) (asked_both _ false _ known refl (test 3));
        new = asked_both _ false _ known refl (test 4);
      },
      refl,
    )
goes steps slots c (Forward from to Tape) e =
    let h = none_broken steps slots c (Forward from to Tape) e in
    let test = λ (i : ℕ). test_at i (tests steps slots c (Forward from to Tape)) h.1 in
    let next = test 7 in (
      h.0,
      advances steps from to c (test 0) (test 1) (test 2),
      grind (arith, nat_tests, next),
      grind (arith, nat_tests, next),
      no_tape_there c.tape (test 8),
      refl,
    )
goes steps slots c (Reverse from to) e =
    let h = none_broken steps slots c (Reverse from to) e in
    let test = λ (i : ℕ). test_at i (tests steps slots c (Reverse from to)) h.1 in
    let elsewhere = test 10 in (
      h.0,
      not_false c.forward_ended (test 11),
      tape_there c.tape (test 9),
      grind (arith, nat_tests, elsewhere),
      grind (arith, nat_tests, elsewhere),
      refl,
    )
goes steps slots c (Copy n k Work) e =
    let h = none_broken steps slots c (Copy n k Work) e in
    let test = λ (i : ℕ). test_at i (tests steps slots c (Copy n k Work)) h.1 in
    let known = test 16 in
    (h.0, record { level = one_level (length slots) k known; there = not_false _ (asked _ _ known (test 5)) }, refl)
goes steps slots c (Copy n k (Level j)) e =
    let h = none_broken steps slots c (Copy n k (Level j)) e in
    let test = λ (i : ℕ). test_at i (tests steps slots c (Copy n k (Level j))) h.1 in
    let known = test 16 in
    let levels = two_levels (length slots) k j known in
    let other = asked _ (j == k) known (test 6) in (
      h.0,
      record { level = levels.0; there = not_false _ (asked _ _ known (test 5)) },
      differ j k other,
      record {
        level = levels.1;
        room = has_room (slice_index_or slots j (Count 0)) (held_on c j) (asked_both _ (j == k) _ known other (test 3));
        new = asked_both _ (j == k) _ known other (test 4);
      },
      refl,
    )
goes steps slots c (Move n k Work) e =
    let h = none_broken steps slots c (Move n k Work) e in
    let test = λ (i : ℕ). test_at i (tests steps slots c (Move n k Work)) h.1 in
    let known = test 16 in
    (h.0, record { level = one_level (length slots) k known; there = not_false _ (asked _ _ known (test 5)) }, refl)
goes steps slots c (Move n k (Level j)) e =
    let h = none_broken steps slots c (Move n k (Level j)) e in
    let test = λ (i : ℕ). test_at i (tests steps slots c (Move n k (Level j))) h.1 in
    let known = test 16 in
    let levels = two_levels (length slots) k j known in
    let other = asked _ (j == k) known (test 6) in (
      h.0,
      record { level = levels.0; there = not_false _ (asked _ _ known (test 5)) },
      differ j k other,
      record {
        level = levels.1;
        room = has_room (slice_index_or slots j (Count 0)) (held_on c j) (asked_both _ (j == k) _ known other (test 3));
        new = asked_both _ (j == k) _ known other (test 4);
      },
      refl,
    )
goes steps slots c EndForward e =
    let h = none_broken steps slots c EndForward e in
    let test = λ (i : ℕ). test_at i (tests steps slots c EndForward) h.1 in
    let at_end = test 13 in
    (h.0, test 12, grind (arith, nat_tests, at_end), refl)
goes steps slots c EndReverse e =
    let h = none_broken steps slots c EndReverse e in
    let test = λ (i : ℕ). test_at i (tests steps slots c EndReverse) h.1 in
    let unfinished = test 15 in
    (h.0, not_false c.forward_ended (test 11), grind (arith, nat_tests, unfinished), refl)

-- an action leads to what the table of changes says, and to nothing else
pub goes_after : (steps : ℕ) (slots : List Slots) (c : Configuration) (a : Action) (d : Configuration) → Goes steps slots c a d → d ≡ after c a
goes_after steps slots c (Forward from to Nothing) d g = g.2
goes_after steps slots c (Forward from to (Store k)) d g = g.3
goes_after steps slots c (Forward from to Tape) d g = g.5
goes_after steps slots c (Reverse from to) d g = g.5
goes_after steps slots c (Copy n k Work) d g = g.2
goes_after steps slots c (Copy n k (Level j)) d g = g.4
goes_after steps slots c (Move n k Work) d g = g.2
goes_after steps slots c (Move n k (Level j)) d g = g.4
goes_after steps slots c EndForward d g = g.3
goes_after steps slots c EndReverse d g = g.3

not_full : (slots : Slots) (images : set.FinSet nat_cmp) → HasRoom slots images → is_full slots images ≡ false
not_full (Count m) images h = grind (arith, nat_tests)
not_full Unlimited images h = refl

-- where an action leads anywhere, no rule is broken, as long as no more is to be reversed than there are steps
pub unbroken : (steps : ℕ) (slots : List Slots) (c : Configuration) (a : Action) (d : Configuration) → c.reverse ≤ steps → Goes steps slots c a d → rule steps slots c a ≡ 0
unbroken steps slots c (Forward from to Nothing) d r g = let m = g.1 in grind (arith, nat_tests)
unbroken steps slots c (Forward from to (Store k)) d r g =
    let m = g.1 in let f = g.2 in let room = not_full _ _ f.room in grind (arith, nat_tests, room)
unbroken steps slots c (Forward from to Tape) d r g = let m = g.1 in grind (arith, nat_tests)
unbroken steps slots c (Reverse from to) d r g = grind (arith, nat_tests)
unbroken steps slots c (Copy n k Work) d r g = let m = g.1 in grind (arith, nat_tests)
unbroken steps slots c (Copy n k (Level j)) d r g =
    let m = g.1 in let f = g.3 in let room = not_full _ _ f.room in grind (arith, nat_tests, room)
unbroken steps slots c (Move n k Work) d r g = let m = g.1 in grind (arith, nat_tests)
unbroken steps slots c (Move n k (Level j)) d r g =
    let m = g.1 in let f = g.3 in let room = not_full _ _ f.room in grind (arith, nat_tests, room)
unbroken steps slots c EndForward d r g = grind (arith, nat_tests)
unbroken steps slots c EndReverse d r g = grind (arith, nat_tests)

-- what a Copy or a Move to a level takes is held, where no rule is broken
pub copied_is_held : (steps : ℕ) (slots : List Slots) (c : Configuration) (a : Action) (n k j : ℕ) → rule steps slots c a ≡ 0 → a ≡ Copy n k (Level j) → set.contains (held_on c k) n ≡ true
copied_is_held steps slots c a n k j e is = (goes steps slots c (Copy n k (Level j)) (ap (rule steps slots c) (sym is) ∙ e)).1.there

pub moved_is_held : (steps : ℕ) (slots : List Slots) (c : Configuration) (a : Action) (n k j : ℕ) → rule steps slots c a ≡ 0 → a ≡ Move n k (Level j) → set.contains (held_on c k) n ≡ true
moved_is_held steps slots c a n k j e is = (goes steps slots c (Move n k (Level j)) (ap (rule steps slots c) (sym is) ∙ e)).1.there
