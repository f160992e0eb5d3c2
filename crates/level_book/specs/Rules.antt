-- Which rule an action breaks at a configuration. There is one test for each of the seventeen rules, in the order of
-- their numbers. They are written from the table of rules, and not from `Moves`.
use Rattle.std.specs.Prelude.{ℕ, ◌+◌, ◌==◌, Bool, false, not, ◌&&◌, ◌||◌, cond, nat_lt, nat_le, List, [], ◌∷◌, length, slice_index_or, is_some, is_none}
use Rattle.std.specs.FinSet as set
use Rattle.std.specs.Ordering.{nat_cmp}
use Rattle.std.specs.List.{list_any}
use Rattle.plan_types.specs.declared.action.Keep.TheVariants.{Store, Tape}
use Rattle.plan_types.specs.declared.action.Dest.TheVariants.{Work, Level}
use Rattle.plan_types.specs.declared.action.Action.{Action}
use Rattle.plan_types.specs.declared.action.Action.TheVariants.{Forward, Reverse, Copy, Move, EndForward, EndReverse}
use Rattle.level_book.specs.declared.book.Slots.{Slots}
use Rattle.level_book.specs.declared.book.Slots.TheVariants.{Count, Unlimited}
use Rattle.level_book.specs.Configuration.{Configuration, held_on}

-- a level holds as many images as its slots; an unlimited level is never full
abbrev pub is_full : Slots → set.FinSet nat_cmp → Bool
is_full (Count slots) images = nat_le slots (set.len images)
is_full Unlimited images = false

-- the levels that an action names
abbrev pub levels_named : Action → List ℕ
levels_named (Forward from to (Store k)) = k ∷ []
levels_named (Copy n k (Level j)) = k ∷ j ∷ []
levels_named (Copy n k Work) = k ∷ []
levels_named (Move n k (Level j)) = k ∷ j ∷ []
levels_named (Move n k Work) = k ∷ []
levels_named _ = []

-- rule 1, WorkElsewhere: a Forward from another state than the one in work
abbrev pub work_elsewhere : Configuration → Action → Bool
work_elsewhere c (Forward from to keep) = not (from == c.work)
work_elsewhere c _ = false

-- rule 2, Range: a Forward that goes no step, or past the last state
abbrev pub out_of_range : ℕ → Action → Bool
out_of_range steps (Forward from to keep) = nat_le to from || nat_lt steps to
out_of_range steps _ = false

-- rule 3, PastReverse: a Forward past what is still to be reversed
abbrev pub past_reverse : Configuration → Action → Bool
past_reverse c (Forward from to keep) = nat_lt c.reverse to
past_reverse c _ = false

-- rule 4, Full: a Store, Copy or Move to a level that holds as many images as its slots
abbrev pub level_full : List Slots → Configuration → Action → Bool
level_full slots c (Forward from to (Store k)) = is_full (slice_index_or slots k (Count 0)) (held_on c k)
level_full slots c (Copy n k (Level j)) = is_full (slice_index_or slots j (Count 0)) (held_on c j)
level_full slots c (Move n k (Level j)) = is_full (slice_index_or slots j (Count 0)) (held_on c j)
level_full slots c _ = false

-- rule 5, AlreadyHeld: a Store, Copy or Move to a level that holds that state
abbrev pub already_held : Configuration → Action → Bool
already_held c (Forward from to (Store k)) = set.contains (held_on c k) from
already_held c (Copy n k (Level j)) = set.contains (held_on c j) n
already_held c (Move n k (Level j)) = set.contains (held_on c j) n
already_held c _ = false

-- rule 6, NotHeld: a Copy or Move of a state that isn't held there
abbrev pub not_held : Configuration → Action → Bool
not_held c (Copy n k to) = not (set.contains (held_on c k) n)
not_held c (Move n k to) = not (set.contains (held_on c k) n)
not_held c _ = false

-- rule 7, SameLevel: a Copy or Move to the level that it comes from
abbrev pub same_level : Action → Bool
same_level (Copy n k (Level j)) = j == k
same_level (Move n k (Level j)) = j == k
same_level _ = false

-- rule 8, TapeNotNext: a Tape of more than one step, or not of the next one to be reversed
abbrev pub tape_not_next : Configuration → Action → Bool
tape_not_next c (Forward from to Tape) = not (to == from + 1) || not (to == c.reverse)
tape_not_next c _ = false

-- rule 9, TapeTaken: a Tape while the tape isn't empty
abbrev pub tape_taken : Configuration → Action → Bool
tape_taken c (Forward from to Tape) = is_some c.tape
tape_taken c _ = false

-- rule 10, NoTape: a Reverse while the tape is empty
abbrev pub no_tape : Configuration → Action → Bool
no_tape c (Reverse from to) = is_none c.tape
no_tape c _ = false

-- rule 11, ReverseElsewhere: a Reverse of another step than the next one, or of more than one
abbrev pub reverse_elsewhere : Configuration → Action → Bool
reverse_elsewhere c (Reverse from to) = not (from == c.reverse) || not (to + 1 == from)
reverse_elsewhere c _ = false

-- rule 12, ForwardNotEnded: a Reverse or EndReverse before EndForward
abbrev pub forward_not_ended : Configuration → Action → Bool
forward_not_ended c (Reverse from to) = not c.forward_ended
forward_not_ended c EndReverse = not c.forward_ended
forward_not_ended c _ = false

-- rule 13, ForwardEndedTwice: EndForward after EndForward
abbrev pub forward_ended_twice : Configuration → Action → Bool
forward_ended_twice c EndForward = c.forward_ended
forward_ended_twice c _ = false

-- rule 14, NotAtEnd: EndForward where the state in work isn't the last
abbrev pub not_at_end : ℕ → Configuration → Action → Bool
not_at_end steps c EndForward = not (c.work == steps)
not_at_end steps c _ = false

-- rule 16, Unfinished: EndReverse where steps are still to be reversed
abbrev pub unfinished : Configuration → Action → Bool
unfinished c EndReverse = not (c.reverse == 0)
unfinished c _ = false

-- rule 17, NoLevel: a level that the book doesn't have
abbrev pub no_level : List Slots → Action → Bool
no_level slots a = list_any (λ k. nat_le (length slots) k) (levels_named a)

-- The tests of the rules 1 to 17 in their order. Rules 4 to 7 don't apply if rule 17 does, and 4 and 5 don't if rule 7
-- does. Rule 15, AfterEnd, is tested before all others, and alone.
abbrev pub tests : ℕ → List Slots → Configuration → Action → List Bool
tests steps slots c a =
    let levels_known = not (no_level slots a) in
    let target_differs = levels_known && not (same_level a) in
    work_elsewhere c a
    ∷ out_of_range steps a
    ∷ past_reverse c a
    ∷ (target_differs && level_full slots c a)
    ∷ (target_differs && already_held c a)
    ∷ (levels_known && not_held c a)
    ∷ (levels_known && same_level a)
    ∷ tape_not_next c a
    ∷ tape_taken c a
    ∷ no_tape c a
    ∷ reverse_elsewhere c a
    ∷ forward_not_ended c a
    ∷ forward_ended_twice c a
    ∷ not_at_end steps c a
    ∷ false
    ∷ unfinished c a
    ∷ no_level slots a
    ∷ []

-- the number of the first test that holds, counted from n; 0 where none does
abbrev pub first_number : ℕ → List Bool → ℕ
first_number n [] = 0
first_number n (holds ∷ others) = cond holds n (first_number (n + 1) others)

-- the lowest number of a rule that the action breaks, 0 where it breaks none
abbrev pub rule : ℕ → List Slots → Configuration → Action → ℕ
rule steps slots c a = cond c.ended 15 (first_number 1 (tests steps slots c a))

-- the level to which an action adds an image, 0 if there is none
abbrev pub target : Action → ℕ
target (Forward from to (Store k)) = k
target (Copy n k (Level j)) = j
target (Move n k (Level j)) = j
target _ = 0

-- the level that a refusal names: the full one for rule 4, and otherwise 0
abbrev pub level_refused : ℕ → Action → ℕ
level_refused number a = cond (number == 4) (target a) 0
