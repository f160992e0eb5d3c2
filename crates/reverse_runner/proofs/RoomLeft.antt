-- What a level that is laid out has a place and room for, and how the levels of a session begin.
use Rattle.reverse_runner.proofs.Common.{◌≡◌, ℕ, ◌+◌, ◌∙◌, false, refl, ap, sym, subst, arith, ◌≢◌, inl, inr, List, get_or, set as put, Option, Some, None, [], length, IsSome, ◌<◌, true, cond, ◌≤◌, true≢false, length-set, mul-zero, cases_lt, get_or-set_other, get_or-map, length-map, get_or_past, length-replicate, is_some, nat_cmp, least, start, held_on, HasRoom, Slots, Count, Unlimited, MachineState, state_number, image, Images, stands_empty, alone_empty, held_more, no_pair, none_held, pair_at, held, ShelfState, level_of, no_pairs, no_pairs_on, LevelStands, LevelAlone, Kept, TapeState, IsLaidOut, Numbers, AreImages, HoldingsStandAt, AreAlone, IsLevelLaidOut, unit_states}
use Rattle.std.specs.FinSet as set
use Rattle.std.specs.FinMap as finmap
use Rattle.std.proofs.lemmas.List.Sums.{count_by-le-length}

-- a pair that isn't held
not_held : (o : Option Kept) → is_some o ≡ false → o ≡ None
not_held None e = refl
not_held (Some x) e = absurd (true≢false e)

-- there is a place for each state before the last
pub has_place : (steps : ℕ) (slots : Slots) (numbers : Numbers) (level : ShelfState) (n : ℕ) → IsLevelLaidOut steps slots numbers level → n < steps → n < length level.pairs
has_place steps slots numbers level n laid before = omega (arith, before, laid.places)

-- the pair of a number that is held is there
pub is_there : (steps : ℕ) (slots : Slots) (numbers : Numbers) (level : ShelfState) (n : ℕ) → IsLevelLaidOut steps slots numbers level →
    set.contains numbers n ≡ true → IsSome (pair_at level.pairs n)
is_there steps slots numbers level n laid there = laid.pairs n ∙ there

-- the pair of a number that isn't held isn't there
pub is_new : (steps : ℕ) (slots : Slots) (numbers : Numbers) (level : ShelfState) (n : ℕ) → IsLevelLaidOut steps slots numbers level →
    set.contains numbers n ≡ false → pair_at level.pairs n ≡ None
is_new steps slots numbers level n laid new = not_held (pair_at level.pairs n) (laid.pairs n ∙ new)

-- a number that is held is that of a state before the last
pub held_is_below : (steps : ℕ) (slots : Slots) (numbers : Numbers) (level : ShelfState) (n : ℕ) → IsLevelLaidOut steps slots numbers level →
    set.contains numbers n ≡ true → n < steps
held_is_below steps slots numbers level n laid there =
    let other : n ≢ steps = λ e. true≢false (sym there ∙ ap (set.contains numbers) e ∙ laid.last) in
    elim (cases_lt n (length level.pairs)) [
      | inl within ↦ omega (arith, within, laid.places, other)
      | inr past ↦ absurd (true≢false (sym there ∙ sym (laid.pairs n) ∙ ap is_some (get_or_past level.pairs n None past)))
    ]

-- where two pairs are missing, there are two places more than pairs
two_missing : (pairs : List (Option Kept)) (m n : ℕ) → n ≢ m → m < length pairs → n < length pairs → pair_at pairs m ≡ None → pair_at pairs n ≡ None →
    held pairs + 2 ≤ length pairs
two_missing pairs m n apart within_m within_n none_m none_n =
    let kept : Kept = record { slot = 0; length = 0; digest = [] } in
    let more = put pairs m (Some kept) in
    let once = held_more pairs m kept within_m none_m in
    let long = length-set pairs m (Some kept) in
    let still : pair_at more n ≡ None = get_or-set_other pairs m n (Some kept) None apart ∙ none_n in
    let inside : n < length more = omega (arith, within_n, long) in
    let twice = held_more more n kept inside still in
    let longer = length-set more n (Some kept) in
    let all = count_by-le-length is_some (put more n (Some kept)) in
    omega (arith, once, twice, long, longer, all)

-- a level that doesn't hold a number before the last has fewer pairs than there are steps
fewer_than_steps : (steps : ℕ) (slots : Slots) (numbers : Numbers) (level : ShelfState) (n : ℕ) → IsLevelLaidOut steps slots numbers level →
    set.contains numbers n ≡ false → n < steps → held level.pairs < steps
fewer_than_steps steps slots numbers level n laid new before =
    let within = has_place steps slots numbers level n laid before in
    let none = is_new steps slots numbers level n laid new in
    let last = is_new steps slots numbers level steps laid laid.last in
    let two = two_missing level.pairs steps n (omega (arith, before)) (omega (arith, laid.places)) within last none in
    omega (arith, two, laid.places)

-- a level with a free slot has room for one more pair
pub room_left : (steps : ℕ) (slots : Slots) (numbers : Numbers) (level : ShelfState) (n : ℕ) → IsLevelLaidOut steps slots numbers level →
    HasRoom slots numbers → set.contains numbers n ≡ false → n < steps → held level.pairs < level.room
room_left steps (Count m) numbers level n laid free new before =
    let fewer = fewer_than_steps steps (Count m) numbers level n laid new before in
    omega (arith, fewer, laid.count, laid.room, free)
room_left steps Unlimited numbers level n laid free new before =
    let fewer = fewer_than_steps steps Unlimited numbers level n laid new before in
    omega (arith, fewer, laid.room)

-- a level with no pairs is laid out for no numbers
empty_is_laid_out : (steps : ℕ) (slots : Slots) → IsLevelLaidOut steps slots set.empty (no_pairs steps (least slots steps))
empty_is_laid_out steps slots = record {
  places = length-replicate (steps + 1) None;
  room = refl;
  pairs = λ n. ap is_some (no_pair (steps + 1) n) ∙ sym (set.contains-empty nat_cmp n);
  count = none_held (steps + 1) ∙ sym (set.len-empty nat_cmp);
  last = set.contains-empty nat_cmp steps;
}

-- at the start no level holds a number
nothing_held : (steps : ℕ) (slots : List Slots) (k : ℕ) → k < length slots → held_on (start steps slots) k ≡ set.empty
nothing_held steps slots k within = get_or-map (λ (_ : Slots). set.empty {R = nat_cmp}) slots k (Count 0) set.empty within

-- a level of a store with no pairs
level_with_none : (steps : ℕ) (slots : List Slots) (k : ℕ) → k < length slots →
    level_of (no_pairs_on slots steps) k ≡ no_pairs steps (least (get_or slots k (Count 0)) steps)
level_with_none steps slots k within =
    get_or-map (λ (s : Slots). no_pairs steps (least s steps)) slots k (Count 0) (record { pairs = []; room = 0 }) within

-- a store with no pairs has a level for each of the book
levels_of_none : (steps : ℕ) (slots : List Slots) → length (no_pairs_on slots steps) ≡ length slots
levels_of_none steps slots = length-map slots (λ (s : Slots). no_pairs steps (least s steps))

-- a store with no pairs is laid out at the start
pub begun_is_laid_out : (steps : ℕ) (slots : List Slots) → IsLaidOut steps slots (start steps slots) (no_pairs_on slots steps)
begun_is_laid_out steps slots = record {
  levels = levels_of_none steps slots;
  each = λ k within.
      let inside : k < length slots = omega (arith, within, levels_of_none steps slots) in
      let s = get_or slots k (Count 0) in
      subst (λ (x : ShelfState). IsLevelLaidOut steps s (held_on (start steps slots) k) x) (sym (level_with_none steps slots k inside))
      (subst (λ (x : Numbers). IsLevelLaidOut steps s x (no_pairs steps (least s steps))) (sym (nothing_held steps slots k inside)) (empty_is_laid_out steps s));
}

-- what stands over all images that may be told stands over those that are
stands_where_told : (level : ShelfState) (bytes : Images) (told : Option Images) → ((images : Images) → LevelStands level (Some images) bytes) → IsSome told → LevelStands level told bytes
stands_where_told level bytes None each some = absurd (true≢false (sym some))
stands_where_told level bytes (Some images) each some = each images

-- no images are those of no numbers
no_images_are : (states : ℕ → MachineState) (numbers : Numbers) → numbers ≡ set.empty → AreImages states numbers finmap.empty
no_images_are states numbers none n =
    let bytes = image (states n) in
    finmap.get-empty nat_cmp n ∙ sym (ap (λ b. cond b (Some bytes) None) (ap (λ (x : Numbers). set.contains x n) none ∙ set.contains-empty nat_cmp n))

-- over keepers that tell, a session that begins stands at the start
pub begun_stands : (first : MachineState) (journal : List (List ℕ)) (unit steps : ℕ) (slots : List Slots) (tape : TapeState) (told : ℕ → Option Images) →
    ((k : ℕ) → k < length slots → IsSome (told k)) →
    HoldingsStandAt first journal unit (start steps slots) (record { work = first; tape = tape; levels = record { store = no_pairs_on slots steps; told = told } })
begun_stands first journal unit steps slots tape told tells = record {
  work = ap (state_number first journal) (sym (mul-zero unit));
  tape = tt;
  levels = λ k within.
      let inside : k < length slots = omega (arith, within, levels_of_none steps slots) in (
        finmap.empty,
        (
          no_images_are (unit_states first journal unit) (held_on (start steps slots) k) (nothing_held steps slots k inside),
          stands_where_told (level_of (no_pairs_on slots steps) k) finmap.empty (told k) (stands_empty slots steps k) (tells k inside),
        ),
      );
}

-- over keepers that tell no images, a store with no pairs is alone
pub begun_is_alone : (steps : ℕ) (slots : List Slots) (told : ℕ → Option Images) → ((k : ℕ) → k < length slots → told k ≡ Some finmap.empty) →
    AreAlone (record { store = no_pairs_on slots steps; told = told })
begun_is_alone steps slots told empty k within =
    let inside : k < length slots = omega (arith, within, levels_of_none steps slots) in
    subst (LevelAlone (level_of (no_pairs_on slots steps) k)) (sym (empty k inside)) (alone_empty slots steps k)
