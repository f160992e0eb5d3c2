-- Levels as marks are set on them.
use Rattle.std.proofs.Common.{◌≡◌, ◌≢◌, ℕ, zero, suc, ◌+◌, ◌*◌, ◌==◌, ◌||◌, ◌<◌, ◌≤◌, Bool, true, false, cond, List, [], ◌∷◌, length, map, get_or, Option, None, Some, IsSome, refl, sym, ◌∙◌, ap, subst, inl, inr, arith, eq-eqb, true≢false, add-one}
use Rattle.std.specs.FinSet as set
use Rattle.std.specs.Ordering.{nat_cmp, eq_by_cmp}
use Rattle.std.specs.Cmp.{nat_cmp_total, unsigned_tied}
use Rattle.std.proofs.lemmas.Bool.{cases_eq, ne_eqb, cases_Bool}
use Rattle.std.proofs.lemmas.List.{get_or-map, get_or-set_same, get_or-set_other, length-map}
use Rattle.std.proofs.lemmas.Option.{slice_get-get_or}
use Rattle.std.specs.Option.{option_map_or}
use Rattle.std.proofs.Math.Nat.{le-mul_of_pos_right}
use Rattle.level_book.specs.Configuration.{start, held_on}
use Rattle.level_book.specs.declared.book.Slots.{Slots}
use Rattle.level_book.specs.declared.book.Slots.TheVariants.{Count, Unlimited}
use Rattle.level_book.specs.BookCosts.{least}
use Rattle.schedule_rules.proofs.BitsLemmas.{len_one_more}
use Rattle.revolve_gen.specs.Places.{level_at, places_on, HasMore, IsRoomy}
use Rattle.sha2.specs.Sha256.{sha256}
use Rattle.keepers.specs.Claims.{Images}
use Rattle.rv_machine.specs.MachineState.{MachineState}
use Rattle.rv_machine.specs.States.{state_number}
use Rattle.state_image.specs.Image.{image}
use Rattle.image_store.specs.Calls.{kept_in}
use Rattle.image_store.specs.Pairs.{pair_at, held}
use Rattle.image_store.specs.Shelves.{ShelfState, level_of, kept_at, no_pairs_on}
use Rattle.reverse_runner.specs.ActionEffects.{Levels, IsAsBefore, Keeps}
use Rattle.reverse_runner.specs.KeepersSeen.{by_number, HaveRoom}
use Rattle.reverse_runner.specs.HoldingsOfRun.{Numbers, LevelStandsAt, IsLevelLaidOut}
use Rattle.reverse_runner.specs.Units.{unit_states}
use Rattle.reverse_runner.proofs.LevelsInvariant.{laid_gains, stands_gains}
use Rattle.reverse_runner.proofs.RoomLeft.{has_place, is_new, is_there, begun_is_laid_out, begun_stands}
use Rattle.reverse_console.specs.Marks.{MarkPlan, span, capacity, marked, mark_count, mark_level, marked_on}
use Rattle.reverse_console.specs.MarkInvariant.{AreSet, AreKept, StandAt}
use Rattle.reverse_console.specs.MarksOfRun.{MarksTell, IsMarkKept}
use Rattle.reverse_console.proofs.Numbers.{marked_rises, stride_some, mark_has_room, marked_below}

tied : (q n : ℕ) → q ≡ n → eq_by_cmp nat_cmp q n ≡ true
tied q n e = unsigned_tied q n ∙ eq-eqb q n e

not_tied : (q n : ℕ) → (q ≡ n → ⊥) → eq_by_cmp nat_cmp q n ≡ false
not_tied q n ne = unsigned_tied q n ∙ ne_eqb q n ne

more_same : (s : Numbers) (n q : ℕ) → q ≡ n → set.contains (set.insert s n) q ≡ true
more_same s n q e = set.contains-insert nat_cmp_total s n q ∙ ap (λ b. b || set.contains s q) (tied q n e)

more_other : (s : Numbers) (n q : ℕ) → q ≢ n → set.contains (set.insert s n) q ≡ set.contains s q
more_other s n q ne = set.contains-insert nat_cmp_total s n q ∙ ap (λ b. b || set.contains s q) (not_tied q n ne)

-- one mark more, on its level and on another
on_its : (p : MarkPlan) (i k : ℕ) → mark_level p i ≡ k → marked_on p (suc i) k ≡ set.insert (marked_on p i k) (marked p i)
on_its p i k e = ap (λ (b : Bool). cond b (set.insert (marked_on p i k) (marked p i)) (marked_on p i k)) (eq-eqb (mark_level p i) k e)

on_other : (p : MarkPlan) (i k : ℕ) → (mark_level p i ≡ k → ⊥) → marked_on p (suc i) k ≡ marked_on p i k
on_other p i k ne = ap (λ (b : Bool). cond b (set.insert (marked_on p i k) (marked p i)) (marked_on p i k)) (ne_eqb (mark_level p i) k ne)

pub on_its_level : (p : MarkPlan) (i k : ℕ) → mark_level p i ≡ k → marked_on p (i + 1) k ≡ set.insert (marked_on p i k) (marked p i)
on_its_level p i k e = ap (λ (j : ℕ). marked_on p j k) (add-one i) ∙ on_its p i k e

pub on_another : (p : MarkPlan) (i k : ℕ) → (mark_level p i ≡ k → ⊥) → marked_on p (i + 1) k ≡ marked_on p i k
on_another p i k ne = ap (λ (j : ℕ). marked_on p j k) (add-one i) ∙ on_other p i k ne

-- what is marked so far stands below the next mark
below_next : (p : MarkPlan) (i k n : ℕ) → set.contains (marked_on p i k) n ≡ true → n < marked p i
below_next p zero k n there = absurd (true≢false (sym there ∙ set.contains-empty nat_cmp n))
below_next p (suc i) k n there =
    let rises = marked_rises p i (suc i) (omega arith) in
    elim (cases_eq (mark_level p i) k) [
      | inl e ↦
          let at : set.contains (set.insert (marked_on p i k) (marked p i)) n ≡ true = sym (ap (λ (s : Numbers). set.contains s n) (on_its p i k e)) ∙ there in
          elim (cases_eq n (marked p i)) [
            | inl same ↦ omega (arith, same, rises)
            | inr ne ↦ (let before = below_next p i k n (sym (more_other (marked_on p i k) (marked p i) n ne) ∙ at) in omega (arith, before, rises))
          ]
      | inr ne ↦
          let at : set.contains (marked_on p i k) n ≡ true = sym (ap (λ (s : Numbers). set.contains s n) (on_other p i k ne)) ∙ there in
          let before = below_next p i k n at in
          omega (arith, before, rises)
    ]

not_true : (b : Bool) → (b ≡ true → ⊥) → b ≡ false
not_true true h = absurd (h refl)
not_true false h = refl

-- the next mark is new
pub next_is_new : (p : MarkPlan) (i k : ℕ) → set.contains (marked_on p i k) (marked p i) ≡ false
next_is_new p i k = not_true (set.contains (marked_on p i k) (marked p i)) (λ there. let low = below_next p i k (marked p i) there in absurd (omega (arith, low)))

-- a mark that was set is there
still_there : (p : MarkPlan) (count i : ℕ) → i < suc count → (i < count → set.contains (marked_on p count (mark_level p i)) (marked p i) ≡ true) →
    set.contains (marked_on p (suc count) (mark_level p i)) (marked p i) ≡ true
still_there p count i lt before =
    let k = mark_level p i in
    elim (cases_eq i count) [
      | inl same ↦
          let at : mark_level p count ≡ k = ap (mark_level p) (sym same) in
          ap (λ (s : Numbers). set.contains s (marked p i)) (on_its p count k at) ∙ more_same (marked_on p count k) (marked p count) (marked p i) (ap (marked p) same)
      | inr ne ↦
          let below : i < count = omega (arith, lt, ne) in
          elim (cases_eq (mark_level p count) k) [
            | inl e ↦
                let rises = marked_rises p i count below in
                ap (λ (s : Numbers). set.contains s (marked p i)) (on_its p count k e) ∙ more_other (marked_on p count k) (marked p count) (marked p i) (omega (arith, rises)) ∙ before below
            | inr other ↦ ap (λ (s : Numbers). set.contains s (marked p i)) (on_other p count k other) ∙ before below
          ]
    ]

pub is_marked : (p : MarkPlan) (count i : ℕ) → i < count → set.contains (marked_on p count (mark_level p i)) (marked p i) ≡ true
is_marked p zero i lt = absurd (omega (arith, lt))
is_marked p (suc count) i lt = still_there p count i lt (is_marked p count i)

abbrev one_if : Bool → ℕ
one_if b = cond b 1 0

-- as many are marked on a level as there are marks on it
pub as_many : (p : MarkPlan) (i k : ℕ) → set.len (marked_on p i k) ≡ places_on (mark_level p) k i
as_many p zero k = set.len-empty nat_cmp
as_many p (suc i) k = elim (cases_eq (mark_level p i) k) [
  | inl e ↦
      let one : one_if (mark_level p i == k) ≡ 1 = ap one_if (eq-eqb (mark_level p i) k e) in
      let more : set.len (marked_on p (suc i) k) ≡ set.len (marked_on p i k) + 1 = ap (λ (s : Numbers). set.len s) (on_its p i k e) ∙ len_one_more (marked_on p i k) (marked p i) (next_is_new p i k) in
      let before = as_many p i k in
      omega (arith, one, more, before)
  | inr ne ↦
      let none : one_if (mark_level p i == k) ≡ 0 = ap one_if (ne_eqb (mark_level p i) k ne) in
      let same : set.len (marked_on p (suc i) k) ≡ set.len (marked_on p i k) = ap (λ (s : Numbers). set.len s) (on_other p i k ne) in
      let before = as_many p i k in
      omega (arith, none, same, before)
]

few_on : (level : ℕ → ℕ) (k i : ℕ) → places_on level k i ≤ i
few_on level k zero = omega arith
few_on level k (suc i) =
    let before = few_on level k i in
    elim (cases_Bool (level i == k)) [
      | inl e ↦ (let one : one_if (level i == k) ≡ 1 = ap one_if e in omega (arith, before, one))
      | inr e ↦ (let none : one_if (level i == k) ≡ 0 = ap one_if e in omega (arith, before, none))
    ]

-- a level with more slots than so many has room for one more
more_room : (s : Slots) (steps n : ℕ) → HasMore s n → n < steps → n < least s steps
more_room (Count slots) steps n more below = omega (arith, more, below)
more_room Unlimited steps n more below = below

stride_low : (p : MarkPlan) (i : ℕ) → i ≤ marked p i
stride_low p i = le-mul_of_pos_right i (let some = stride_some p in omega (arith, some))

-- what is asked of the level of a mark before it is set there
pub may_set : (p : MarkPlan) (i : ℕ) (store : List ShelfState) → IsRoomy p.slots (level_at p.slots) (capacity p) → i < capacity p → marked p i < span p → AreSet p i store →
    (mark_level p i < length store) × (marked p i < length (level_of store (mark_level p i)).pairs) × (kept_at store (mark_level p i) (marked p i) ≡ None)
    × (held (level_of store (mark_level p i)).pairs < (level_of store (mark_level p i)).room)
may_set p i store roomy room below laid =
    let k = mark_level p i in
    let known = roomy.known i room in
    let levels = laid.levels in
    let within : k < length store = omega (arith, known, levels) in
    let level = laid.each k within in
    let slots = get_or p.slots k (Count 0) in
    let low = stride_low p i in
    let few = few_on (mark_level p) k i in
    let more = more_room slots (span p) (places_on (mark_level p) k i) (roomy.more i room) (omega (arith, few, low, below)) in
    let count = level.count in
    let many = as_many p i k in
    let is_room = level.room in (
      within,
      has_place (span p) slots (marked_on p i k) (level_of store k) (marked p i) level below,
      is_new (span p) slots (marked_on p i k) (level_of store k) (marked p i) level (next_is_new p i k),
      omega (arith, more, count, many, is_room),
    )

-- what is asked of the level of a mark before it is got
pub may_get : (p : MarkPlan) (i : ℕ) (store : List ShelfState) → IsRoomy p.slots (level_at p.slots) (capacity p) → i < capacity p → i < mark_count p → AreSet p (mark_count p) store →
    (mark_level p i < length store) × IsSome (kept_at store (mark_level p i) (marked p i))
may_get p i store roomy room known laid =
    let k = mark_level p i in
    let there = roomy.known i room in
    let levels = laid.levels in
    let within : k < length store = omega (arith, there, levels) in
    (within, is_there (span p) (get_or p.slots k (Count 0)) (marked_on p (mark_count p) k) (level_of store k) (marked p i) (laid.each k within) (is_marked p (mark_count p) i known))

-- the keeper of a level, where there are keepers with so many slots
slots_at : {K : Type 0} (f : K → ℕ) (ks : List K) (k : ℕ) → k < length ks → get_or (map f ks) k 0 ≡ by_number 0 f ks k
slots_at f [] k within = absurd (omega (arith, within))
slots_at f (x ∷ xs) k within =
    get_or-map f (x ∷ xs) k x 0 within ∙ sym (ap (λ o. option_map_or f o 0) (slice_get-get_or (x ∷ xs) k x within))

pub has_keeper : {K : Type 0} (f : K → ℕ) (ks : List K) (p : MarkPlan) (i k : ℕ) (store : List ShelfState) → AreSet p i store → HaveRoom (span p) p.slots (map f ks) → k < length store →
    (k < length ks) × ((level_of store k).room ≤ by_number 0 f ks k)
has_keeper f ks p i k store laid room within =
    let levels = laid.levels in
    let has = room k (omega (arith, within, levels)) in
    let counted = has.0 in
    let long = length-map ks f in
    let there : k < length ks = omega (arith, counted, long) in
    let level = (laid.each k within).room in
    let enough = has.1 in
    let same = slots_at f ks k there in
    (there, omega (arith, enough, same, level))

abbrev AnyBytes : ℕ → List ℕ → Type 0
AnyBytes n bytes = Unit {0}

module _ (p : MarkPlan) (i : ℕ) (old new : Levels) (bytes : List ℕ) (below : marked p i < span p) (count : length new.store ≡ length old.store)
    (keeps : Keeps old new (mark_level p i) (marked p i) bytes) (others : (j : ℕ) → j ≢ mark_level p i → IsAsBefore old new j) (laid : AreSet p i old.store) where
  abbrev Laid : ℕ → Numbers → ShelfState → Type 0
  Laid k numbers level = IsLevelLaidOut (span p) (get_or p.slots k (Count 0)) numbers level

  -- one mark more is set
  pub set_more : AreSet p (i + 1) new.store
  set_more = record {
    levels = count ∙ laid.levels;
    each = λ k within.
        let inside : k < length old.store = omega (arith, within, count) in
        elim (cases_eq k (mark_level p i)) [
          | inl e ↦
              let L = mark_level p i in
              let there = subst (λ (j : ℕ). j < length old.store) e inside in
              let gained = laid_gains AnyBytes (span p) p.slots L (marked_on p i L) (level_of old.store L) (level_of new.store L) (old.told L) (new.told L) (marked p i) bytes (laid.each L there) below (next_is_new p i L) tt keeps in
              let here = subst (λ (x : Numbers). Laid L x (level_of new.store L)) (sym (on_its_level p i L refl)) gained in
              subst (λ (j : ℕ). Laid j (marked_on p (i + 1) j) (level_of new.store j)) (sym e) here
          | inr ne ↦
              let same = on_another p i k (λ e. ne (sym e)) in
              let before = (others k ne).0 in
              subst (λ (x : ShelfState). Laid k (marked_on p (i + 1) k) x) (sym before) (subst (λ (x : Numbers). Laid k x (level_of old.store k)) (sym same) (laid.each k inside))
        ];
  }

  -- and the levels that stood stand
  pub stand_more : (first : MachineState) (journal : List (List ℕ)) → mark_level p i < length old.store → bytes ≡ image (state_number first journal (marked p i)) → StandAt first journal p i old.store old.told →
      StandAt first journal p (i + 1) new.store new.told
  stand_more first journal there good stands k mark known at =
      elim (cases_eq k (mark_level p i)) [
        | inl e ↦
            let L = mark_level p i in
            let gained = stands_gains (state_number first journal) (span p) p.slots L (marked_on p i L) (level_of old.store L) (level_of new.store L) (old.told L) (new.told L) (marked p i) bytes (laid.each L there, stands L mark known (at ∙ e)) below (next_is_new p i L) good keeps in
            let here = subst (λ (x : Numbers). LevelStandsAt (state_number first journal) x (level_of new.store L) (new.told L)) (sym (on_its_level p i L refl)) gained.1 in
            subst (λ (j : ℕ). LevelStandsAt (state_number first journal) (marked_on p (i + 1) j) (level_of new.store j) (new.told j)) (sym e) here
        | inr ne ↦
            let same = on_another p i k (λ e. ne (sym e)) in
            let before = others k ne in
            subst (λ (o : Option Images). LevelStandsAt (state_number first journal) (marked_on p (i + 1) k) (level_of new.store k) o) (sym before.1)
            (subst (λ (x : ShelfState). LevelStandsAt (state_number first journal) (marked_on p (i + 1) k) x (old.told k)) (sym before.0)
            (subst (λ (x : Numbers). LevelStandsAt (state_number first journal) x (level_of old.store k) (old.told k)) (sym same) (stands k mark known at)))
      ]

  -- what is kept of the new mark
  kept_here : (first : MachineState) (journal : List (List ℕ)) → bytes ≡ image (state_number first journal (marked p i)) → marked p i < length (level_of old.store (mark_level p i)).pairs → IsMarkKept first journal p new.store i
  kept_here first journal good number =
      let L = mark_level p i in
      let n = marked p i in
      let kept = kept_in keeps.slot bytes in
      record {
        kept = kept;
        held = ap (λ (s : ShelfState). pair_at s.pairs n) keeps.pairs ∙ get_or-set_same (level_of old.store L).pairs n (Some kept) None number;
        length_is = ap (λ (l : List ℕ). length l) good;
        digest_is = ap sha256 good;
      }

  -- and of one that was set before
  kept_still : (first : MachineState) (journal : List (List ℕ)) (j : ℕ) → j < i → IsMarkKept first journal p old.store j → IsMarkKept first journal p new.store j
  kept_still first journal j lt k =
      let L = mark_level p i in
      let n = marked p i in
      let l = mark_level p j in
      let m = marked p j in
      let rises = marked_rises p j i lt in
      let other : m ≢ n = λ e. absurd (omega (arith, rises, e)) in
      record {
        kept = k.kept;
        held = elim (cases_eq l L) [
          | inl e ↦
              let P : ℕ → Type 0 = λ x. kept_at new.store x m ≡ Some k.kept in
              let Q : ℕ → Type 0 = λ x. kept_at old.store x m ≡ Some k.kept in
              subst P (sym e) (ap (λ (s : ShelfState). pair_at s.pairs m) keeps.pairs ∙ get_or-set_other (level_of old.store L).pairs n m (Some (kept_in keeps.slot bytes)) None other ∙ subst Q e k.held)
          | inr ne ↦ ap (λ (s : ShelfState). pair_at s.pairs m) (others l ne).0 ∙ k.held
        ];
        length_is = k.length_is;
        digest_is = k.digest_is;
      }

  pub kept_more : (first : MachineState) (journal : List (List ℕ)) → bytes ≡ image (state_number first journal (marked p i)) → marked p i < length (level_of old.store (mark_level p i)).pairs →
      AreKept first journal p i old.store → AreKept first journal p (i + 1) new.store
  kept_more first journal good number kept j lt = elim (cases_eq j i) [
    | inl e ↦ subst (λ (x : ℕ). IsMarkKept first journal p new.store x) (sym e) (kept_here first journal good number)
    | inr ne ↦ (let below : j < i = omega (arith, lt, ne) in kept_still first journal j below (kept j below))
  ]

-- at the start no mark is set, and where the levels of the marks tell that stands
nothing_held : (steps : ℕ) (slots : List Slots) (k : ℕ) → k < length slots → held_on (start steps slots) k ≡ set.empty
nothing_held steps slots k within = get_or-map (λ (_ : Slots). set.empty {R = nat_cmp}) slots k (Count 0) set.empty within

pub none_set : (p : MarkPlan) → AreSet p 0 (no_pairs_on p.slots (span p))
none_set p =
    let laid = begun_is_laid_out (span p) p.slots in
    record {
      levels = laid.levels;
      each = λ k within.
          let levels = laid.levels in
          subst (λ (x : Numbers). IsLevelLaidOut (span p) (get_or p.slots k (Count 0)) x (level_of (no_pairs_on p.slots (span p)) k)) (nothing_held (span p) p.slots k (omega (arith, within, levels))) (laid.each k within);
    }

-- units of one step are steps
one_step_units : (first : MachineState) (journal : List (List ℕ)) (numbers : Numbers) (level : ShelfState) (told : Option Images) →
    LevelStandsAt (unit_states first journal 1) numbers level told → LevelStandsAt (state_number first journal) numbers level told
one_step_units first journal numbers level told stands = (
  stands.0,
  (
    λ n. let one : 1 * n ≡ n = omega arith in stands.1.0 n ∙ ap (λ (m : ℕ). cond (set.contains numbers n) (Some (image (state_number first journal m))) None) one,
    stands.1.1,
  ),
)

pub none_stand : (first : MachineState) (journal : List (List ℕ)) (p : MarkPlan) (told : ℕ → Option Images) → IsRoomy p.slots (level_at p.slots) (capacity p) → 1 ≤ capacity p → MarksTell p told →
    StandAt first journal p 0 (no_pairs_on p.slots (span p)) told
none_stand first journal p told roomy room tells k mark known at =
    let some : IsSome (told k) = subst (λ (j : ℕ). IsSome (told j)) at (tells mark known) in
    let stands = begun_stands first journal 1 (span p) p.slots (record { states = []; after = first }) (λ j. told k) (λ j lt. some) in
    let levels = (begun_is_laid_out (span p) p.slots).levels in
    let there = roomy.known mark (mark_has_room p mark room known) in
    let within : k < length (no_pairs_on p.slots (span p)) = omega (arith, there, levels, at) in
    let level = level_of (no_pairs_on p.slots (span p)) k in
    let units = subst (λ (x : Numbers). LevelStandsAt (unit_states first journal 1) x level (told k)) (nothing_held (span p) p.slots k (omega (arith, within, levels))) (stands.levels k within) in
    one_step_units first journal set.empty level (told k) units

-- what is asked where an image is kept, and where one is fetched
pub record MayKeep {K : Type 0} (f : K → ℕ) (ks : List K) (store : List ShelfState) (k n : ℕ) : Type 0 where
  pub there : k < length ks
  pub level : k < length store
  pub number : n < length (level_of store k).pairs
  pub new : kept_at store k n ≡ None
  pub room : held (level_of store k).pairs < (level_of store k).room
  pub slots : (level_of store k).room ≤ by_number 0 f ks k

pub record MayFetch {K : Type 0} (f : K → ℕ) (ks : List K) (store : List ShelfState) (k n : ℕ) : Type 0 where
  pub there : k < length ks
  pub level : k < length store
  pub held : IsSome (kept_at store k n)
  pub slots : (level_of store k).room ≤ by_number 0 f ks k

pub may_keep : {K : Type 0} (f : K → ℕ) (ks : List K) (p : MarkPlan) (i k n : ℕ) (store store' : List ShelfState) → k ≡ mark_level p i → n ≡ marked p i → store' ≡ store →
    IsRoomy p.slots (level_at p.slots) (capacity p) → 1 ≤ capacity p → i < mark_count p → AreSet p i store → HaveRoom (span p) p.slots (map f ks) → MayKeep f ks store' k n
may_keep f ks p i k n store store' ek en es roomy room known laid have =
    let L = mark_level p i in
    let m = marked p i in
    let may = may_set p i store roomy (mark_has_room p i room known) (marked_below p i known) laid in
    let has = has_keeper f ks p i L store laid have may.0 in
    let base : MayKeep f ks store L m = record { there = has.0; level = may.0; number = may.1; new = may.2; room = may.3; slots = has.1 } in
    subst (λ (x : ℕ). MayKeep f ks store' x n) (sym ek) (subst (λ (x : ℕ). MayKeep f ks store' L x) (sym en) (subst (λ (x : List ShelfState). MayKeep f ks x L m) (sym es) base))

pub may_fetch : {K : Type 0} (f : K → ℕ) (ks : List K) (p : MarkPlan) (i k n : ℕ) (store : List ShelfState) → k ≡ mark_level p i → n ≡ marked p i →
    IsRoomy p.slots (level_at p.slots) (capacity p) → 1 ≤ capacity p → i < mark_count p → AreSet p (mark_count p) store → HaveRoom (span p) p.slots (map f ks) → MayFetch f ks store k n
may_fetch f ks p i k n store ek en roomy room known laid have =
    let L = mark_level p i in
    let m = marked p i in
    let may = may_get p i store roomy (mark_has_room p i room known) known laid in
    let has = has_keeper f ks p (mark_count p) L store laid have may.0 in
    let base : MayFetch f ks store L m = record { there = has.0; level = may.0; held = may.1; slots = has.1 } in
    subst (λ (x : ℕ). MayFetch f ks store x n) (sym ek) (subst (λ (x : ℕ). MayFetch f ks store L x) (sym en) base)

-- the same of a mark that was set, by the level and the number that the code has
module _ (p : MarkPlan) (i k n : ℕ) (store store' after : List ShelfState) (told told' : ℕ → Option Images) (bytes : List ℕ) (ek : k ≡ mark_level p i) (en : n ≡ marked p i) (es : store' ≡ store)
    (below : marked p i < span p) (count : length after ≡ length store') (keeps : Keeps (record { store = store'; told = told }) (record { store = after; told = told' }) k n bytes)
    (others : (j : ℕ) → j ≢ k → IsAsBefore (record { store = store'; told = told }) (record { store = after; told = told' }) j) (laid : AreSet p i store) where
  abbrev before : Levels
  before = record { store = store; told = told }

  abbrev after_it : Levels
  after_it = record { store = after; told = told' }

  keeps_there : Keeps before after_it (mark_level p i) (marked p i) bytes
  keeps_there =
      subst (λ (x : ℕ). Keeps before after_it (mark_level p i) x bytes) en
      (subst (λ (x : ℕ). Keeps before after_it x n bytes) ek
      (subst (λ (s : List ShelfState). Keeps (record { store = s; told = told }) after_it k n bytes) es keeps))

  others_there : (j : ℕ) → j ≢ mark_level p i → IsAsBefore before after_it j
  others_there j ne = subst (λ (s : List ShelfState). IsAsBefore (record { store = s; told = told }) after_it j) es (others j (λ e. ne (e ∙ ek)))

  pub set_after : AreSet p (i + 1) after
  set_after = set_more p i before after_it bytes below (count ∙ ap length es) keeps_there others_there laid

  pub stand_after : (first : MachineState) (journal : List (List ℕ)) → mark_level p i < length store → bytes ≡ image (state_number first journal (marked p i)) → StandAt first journal p i store told → StandAt first journal p (i + 1) after told'
  stand_after first journal there good stands = stand_more p i before after_it bytes below (count ∙ ap length es) keeps_there others_there laid first journal there good stands

  number_there : n < length (level_of store' k).pairs → marked p i < length (level_of store (mark_level p i)).pairs
  number_there number =
      subst (λ (x : ℕ). x < length (level_of store (mark_level p i)).pairs) en
      (subst (λ (x : ℕ). n < length (level_of store x).pairs) ek
      (subst (λ (s : List ShelfState). n < length (level_of s k).pairs) es number))

  pub kept_after : (first : MachineState) (journal : List (List ℕ)) → bytes ≡ image (state_number first journal (marked p i)) → n < length (level_of store' k).pairs → AreKept first journal p i store → AreKept first journal p (i + 1) after
  kept_after first journal good number kept = kept_more p i before after_it bytes below (count ∙ ap length es) keeps_there others_there laid first journal good (number_there number) kept

-- each mark has a level of the store
pub marks_there : (p : MarkPlan) (i : ℕ) (store : List ShelfState) → IsRoomy p.slots (level_at p.slots) (capacity p) → 1 ≤ capacity p → AreSet p i store → (j : ℕ) → j < mark_count p → mark_level p j < length store
marks_there p i store roomy room laid j known =
    let levels = laid.levels in
    let there = roomy.known j (mark_has_room p j room known) in
    omega (arith, there, levels)
