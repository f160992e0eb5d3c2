-- What holds of each level follows the configuration through every action.
use Rattle.reverse_runner.proofs.Common.{◌≡◌, ℕ, ◌∙◌, false, refl, ap, sym, subst, arith, ◌≢◌, inl, inr, List, get_or, set as put, Option, Some, length, ◌<◌, true, length-set, cases_eq, get_or-set_same, get_or-set_other, Action, Forward, Copy, Move, Reverse, EndForward, EndReverse, Work, Level, Store, Nothing, Tape, Configuration, held_on, without_held, Goes, Slots, IsSound, image, Images, IsKept, IsFreed, without_pair, pair_at, ShelfState, level_of, Kept, Holdings, Acts, IsFetched, Levels, IsAsBefore, Numbers}
use Rattle.std.specs.FinSet as set

-- what is asked of a level: of its number, of the numbers and the pairs that it holds, and of what its keeper tells
abbrev pub LevelFact : Type 1
LevelFact = ℕ → Numbers → ShelfState → Option Images → Type 0

-- it holds of each level
abbrev pub HoldsOf : LevelFact → Configuration → Levels → Type 0
HoldsOf P c s = (k : ℕ) → k < length s.store → P k (held_on c k) (level_of s.store k) (s.told k)

-- it stays where a level gets a pair whose bytes are good, and where it loses one
abbrev pub Gains : LevelFact → (ℕ → List ℕ → Type 0) → ℕ → Type 0
Gains P Good steps =
    (k : ℕ) (numbers : Numbers) (level level' : ShelfState) (before after : Option Images) (n : ℕ) (bytes : List ℕ) → P k numbers level before → n < steps →
    set.contains numbers n ≡ false → Good n bytes → IsKept level level' n bytes before after → P k (set.insert numbers n) level' after

abbrev pub Loses : LevelFact → Type 0
Loses P =
    (k : ℕ) (numbers : Numbers) (level level' : ShelfState) (before after : Option Images) (n : ℕ) (kept : Kept) → P k numbers level before →
    pair_at level.pairs n ≡ Some kept → level' ≡ without_pair level n → IsFreed kept before after → P k (set.remove numbers n) level' after

-- what holds of a level holds of one that is equal
carry : (P : LevelFact) (k : ℕ) (s t : Numbers) (l m : ShelfState) (x y : Option Images) → t ≡ s → m ≡ l → y ≡ x → P k s l x → P k t m y
carry P k s t l m x y e f g h =
    subst (λ (o : Option Images). P k t m o) (sym g) (subst (λ (o : ShelfState). P k t o x) (sym f) (subst (λ (o : Numbers). P k o l x) (sym e) h))

-- no level is changed
none_changed : (P : LevelFact) (c d : Configuration) (old new : Levels) → d.held ≡ c.held → length new.store ≡ length old.store → HoldsOf P c old →
    ((j : ℕ) → IsAsBefore old new j) → HoldsOf P d new
none_changed P c d old new held count all before j lt =
    carry P j (held_on c j) (held_on d j) (level_of old.store j) (level_of new.store j) (old.told j) (new.told j) (ap (λ h. get_or h j set.empty) held)
    (before j).0 (before j).1 (all j (omega (arith, lt, count)))

-- one level is changed
one_changed : (P : LevelFact) (c d : Configuration) (old new : Levels) (k : ℕ) (x : Numbers) → k < length c.held → d.held ≡ put c.held k x →
    length new.store ≡ length old.store → HoldsOf P c old → P k x (level_of new.store k) (new.told k) → ((j : ℕ) → j ≢ k → IsAsBefore old new j) → HoldsOf P d new
one_changed P c d old new k x within held count all here before j lt = elim (cases_eq j k) [
  | inl e ↦
      let there = ap (λ h. get_or h k set.empty) held ∙ get_or-set_same c.held k x set.empty within in
      subst (λ (i : ℕ). P i (held_on d i) (level_of new.store i) (new.told i)) (sym e)
      (carry P k x (held_on d k) (level_of new.store k) (level_of new.store k) (new.told k) (new.told k) there refl refl here)
  | inr ne ↦
      let there = ap (λ h. get_or h j set.empty) held ∙ get_or-set_other c.held k j x set.empty ne in
      carry P j (held_on c j) (held_on d j) (level_of old.store j) (level_of new.store j) (old.told j) (new.told j) there (before j ne).0 (before j ne).1
      (all j (omega (arith, lt, count)))
]

-- two levels are changed
two_changed : (P : LevelFact) (c d : Configuration) (old new : Levels) (k i : ℕ) (x y : Numbers) → i ≢ k → k < length c.held → i < length c.held →
    d.held ≡ put (put c.held k x) i y → length new.store ≡ length old.store → HoldsOf P c old → P k x (level_of new.store k) (new.told k) →
    P i y (level_of new.store i) (new.told i) → ((j : ℕ) → j ≢ i → j ≢ k → IsAsBefore old new j) → HoldsOf P d new
two_changed P c d old new k i x y apart within_k within_i held count all at_k at_i before j lt =
    let longer = length-set c.held k x in
    elim (cases_eq j i) [
      | inl e ↦
          let there = ap (λ h. get_or h i set.empty) held ∙ get_or-set_same (put c.held k x) i y set.empty (omega (arith, within_i, longer)) in
          subst (λ (q : ℕ). P q (held_on d q) (level_of new.store q) (new.told q)) (sym e)
          (carry P i y (held_on d i) (level_of new.store i) (level_of new.store i) (new.told i) (new.told i) there refl refl at_i)
      | inr ni ↦
          let past = ap (λ h. get_or h j set.empty) held ∙ get_or-set_other (put c.held k x) i j y set.empty ni in
          elim (cases_eq j k) [
            | inl e ↦
                let there = ap (λ h. get_or h k set.empty) held ∙ get_or-set_other (put c.held k x) i k y set.empty (λ q. apart (sym q))
                ∙ get_or-set_same c.held k x set.empty within_k in
                subst (λ (q : ℕ). P q (held_on d q) (level_of new.store q) (new.told q)) (sym e)
                (carry P k x (held_on d k) (level_of new.store k) (level_of new.store k) (new.told k) (new.told k) there refl refl at_k)
            | inr nk ↦
                let there = past ∙ get_or-set_other c.held k j x set.empty nk in
                carry P j (held_on c j) (held_on d j) (level_of old.store j) (level_of new.store j) (old.told j) (new.told j) there
                (before j ni nk).0 (before j ni nk).1 (all j (omega (arith, lt, count)))
          ]
    ]

-- what is said of the bytes that are stored, and of those that are fetched
abbrev pub StoredAreGood : (ℕ → List ℕ → Type 0) → Action → Holdings → Type 0
StoredAreGood Good a old = (from to k : ℕ) → a ≡ Forward from to (Store k) → Good from (image old.work)

abbrev pub FetchedAreGood : (ℕ → List ℕ → Type 0) → ℕ → Configuration → Holdings → Type 0
FetchedAreGood Good steps c old =
    (n k : ℕ) (got : List ℕ) → k < length old.levels.store → set.contains (held_on c k) n ≡ true → IsFetched old.levels k n got → Good n got × (n < steps)

-- what holds of each level holds after an action
pub levels_follow : (P : LevelFact) (Good : ℕ → List ℕ → Type 0) (journal : List (List ℕ)) (unit steps : ℕ) (slots : List Slots) (c : Configuration) (a : Action) (d : Configuration) (old new : Holdings) →
    Gains P Good steps → Loses P → IsSound steps slots c → length old.levels.store ≡ length slots → Goes steps slots c a d → Acts unit journal a old new →
    StoredAreGood Good a old → FetchedAreGood Good steps c old → HoldsOf P c old.levels → HoldsOf P d new.levels
levels_follow P Good journal unit steps slots c (Forward from to Nothing) d old new gains loses sound levels g acts stored fetched all =
    none_changed P c d old.levels new.levels (ap (λ (x : Configuration). x.held) g.2) acts.count all acts.does.2
levels_follow P Good journal unit steps slots c (Forward from to (Store k)) d old new gains loses sound levels g acts stored fetched all =
    let s = held_on c k in
    let here = all k (omega (arith, g.2.level, levels)) in
    one_changed P c d old.levels new.levels k (set.insert s from) (omega (arith, g.2.level, sound.level_count)) (ap (λ (x : Configuration). x.held) g.3) acts.count all
    (gains k s (level_of old.levels.store k) (level_of new.levels.store k) (old.levels.told k) (new.levels.told k) from (image old.work) here
    (omega (arith, g.1.ahead, g.1.within, sound.within)) g.2.new (stored from to k refl) acts.does.2) acts.does.3
levels_follow P Good journal unit steps slots c (Forward from to Tape) d old new gains loses sound levels g acts stored fetched all =
    none_changed P c d old.levels new.levels (ap (λ (x : Configuration). x.held) g.5) acts.count all acts.does.2
levels_follow P Good journal unit steps slots c (Reverse from to) d old new gains loses sound levels g acts stored fetched all =
    none_changed P c d old.levels new.levels (ap (λ (x : Configuration). x.held) g.5) acts.count all acts.does.2
levels_follow P Good journal unit steps slots c (Copy n k Work) d old new gains loses sound levels g acts stored fetched all =
    none_changed P c d old.levels new.levels (ap (λ (x : Configuration). x.held) g.2) acts.count all acts.does.2
levels_follow P Good journal unit steps slots c (Copy n k (Level j)) d old new gains loses sound levels g acts stored fetched all =
    let s = held_on c j in
    let got = acts.does.2 in
    let good = fetched n k got.0 (omega (arith, g.1.level, levels)) g.1.there got.1.0 in
    one_changed P c d old.levels new.levels j (set.insert s n) (omega (arith, g.3.level, sound.level_count)) (ap (λ (x : Configuration). x.held) g.4) acts.count all
    (gains j s (level_of old.levels.store j) (level_of new.levels.store j) (old.levels.told j) (new.levels.told j) n got.0 (all j (omega (arith, g.3.level, levels)))
    good.1 g.3.new good.0 got.1.1) acts.does.3
levels_follow P Good journal unit steps slots c (Move n k Work) d old new gains loses sound levels g acts stored fetched all =
    let s = held_on c k in
    let gone = acts.does.2 in
    one_changed P c d old.levels new.levels k (set.remove s n) (omega (arith, g.1.level, sound.level_count)) (ap (λ (x : Configuration). x.held) g.2) acts.count all
    (loses k s (level_of old.levels.store k) (level_of new.levels.store k) (old.levels.told k) (new.levels.told k) n gone.1.0 (all k (omega (arith, g.1.level, levels)))
    gone.1.1 gone.0 gone.1.2) acts.does.3
levels_follow P Good journal unit steps slots c (Move n k (Level j)) d old new gains loses sound levels g acts stored fetched all =
    let s = held_on c k in
    let t = held_on c j in
    let got = acts.does.2 in
    let gone = acts.does.3 in
    let good = fetched n k got.0 (omega (arith, g.1.level, levels)) g.1.there got.1.0 in
    let within : k < length c.held = omega (arith, g.1.level, sound.level_count) in
    let same : held_on (without_held c n k) j ≡ t = get_or-set_other c.held k j (set.remove s n) set.empty g.2 in
    let less = loses k s (level_of old.levels.store k) (level_of new.levels.store k) (old.levels.told k) (new.levels.told k) n gone.1.0 (all k (omega (arith, g.1.level, levels)))
    gone.1.1 gone.0 gone.1.2 in
    let more = gains j t (level_of old.levels.store j) (level_of new.levels.store j) (old.levels.told j) (new.levels.told j) n got.0 (all j (omega (arith, g.3.level, levels)))
    good.1 g.3.new good.0 got.1.1 in
    two_changed P c d old.levels new.levels k j (set.remove s n) (set.insert (held_on (without_held c n k) j) n) g.2 within
    (omega (arith, g.3.level, sound.level_count)) (ap (λ (x : Configuration). x.held) g.4) acts.count all less
    (carry P j (set.insert t n) (set.insert (held_on (without_held c n k) j) n) (level_of new.levels.store j) (level_of new.levels.store j) (new.levels.told j) (new.levels.told j)
    (ap (λ (x : Numbers). set.insert x n) same) refl refl more) acts.does.4
levels_follow P Good journal unit steps slots c EndForward d old new gains loses sound levels g acts stored fetched all =
    none_changed P c d old.levels new.levels (ap (λ (x : Configuration). x.held) g.3) acts.count all acts.does.2
levels_follow P Good journal unit steps slots c EndReverse d old new gains loses sound levels g acts stored fetched all =
    none_changed P c d old.levels new.levels (ap (λ (x : Configuration). x.held) g.3) acts.count all acts.does.2
