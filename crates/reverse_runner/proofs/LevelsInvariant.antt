-- Levels are laid out, stand and are alone after every action where they were before it.
use Rattle.reverse_runner.proofs.Common.{◌≡◌, ℕ, ◌+◌, ◌∙◌, false, ap, sym, subst, arith, ◌≢◌, inl, inr, List, get_or, set as put, Some, None, ◌<◌, true, cond, not, ◌||◌, ◌&&◌, length-set, cases_eq, get_or-set_same, get_or-set_other, same_Some, is_some, Slots, Count, MachineState, image, Images, tied, not_tied, inserted, not_inserted, removed, not_removed, level_more, level_less, level_alone_more, level_alone_less, got_is, is_within, held_more, held_less, kept_in, without_pair, with_pair, pair_at, ShelfState, level_of, LevelStands, LevelAlone, Kept, IsFetched, Levels, Numbers, AreImages, LevelStandsAt, IsLevelLaidOut}
use Rattle.std.specs.FinSet as set
use Rattle.std.specs.FinMap as finmap
use Rattle.std.specs.Cmp.{nat_cmp_total}
use Rattle.schedule_rules.proofs.BitsLemmas.{len_one_more, len_one_less}
use Rattle.reverse_runner.proofs.RoomLeft.{has_place, is_new, held_is_below}
use Rattle.reverse_runner.proofs.LevelFacts.{LevelFact, Gains, Loses}

-- a number that was put is there
more_same : (s : Numbers) (n q : ℕ) → q ≡ n → set.contains (set.insert s n) q ≡ true
more_same s n q e = set.contains-insert nat_cmp_total s n q ∙ ap (λ b. b || set.contains s q) (tied q n e)

-- of the others there are those that there were
more_other : (s : Numbers) (n q : ℕ) → q ≢ n → set.contains (set.insert s n) q ≡ set.contains s q
more_other s n q ne = set.contains-insert nat_cmp_total s n q ∙ ap (λ b. b || set.contains s q) (not_tied q n ne)

-- a number that was taken away is not there
less_same : (s : Numbers) (n q : ℕ) → q ≡ n → set.contains (set.remove s n) q ≡ false
less_same s n q e = set.contains-remove nat_cmp_total s n q ∙ ap (λ b. not b && set.contains s q) (tied q n e)

-- of the others there are those that there were
less_other : (s : Numbers) (n q : ℕ) → q ≢ n → set.contains (set.remove s n) q ≡ set.contains s q
less_other s n q ne = set.contains-remove nat_cmp_total s n q ∙ ap (λ b. not b && set.contains s q) (not_tied q n ne)

-- a level is laid out
abbrev pub LaidOut : ℕ → List Slots → LevelFact
LaidOut steps slots k numbers level told = IsLevelLaidOut steps (get_or slots k (Count 0)) numbers level

-- a level that is laid out is so with one pair more
laid_more : (steps : ℕ) (slots : Slots) (s : Numbers) (level : ShelfState) (n : ℕ) (kept : Kept) → n < steps → set.contains s n ≡ false →
    IsLevelLaidOut steps slots s level → IsLevelLaidOut steps slots (set.insert s n) (with_pair level n kept)
laid_more steps slots s level n kept most new laid =
    let within = has_place steps slots s level n laid most in
    let pairs = put level.pairs n (Some kept) in
    record {
      places = length-set level.pairs n (Some kept) ∙ laid.places;
      room = laid.room;
      pairs = λ q. elim (cases_eq q n) [
        | inl e ↦ ap (λ i. is_some (pair_at pairs i)) e ∙ ap is_some (get_or-set_same level.pairs n (Some kept) None within) ∙ sym (more_same s n q e)
        | inr ne ↦ ap is_some (get_or-set_other level.pairs n q (Some kept) None ne) ∙ laid.pairs q ∙ sym (more_other s n q ne)
      ];
      count = held_more level.pairs n kept within (is_new steps slots s level n laid new) ∙ ap (λ i. i + 1) laid.count ∙ sym (len_one_more s n new);
      last = more_other s n steps (omega (arith, most)) ∙ laid.last;
    }

-- a level that is laid out is so with one pair less
laid_less : (steps : ℕ) (slots : Slots) (s : Numbers) (level : ShelfState) (n : ℕ) (kept : Kept) → pair_at level.pairs n ≡ Some kept →
    IsLevelLaidOut steps slots s level → IsLevelLaidOut steps slots (set.remove s n) (without_pair level n)
laid_less steps slots s level n kept is laid =
    let within = is_within level.pairs n kept is in
    let pairs = put level.pairs n None in
    let there : set.contains s n ≡ true = sym (laid.pairs n) ∙ ap is_some is in
    record {
      places = length-set level.pairs n None ∙ laid.places;
      room = laid.room;
      pairs = λ q. elim (cases_eq q n) [
        | inl e ↦ ap (λ i. is_some (pair_at pairs i)) e ∙ ap is_some (get_or-set_same level.pairs n None None within) ∙ sym (less_same s n q e)
        | inr ne ↦ ap is_some (get_or-set_other level.pairs n q None None ne) ∙ laid.pairs q ∙ sym (less_other s n q ne)
      ];
      count = (let less = held_less level.pairs n kept within is in let gone = len_one_less s n there in let count = laid.count in omega (arith, less, gone, count));
      last = elim (cases_eq steps n) [
        | inl e ↦ less_same s n steps e
        | inr ne ↦ less_other s n steps ne ∙ laid.last
      ];
    }

-- a level that gets a pair is laid out
pub laid_gains : (Good : ℕ → List ℕ → Type 0) (steps : ℕ) (slots : List Slots) → Gains (LaidOut steps slots) Good steps
laid_gains Good steps slots k s level level' before after n bytes laid most new good is =
    subst (IsLevelLaidOut steps (get_or slots k (Count 0)) (set.insert s n)) (sym is.pairs)
    (laid_more steps (get_or slots k (Count 0)) s level n (kept_in is.slot bytes) most new laid)

-- a level that loses a pair is laid out
pub laid_loses : (steps : ℕ) (slots : List Slots) → Loses (LaidOut steps slots)
laid_loses steps slots k s level level' before after n kept laid is gone freed =
    subst (IsLevelLaidOut steps (get_or slots k (Count 0)) (set.remove s n)) (sym gone) (laid_less steps (get_or slots k (Count 0)) s level n kept is laid)

-- a level is laid out, and stands
abbrev pub Stands : (ℕ → MachineState) → ℕ → List Slots → LevelFact
Stands states steps slots k numbers level told = LaidOut steps slots k numbers level told × LevelStandsAt states numbers level told

-- bytes are the image of the state with this number
abbrev pub IsImage : (ℕ → MachineState) → ℕ → List ℕ → Type 0
IsImage states n bytes = bytes ≡ image (states n)

-- one image more of a state of the run
images_more : (states : ℕ → MachineState) (s : Numbers) (images : Images) (n : ℕ) (bytes : List ℕ) → IsImage states n bytes →
    AreImages states s images → AreImages states (set.insert s n) (finmap.insert images n bytes)
images_more states s images n bytes good are q = elim (cases_eq q n) [
  | inl e ↦ inserted images n q bytes e ∙ ap Some (good ∙ ap (λ i. image (states i)) (sym e))
      ∙ sym (ap (λ b. cond b (Some (image (states q))) None) (more_same s n q e))
  | inr ne ↦ not_inserted images n q bytes ne ∙ are q ∙ sym (ap (λ b. cond b (Some (image (states q))) None) (more_other s n q ne))
]

-- one image less
pub images_less : (states : ℕ → MachineState) (s : Numbers) (images : Images) (n : ℕ) → AreImages states s images →
    AreImages states (set.remove s n) (finmap.remove images n)
images_less states s images n are q = elim (cases_eq q n) [
  | inl e ↦ removed images n q e ∙ sym (ap (λ b. cond b (Some (image (states q))) None) (less_same s n q e))
  | inr ne ↦ not_removed images n q ne ∙ are q ∙ sym (ap (λ b. cond b (Some (image (states q))) None) (less_other s n q ne))
]

-- a level that gets the image of a state of the run stands
pub stands_gains : (states : ℕ → MachineState) (steps : ℕ) (slots : List Slots) →
    Gains (Stands states steps slots) (IsImage states) steps
stands_gains states steps slots k s level level' before after n bytes stands most new good is =
    let images = finmap.insert stands.1.0 n bytes in
    let within = has_place steps (get_or slots k (Count 0)) s level n stands.0 most in (
      laid_gains (IsImage states) steps slots k s level level' before after n bytes stands.0 most new good is,
      (
        images,
        (
          images_more states s stands.1.0 n bytes good stands.1.1.0,
          subst (λ (x : ShelfState). LevelStands x after images) (sym is.pairs)
              (level_more level.pairs stands.1.0 before after n is.slot bytes within is.unused is.told stands.1.1.1),
        ),
      ),
    )

-- a level that loses an image stands
pub stands_loses : (states : ℕ → MachineState) (steps : ℕ) (slots : List Slots) → Loses (Stands states steps slots)
stands_loses states steps slots k s level level' before after n kept stands is gone freed =
    let images = finmap.remove stands.1.0 n in (
      laid_loses steps slots k s level level' before after n kept stands.0 is gone freed,
      (
        images,
        (
          images_less states s stands.1.0 n stands.1.1.0,
          subst (λ (x : ShelfState). LevelStands x after images) (sym gone) (level_less level.pairs stands.1.0 before after n kept is freed stands.1.1.1),
        ),
      ),
    )

-- a level is laid out, and is alone
abbrev pub IsAlone : ℕ → List Slots → LevelFact
IsAlone steps slots k numbers level told = LaidOut steps slots k numbers level told × LevelAlone level told

-- a level that gets a pair is alone
pub alone_gains : (Good : ℕ → List ℕ → Type 0) (steps : ℕ) (slots : List Slots) → Gains (IsAlone steps slots) Good steps
alone_gains Good steps slots k s level level' before after n bytes alone most new good is =
    let within = has_place steps (get_or slots k (Count 0)) s level n alone.0 most in (
      laid_gains Good steps slots k s level level' before after n bytes alone.0 most new good is,
      subst (λ (x : ShelfState). LevelAlone x after) (sym is.pairs)
          (level_alone_more level.pairs before after n is.slot bytes within (is_new steps (get_or slots k (Count 0)) s level n alone.0 new) is.told alone.1),
    )

-- a level that loses a pair is alone
pub alone_loses : (steps : ℕ) (slots : List Slots) → Loses (IsAlone steps slots)
alone_loses steps slots k s level level' before after n kept alone is gone freed = (
  laid_loses steps slots k s level level' before after n kept alone.0 is gone freed,
  subst (λ (x : ShelfState). LevelAlone x after) (sym gone) (level_alone_less level.pairs before after n kept is freed alone.1),
)

-- the bytes that are fetched of a level that stands are the image
pub fetched_is : (states : ℕ → MachineState) (numbers : Numbers) (s : Levels) (k n : ℕ) (got : List ℕ) →
    LevelStandsAt states numbers (level_of s.store k) (s.told k) → set.contains numbers n ≡ true → IsFetched s k n got → IsImage states n got
fetched_is states numbers s k n got stands there fetched =
    let bytes = got_is (level_of s.store k).pairs stands.0 (s.told k) n fetched.0 got fetched.1 stands.1.1 fetched.2 in
    same_Some _ _ (sym bytes.0 ∙ stands.1.0 n ∙ ap (λ b. cond b (Some (image (states n))) None) there)

-- a number that is fetched is one of the run, and not the last
pub fetched_within : (steps : ℕ) (slots : Slots) (numbers : Numbers) (s : Levels) (k n : ℕ) (got : List ℕ) →
    IsLevelLaidOut steps slots numbers (level_of s.store k) → IsFetched s k n got → n < steps
fetched_within steps slots numbers s k n got laid fetched =
    held_is_below steps slots numbers (level_of s.store k) n laid (sym (laid.pairs n) ∙ ap is_some fetched.1)
