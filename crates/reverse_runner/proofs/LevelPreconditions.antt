-- What an action asks of the levels, and what it does to them.
use Rattle.reverse_runner.proofs.Common.{◌≡◌, ℕ, ◌*◌, ◌∙◌, refl, ap, sym, subst, arith, ◌≢◌, inl, List, get_or, Option, Some, None, vec_len, [], length, Vec, IsSome, ◌<◌, ◌≤◌, Contains, ◌-◌, ◌^◌, ◌∷◌, map, add-zero, zero-add, get_or-map, length-map, slice_get-get_or, option_map_or, sha256, Action, Forward, Copy, Move, Dest, Work, Level, Keep, Store, Nothing, Tape, Configuration, held_on, is_write, IsFree, IsHeld, levels_named, rule, Slots, Count, IsSound, MachineState, state_number, image, Images, Ghosts, IsKept, IsFreed, without_pair, pair_at, held, ShelfState, level_of, kept_at, states_below, Holdings, IsDecoded, Acts, IsFetched, Levels, IsAsBefore, Keeps, Releases, IsOnLevel, MayKeep, IsLaidOut, IsKeeping, one_free, IsOther, Calls, one_if, calls_of, Called, by_number, HaveRoom, pair_read, IsDamage}
use Rattle.schedule_rules.proofs.MovesByRules.{goes}
use Rattle.reverse_runner.specs.declared.fault.RunFault.{RunFault}
use Rattle.reverse_runner.specs.declared.fault.RunFault.TheVariants.{Keeper}
use Rattle.reverse_runner.proofs.AllCalls.{calls_then, called_then, called_same}
use Rattle.reverse_runner.proofs.RoomLeft.{room_left, is_there, is_new, has_place, held_is_below}

-- the slots of the keeper with a number
slots_at : {K : Type 0} (f : K → ℕ) (ks : List K) (k : ℕ) → k < length ks → get_or (map f ks) k 0 ≡ by_number 0 f ks k
slots_at f [] k within = absurd (omega (arith, within))
slots_at f (x ∷ xs) k within =
    get_or-map f (x ∷ xs) k x 0 within ∙ sym (ap (λ o. option_map_or f o 0) (slice_get-get_or (x ∷ xs) k x within))

-- a level has a keeper with slots for its room
has_keeper : {K : Type 0} (f : K → ℕ) (ks : List K) (steps : ℕ) (slots : List Slots) (c : Configuration) (store : List ShelfState) (k : ℕ) →
    IsLaidOut steps slots c store → HaveRoom steps slots (map f ks) → k < length slots → (k < length ks) × ((level_of store k).room ≤ by_number 0 f ks k)
has_keeper f ks steps slots c store k laid room within =
    let counted : k < length (map f ks) = (room k within).0 in
    let there : k < length ks = omega (arith, counted, length-map ks f) in
    let level = laid.each k (omega (arith, within, laid.levels)) in
    (there, omega (arith, (room k within).1, slots_at f ks k there, level.room))

-- the level is one to call on, where the slots stayed and the level is as it was
pub on_level : {K : Type 0} (g : Ghosts K) (ks ls : List K) (steps : ℕ) (slots : List Slots) (c : Configuration) (store after : List ShelfState) (k : ℕ) →
    IsLaidOut steps slots c store → HaveRoom steps slots (map g.slot_count ks) → k < length slots → map g.slot_count ls ≡ map g.slot_count ks → level_of after k ≡ level_of store k → length after ≡ length store →
    IsOnLevel g k after ls
on_level g ks ls steps slots c store after k laid room within same level count =
    let P : ShelfState → Type 0 = λ s. s.room ≤ by_number 0 g.slot_count ls k in
    let has = has_keeper g.slot_count ls steps slots c store k laid (subst (HaveRoom steps slots) (sym same) room) within in
    record {
      there = has.0;
      level = omega (arith, within, laid.levels, count);
      slots = subst P (sym level) has.1;
    }

-- ---- what is asked of a level that gets an image, and of one that gives one

-- the level is free for the image of a state before the last
pub may_get : (steps : ℕ) (slots : List Slots) (c : Configuration) (store : List ShelfState) (n k : ℕ) → IsLaidOut steps slots c store → IsFree slots c n k → n < steps →
    (held (level_of store k).pairs < (level_of store k).room) × (kept_at store k n ≡ None) × (n < length (level_of store k).pairs)
may_get steps slots c store n k laid free before =
    let level = laid.each k (omega (arith, free.level, laid.levels)) in
    let at = get_or slots k (Count 0) in (
      room_left steps at (held_on c k) (level_of store k) n level free.room free.new before,
      is_new steps at (held_on c k) (level_of store k) n level free.new,
      has_place steps at (held_on c k) (level_of store k) n level before,
    )

-- a pair may be kept on a level that is free for it, where the slots and the store stayed
pub may_keep : {K Z : Type 0} (g : Ghosts K) (ks ls : List K) (steps : ℕ) (slots : List Slots) (c : Configuration) (store after : List ShelfState) (n k : ℕ) (buffer : Vec ℕ Z) (digest : List ℕ) →
    IsLaidOut steps slots c store → HaveRoom steps slots (map g.slot_count ks) → map g.slot_count ls ≡ map g.slot_count ks → after ≡ store → IsFree slots c n k → n < steps →
    vec_len buffer < 2 ^ 32 → digest ≡ sha256 buffer.items → MayKeep g k n buffer digest after ls
may_keep g ks ls steps slots c store after n k buffer digest laid room same still free before short taken =
    let get = may_get steps slots c after n k (subst (IsLaidOut steps slots c) (sym still) laid) free before in
    record {
      on = on_level g ks ls steps slots c store after k laid room free.level same (ap (λ (s : List ShelfState). level_of s k) still) (ap length still);
      number = get.2;
      new = get.1;
      room = get.0;
      size = short;
      digest = taken;
    }

-- the level holds the image
pub may_give : (steps : ℕ) (slots : List Slots) (c : Configuration) (store : List ShelfState) (n k : ℕ) → IsLaidOut steps slots c store → IsHeld slots c n k →
    IsSome (kept_at store k n) × (n < steps)
may_give steps slots c store n k laid is =
    let level = laid.each k (omega (arith, is.level, laid.levels)) in
    let at = get_or slots k (Count 0) in
    (is_there steps at (held_on c k) (level_of store k) n level is.there, held_is_below steps at (held_on c k) (level_of store k) n level is.there)

-- a Copy or a Move that breaks no rule reads an image that is held, and what it writes to is free
pub copies_held : (steps : ℕ) (slots : List Slots) (c : Configuration) (n k : ℕ) (dest : Dest) → rule steps slots c (Copy n k dest) ≡ 0 → IsHeld slots c n k
copies_held steps slots c n k Work e = (goes steps slots c (Copy n k Work) e).1
copies_held steps slots c n k (Level j) e = (goes steps slots c (Copy n k (Level j)) e).1

pub moves_held : (steps : ℕ) (slots : List Slots) (c : Configuration) (n k : ℕ) (dest : Dest) → rule steps slots c (Move n k dest) ≡ 0 → IsHeld slots c n k
moves_held steps slots c n k Work e = (goes steps slots c (Move n k Work) e).1
moves_held steps slots c n k (Level j) e = (goes steps slots c (Move n k (Level j)) e).1

pub copies_free : (steps : ℕ) (slots : List Slots) (c : Configuration) (n k j : ℕ) (dest : Dest) → rule steps slots c (Copy n k dest) ≡ 0 → dest ≡ Level j → (j ≢ k) × IsFree slots c n j
copies_free steps slots c n k j dest e is =
    let P : Dest → Type 0 = λ d. rule steps slots c (Copy n k d) ≡ 0 in
    let g = goes steps slots c (Copy n k (Level j)) (subst P is e) in
    (g.2, g.3)

pub moves_apart : (steps : ℕ) (slots : List Slots) (c : Configuration) (n k j : ℕ) (dest : Dest) → rule steps slots c (Move n k dest) ≡ 0 → dest ≡ Level j → j ≢ k
moves_apart steps slots c n k j dest e is =
    let P : Dest → Type 0 = λ d. rule steps slots c (Move n k d) ≡ 0 in
    (goes steps slots c (Move n k (Level j)) (subst P is e)).2

-- a Store that breaks no rule has a level that is free for its image
pub stores_free : (steps : ℕ) (slots : List Slots) (c : Configuration) (from to k : ℕ) → IsSound steps slots c → rule steps slots c (Forward from to (Store k)) ≡ 0 → IsFree slots c from k × (from < steps)
stores_free steps slots c from to k sound e =
    let g = goes steps slots c (Forward from to (Store k)) e in
    (g.2, omega (arith, g.1.ahead, g.1.within, sound.within))

-- ---- which levels an action names

pub copy_names_source : (n k : ℕ) (dest : Dest) → Contains (levels_named (Copy n k dest)) k
copy_names_source n k Work = (0, omega arith, refl)
copy_names_source n k (Level j) = (0, omega arith, refl)

pub copy_names_target : (n k j : ℕ) (dest : Dest) → dest ≡ Level j → Contains (levels_named (Copy n k dest)) j
copy_names_target n k j dest is = let P : Dest → Type 0 = λ d. Contains (levels_named (Copy n k d)) j in subst P (sym is) (1, omega arith, refl)

pub move_names_copied : (n k : ℕ) (dest : Dest) (j : ℕ) → Contains (levels_named (Copy n k dest)) j → Contains (levels_named (Move n k dest)) j
move_names_copied n k Work j h = h
move_names_copied n k (Level i) j h = h

-- a keeper that failed in keeping is that of the level
pub keeping_is_on : (level k : ℕ) (fault : RunFault) → IsKeeping level fault → fault ≡ Keeper k → k ≡ level
keeping_is_on level k fault is e = let P : RunFault → Type 0 = λ f. IsKeeping level f in subst P e is

-- ---- refusals

-- bytes with another digest are damage
pub damage_of : (a : Action) (s : Holdings) (n from k : ℕ) (put got : List ℕ) → pair_read a ≡ Some (n, from) → k ≡ from → IsOther s.levels from n put got → IsDamage a s k put got
damage_of a s n from k put got pair same other =
    let P : ℕ → Type 0 = λ j. IsDamage a s j put got in
    subst P (sym same) (record {
      number = n;
      pair = pair;
      kept = other.kept;
      held = other.held;
      bytes = other.bytes;
      told = other.told;
      put_digest = other.put_digest;
      got_digest = other.got_digest;
      wrong = inl other.other;
    })

-- ---- what becomes of the holdings

-- an image was fetched and decoded, and no level changed
pub copied_to_work : (unit : ℕ) (journal : List (List ℕ)) (n k : ℕ) (dest : Dest) (old new : Holdings) (got : List ℕ) → dest ≡ Work → IsFetched old.levels k n got → IsDecoded old.work new.work got →
    new.tape ≡ old.tape → length new.levels.store ≡ length old.levels.store → ((j : ℕ) → IsAsBefore old.levels new.levels j) → Acts unit journal (Copy n k dest) old new
copied_to_work unit journal n k dest old new got is fetched decoded tape count same =
    let P : Dest → Type 0 = λ d. Acts unit journal (Copy n k d) old new in
    subst P (sym is) (record { count = count; does = ((got, (fetched, decoded)), tape, same) })

-- levels are as before twice
as_before_twice : (a b c : Levels) (k : ℕ) → IsAsBefore a b k → IsAsBefore b c k → IsAsBefore a c k
as_before_twice a b c k x y = (y.0 ∙ x.0, y.1 ∙ x.1)

-- what is released of a level that is as before
released_before : (a b c : Levels) (k n : ℕ) → IsAsBefore a b k → Releases b c k n → Releases a c k n
released_before a b c k n same releases =
    let P : ShelfState → Type 0 = λ s. level_of c.store k ≡ without_pair s n in
    let Q : ShelfState → Type 0 = λ s. pair_at s.pairs n ≡ Some releases.1.0 in
    let R : Option Images → Type 0 = λ o. IsFreed releases.1.0 o (c.told k) in
    (subst P same.0 releases.0, (releases.1.0, subst Q same.0 releases.1.1, subst R same.1 releases.1.2))

-- what is kept on a level that is as before afterwards
kept_after : (a b c : Levels) (k n : ℕ) (bytes : List ℕ) → Keeps a b k n bytes → IsAsBefore b c k → Keeps a c k n bytes
kept_after a b c k n bytes keeps same =
    let P : ShelfState → Type 0 = λ s. IsKept (level_of a.store k) s n bytes (a.told k) (b.told k) in
    let Q : Option Images → Type 0 = λ o. IsKept (level_of a.store k) (level_of c.store k) n bytes (a.told k) o in
    subst Q (sym same.1) (subst P (sym same.0) keeps)

-- a Move is a Copy, and then the release of its image
pub moved : (unit : ℕ) (journal : List (List ℕ)) (n k : ℕ) (dest : Dest) (a b c : Holdings) → ((j : ℕ) → dest ≡ Level j → j ≢ k) → Acts unit journal (Copy n k dest) a b → Releases b.levels c.levels k n →
    c.work ≡ b.work → c.tape ≡ b.tape → length c.levels.store ≡ length b.levels.store → ((j : ℕ) → j ≢ k → IsAsBefore b.levels c.levels j) → Acts unit journal (Move n k dest) a c
moved unit journal n k Work a b c apart acts releases work tape count others =
    let P : MachineState → Type 0 = λ s. (got : List ℕ) × (IsFetched a.levels k n got × IsDecoded a.work s got) in
    record {
      count = count ∙ acts.count;
      does = (
        subst P (sym work) acts.does.0,
        tape ∙ acts.does.1,
        released_before a.levels b.levels c.levels k n (acts.does.2 k) releases,
        λ j ne. as_before_twice a.levels b.levels c.levels j (acts.does.2 j) (others j ne),
      );
    }
moved unit journal n k (Level j) a b c apart acts releases work tape count others =
    let ne = apart j refl in
    let got = acts.does.2 in
    record {
      count = count ∙ acts.count;
      does = (
        work ∙ acts.does.0,
        tape ∙ acts.does.1,
        (got.0, (got.1.0, kept_after a.levels b.levels c.levels j n got.0 got.1.1 (others j ne))),
        released_before a.levels b.levels c.levels k n (acts.does.3 k (λ e. ne (sym e))) releases,
        λ i nj nk. as_before_twice a.levels b.levels c.levels i (acts.does.3 i nj) (others i nk),
      );
    }

-- what a Move reads is what a Copy reads
pub damage_moves : (n k : ℕ) (dest : Dest) (s : Holdings) (j : ℕ) (put got : List ℕ) → IsDamage (Copy n k dest) s j put got → IsDamage (Move n k dest) s j put got
damage_moves n k dest s j put got d = record {
  number = d.number;
  pair = d.pair;
  kept = d.kept;
  held = d.held;
  bytes = d.bytes;
  told = d.told;
  put_digest = d.put_digest;
  got_digest = d.got_digest;
  wrong = d.wrong;
}

-- the level that a Copy reads is as before
pub copy_keeps_source : (unit : ℕ) (journal : List (List ℕ)) (n k : ℕ) (dest : Dest) (a b : Holdings) → ((j : ℕ) → dest ≡ Level j → j ≢ k) → Acts unit journal (Copy n k dest) a b → IsAsBefore a.levels b.levels k
copy_keeps_source unit journal n k Work a b apart acts = acts.does.2 k
copy_keeps_source unit journal n k (Level j) a b apart acts = acts.does.3 k (λ e. apart j refl (sym e))

-- the calls of a Move are those of a Copy, and one free
pub called_move_then : (n k : ℕ) (dest : Dest) (a b c : Calls) → Called (calls_of (Copy n k dest)) a b → Called (one_free k) b c → Called (calls_of (Move n k dest)) a c
called_move_then n k dest a b c copied freed =
    called_same (calls_then (calls_of (Copy n k dest)) (one_free k)) (calls_of (Move n k dest)) a c (called_then (calls_of (Copy n k dest)) (one_free k) a b c copied freed)
    (λ j. add-zero _ ∙ ap one_if (writes_same n k dest j)) (λ j. add-zero _) (λ j. zero-add _)
  where
    writes_same : (n k : ℕ) (dest : Dest) (j : ℕ) → is_write j (Copy n k dest) ≡ is_write j (Move n k dest)
    writes_same n k Work j = refl
    writes_same n k (Level i) j = refl

-- ---- what a Forward does

-- it keeps nothing
pub forward_kept_nothing : (unit : ℕ) (journal : List (List ℕ)) (from to : ℕ) (keep : Keep) (old new : Holdings) → keep ≡ Nothing → new.work ≡ state_number old.work journal (unit * (to - from)) → new.tape ≡ old.tape →
    length new.levels.store ≡ length old.levels.store → ((k : ℕ) → IsAsBefore old.levels new.levels k) → Acts unit journal (Forward from to keep) old new
forward_kept_nothing unit journal from to keep old new is work tape count same =
    let P : Keep → Type 0 = λ k. Acts unit journal (Forward from to k) old new in
    subst P (sym is) (record { count = count; does = (work, tape, same) })

-- it keeps an image
pub forward_stored : (unit : ℕ) (journal : List (List ℕ)) (from to k : ℕ) (keep : Keep) (old new : Holdings) → keep ≡ Store k → new.work ≡ state_number old.work journal (unit * (to - from)) → new.tape ≡ old.tape →
    length new.levels.store ≡ length old.levels.store → Keeps old.levels new.levels k from (image old.work) → ((j : ℕ) → j ≢ k → IsAsBefore old.levels new.levels j) →
    Acts unit journal (Forward from to keep) old new
forward_stored unit journal from to k keep old new is work tape count keeps same =
    let P : Keep → Type 0 = λ x. Acts unit journal (Forward from to x) old new in
    subst P (sym is) (record { count = count; does = (work, tape, keeps, same) })

-- it tapes the state in work
pub forward_taped : (unit : ℕ) (journal : List (List ℕ)) (from to : ℕ) (keep : Keep) (old new : Holdings) → keep ≡ Tape → new.work ≡ state_number old.work journal (unit * (to - from)) → new.tape ≡ record { states = states_below old.work journal (unit * (to - from)); after = new.work } →
    length new.levels.store ≡ length old.levels.store → ((k : ℕ) → IsAsBefore old.levels new.levels k) → Acts unit journal (Forward from to keep) old new
forward_taped unit journal from to keep old new is work tape count same =
    let P : Keep → Type 0 = λ k. Acts unit journal (Forward from to k) old new in
    subst P (sym is) (record { count = count; does = (work, tape, same) })

-- a Store names its level
pub store_names : (from to k : ℕ) (keep : Keep) → keep ≡ Store k → Contains (levels_named (Forward from to keep)) k
store_names from to k keep is = let P : Keep → Type 0 = λ x. Contains (levels_named (Forward from to x)) k in subst P (sym is) (0, omega arith, refl)
