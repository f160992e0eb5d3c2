-- What a refused action may have left on the levels, from what its calls did.
use Rattle.reverse_runner.proofs.Common.{◌≡◌, ℕ, ◌∙◌, false, refl, ap, sym, subst, arith, ◌≢◌, ◌⊎◌, inl, inr, List, set as put, Option, Some, None, [], Result, Ok, Err, OnOk, OnErr, ◌<◌, true, ◌∷◌, ◌==◌, zero, suc, cases_eq, false≢true, ne_eqb, eqb-true, eqb-false, get_or-set_other, same_Some, none-some, Action, Forward, Copy, Move, Dest, Work, Level, Keep, Store, is_write, Images, Tells, SameButAt, not_inserted, is_within, held_less, IsKept, IsNotKept, IsNotFreed, pair_at, held, IsFreeSlot, ShelfState, level_of, kept_at, Kept, Holdings, Acts, Levels, IsAsBefore, NotReached, Spares, MayLeave, pair_read}
use Rattle.std.specs.FinMap as finmap

-- ---- a level with room has a slot that no pair has

-- a pair that is held has this slot
record HasSlot (pairs : List (Option Kept)) (slot : ℕ) : Type 0 where
  number : ℕ
  kept : Kept
  is : pair_at pairs number ≡ Some kept
  same : kept.slot ≡ slot

-- one pair in front leaves a slot free, where it hasn't this slot itself
free_behind : (o : Option Kept) (pairs : List (Option Kept)) (slot : ℕ) → ((kept : Kept) → o ≡ Some kept → kept.slot ≢ slot) → IsFreeSlot pairs slot → IsFreeSlot (o ∷ pairs) slot
free_behind o pairs slot front free zero kept is = front kept is
free_behind o pairs slot front free (suc n) kept is = free n kept is

slot_behind : (o : Option Kept) (pairs : List (Option Kept)) (slot : ℕ) → HasSlot pairs slot → HasSlot (o ∷ pairs) slot
slot_behind o pairs slot h = record { number = suc h.number; kept = h.kept; is = h.is; same = h.same }

-- a slot is free, or a pair has it
find_slot : (pairs : List (Option Kept)) (slot : ℕ) → IsFreeSlot pairs slot ⊎ HasSlot pairs slot
find_slot [] slot = inl (λ n kept is. absurd (let within = is_within [] n kept is in omega (arith, within)))
find_slot (None ∷ pairs) slot = elim (find_slot pairs slot) [
  | inl free ↦ inl (free_behind None pairs slot (λ kept e. absurd (none-some kept e)) free)
  | inr h ↦ inr (slot_behind None pairs slot h)
]
find_slot (Some front ∷ pairs) slot = elim (cases_eq front.slot slot) [
  | inl e ↦ inr (record { number = 0; kept = front; is = refl; same = e })
  | inr ne ↦
      elim (find_slot pairs slot) [
        | inl free ↦ inl (free_behind (Some front) pairs slot (λ kept e same. ne (ap (λ (k : Kept). k.slot) (same_Some front kept e) ∙ same)) free)
        | inr h ↦ inr (slot_behind (Some front) pairs slot h)
      ]
]

-- one of so many slots is free
pub record FreeSlot (pairs : List (Option Kept)) (room : ℕ) : Type 0 where
  pub slot : ℕ
  pub within : slot < room
  pub unused : IsFreeSlot pairs slot

-- where fewer pairs are held than there are slots, one slot is free
pub free_slot : (room : ℕ) (pairs : List (Option Kept)) → held pairs < room → FreeSlot pairs room
free_slot zero pairs few = absurd (omega (arith, few))
free_slot (suc room) pairs few = elim (find_slot pairs room) [
  | inl free ↦ record { slot = room; within = omega arith; unused = free }
  | inr h ↦
      let less = put pairs h.number None in
      let fewer = held_less pairs h.number h.kept (is_within pairs h.number h.kept h.is) h.is in
      let there = free_slot room less (omega (arith, fewer, few)) in
      let below = there.within in
      record {
        slot = there.slot;
        within = omega (arith, below);
        unused = λ n kept is same. elim (cases_eq n h.number) [
          | inl e ↦
              let is_it = ap (λ (k : Kept). k.slot) (same_Some kept h.kept (sym is ∙ ap (pair_at pairs) e ∙ h.is)) in
              let last = h.same in
              absurd (omega (arith, is_it, last, same, below))
          | inr ne ↦ there.unused n kept (get_or-set_other pairs h.number n None None ne ∙ is) same
        ];
      }
]

-- ---- what the keeper of one level tells

same_but_none : (told : Option Images) (slot : ℕ) → Tells told told (SameButAt slot)
same_but_none None slot = tt
same_but_none (Some images) slot = λ other ne. refl

-- a keeper that tells what it told kept no pair
not_kept_same : (level : ShelfState) (before after : Option Images) → FreeSlot level.pairs level.room → after ≡ before → IsNotKept level before after
not_kept_same level before after free same = record {
  slot = free.slot;
  within = free.within;
  unused = free.unused;
  told = subst (λ (o : Option Images). Tells before o (SameButAt free.slot)) (sym same) (same_but_none before free.slot);
}

not_freed_none : (kept : Kept) (told : Option Images) → IsNotFreed kept told told
not_freed_none kept None = tt
not_freed_none kept (Some images) = inl refl

-- and it emptied no slot
not_freed_same : (kept : Kept) (before after : Option Images) → after ≡ before → IsNotFreed kept before after
not_freed_same kept before after same = subst (λ (o : Option Images). IsNotFreed kept before o) (sym same) (not_freed_none kept before)

same_but_inserted : (before after : Option Images) (slot : ℕ) (bytes : List ℕ) → Tells before after (λ images images'. images' ≡ finmap.insert images slot bytes) → Tells before after (SameButAt slot)
same_but_inserted None None slot bytes told = tt
same_but_inserted None (Some images') slot bytes told = told
same_but_inserted (Some images) None slot bytes told = told
same_but_inserted (Some images) (Some images') slot bytes told = λ other ne. ap (λ (m : Images). finmap.get m other) told ∙ not_inserted images slot other bytes ne

-- one that kept a pair has something in one slot
not_kept_of : (old new : ShelfState) (n : ℕ) (bytes : List ℕ) (before after : Option Images) → IsKept old new n bytes before after → IsNotKept old before after
not_kept_of old new n bytes before after kept = record {
  slot = kept.slot;
  within = kept.within;
  unused = kept.unused;
  told = same_but_inserted before after kept.slot bytes kept.told;
}

-- ---- numbers of levels

is_it : (j k : ℕ) → (j == k) ≡ true → k ≡ j
is_it j k e = sym (eqb-true j k e)

is_other : (j k : ℕ) → (j == k) ≡ false → k ≢ j
is_other j k e same = eqb-false j k e (sym same)

-- ---- what is left of an action that was refused

-- one that writes and releases nothing, where the keepers tell what they told
pub leaves_as_was : (a : Action) (old : Levels) (told : ℕ → Option Images) → ((k : ℕ) → Spares a k) → ((k : ℕ) → told k ≡ old.told k) → MayLeave a old told
leaves_as_was a old told none same = record {
  spared = λ k _. same k;
  put_to = λ k puts. absurd (false≢true (sym (none k).0 ∙ puts));
  released = λ k n kept frees _ _. absurd (false≢true (sym (none k).1 ∙ frees));
}

-- one that puts an image on a level, where it wasn't kept
pub leaves_stored : (from to level : ℕ) (keep : Keep) (old mid : Levels) (told : ℕ → Option Images) → keep ≡ Store level → level_of mid.store level ≡ level_of old.store level → ((k : ℕ) → mid.told k ≡ old.told k) →
    IsNotKept (level_of mid.store level) (mid.told level) (told level) → ((k : ℕ) → k ≢ level → told k ≡ mid.told k) → MayLeave (Forward from to keep) old told
leaves_stored from to level keep old mid told is same_level same left others =
    let P : Keep → Type 0 = λ x. MayLeave (Forward from to x) old told in
    let L : ShelfState → Type 0 = λ s. IsNotKept s (mid.told level) (told level) in
    let T : Option Images → Type 0 = λ o. IsNotKept (level_of old.store level) o (told level) in
    let here = subst T (same level) (subst L same_level left) in
    let K : ℕ → Type 0 = λ k. IsNotKept (level_of old.store k) (old.told k) (told k) in
    subst P (sym is) (record {
      spared = λ k free. others k (is_other level k free.0) ∙ same k;
      put_to = λ k puts. subst K (sym (is_it level k puts)) here;
      released = λ k n kept frees _ _. absurd (false≢true frees);
    })

-- a Copy whose image wasn't got
pub leaves_not_got : (n from : ℕ) (dest : Dest) (old : Levels) (told : ℕ → Option Images) → ((k : ℕ) → told k ≡ old.told k) →
    ((k : ℕ) → dest ≡ Level k → held (level_of old.store k).pairs < (level_of old.store k).room) → MayLeave (Copy n from dest) old told
leaves_not_got n from Work old told same room = leaves_as_was (Copy n from Work) old told (λ k. (refl, refl)) same
leaves_not_got n from (Level to) old told same room = record {
  spared = λ k _. same k;
  put_to = λ k puts.
      let K : ℕ → Type 0 = λ i. IsNotKept (level_of old.store i) (old.told i) (told i) in
      let free = free_slot (level_of old.store to).room (level_of old.store to).pairs (room to refl) in
      subst K (sym (is_it to k puts)) (not_kept_same (level_of old.store to) (old.told to) (told to) free (same to));
  released = λ k m kept frees _ _. absurd (false≢true frees);
}

-- one whose image wasn't decoded
pub leaves_not_decoded : (n from : ℕ) (dest : Dest) (old : Levels) (told : ℕ → Option Images) → dest ≡ Work → ((k : ℕ) → told k ≡ old.told k) → MayLeave (Copy n from dest) old told
leaves_not_decoded n from dest old told is same =
    let P : Dest → Type 0 = λ d. MayLeave (Copy n from d) old told in
    subst P (sym is) (leaves_as_was (Copy n from Work) old told (λ k. (refl, refl)) same)

-- one whose image wasn't kept
pub leaves_copied : (n from to : ℕ) (dest : Dest) (old mid : Levels) (told : ℕ → Option Images) → dest ≡ Level to → level_of mid.store to ≡ level_of old.store to → ((k : ℕ) → mid.told k ≡ old.told k) →
    IsNotKept (level_of mid.store to) (mid.told to) (told to) → ((k : ℕ) → k ≢ to → told k ≡ mid.told k) → MayLeave (Copy n from dest) old told
leaves_copied n from to dest old mid told is same_level same left others =
    let P : Dest → Type 0 = λ d. MayLeave (Copy n from d) old told in
    let L : ShelfState → Type 0 = λ s. IsNotKept s (mid.told to) (told to) in
    let T : Option Images → Type 0 = λ o. IsNotKept (level_of old.store to) o (told to) in
    let here = subst T (same to) (subst L same_level left) in
    let K : ℕ → Type 0 = λ k. IsNotKept (level_of old.store k) (old.told k) (told k) in
    subst P (sym is) (record {
      spared = λ k free. others k (is_other to k free.0) ∙ same k;
      put_to = λ k puts. subst K (sym (is_it to k puts)) here;
      released = λ k m kept frees _ _. absurd (false≢true frees);
    })

-- the level that a Copy reads isn't one that it writes to
source_is_spared : (n from : ℕ) (dest : Dest) → ((j : ℕ) → dest ≡ Level j → j ≢ from) → is_write from (Copy n from dest) ≡ false
source_is_spared n from Work apart = refl
source_is_spared n from (Level to) apart = ne_eqb to from (apart to refl)

-- a Copy whose put failed came to each level
pub copy_came : (n from to k j : ℕ) (dest : Dest) → dest ≡ Level to → to ≢ from → k ≡ to → NotReached (Copy n from dest) k j → ⊥
copy_came n from to k j dest is apart on un =
    let P : Dest → Type 0 = λ d. NotReached (Copy n from d) k j in
    let at = subst P is un in
    apart (sym on ∙ at.0)

-- a Move whose release failed came to each level
pub move_came : (n from k j : ℕ) (dest : Dest) → ((i : ℕ) → dest ≡ Level i → i ≢ from) → k ≡ from → NotReached (Move n from dest) k j → ⊥
move_came n from k j Work apart on un = un
move_came n from k j (Level to) apart on un = apart to refl (sym un.0 ∙ on)

-- a Move whose Copy was refused left the level that it reads
pub move_unreached : (n from k j : ℕ) (dest : Dest) (old : Levels) (told : ℕ → Option Images) → ((i : ℕ) → dest ≡ Level i → i ≢ from) → MayLeave (Copy n from dest) old told → NotReached (Move n from dest) k j →
    told j ≡ old.told j
move_unreached n from k j Work old told apart left un = absurd un
move_unreached n from k j (Level to) old told apart left un =
    let K : ℕ → Type 0 = λ i. told i ≡ old.told i in
    subst K (sym un.1) (left.spared from (source_is_spared n from (Level to) apart, refl))

-- a Move writes where a Copy does
copies_where : (n from : ℕ) (dest : Dest) (k : ℕ) → is_write k (Copy n from dest) ≡ is_write k (Move n from dest)
copies_where n from Work k = refl
copies_where n from (Level to) k = refl

-- a Move whose Copy was refused
pub leaves_uncopied : (n from : ℕ) (dest : Dest) (old : Levels) (told : ℕ → Option Images) → ((j : ℕ) → dest ≡ Level j → j ≢ from) → MayLeave (Copy n from dest) old told → MayLeave (Move n from dest) old told
leaves_uncopied n from dest old told apart left = record {
  spared = λ k free. left.spared k (copies_where n from dest k ∙ free.0, refl);
  put_to = λ k puts. left.put_to k (copies_where n from dest k ∙ puts);
  released = λ k m kept frees _ _.
      let K : ℕ → Type 0 = λ i. told i ≡ old.told i in
      not_freed_same kept (old.told k) (told k) (subst K (sym (is_it from k frees)) (left.spared from (source_is_spared n from dest apart, refl)));
}

-- what isn't freed on a level that is as before
not_freed_before : (old mid : Levels) (told : ℕ → Option Images) (from n : ℕ) → IsAsBefore old mid from →
    ((kept : Kept) → kept_at mid.store from n ≡ Some kept → IsNotFreed kept (mid.told from) (told from)) →
    (k m : ℕ) (kept : Kept) → k ≡ from → m ≡ n → kept_at old.store k m ≡ Some kept → IsNotFreed kept (old.told k) (told k)
not_freed_before old mid told from n same left k m kept here number is =
    let K : ℕ → Type 0 = λ i. IsNotFreed kept (old.told i) (told i) in
    let T : Option Images → Type 0 = λ o. IsNotFreed kept o (told from) in
    let there : kept_at old.store from n ≡ Some kept = ap (λ i. kept_at old.store i n) (sym here) ∙ ap (λ i. kept_at old.store k i) (sym number) ∙ is in
    subst K (sym here) (subst T same.1 (left kept (ap (λ (s : ShelfState). pair_at s.pairs n) same.0 ∙ there)))

-- the number of a pair
same_number : (n m j k : ℕ) → pair_read (Move n j Work) ≡ Some (m, k) → m ≡ n
same_number n m j k e = let P : ℕ × ℕ = (n, j) in let Q : ℕ × ℕ = (m, k) in sym (ap (λ (p : ℕ × ℕ). p.0) (same_Some P Q e))

-- a Move whose image was copied, and wasn't released where it came from
pub leaves_moved : (unit : ℕ) (journal : List (List ℕ)) (n from : ℕ) (dest : Dest) (a b : Holdings) (told : ℕ → Option Images) → ((j : ℕ) → dest ≡ Level j → j ≢ from) → Acts unit journal (Copy n from dest) a b →
    ((kept : Kept) → kept_at b.levels.store from n ≡ Some kept → IsNotFreed kept (b.levels.told from) (told from)) → ((j : ℕ) → j ≢ from → told j ≡ b.levels.told j) → MayLeave (Move n from dest) a.levels told
leaves_moved unit journal n from Work a b told apart acts left others = record {
  spared = λ k free. others k (is_other from k free.1) ∙ (acts.does.2 k).1;
  put_to = λ k puts. absurd (false≢true puts);
  released = λ k m kept frees pair is.
      not_freed_before a.levels b.levels told from n (acts.does.2 from) left k m kept (is_it from k frees) (same_number n m from k pair) is;
}
leaves_moved unit journal n from (Level to) a b told apart acts left others =
    let ne = apart to refl in
    let kept_there = acts.does.2.1.1 in
    let K : ℕ → Type 0 = λ k. IsNotKept (level_of a.levels.store k) (a.levels.told k) (told k) in
    let T : Option Images → Type 0 = λ o. IsNotKept (level_of a.levels.store to) (a.levels.told to) o in
    let put_there = not_kept_of (level_of a.levels.store to) (level_of b.levels.store to) n acts.does.2.0 (a.levels.told to) (b.levels.told to) kept_there in
    record {
      spared = λ k free. others k (is_other from k free.1) ∙ (acts.does.3 k (is_other to k free.0)).1;
      put_to = λ k puts. subst K (sym (is_it to k puts)) (subst T (sym (others to ne)) put_there);
      released = λ k m kept frees pair is.
          not_freed_before a.levels b.levels told from n (acts.does.3 from (λ e. ne (sym e))) left k m kept (is_it from k frees) (same_number n m from k pair) is;
    }

-- a fact holds at Err
pub on_err : {T E P : Type 0} (r : Result T E) → P → OnErr r P
on_err (Ok x) p = tt
on_err (Err e) p = p

-- what is said of Ok holds at Err
pub not_ok : {T E : Type 0} (r : Result T E) (x : E) (P : Type 0) → r ≡ Err x → OnOk r P
not_ok (Ok y) x P e = absurd cc
not_ok (Err y) x P e = tt
