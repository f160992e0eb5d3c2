-- Where lists lead: to one configuration at most, and only to sound ones.
use Rattle.std.proofs.Common.{◌≡◌, ◌≢◌, ℕ, ◌<◌, true, false, List, [], ◌∷◌, ◌++◌, length, get_or, slice_index_or, set as put, refl, sym, ◌∙◌, ap, subst, inl, inr, ◌⊎◌, arith, length-set, get_or-set_same, get_or-set_other}
use Rattle.std.specs.FinSet as set
use Rattle.std.specs.Ordering.{nat_cmp}
use Rattle.std.proofs.lemmas.Bool.{cases_eq}
use Rattle.std.proofs.lemmas.List.{length-map, get_or-map}
use Rattle.plan_types.specs.declared.action.Keep.TheVariants.{Nothing, Store, Tape}
use Rattle.plan_types.specs.declared.action.Dest.TheVariants.{Work, Level}
use Rattle.plan_types.specs.declared.action.Action.{Action}
use Rattle.plan_types.specs.declared.action.Action.TheVariants.{Forward, Reverse, Copy, Move, EndForward, EndReverse}
use Rattle.level_book.specs.declared.book.Slots.{Slots}
use Rattle.level_book.specs.declared.book.Slots.TheVariants.{Count, Unlimited}
use Rattle.level_book.specs.Configuration.{Configuration, start, held_on, with_held, without_held}
use Rattle.level_book.specs.Moves.{Goes, HasRoom, IsFree}
use Rattle.level_book.specs.Valid.{Leads}
use Rattle.schedule_rules.specs.Transitions.{after}
use Rattle.schedule_rules.specs.Reachability.{IsWithin, IsSound}
use Rattle.schedule_rules.proofs.MovesByRules.{goes_after}
use Rattle.schedule_rules.proofs.BitsLemmas.{len_one_more, len_one_less}

-- a list that goes on by one action
pub leads_more : (steps : ℕ) (slots : List Slots) (c : Configuration) (list : List Action) (m : Configuration) (a : Action) (d : Configuration) →
    Leads steps slots c list m → Goes steps slots m a d → Leads steps slots c (list ++ a ∷ []) d
leads_more steps slots c [] m a d h g = let P : Configuration → Type 0 = λ c. Goes steps slots c a d in (d, subst P h g, refl)
leads_more steps slots c (b ∷ rest) m a d h g = (h.0, h.1, leads_more steps slots h.0 rest m a d h.2 g)

-- one configuration at most
pub leads_unique : (steps : ℕ) (slots : List Slots) (c : Configuration) (list : List Action) (d e : Configuration) → Leads steps slots c list d → Leads steps slots c list e → d ≡ e
leads_unique steps slots c [] d e h g = h ∙ sym g
leads_unique steps slots c (a ∷ rest) d e h g =
    let same : h.0 ≡ g.0 = goes_after steps slots c a h.0 h.1 ∙ sym (goes_after steps slots c a g.0 g.1) in
    let P : Configuration → Type 0 = λ m. Leads steps slots m rest d in
    leads_unique steps slots g.0 rest d e (subst P same h.2) g.2

-- a list leads on from where its front leads
pub leads_apart : (steps : ℕ) (slots : List Slots) (c : Configuration) (front back : List Action) (d : Configuration) → Leads steps slots c (front ++ back) d →
    (m : Configuration) × Leads steps slots c front m × Leads steps slots m back d
leads_apart steps slots c [] back d h = (c, refl, h)
leads_apart steps slots c (a ∷ front) back d h =
    let rest = leads_apart steps slots h.0 front back d h.2 in
    (rest.0, (h.0, h.1, rest.1), rest.2)

-- what a level holds where another list is put in at a level
held_where : (held : List (set.FinSet nat_cmp)) (k j : ℕ) (s : set.FinSet nat_cmp) → k < length held →
    ((j ≡ k) × (get_or (put held k s) j set.empty ≡ s)) ⊎ (get_or (put held k s) j set.empty ≡ get_or held j set.empty)
held_where held k j s h = elim (cases_eq j k) [
  | inl e ↦ inl (e, ap (λ i. get_or (put held k s) i set.empty) e ∙ get_or-set_same held k s set.empty h)
  | inr ne ↦ inr (get_or-set_other held k j s set.empty ne)
]

one_more_within : (slots : Slots) (images : set.FinSet nat_cmp) (n : ℕ) → HasRoom slots images → set.contains images n ≡ false → IsWithin slots (set.insert images n)
one_more_within (Count m) images n room new = omega (arith, len_one_more images n new)
one_more_within Unlimited images n room new = tt

one_less_within : (slots : Slots) (images : set.FinSet nat_cmp) (n : ℕ) → IsWithin slots images → set.contains images n ≡ true → IsWithin slots (set.remove images n)
one_less_within (Count m) images n within there = omega (arith, len_one_less images n there)
one_less_within Unlimited images n within there = tt

-- a level that gets an image within its room stays within its slots, and the others are as before
pub held_within : (slots : List Slots) (c : Configuration) (n k : ℕ) → IsFree slots c n k → length c.held ≡ length slots →
    ((j : ℕ) → j < length slots → IsWithin (slice_index_or slots j (Count 0)) (held_on c j)) →
    (j : ℕ) → j < length slots → IsWithin (slice_index_or slots j (Count 0)) (held_on (with_held c n k) j)
held_within slots c n k free count within j h =
    let P : set.FinSet nat_cmp → Type 0 = IsWithin (slice_index_or slots j (Count 0)) in
    elim (held_where c.held k j (set.insert (held_on c k) n) (omega (arith, free.level, count))) [
      | inl w ↦
          let Q : ℕ → Type 0 = λ i. IsWithin (slice_index_or slots i (Count 0)) (set.insert (held_on c k) n) in
          subst P (sym w.1) (subst Q (sym w.0) (one_more_within (slice_index_or slots k (Count 0)) (held_on c k) n free.room free.new))
      | inr w ↦ subst P (sym w) (within j h)
    ]

pub released_within : (slots : List Slots) (c : Configuration) (n k : ℕ) → k < length slots → set.contains (held_on c k) n ≡ true → length c.held ≡ length slots →
    ((j : ℕ) → j < length slots → IsWithin (slice_index_or slots j (Count 0)) (held_on c j)) →
    (j : ℕ) → j < length slots → IsWithin (slice_index_or slots j (Count 0)) (held_on (without_held c n k) j)
released_within slots c n k level there count within j h =
    let P : set.FinSet nat_cmp → Type 0 = IsWithin (slice_index_or slots j (Count 0)) in
    elim (held_where c.held k j (set.remove (held_on c k) n) (omega (arith, level, count))) [
      | inl w ↦
          let Q : ℕ → Type 0 = λ i. IsWithin (slice_index_or slots i (Count 0)) (set.remove (held_on c k) n) in
          subst P (sym w.1) (subst Q (sym w.0) (one_less_within (slice_index_or slots k (Count 0)) (held_on c k) n (within k level) there))
      | inr w ↦ subst P (sym w) (within j h)
    ]

-- another level is as free as before where one level has one image less
pub still_free : (slots : List Slots) (c : Configuration) (n k j m : ℕ) → j ≢ k → IsFree slots c m j → IsFree slots (without_held c n k) m j
still_free slots c n k j m ne free =
    let same = get_or-set_other c.held k j (set.remove (held_on c k) n) set.empty ne in
    let P : set.FinSet nat_cmp → Type 0 = HasRoom (slice_index_or slots j (Count 0)) in
    record {
      level = free.level;
      room = subst P (sym same) free.room;
      new = ap (λ s. set.contains s m) same ∙ free.new;
    }

-- what an action leads to from a sound configuration is sound
sound_after : (steps : ℕ) (slots : List Slots) (c : Configuration) (a : Action) (d : Configuration) → IsSound steps slots c → Goes steps slots c a d → IsSound steps slots (after c a)
sound_after steps slots c (Forward from to Nothing) d s g = record { within = s.within; level_count = s.level_count; room = s.room; tape_is_next = s.tape_is_next }
sound_after steps slots c (Forward from to (Store k)) d s g = record {
  within = s.within;
  level_count = length-set c.held k (set.insert (held_on c k) from) ∙ s.level_count;
  room = held_within slots c from k g.2 s.level_count s.room;
  tape_is_next = s.tape_is_next;
}
sound_after steps slots c (Forward from to Tape) d s g = record {
  within = s.within;
  level_count = s.level_count;
  room = s.room;
  tape_is_next = sym g.2 ∙ g.3;
}
sound_after steps slots c (Reverse from to) d s g = record {
  within = omega (arith, s.within, g.3, g.4);
  level_count = s.level_count;
  room = s.room;
  tape_is_next = tt;
}
sound_after steps slots c (Copy n k Work) d s g = record { within = s.within; level_count = s.level_count; room = s.room; tape_is_next = s.tape_is_next }
sound_after steps slots c (Copy n k (Level j)) d s g = record {
  within = s.within;
  level_count = length-set c.held j (set.insert (held_on c j) n) ∙ s.level_count;
  room = held_within slots c n j g.3 s.level_count s.room;
  tape_is_next = s.tape_is_next;
}
sound_after steps slots c (Move n k Work) d s g = record {
  within = s.within;
  level_count = length-set c.held k (set.remove (held_on c k) n) ∙ s.level_count;
  room = released_within slots c n k g.1.level g.1.there s.level_count s.room;
  tape_is_next = s.tape_is_next;
}
sound_after steps slots c (Move n k (Level j)) d s g =
    let count = length-set c.held k (set.remove (held_on c k) n) ∙ s.level_count in
    record {
      within = s.within;
      level_count = length-set (without_held c n k).held j (set.insert (held_on (without_held c n k) j) n) ∙ count;
      room = held_within slots (without_held c n k) n j (still_free slots c n k j n g.2 g.3) count (released_within slots c n k g.1.level g.1.there s.level_count s.room);
      tape_is_next = s.tape_is_next;
    }
sound_after steps slots c EndForward d s g = record { within = s.within; level_count = s.level_count; room = s.room; tape_is_next = s.tape_is_next }
sound_after steps slots c EndReverse d s g = record { within = s.within; level_count = s.level_count; room = s.room; tape_is_next = s.tape_is_next }

pub sound_on : (steps : ℕ) (slots : List Slots) (c : Configuration) (list : List Action) (d : Configuration) → IsSound steps slots c → Leads steps slots c list d → IsSound steps slots d
sound_on steps slots c [] d s h = subst (IsSound steps slots) (sym h) s
sound_on steps slots c (a ∷ rest) d s h =
    sound_on steps slots h.0 rest d (subst (IsSound steps slots) (sym (goes_after steps slots c a h.0 h.1)) (sound_after steps slots c a h.0 s h.1)) h.2

empty_within : (slots : Slots) → IsWithin slots set.empty
empty_within (Count m) = omega (arith, set.len-empty nat_cmp)
empty_within Unlimited = tt

pub sound_start : (steps : ℕ) (slots : List Slots) → IsSound steps slots (start steps slots)
sound_start steps slots = record {
  within = omega arith;
  level_count = length-map slots (λ (_ : Slots). set.empty {R = nat_cmp});
  room = λ k h.
      let P : set.FinSet nat_cmp → Type 0 = IsWithin (slice_index_or slots k (Count 0)) in
      subst P (sym (get_or-map (λ (_ : Slots). set.empty {R = nat_cmp}) slots k (Count 0) set.empty h)) (empty_within (slice_index_or slots k (Count 0)));
  tape_is_next = tt;
}
