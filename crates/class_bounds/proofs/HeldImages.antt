-- How the images of a nested list stand in its configurations.
use Rattle.std.proofs.Common.{◌≡◌, ◌==◌, ℕ, suc, ◌+◌, ◌<◌, ◌≤◌, Bool, true, false, cond, List, [], ◌∷◌, length, get_or, slice_index_or, refl, sym, ap, ◌∙◌, subst, arith, inl, inr, eq-eqb, get_or-set_same, get_or-set_other}
use Rattle.std.specs.FinSet as set
use Rattle.std.specs.Ordering.{nat_cmp}
use Rattle.std.proofs.lemmas.Bool.{cases_lt, cases_eq, ne_eqb}
use Rattle.std.proofs.lemmas.List.{get_or-map, get_or_past, length-map}
use Rattle.plan_types.specs.declared.action.Keep.TheVariants.{Store}
use Rattle.plan_types.specs.declared.action.Dest.TheVariants.{Work}
use Rattle.plan_types.specs.declared.action.Action.{Action}
use Rattle.plan_types.specs.declared.action.Action.TheVariants.{Forward, Move}
use Rattle.level_book.specs.declared.book.Slots.{Slots}
use Rattle.level_book.specs.declared.book.Slots.TheVariants.{Count, Unlimited}
use Rattle.level_book.specs.BookCosts.{BookCosts, least, slots_of, room}
use Rattle.level_book.specs.Configuration.{Configuration, start, held_on, with_held, without_held}
use Rattle.level_book.specs.Moves.{Goes, HasRoom, IsFree}
use Rattle.schedule_rules.specs.Transitions.{after}
use Rattle.schedule_rules.specs.Reachability.{IsSound}
use Rattle.schedule_rules.proofs.BitsLemmas.{len_one_more, len_one_less}
use Rattle.schedule_rules.proofs.MovesByRules.{goes_after}
use Rattle.schedule_rules.proofs.Reachability.{sound_on, sound_start}
use Rattle.level_book.specs.NestedClass.{Image, GoesOnTop}
use Rattle.class_bounds.proofs.Bounds.{Rates}
use Rattle.class_bounds.proofs.Potential.{on_level, NotPast, Before, Stacked, level}

one_or_none : (b : Bool) → cond b 1 0 ≤ 1
one_or_none true = omega arith
one_or_none false = omega arith

-- an image of state n that goes on top makes the others earlier than n
pub before_top : (images : List Image) (n k : ℕ) → GoesOnTop images n k → Before images n
before_top [] n k h = tt
before_top (i ∷ older) n k h = h.0

pub not_past_top : (images : List Image) (n k : ℕ) → GoesOnTop images n k → NotPast images n
not_past_top [] n k h = tt
not_past_top (i ∷ older) n k h = let lt = h.0 in omega arith

pub not_past_later : (images : List Image) (n n' : ℕ) → NotPast images n → n ≤ n' → NotPast images n'
not_past_later [] n n' h le = tt
not_past_later (i ∷ older) n n' h le = omega arith

module _ (steps : ℕ) (book : BookCosts) (r : Rates) where
  -- a level has no more images than there are states before w
  pub few_on_level : (images : List Image) (k w : ℕ) → Stacked steps book r images → Before images w → on_level k images ≤ w
  few_on_level [] k w s b = omega arith
  few_on_level (i ∷ older) k w s b =
      let rest = few_on_level older k i.position s.3 (before_top older i.position i.level s.0) in
      let one = one_or_none (i.level == k) in
      omega arith

  -- the level of the next stretch is one of the book's, and no faster than one on which an image goes on top
  pub level_known : (images : List Image) → 0 < length book.levels → Stacked steps book r images → level steps book r images < length book.levels
  level_known [] some s = omega arith
  level_known (i ∷ older) some s = s.1

  pub level_on_top : (images : List Image) (n k : ℕ) → k < length book.levels → GoesOnTop images n k → k ≤ level steps book r images
  level_on_top [] n k known top = omega arith
  level_on_top (i ∷ older) n k known top = top.1

  -- The images are those that the configuration holds: each level has as many. They are stacked, and none is of a later state
  -- than that in work.
  pub record Standing (c : Configuration) (images : List Image) : Type 0 where
    pub sound : IsSound steps (slots_of book) c
    pub counts : (k : ℕ) → on_level k images ≡ set.len (held_on c k)
    pub stacked : Stacked steps book r images
    pub now : NotPast images c.work

  -- what a sound configuration goes to is sound
  sound_after : (c : Configuration) (a : Action) (d : Configuration) → IsSound steps (slots_of book) c → Goes steps (slots_of book) c a d → IsSound steps (slots_of book) (after c a)
  sound_after c a d s g = subst (IsSound steps (slots_of book)) (goes_after steps (slots_of book) c a d g) (sound_on steps (slots_of book) c (a ∷ []) d s (d, g, refl))

  room_for : (slots : Slots) (images : set.FinSet nat_cmp) (n : ℕ) → HasRoom slots images → n ≡ set.len images → n < steps → n < least slots steps
  room_for (Count m) images n h e lt = omega arith
  room_for Unlimited images n h e lt = omega arith

  -- a level that is free for an image has a slot left in a run of so many steps
  pub slot_left : (c : Configuration) (images : List Image) (n k : ℕ) → Standing c images → IsFree (slots_of book) c n k → Before images n → n < steps →
      on_level k images < room book k steps
  slot_left c images n k s free before lt =
      room_for (slice_index_or (slots_of book) k (Count 0)) (held_on c k) (on_level k images) free.room (s.counts k) (let few = few_on_level images k n s.stacked before in omega arith)

  pub stands_start : Standing (start steps (slots_of book)) []
  stands_start = record {
    sound = sound_start steps (slots_of book);
    counts = λ k. sym (ap (λ s. set.len s) (nothing_held k) ∙ set.len-empty nat_cmp);
    stacked = tt;
    now = tt;
  }
    where
      nothing_held : (k : ℕ) → held_on (start steps (slots_of book)) k ≡ set.empty
      nothing_held k = elim (cases_lt k (length (slots_of book))) [
        | inl within ↦ get_or-map (λ (_ : Slots). set.empty {R = nat_cmp}) (slots_of book) k (Count 0) set.empty within
        | inr past ↦ get_or_past _ k set.empty (omega (arith, length-map (slots_of book) (λ (_ : Slots). set.empty {R = nat_cmp})))
      ]

  -- no image comes or goes
  pub stands_on : (c : Configuration) (a : Action) (d : Configuration) (images : List Image) → Standing c images → Goes steps (slots_of book) c a d →
      (after c a).held ≡ c.held → NotPast images (after c a).work → Standing (after c a) images
  stands_on c a d images s g same now = record {
    sound = sound_after c a d s.sound g;
    counts = λ k. s.counts k ∙ ap (λ held. set.len (get_or held k set.empty)) (sym same);
    stacked = s.stacked;
    now = now;
  }

  -- an image is stored
  pub stands_stored : (c : Configuration) (from to k : ℕ) (d : Configuration) (images : List Image) → Standing c images → Goes steps (slots_of book) c (Forward from to (Store k)) d →
      GoesOnTop images from k → Standing (after c (Forward from to (Store k))) (record { position = from; level = k } ∷ images)
  stands_stored c from to k d images s g top =
      let sound = sound_after c (Forward from to (Store k)) d s.sound g in
      let may = g.1 in
      let free = g.2 in
      let within = s.sound.within in
      let short : k < length c.held = omega (arith, free.level, s.sound.level_count) in
      let more : Image = record { position = from; level = k } in
      record {
        sound = sound;
        counts = λ j. elim (cases_eq k j) [
          | inl e ↦
              let P : ℕ → Type 0 = λ i. on_level i (more ∷ images) ≡ set.len (held_on (with_held c from k) i) in
              subst P e
              (ap (λ b. cond b 1 0 + on_level k images) (eq-eqb k k refl)
              ∙ omega (arith, s.counts k, len_one_more (held_on c k) from free.new)
              ∙ ap (λ x. set.len x) (sym (get_or-set_same c.held k (set.insert (held_on c k) from) set.empty short)))
          | inr ne ↦
              ap (λ b. cond b 1 0 + on_level j images) (ne_eqb k j ne)
              ∙ omega (arith, s.counts j)
              ∙ ap (λ x. set.len x) (sym (get_or-set_other c.held k j (set.insert (held_on c k) from) set.empty (λ e. ne (sym e))))
        ];
        stacked = (top, omega (arith, free.level, length-map book.levels (λ level. level.slots)), slot_left c images from k s free (before_top images from k top) (omega arith), s.stacked);
        now = omega arith;
      }

  -- the newest image is moved
  pub stands_moved : (c : Configuration) (n k : ℕ) (d : Configuration) (i : Image) (older : List Image) → Standing c (i ∷ older) → Goes steps (slots_of book) c (Move n k Work) d →
      i.position ≡ n → i.level ≡ k → Standing (after c (Move n k Work)) older
  stands_moved c n k d i older s g e f =
      let sound = sound_after c (Move n k Work) d s.sound g in
      let held = g.1 in
      let short : k < length c.held = omega (arith, held.level, s.sound.level_count) in
      record {
        sound = sound;
        counts = λ j. elim (cases_eq k j) [
          | inl e' ↦
              let P : ℕ → Type 0 = λ i. on_level i older ≡ set.len (held_on (without_held c n k) i) in
              let here : on_level k (i ∷ older) ≡ suc (on_level k older) = ap (λ b. cond b 1 0 + on_level k older) (eq-eqb i.level k f) ∙ omega arith in
              subst P e'
              (omega (arith, s.counts k, here, len_one_less (held_on c k) n held.there)
              ∙ ap (λ x. set.len x) (sym (get_or-set_same c.held k (set.remove (held_on c k) n) set.empty short)))
          | inr ne ↦
              let here : on_level j (i ∷ older) ≡ on_level j older = ap (λ b. cond b 1 0 + on_level j older) (ne_eqb i.level j (λ e'. ne (sym f ∙ e'))) ∙ omega arith in
              sym here ∙ s.counts j
              ∙ ap (λ x. set.len x) (sym (get_or-set_other c.held k j (set.remove (held_on c k) n) set.empty (λ e'. ne (sym e'))))
        ];
        stacked = s.stacked.3;
        now = not_past_later older i.position n (not_past_top older i.position i.level s.stacked.0) (omega arith);
      }
