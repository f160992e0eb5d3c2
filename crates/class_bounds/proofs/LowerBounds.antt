-- What a nested list costs at least whose actions the rates allow. It goes by recursion on the rest of the list: what the rest
-- costs is enough for what is owed.
use Rattle.std.proofs.Common.{◌≡◌, ℕ, suc, ◌+◌, ◌-◌, ◌*◌, ◌<◌, ◌≤◌, Bool, true, false, List, [], ◌∷◌, length, refl, sym, ap, ◌∙◌, subst, arith, inl, inr, Option, Some, None, true≢false, IsSome, MatchOption}
use Rattle.std.proofs.lemmas.Bool.{cases_lt}
use Rattle.std.proofs.lemmas.List.{length-map}
use Rattle.plan_types.specs.declared.action.Keep.TheVariants.{Nothing, Store, Tape}
use Rattle.plan_types.specs.declared.action.Dest.TheVariants.{Work, Level}
use Rattle.plan_types.specs.declared.action.Action.{Action}
use Rattle.plan_types.specs.declared.action.Action.TheVariants.{Forward, Reverse, Copy, Move, EndForward, EndReverse}
use Rattle.level_book.specs.BookCosts.{BookCosts, slots_of, room}
use Rattle.level_book.specs.Configuration.{Configuration, start}
use Rattle.level_book.specs.Moves.{Goes}
use Rattle.level_book.specs.Valid.{Leads, Valid}
use Rattle.level_book.specs.CostFold.{cost}
use Rattle.schedule_rules.specs.Transitions.{after}
use Rattle.schedule_rules.proofs.MovesByRules.{goes_after}
use Rattle.level_book.specs.NestedClass.{Image, GoesOnTop, KeepsFaster, IsNestedFrom}
use Rattle.level_book.specs.UnderTable.{write_cost, read_cost}
use Rattle.class_bounds.proofs.Bounds.{Within, within_more, same_entry, Rates, IsBound}
use Rattle.class_bounds.proofs.Potential
use Rattle.class_bounds.proofs.Potential.{on_level, Stacked, level, free, Back, Owed, owed_before, back_more, advanced, stored, fresh_owed, stored_stale, taped, copied, moved_stale, moved_taped, moved_stored}
use Rattle.class_bounds.proofs.Costs.{cost_forward, cost_tape, cost_store, cost_reverse, cost_copy, cost_move, cost_end_forward}
use Rattle.class_bounds.proofs.HeldImages.{before_top, not_past_later, level_known, level_on_top, Standing, slot_left, stands_start, stands_on, stands_stored, stands_moved}

-- how far there is to reverse besides the step on the tape
abbrev left : Option ℕ → ℕ → ℕ
left None r = r
left (Some n) r = r - 1

-- it is one step less at most
left_within : (o : Option ℕ) (r : ℕ) → (left o r ≤ r) × (r ≤ suc (left o r))
left_within None r = omega arith
left_within (Some n) r = omega arith

-- what the step on the tape still costs
abbrev on_tape : BookCosts → Option ℕ → ℕ
on_tape book None = 0
on_tape book (Some n) = book.reverse

-- each Store, Copy and Move of the actions is allowed, where e tells whether EndForward was done
abbrev pub IsAllowed : Rates → Bool → List Action → Type 0
IsAllowed r e [] = Unit {0}
IsAllowed r e (Forward from to Nothing ∷ rest) = IsAllowed r e rest
IsAllowed r e (Forward from to (Store k) ∷ rest) = (r.storing e k ≡ true) × IsAllowed r e rest
IsAllowed r e (Forward from to Tape ∷ rest) = IsAllowed r e rest
IsAllowed r e (Reverse from to ∷ rest) = IsAllowed r e rest
IsAllowed r e (Copy n k to ∷ rest) = (r.reading e ≡ true) × IsAllowed r e rest
IsAllowed r e (Move n k to ∷ rest) = (r.reading e ≡ true) × IsAllowed r e rest
IsAllowed r e (EndForward ∷ rest) = IsAllowed r true rest
IsAllowed r e (EndReverse ∷ rest) = IsAllowed r e rest

module _ (steps : ℕ) (book : BookCosts) (r : Rates) (under : IsBound steps book r) (some : 0 < length book.levels) where
  -- what is owed at equal states
  owed_at : (e : Bool) (images : List Image) (w w' x x' n : ℕ) → w ≡ w' → x ≡ x' → Owed steps book r e images w x n → Owed steps book r e images w' x' n
  owed_at e images w w' x x' n is f o =
      let P : ℕ → Type 0 = λ v. Owed steps book r e images v x n in
      let Q : ℕ → Type 0 = λ y. Owed steps book r e images w' y n in
      subst Q f (subst P is o)

  -- levels faster than the next stretch's are empty
  empty_below : (images : List Image) (j : ℕ) → Stacked steps book r images → j < level steps book r images → on_level j images ≡ 0
  empty_below [] j s h = refl
  empty_below (i ∷ older) j s h = Potential.faster_empty steps book r (i ∷ older) (suc i.position) i.level j (omega arith, omega arith) s h

  -- n is enough for what is owed at a configuration, and for the step on the tape
  record Pays (c : Configuration) (images : List Image) (n : ℕ) : Type 0 where
    least : ℕ
    owed : Owed steps book r c.forward_ended images c.work (left c.tape c.reverse) least
    enough : least + on_tape book c.tape ≤ n

  -- the same behind a Move of the newest image, which is still listed
  record PaysBack (c : Configuration) (images : List Image) (n : ℕ) : Type 0 where
    least : ℕ
    back : Back steps book r images (left c.tape c.reverse) least
    enough : least + on_tape book c.tape ≤ n

  -- The kinds of action: where the cost of the rest is enough behind the action, the cost with the action is enough before it.
  pays_forward : (c : Configuration) (from to : ℕ) (d : Configuration) (images : List Image) (rest : List Action) → Standing steps book r c images → Goes steps (slots_of book) c (Forward from to Nothing) d →
      Pays (after c (Forward from to Nothing)) images (cost rest book) → Pays c images (cost (Forward from to Nothing ∷ rest) book)
  pays_forward c from to d images rest s g p =
      let may = g.1 in
      let x = left c.tape c.reverse in
      record {
        least = (to - from) * book.forward + p.least;
        owed = advanced steps book r under c.forward_ended images c.work (to - from) x p.least (let within = s.sound.within in let near = left_within c.tape c.reverse in omega arith) (omega arith) (level_known steps book r images some s.stacked) s.now
            (owed_at c.forward_ended images to (c.work + (to - from)) x x p.least (omega arith) refl p.owed);
        enough = omega (arith, p.enough, cost_forward from to rest book);
      }

  -- a Store, of a state before x or not
  owed_stored : (c : Configuration) (from to k : ℕ) (d : Configuration) (images : List Image) (n : ℕ) → r.storing c.forward_ended k ≡ true → Standing steps book r c images → Goes steps (slots_of book) c (Forward from to (Store k)) d →
      GoesOnTop images from k → Owed steps book r c.forward_ended (record { position = from; level = k } ∷ images) to (left c.tape c.reverse) n →
      Owed steps book r c.forward_ended images c.work (left c.tape c.reverse) (write_cost book k + (to - from) * book.forward + n)
  owed_stored c from to k d images n allowed s g top o =
      let may = g.1 in
      let place = g.2 in
      let x = left c.tape c.reverse in
      let near = left_within c.tape c.reverse in
      let within = s.sound.within in
      let known : k < length book.levels = omega (arith, place.level, length-map book.levels (λ level. level.slots)) in
      let before = before_top images from k top in
      let gone : Owed steps book r c.forward_ended (record { position = from; level = k } ∷ images) (from + (to - from)) x n =
      owed_at c.forward_ended (record { position = from; level = k } ∷ images) to (from + (to - from)) x x n (omega arith) refl o in
      let room_left = slot_left steps book r c images from k s place before (omega arith) in
      elim (cases_lt from x) [
        | inl live ↦
            owed_at c.forward_ended images from c.work x x (write_cost book k + (to - from) * book.forward + n) (sym may.here) refl
            (fresh_owed steps book r under c.forward_ended images from x (write_cost book k + (to - from) * book.forward + n) live before
            (stored steps book r under c.forward_ended images (level steps book r images) (free steps book r (level steps book r images) images) from (to - from) k x n allowed live
            (omega arith) (omega arith) (level_on_top steps book r images from k known top) (level_known steps book r images some s.stacked) (omega arith) room_left
            (λ e. ap (λ j. free steps book r j images) (sym e)) (λ lt. empty_below images k s.stacked lt) gone))
        | inr stale ↦ inl (back_more steps book r images x n (write_cost book k + (to - from) * book.forward + n)
            (stored_stale steps book r under c.forward_ended images from (to - from) k x n stale gone) (omega arith))
      ]

  pays_tape : (c : Configuration) (from to : ℕ) (d : Configuration) (images : List Image) (rest : List Action) → Goes steps (slots_of book) c (Forward from to Tape) d →
      Pays (after c (Forward from to Tape)) images (cost rest book) → Pays c images (cost (Forward from to Tape ∷ rest) book)
  pays_tape c from to d images rest g p =
      let may = g.1 in
      let one : to - from ≡ 1 = omega (arith, g.2) in
      let whole = ap (λ o. left o c.reverse) g.4 in
      record {
        least = book.forward + book.reverse + p.least;
        owed = owed_at c.forward_ended images from c.work (suc from) (left c.tape c.reverse) (book.forward + book.reverse + p.least) (sym may.here) (omega (arith, g.2, g.3, whole))
            (taped steps book r under c.forward_ended images from p.least (owed_at c.forward_ended images to (suc from) (c.reverse - 1) from p.least (omega (arith, g.2)) (omega (arith, g.2, g.3)) p.owed));
        enough = omega (arith, p.enough, cost_tape from to rest book, ap (on_tape book) g.4, ap (λ n. n * book.forward) one);
      }

  pays_reverse : (c : Configuration) (from to : ℕ) (d : Configuration) (images : List Image) (rest : List Action) → Goes steps (slots_of book) c (Reverse from to) d →
      Pays (after c (Reverse from to)) images (cost rest book) → Pays c images (cost (Reverse from to ∷ rest) book)
  pays_reverse c from to d images rest g p =
      let taken = some_left c.tape c.reverse g.2 in
      record {
        least = p.least;
        owed = owed_at c.forward_ended images c.work c.work to (left c.tape c.reverse) p.least refl (omega (arith, g.3, g.4, taken.0)) p.owed;
        enough = omega (arith, p.enough, cost_reverse from to rest book, taken.1);
      }
    where
      some_left : (o : Option ℕ) (r : ℕ) → IsSome o → (left o r ≡ r - 1) × (on_tape book o ≡ book.reverse)
      some_left None r h = absurd (true≢false (sym h))
      some_left (Some n) r h = (refl, refl)

  pays_copy : (c : Configuration) (n k : ℕ) (i : Image) (older : List Image) (rest : List Action) → r.reading c.forward_ended ≡ true → Standing steps book r c (i ∷ older) → i.position ≡ n → i.level ≡ k →
      Pays (after c (Copy n k Work)) (i ∷ older) (cost rest book) → Pays c (i ∷ older) (cost (Copy n k Work ∷ rest) book)
  pays_copy c n k i older rest reads s e f p =
      let x = left c.tape c.reverse in
      let near = left_within c.tape c.reverse in
      let within = s.sound.within in
      record {
        least = read_cost book i.level + p.least;
        owed = inl (copied steps book r under c.forward_ended i older x p.least reads s.stacked (omega arith) (owed_at c.forward_ended (i ∷ older) n i.position x x p.least (sym e) refl p.owed));
        enough = omega (arith, p.enough, cost_copy n k rest book, ap (read_cost book) f);
      }

  pays_end : (c : Configuration) (images : List Image) (n : ℕ) → Standing steps book r c images → c.reverse ≡ 0 → Pays c images n
  pays_end c images n s e = record {
    least = 0;
    owed = inl (nothing_left images (left c.tape c.reverse) (let near = left_within c.tape c.reverse in omega arith));
    enough = omega (arith, no_tape c.tape c.reverse s.sound.tape_is_next e);
  }
    where
      nothing_left : (images : List Image) (x : ℕ) → x ≡ 0 → Back steps book r images x 0
      nothing_left [] x e = e
      nothing_left (i ∷ older) x e = inl (omega arith, nothing_left older x e)

      no_tape : (o : Option ℕ) (r : ℕ) → MatchOption o (Unit {0}) (λ t. t + 1 ≡ r) → r ≡ 0 → on_tape book o ≡ 0
      no_tape None r h e = refl
      no_tape (Some n) r h e = absurd (omega arith)

  -- the same, behind a Move whose state is still needed: what comes next tapes the step, or stores the state on a faster level
  moved_tape : (c : Configuration) (from to : ℕ) (d : Configuration) (i : Image) (older : List Image) (rest : List Action) → Standing steps book r c older → Goes steps (slots_of book) c (Forward from to Tape) d →
      Stacked steps book r (i ∷ older) → from ≡ i.position →
      Pays (after c (Forward from to Tape)) older (cost rest book) → PaysBack c (i ∷ older) (read_cost book i.level + cost (Forward from to Tape ∷ rest) book)
  moved_tape c from to d i older rest s g stacked e p =
      let within = s.sound.within in
      let may = g.1 in
      let one : to - from ≡ 1 = omega (arith, g.2) in
      let whole = ap (λ o. left o c.reverse) g.4 in
      let at : suc i.position ≡ left c.tape c.reverse = omega (arith, g.2, g.3, whole) in
      let n = read_cost book i.level + book.forward + book.reverse + p.least in
      let P : ℕ → Type 0 = λ x. Back steps book r (i ∷ older) x n in
      record {
        least = n;
        back = subst P at (moved_taped steps book r under c.forward_ended i older p.least (omega (arith, g.2, g.3)) stacked
            (owed_at c.forward_ended older to (suc i.position) (c.reverse - 1) i.position p.least (omega (arith, g.2)) (omega (arith, g.2, g.3)) p.owed));
        enough = omega (arith, p.enough, cost_tape from to rest book, ap (on_tape book) g.4, ap (λ n. n * book.forward) one);
      }

  moved_store : (c : Configuration) (from to j : ℕ) (d : Configuration) (i : Image) (older : List Image) (rest : List Action) → r.reading c.forward_ended ≡ true → r.storing c.forward_ended j ≡ true → Goes steps (slots_of book) c (Forward from to (Store j)) d →
      Standing steps book r c older → Stacked steps book r (i ∷ older) → i.position < left c.tape c.reverse → from ≡ i.position → j < i.level → GoesOnTop older from j →
      Pays (after c (Forward from to (Store j))) (record { position = from; level = j } ∷ older) (cost rest book) → PaysBack c (i ∷ older) (read_cost book i.level + cost (Forward from to (Store j) ∷ rest) book)
  moved_store c from to j d i older rest reads may_store g s stacked live e lt top p =
      let may = g.1 in
      let place = g.2 in
      let x = left c.tape c.reverse in
      let near = left_within c.tape c.reverse in
      let within = s.sound.within in
      let P : ℕ → Type 0 = λ a. Owed steps book r c.forward_ended (record { position = a; level = j } ∷ older) (a + (to - from)) x p.least in
      let gone : P from = owed_at c.forward_ended (record { position = from; level = j } ∷ older) to (from + (to - from)) x x p.least (omega arith) refl p.owed in
      let room_left = slot_left steps book r c older from j s place (before_top older from j top) (omega arith) in
      record {
        least = read_cost book i.level + (write_cost book j + (to - from) * book.forward + p.least);
        back = moved_stored steps book r under c.forward_ended i older (to - from) j x p.least reads may_store stacked live (omega arith) (omega arith) lt room_left (subst P e gone);
        enough = omega (arith, p.enough, cost_store from to j rest book);
      }

  -- the configuration behind the first action of a list that leads somewhere
  leads_on : (c : Configuration) (a : Action) (rest : List Action) (last : Configuration) → Leads steps (slots_of book) c (a ∷ rest) last → Leads steps (slots_of book) (after c a) rest last
  leads_on c a rest last leads =
      let P : Configuration → Type 0 = λ m. Leads steps (slots_of book) m rest last in
      subst P (goes_after steps (slots_of book) c a leads.0 leads.1) leads.2

  -- the cost of a list is enough, by recursion on it; a Move of a state that is still needed goes together with the action behind it
  mutual
    pays : (list : List Action) (c : Configuration) (images : List Image) (last : Configuration) → Leads steps (slots_of book) c list last → c.ended ≡ false → last.ended ≡ true →
        IsNestedFrom c.reverse images list → IsAllowed r c.forward_ended list → Standing steps book r c images → Pays c images (cost list book)
    pays [] c images last leads open_ ended nested allowed s = absurd (true≢false (sym ended ∙ ap (λ (x : Configuration). x.ended) leads ∙ open_))
    pays (Forward from to Nothing ∷ rest) c images last leads open_ ended nested allowed s =
        let a = Forward from to Nothing in
        let may = leads.1.1 in
        pays_forward c from to leads.0 images rest s leads.1
        (pays rest (after c a) images last (leads_on c a rest last leads) open_ ended nested allowed
        (stands_on steps book r c a leads.0 images s leads.1 refl (not_past_later images c.work to s.now (omega arith))))
    pays (Forward from to (Store k) ∷ rest) c images last leads open_ ended nested allowed s =
        let a = Forward from to (Store k) in
        let p = pays rest (after c a) (record { position = from; level = k } ∷ images) last (leads_on c a rest last leads) open_ ended nested.1 allowed.1
        (stands_stored steps book r c from to k leads.0 images s leads.1 nested.0) in
        record {
          least = write_cost book k + (to - from) * book.forward + p.least;
          owed = owed_stored c from to k leads.0 images p.least allowed.0 s leads.1 nested.0 p.owed;
          enough = omega (arith, p.enough, cost_store from to k rest book);
        }
    pays (Forward from to Tape ∷ rest) c images last leads open_ ended nested allowed s =
        let a = Forward from to Tape in
        let may = leads.1.1 in
        pays_tape c from to leads.0 images rest leads.1
        (pays rest (after c a) images last (leads_on c a rest last leads) open_ ended nested allowed
        (stands_on steps book r c a leads.0 images s leads.1 refl (not_past_later images c.work to s.now (omega arith))))
    pays (Reverse from to ∷ rest) c images last leads open_ ended nested allowed s =
        let a = Reverse from to in
        pays_reverse c from to leads.0 images rest leads.1
        (pays rest (after c a) images last (leads_on c a rest last leads) open_ ended nested allowed (stands_on steps book r c a leads.0 images s leads.1 refl s.now))
    pays (Copy n k Work ∷ rest) c [] last leads open_ ended nested allowed s = absurd nested.0
    pays (Copy n k Work ∷ rest) c (i ∷ older) last leads open_ ended nested allowed s =
        let a = Copy n k Work in
        let newest = nested.0 in
        pays_copy c n k i older rest allowed.0 s newest.0 newest.1
        (pays rest (after c a) (i ∷ older) last (leads_on c a rest last leads) open_ ended nested.1 allowed.1 (stands_on steps book r c a leads.0 (i ∷ older) s leads.1 refl (omega arith)))
    pays (Copy n k (Level j) ∷ rest) c images last leads open_ ended nested allowed s = absurd nested
    pays (Move n k Work ∷ rest) c [] last leads open_ ended nested allowed s = absurd nested.0
    pays (Move n k Work ∷ rest) c (i ∷ older) last leads open_ ended nested allowed s =
        let a = Move n k Work in
        let newest = nested.0 in
        let x = left c.tape c.reverse in
        let near = left_within c.tape c.reverse in
        let on = leads_on c a rest last leads in
        let stands = stands_moved steps book r c n k leads.0 i older s leads.1 newest.0 newest.1 in
        elim (cases_lt i.position x) [
          | inl live ↦
              let P : ℕ → Type 0 = λ m. KeepsFaster m k rest in
              let Q : ℕ → Type 0 = λ j. KeepsFaster i.position j rest in
              let keeps = subst Q (sym newest.1) (subst P (sym newest.0) (nested.1 (omega arith))) in
              let p = pays_moved rest (after c a) i older last on open_ ended nested.2 allowed.0 allowed.1 stands s.stacked (sym newest.0) live keeps in
              record { least = p.least; owed = inl p.back; enough = omega (arith, p.enough, cost_move n k rest book, ap (read_cost book) newest.1) }
          | inr stale ↦
              let p = pays rest (after c a) older last on open_ ended nested.2 allowed.1 stands in
              record {
                least = p.least;
                owed = inl (moved_stale steps book r under c.forward_ended i older x p.least stale (owed_at c.forward_ended older n i.position x x p.least (sym newest.0) refl p.owed));
                enough = omega (arith, p.enough, cost_move n k rest book);
              }
        ]
    pays (Move n k (Level j) ∷ rest) c images last leads open_ ended nested allowed s = absurd nested
    pays (EndForward ∷ rest) c images last leads open_ ended nested allowed s =
        let a = EndForward in
        let p = pays rest (after c a) images last (leads_on c a rest last leads) open_ ended nested allowed (stands_on steps book r c a leads.0 images s leads.1 refl s.now) in
        let P : Bool → Type 0 = λ e. Owed steps book r e images c.work (left c.tape c.reverse) p.least in
        let before = owed_before steps book r under images c.work (left c.tape c.reverse) p.least (level_known steps book r images some s.stacked)
        (let within = s.sound.within in let near = left_within c.tape c.reverse in omega arith) p.owed in
        record { least = p.least; owed = subst P (sym leads.1.1) before; enough = omega (arith, p.enough, cost_end_forward rest book) }
    pays (EndReverse ∷ rest) c images last leads open_ ended nested allowed s = pays_end c images (cost (EndReverse ∷ rest) book) s leads.1.2

    pays_moved : (list : List Action) (c : Configuration) (i : Image) (older : List Image) (last : Configuration) → Leads steps (slots_of book) c list last → c.ended ≡ false → last.ended ≡ true →
        IsNestedFrom c.reverse older list → r.reading c.forward_ended ≡ true → IsAllowed r c.forward_ended list → Standing steps book r c older → Stacked steps book r (i ∷ older) → c.work ≡ i.position → i.position < left c.tape c.reverse →
        KeepsFaster i.position i.level list → PaysBack c (i ∷ older) (read_cost book i.level + cost list book)
    pays_moved (Forward from to Tape ∷ rest) c i older last leads open_ ended nested reads allowed s stacked here live keeps =
        let a = Forward from to Tape in
        let may = leads.1.1 in
        moved_tape c from to leads.0 i older rest s leads.1 stacked keeps
        (pays rest (after c a) older last (leads_on c a rest last leads) open_ ended nested allowed
        (stands_on steps book r c a leads.0 older s leads.1 refl (not_past_later older c.work to s.now (omega arith))))
    pays_moved (Forward from to (Store j) ∷ rest) c i older last leads open_ ended nested reads allowed s stacked here live keeps =
        let a = Forward from to (Store j) in
        moved_store c from to j leads.0 i older rest reads allowed.0 leads.1 s stacked live keeps.0 keeps.1 nested.0
        (pays rest (after c a) (record { position = from; level = j } ∷ older) last (leads_on c a rest last leads) open_ ended nested.1 allowed.1
        (stands_stored steps book r c from to j leads.0 older s leads.1 nested.0))
    pays_moved _ c i older last leads open_ ended nested reads allowed s stacked here live keeps = absurd keeps

  -- what is owed at the start is the entry of the slowest level with all its slots
  top_owed : (m : ℕ) → 0 < steps → Owed steps book r false [] 0 steps m → Within (r.fresh false (length book.levels - 1) steps (room book (length book.levels - 1) steps)) m
  top_owed m long (inl b) = absurd (omega arith)
  top_owed m long (inr other) =
      let ahead : Potential.Ahead steps book r false [] 0 steps m = elim other [
        | inl a ↦ a
        | inr p ↦ Potential.tapes_ahead steps book r under false [] 0 steps m (omega arith) (omega arith) tt p
      ] in
      let s = ahead.both in
      let begun : ahead.at ≡ 0 = s.second in
      let top = length book.levels - 1 in
      within_more (r.fresh false top steps (room book top steps)) s.one m
      (same_entry (r.fresh false top) (steps - ahead.at) steps (room book top steps - 0) (room book top steps) s.one s.first (omega arith) (omega arith))
      (omega (arith, s.enough, ahead.enough))

  -- a list costs at least that entry
  pub list_pays : (list : List Action) → 0 < steps → Valid steps (slots_of book) list → IsNestedFrom steps [] list → IsAllowed r false list →
      Within (r.fresh false (length book.levels - 1) steps (room book (length book.levels - 1) steps)) (cost list book)
  list_pays list long valid nested allowed =
      let p = pays list (start steps (slots_of book)) [] valid.0 valid.1 refl valid.2 nested allowed (stands_start steps book r) in
      let top = length book.levels - 1 in
      within_more (r.fresh false top steps (room book top steps)) p.least (cost list book) (top_owed p.least long p.owed) (omega (arith, p.enough))
