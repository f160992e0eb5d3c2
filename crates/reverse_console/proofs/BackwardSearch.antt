-- Marks that are got one after the other, from the last below a place down, while a state is sought.
use Rattle.std.proofs.Common.{◌≡◌, ℕ, ◌+◌, ◌-◌, ◌*◌, ◌<◌, ◌≤◌, min, List, [], ◌∷◌, ◌++◌, map, Some, None, Option, Result, Ok, Err, IfOk, IfErr, refl, sym, ◌∙◌, ap, subst, arith}
use Rattle.keepers.specs.declared.storage.Storage.{Ghosts}
use Rattle.reverse_runner.specs.KeepersSeen.{HaveRoom, told_by}
use Rattle.reverse_runner.specs.Rooms.{image_room, AreShort}
use Rattle.reverse_runner.specs.SessionState.{SamePages}
use Rattle.reverse_runner.specs.declared.fault.RunFault.{RunFault}
use Rattle.reverse_runner.proofs.Rooms.{same_room, short_same}
use Rattle.reverse_queries.specs.Queries.{IsLast}
use Rattle.reverse_runner.specs.declared.desk.Desk.{Desk}
use Rattle.reverse_console.specs.declared.order.Sought.{Sought}
use Rattle.reverse_console.specs.Costs.{Effort, looking_back, marks_down, BreaksBack}
use Rattle.reverse_runner.specs.DeskFields.{Fits}
use Rattle.reverse_console.specs.Marks.{MarkPlan, span, stride, marked, mark_of, mark_count, marks_below}
use Rattle.reverse_console.specs.MarkInvariant.{AreSet, IsReady, source, Looks}
use Rattle.reverse_console.specs.Refusals.{IsNotGot}
use Rattle.reverse_console.specs.SearchTargets.{Meets, MeetsFrom}
use Rattle.reverse_console.specs.StateSources.{Source, ComesFrom, IsLastSeen}
use Rattle.reverse_console.proofs.MarkGets.{Got, err_at, gets_as, gets_err, gets_ok, gets_then, gets_moved, gets_still, comes_then, not_got_then}
use Rattle.reverse_console.proofs.Numbers.{below_reach, below_low, marked_within, mark_of_is, marks_none, marks_more}
use Rattle.reverse_console.proofs.FetchedStates.{NoneSeen, none_on, last_on, none_below}

-- a call that was done
abbrev pub well : Result Unit RunFault
well = Ok tt

module _ {K : Type 0} (seen : Ghosts K) (p : MarkPlan) (journal : List (List ℕ)) where
  -- where states came from at the start
  abbrev from : Desk → List K → Source
  from w old = source p journal w (told_by seen old)

  abbrev Did : {A : Type 0} → List ℕ → Result A RunFault → Desk → Desk → List K → List K → Type 0
  Did marks r w v old new = Got seen p journal marks r w v old new

  -- the stretches so far were gone through, from the place down to the end of the next one, and none of their states does it
  pub record LastWay (sought : Sought) (place : ℕ) (w v : Desk) (old new : List K) (steps steps' end left : ℕ) : Type 0 where
    pub got : Did (marks_down (marks_below p place) left) well w v old new
    pub none : NoneSeen (from w old) (Meets sought journal) end place
    pub at : end ≡ min place (marked p left)
    pub low : (left - 1) * stride p ≤ end
    pub known : left ≤ marks_below p place
    pub counted : steps' + end ≡ steps + place

  pub way_start : (sought : Sought) (place : ℕ) (w : Desk) (old : List K) (steps left : ℕ) → place ≤ p.count → left ≡ marks_below p place → Fits w → LastWay sought place w w old old steps steps place left
  way_start sought place w old steps left within is fits =
      let reach = below_reach p place within in
      let low = below_low p place in
      let there = ap (λ (i : ℕ). i * stride p) is in
      let before = ap (λ (i : ℕ). (i - 1) * stride p) is in
      let M : ℕ → Type 0 = λ i. Did (marks_down (marks_below p place) i) well w w old old in
      record {
        got = subst M (sym is) (gets_as seen p journal [] (marks_down (marks_below p place) (marks_below p place)) well w w old old (sym (marks_none (marks_below p place)))
            (gets_still seen p journal tt w old fits));
        none = λ n at below. absurd (omega (arith, at, below));
        at = omega (arith, reach, there);
        low = omega (arith, low, before);
        known = omega (arith, is);
        counted = omega arith;
      }

  -- marks can still be got
  pub ready_still : {A : Type 0} (marks : List ℕ) (r : Result A RunFault) (w v : Desk) (old new : List K) → Did marks r w v old new → IsReady p w (map seen.slot_count old) → IsReady p v (map seen.slot_count new)
  ready_still marks r w v old new g ready =
      let S : ℕ → Type 0 = λ most. AreShort most v.store in
      record {
        set = subst (AreSet p (mark_count p)) (sym g.reads.store) ready.set;
        room = subst (HaveRoom (span p) p.slots) (sym g.are.slots) ready.room;
        fits = g.reads.fits;
        short = subst S (sym (same_room v.work w.work g.reads.machine)) (short_same (image_room w.work) w.store v.store g.reads.store ready.short);
      }

  -- one stretch more: its mark is got
  module _ (sought : Sought) (place : ℕ) (w v v1 : Desk) (old mid new : List K) (steps steps' end left m at : ℕ) (r : Result Unit RunFault)
      (within : place ≤ p.count) (way : LastWay sought place w v old mid steps steps' end left) (some : 0 < left) (is : m ≡ left - 1) (here : at ≡ marked p m) (one : Did (m ∷ []) r v v1 mid new) where
    both_got : Did (marks_down (marks_below p place) m) r w v1 old new
    both_got =
        let known = way.known in
        let more = marks_more (marks_below p place) left some known in
        let M : ℕ → Type 0 = λ i. marks_down (marks_below p place) i ≡ marks_down (marks_below p place) left ++ i ∷ [] in
        let list = subst M (sym is) more in
        gets_as seen p journal (marks_down (marks_below p place) left ++ m ∷ []) (marks_down (marks_below p place) m) r w v1 old new (sym list)
        (gets_then seen p journal (marks_down (marks_below p place) left) (m ∷ []) well tt r w v v1 old mid new refl way.got one)

    stretch_below : at ≤ end
    stretch_below =
        let low = way.low in
        let same = ap (λ (i : ℕ). i * stride p) is in
        omega (arith, low, same, here)

    -- it isn't got
    pub way_broken : (s : Result (Option ℕ) RunFault) (x y : RunFault) → r ≡ Err x → s ≡ Err y → y ≡ x → IfErr r (IsNotGot (from v mid) m) →
        Looks seen p journal (looking_back p place) (BreaksBack p place) s w v1 old new steps steps'
    way_broken s x y first second same missed =
        let known = way.known in
        let counted = way.counted in
        let next : m + 1 ≡ left = omega (arith, some, is) in
        let there = ap (marked p) next in
        let end_is = way.at in
        let took = steps' - steps in
        let e : Effort = record { marks = marks_down (marks_below p place) m; steps = took } in
        let low : end ≤ place = omega (arith, end_is) in
        record {
          effort = e;
          got = gets_err seen p journal (marks_down (marks_below p place) m) r s x y w v1 old new first second same both_got;
          counted = omega (arith, counted, low);
          done = err_done (λ answer. e ≡ looking_back p place answer) s y second;
          broken = err_at (λ fault. (mark : ℕ) × (BreaksBack p place mark e × IsNotGot (from w old) mark fault)) s y second (
            m,
            (
              record { below = omega (arith, known, some, is); marks = refl; steps = omega (arith, counted, low, there, end_is) },
              not_got_then seen p journal (marks_down (marks_below p place) left) w v old mid way.got.reads m y
                  (subst (IsNotGot (from v mid) m) (sym same) (if_err_is r x first (IsNotGot (from v mid) m) missed)),
            ),
          );
        }
      where
        err_done : (P : Option ℕ → Type 0) (s : Result (Option ℕ) RunFault) (y : RunFault) → s ≡ Err y → IfOk s P
        err_done P (Ok a) y e = absurd cc
        err_done P (Err a) y e = tt

        if_err_is : (r : Result Unit RunFault) (x : RunFault) → r ≡ Err x → (P : RunFault → Type 0) → IfErr r P → P x
        if_err_is (Ok a) x e P h = absurd cc
        if_err_is (Err a) x e P h = let same : a ≡ x = cc in subst P same h

    -- it is, and the machine went through it
    module _ (v2 : Desk) (steps'' : ℕ) (x : Unit) (done : r ≡ Ok x) (comes : ComesFrom (from v mid) m (marked p m) v1.work) (pages : SamePages v2.work v1.work) (store : v2.store ≡ v1.store) (fits : Fits v2)
        (counted : steps'' ≡ steps' + (end - at)) where
      comes_first : ComesFrom (from w old) m (marked p m) v1.work
      comes_first = comes_then seen p journal (marks_down (marks_below p place) left) w v old mid way.got.reads m (marked p m) v1.work comes

      gets_one_more : {A : Type 0} (y : A) → Did (marks_down (marks_below p place) m) (Ok y) w v2 old new
      gets_one_more y =
          gets_ok seen p journal (marks_down (marks_below p place) m) r x y w v2 old new done
          (gets_moved seen p journal (marks_down (marks_below p place) m) r w v1 v2 old new pages store fits both_got)

      pub way_on : IsLast (MeetsFrom sought journal v1.work at) end None → LastWay sought place w v2 old new steps steps'' at m
      way_on none =
          let P : ℕ → Type 0 = λ i. IsLast (MeetsFrom sought journal v1.work i) end None in
          let Q : ℕ → Type 0 = λ i. NoneSeen (from w old) (Meets sought journal) i place in
          let end_is = way.at in
          let below = stretch_below in
          let known = way.known in
          let rise = marked_within p (m - 1) m (omega arith) in
          let c = way.counted in
          record {
            got = gets_one_more tt;
            none = subst Q (sym here) (none_on (from w old) sought m end place v1.work comes_first (subst P here none) way.none);
            at = omega (arith, here, below, end_is);
            low = omega (arith, here, rise);
            known = omega (arith, known, is);
            counted = omega (arith, c, counted, below);
          }

      -- in the stretch the last was found
      pub way_found : (found : Option ℕ) → IsLast (MeetsFrom sought journal v1.work at) end found → (found ≡ None → ⊥) → IsLastSeen (from w old) (Meets sought journal) place found
      way_found None h none = absurd (none refl)
      way_found (Some n) h none =
          let P : ℕ → Type 0 = λ i. IsLast (MeetsFrom sought journal v1.work i) end (Some n) in
          let end_is = way.at in
          last_on (from w old) sought m end place n v1.work comes_first (omega (arith, end_is)) (subst P here h) way.none

      pub way_looked : (found : Option ℕ) → IsLast (MeetsFrom sought journal v1.work at) end found → (found ≡ None → ⊥) →
          Looks seen p journal (looking_back p place) (BreaksBack p place) (Ok found) w v2 old new steps steps''
      way_looked None h none = absurd (none refl)
      way_looked (Some n) h none =
          let end_is = way.at in
          let below = stretch_below in
          let c = way.counted in
          let low : at ≤ n = h.0.0 in
          let high : n < end = h.1 in
          let next : m + 1 ≡ left = omega (arith, some, is) in
          let there = ap (marked p) next in
          let mark : mark_of p n ≡ m = mark_of_is p m n (omega (arith, low, here)) (omega (arith, high, end_is, there)) (omega (arith, high, end_is, within)) in
          let at_mark = ap (marked p) mark in
          record {
            effort = record { marks = marks_down (marks_below p place) m; steps = place - at };
            got = gets_one_more (Some n);
            counted = omega (arith, c, counted, below, end_is);
            done = ap (λ (i : ℕ). let e : Effort = record { marks = marks_down (marks_below p place) i; steps = place - at } in e) (sym mark)
                ∙ ap (λ (s : ℕ). let e : Effort = record { marks = marks_down (marks_below p place) (mark_of p n); steps = place - s } in e) (here ∙ sym at_mark);
            broken = tt;
          }

  -- all stretches were gone through
  pub way_done : (sought : Sought) (place : ℕ) (w v : Desk) (old new : List K) (steps steps' end left : ℕ) → LastWay sought place w v old new steps steps' end left → left ≡ 0 → IsLastSeen (from w old) (Meets sought journal) place None
  way_done sought place w v old new steps steps' end left way none =
      let at = way.at in
      let same = ap (λ (i : ℕ). i * stride p) none in
      let e : end ≡ 0 = omega (arith, at, same) in
      none_below (from w old) (Meets sought journal) place (subst (λ (n : ℕ). NoneSeen (from w old) (Meets sought journal) n place) e way.none)

  pub way_ended : (sought : Sought) (place : ℕ) (w v : Desk) (old new : List K) (steps steps' end left : ℕ) → LastWay sought place w v old new steps steps' end left → left ≡ 0 →
      Looks seen p journal (looking_back p place) (BreaksBack p place) (Ok None) w v old new steps steps'
  way_ended sought place w v old new steps steps' end left way none =
      let at = way.at in
      let c = way.counted in
      let same = ap (λ (i : ℕ). i * stride p) none in
      let M : ℕ → Type 0 = λ i. Did (marks_down (marks_below p place) i) well w v old new in
      record {
        effort = looking_back p place None;
        got = gets_ok seen p journal (marks_down (marks_below p place) 0) well tt None w v old new refl (subst M none way.got);
        counted = omega (arith, at, c, same);
        done = refl;
        broken = tt;
      }
