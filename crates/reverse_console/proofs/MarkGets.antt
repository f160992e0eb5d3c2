-- Calls that get marks, one after the other.
use Rattle.std.proofs.Common.{◌≡◌, ◌≢◌, inl, inr, ℕ, ◌+◌, ◌-◌, ◌==◌, ◌<◌, ◌≤◌, cond, List, [], ◌∷◌, ◌++◌, length, count_by, Some, Option, Result, Ok, Err, OnOk, IfErr, refl, sym, ◌∙◌, ap, subst, arith}
use Rattle.std.specs.Vec.{vec_capacity}
use Rattle.std.proofs.lemmas.Result.{IfErr-at_err}
use Rattle.std.proofs.lemmas.List.Sums.{sum_by-append}
use Rattle.sha2.specs.Sha256.{sha256}
use Rattle.input_journal.specs.Form.{IsRecorded}
use Rattle.keepers.specs.Claims.{Images}
use Rattle.keepers.specs.declared.storage.Storage.{Ghosts}
use Rattle.rv_pages.specs.Memory.{page_numbers}
use Rattle.rv_machine.specs.MachineState.{MachineState, IsMachineState}
use Rattle.rv_machine.specs.States.{state_number}
use Rattle.image_store.specs.Shelves.{ShelfState, level_of, kept_at}
use Rattle.image_store.specs.Calls.{IsGot}
use Rattle.image_store.specs.StoredImages.{LevelStands}
use Rattle.reverse_runner.specs.ActionEffects.{IsFetched, IsDecoded, IsAsBefore}
use Rattle.reverse_runner.specs.HoldingsOfRun.{LevelStandsAt}
use Rattle.reverse_runner.specs.SessionState.{SamePages}
use Rattle.reverse_runner.specs.SessionOfRun.{IsNoImage}
use Rattle.reverse_runner.specs.Desks.{KeepersAre}
use Rattle.reverse_runner.specs.KeepersSeen.{Calls, Called, told_by, calls_to}
use Rattle.reverse_runner.specs.KeeperCallEffects.{one_get, IsKeeping, IsFetching, IsOther}
use Rattle.reverse_runner.specs.declared.fault.RunFault.{RunFault}
use Rattle.reverse_runner.specs.declared.fault.RunFault.TheVariants.{Keeper, Damaged, Visitor, Memory, Ended}
use Rattle.reverse_runner.proofs.AllCalls.{called_then, called_same, calls_then}
use Rattle.reverse_queries.proofs.Progress.{same_fault}
use Rattle.reverse_runner.specs.declared.desk.Desk.{Desk}
use Rattle.reverse_console.specs.Costs.{gets_of}
use Rattle.reverse_runner.specs.DeskFields.{Fits, levels_in}
use Rattle.reverse_console.specs.Marks.{MarkPlan, marked, mark_count, mark_level, marked_on}
use Rattle.reverse_console.specs.MarkInvariant.{StandAt, source, Reads, Gets}
use Rattle.reverse_console.specs.Refusals.{IsNotGot}
use Rattle.reverse_runner.specs.Rooms.{image_room, rooms_by, AreRoomy}
use Rattle.reverse_runner.proofs.Rooms.{still_roomy}
use Rattle.reverse_runner.proofs.KeeperCalls.{are_as, are_err, are_ok, are_still, are_then, are_wider}
use Rattle.reverse_console.specs.StateSources.{ComesFrom, IsMarkDamaged}
use Rattle.reverse_console.proofs.KeeperCalls.{if_err_map, of_fetching}
use Rattle.reverse_console.proofs.MarkStates.{SourceStands, mark_stands, fetched_mark, mark_is_image}
use Rattle.reverse_console.proofs.FetchedStates.{comes_back, not_got_back, got_one, got_none}

-- what holds at Ok holds, where there is an error
pub ok_never : {T E : Type 0} (P : Type 0) (r : Result T E) (x : E) → r ≡ Err x → OnOk r P
ok_never P (Ok v) x e = absurd cc
ok_never P (Err y) x e = tt

pub at_ok : {T E P : Type 0} (r : Result T E) (x : T) → r ≡ Ok x → OnOk r P → P
at_ok (Ok v) x e h = h
at_ok (Err y) x e h = absurd cc

pub err_at : {T E : Type 0} (P : E → Type 0) (r : Result T E) (x : E) → r ≡ Err x → P x → IfErr r P
err_at P (Ok v) x e h = tt
err_at P (Err y) x e h = let same : x ≡ y = cc in subst P same h

-- a desk with other states in work, and with a buffer that holds as much
pub fits_on : (w v : Desk) → SamePages v.work w.work → vec_capacity w.buffer ≤ vec_capacity v.buffer → Fits w → Fits v
fits_on w v same more fits =
    let e = ap (λ (l : List ℕ). length l) same in
    let few = fits.few in
    let buffer = fits.buffer in
    record { few = omega (arith, e, few); buffer = omega (arith, e, more, buffer) }

-- the levels stand as long as they are as they were
pub stand_same : (first : MachineState) (journal : List (List ℕ)) (p : MarkPlan) (i : ℕ) (store store' : List ShelfState) (told told' : ℕ → Option Images) → store' ≡ store → ((k : ℕ) → told' k ≡ told k) →
    StandAt first journal p i store told → StandAt first journal p i store' told'
stand_same first journal p i store store' told told' es et stands k j known at =
    subst (λ (o : Option Images). LevelStandsAt (state_number first journal) (marked_on p i k) (level_of store' k) o) (sym (et k))
    (subst (λ (s : List ShelfState). LevelStandsAt (state_number first journal) (marked_on p i k) (level_of s k) (told k)) (sym es) (stands k j known at))

-- the counts of two lists of marks
both_counted : (p : MarkPlan) (xs ys : List ℕ) (k : ℕ) → count_by (λ i. mark_level p i == k) xs + count_by (λ i. mark_level p i == k) ys ≡ count_by (λ i. mark_level p i == k) (xs ++ ys)
both_counted p xs ys k = let f : ℕ → ℕ = λ i. cond (mark_level p i == k) 1 0 in sym (sum_by-append f xs ys)

got_then : (p : MarkPlan) (xs ys : List ℕ) (a b c : Calls) → Called (gets_of p xs) a b → Called (gets_of p ys) b c → Called (gets_of p (xs ++ ys)) a c
got_then p xs ys a b c first second =
    called_same (calls_then (gets_of p xs) (gets_of p ys)) (gets_of p (xs ++ ys)) a c (called_then (gets_of p xs) (gets_of p ys) a b c first second) (λ k. refl) (both_counted p xs ys) (λ k. refl)

module _ {K : Type 0} (seen : Ghosts K) (p : MarkPlan) (journal : List (List ℕ)) where
  abbrev pub Got : {T : Type 0} → List ℕ → Result T RunFault → Desk → Desk → List K → List K → Type 0
  Got marks r w w' old new = Gets seen p journal marks r w w' old new

  abbrev pub Read : List ℕ → Desk → Desk → List K → List K → Type 0
  Read marks w w' old new = Reads seen p marks w w' old new

  -- a fault that is passed on
  pub gets_err : {A B : Type 0} (marks : List ℕ) (r : Result A RunFault) (s : Result B RunFault) (x y : RunFault) (w w' : Desk) (old new : List K) → r ≡ Err x → s ≡ Err y → y ≡ x → Got marks r w w' old new → Got marks s w w' old new
  gets_err marks r s x y w w' old new first second same g = record {
    reads = g.reads;
    are = are_err seen (λ k. k < length p.slots) r s x y old new first second same g.are;
    lasting = λ e. g.lasting (same_fault r s x y Ended first second same e);
    undamaged = λ one is pages stands k put got e. g.undamaged one is pages stands k put got (same_fault r s x y (Damaged k put got) first second same e);
    roomy = λ has e. g.roomy has (same_fault r s x y Memory first second same e);
  }

  -- an answer that is made of another one
  pub gets_ok : {A B : Type 0} (marks : List ℕ) (r : Result A RunFault) (x : A) (y : B) (w w' : Desk) (old new : List K) → r ≡ Ok x → Got marks r w w' old new → Got marks (Ok y) w w' old new
  gets_ok marks r x y w w' old new is g = record {
    reads = g.reads;
    are = are_ok seen (λ k. k < length p.slots) r x y old new is g.are;
    lasting = λ e. absurd cc;
    undamaged = λ one ms pages stands k put got e. absurd cc;
    roomy = λ has e. absurd cc;
  }

  reads_then : (xs ys : List ℕ) (u v w : Desk) (a b c : List K) → Read xs u v a b → Read ys v w b c → Read (xs ++ ys) u w a c
  reads_then xs ys u v w a b c first second = record {
    machine = second.machine ∙ first.machine;
    fits = second.fits;
    store = second.store ∙ first.store;
    told_same = λ k. second.told_same k ∙ first.told_same k;
    called = got_then p xs ys (calls_to seen a) (calls_to seen b) (calls_to seen c) first.called second.called;
  }

  -- what is missed of a mark later was missed before
  pub not_got_then : (xs : List ℕ) (u v : Desk) (a b : List K) → Read xs u v a b → (mark : ℕ) (fault : RunFault) → IsNotGot (source p journal v (told_by seen b)) mark fault → IsNotGot (source p journal u (told_by seen a)) mark fault
  not_got_then xs u v a b reads mark fault d =
      let P : List ShelfState → Type 0 = λ s. IsNotGot (record { plan = p; journal = journal; levels = record { store = s; told = told_by seen b }; machine = v.work }) mark fault in
      not_got_back p journal u.store (told_by seen a) (told_by seen b) u.work v.work reads.told_same reads.machine mark fault (subst P reads.store d)

  -- what comes from the levels later came from them before
  pub comes_then : (xs : List ℕ) (u v : Desk) (a b : List K) → Read xs u v a b → (i n : ℕ) (s : MachineState) → ComesFrom (source p journal v (told_by seen b)) i n s → ComesFrom (source p journal u (told_by seen a)) i n s
  comes_then xs u v a b reads i n s comes =
      let P : List ShelfState → Type 0 = λ t. ComesFrom (record { plan = p; journal = journal; levels = record { store = t; told = told_by seen b }; machine = v.work }) i n s in
      comes_back p journal u.store (told_by seen a) (told_by seen b) u.work v.work reads.told_same reads.machine i n s (subst P reads.store comes)

  -- one call after another that was done
  pub gets_then : {A B : Type 0} (xs ys : List ℕ) (r : Result A RunFault) (x : A) (s : Result B RunFault) (u v w : Desk) (a b c : List K) → r ≡ Ok x → Got xs r u v a b → Got ys s v w b c → Got (xs ++ ys) s u w a c
  gets_then xs ys r x s u v w a b c is first second =
      let here = λ (has : AreRoomy (image_room u.work) (length p.slots) (rooms_by seen a)). still_roomy u.work v.work p.slots p.slots (rooms_by seen a) (rooms_by seen b) first.reads.machine refl first.are.rooms has in
      record {
        reads = reads_then xs ys u v w a b c first.reads second.reads;
        are = are_then seen (λ k. k < length p.slots) r s a b c (λ k e. absurd (cc (is, e))) first.are second.are;
        lasting = second.lasting;
        undamaged = λ one ms pages stands. second.undamaged one ms (first.reads.machine ∙ pages) (stand_same one journal p (mark_count p) u.store v.store (told_by seen a) (told_by seen b) first.reads.store first.reads.told_same stands);
        roomy = λ has. second.roomy (here has);
      }

  -- the marks under another name
  pub gets_as : {A : Type 0} (xs ys : List ℕ) (r : Result A RunFault) (w w' : Desk) (a b : List K) → xs ≡ ys → Got xs r w w' a b → Got ys r w w' a b
  gets_as xs ys r w w' a b e g = subst (λ (l : List ℕ). Got l r w w' a b) e g

  -- the machine goes on, and nothing else happens
  pub gets_moved : {A : Type 0} (marks : List ℕ) (r : Result A RunFault) (u v w : Desk) (a b : List K) → SamePages w.work v.work → w.store ≡ v.store → Fits w → Got marks r u v a b → Got marks r u w a b
  gets_moved marks r u v w a b pages store fits g = let reads = g.reads in record {
    reads = record { machine = pages ∙ reads.machine; fits = fits; store = store ∙ reads.store; told_same = reads.told_same; called = reads.called };
    are = g.are;
    lasting = g.lasting;
    undamaged = g.undamaged;
    roomy = g.roomy;
  }

  -- the visitor refused what was got
  pub gets_unseen : {A B : Type 0} (marks : List ℕ) (r : Result A RunFault) (x : A) (w w' : Desk) (old new : List K) → r ≡ Ok x → Got marks r w w' old new → Got {T = B} marks (Err Visitor) w w' old new
  gets_unseen marks r x w w' old new is g = record {
    reads = g.reads;
    are = are_as seen (λ k. k < length p.slots) r (Err Visitor) old new (λ k e. absurd cc) (λ k e. absurd (cc (is, e))) g.are;
    lasting = λ e. absurd cc;
    undamaged = λ one ms pages stands k put got e. absurd cc;
    roomy = λ has e. absurd cc;
  }

  -- nothing was done
  pub gets_still : {A : Type 0} (x : A) (w : Desk) (a : List K) → Fits w → Got [] (Ok x) w w a a
  gets_still x w a fits = record {
    reads = record { machine = refl; fits = fits; store = refl; told_same = λ k. refl; called = got_none p (calls_to seen a) };
    are = are_still seen (λ k. k < length p.slots) x a;
    lasting = λ e. absurd cc;
    undamaged = λ one ms pages stands k put got e. absurd cc;
    roomy = λ has e. absurd cc;
  }

  -- ---- one mark

  module _ (i k n : ℕ) (w v : Desk) (old new : List K) (ek : k ≡ mark_level p i) (en : n ≡ marked p i) (known : i < mark_count p) (within : k < length p.slots)
      (recorded : IsRecorded journal) (fits : Fits v) (work : v.work ≡ w.work) (store : v.store ≡ w.store) (same : (j : ℕ) → IsAsBefore (levels_in w (told_by seen old)) (levels_in v (told_by seen new)) j)
      (called : Called (one_get k) (calls_to seen old) (calls_to seen new)) where
    one_read : Read (i ∷ []) w v old new
    one_read = record {
      machine = ap (λ (s : MachineState). page_numbers s.memory) work;
      fits = fits;
      store = store;
      told_same = λ j. (same j).1;
      called = got_one p i (calls_to seen old) (calls_to seen new) (subst (λ (x : ℕ). Called (one_get x) (calls_to seen old) (calls_to seen new)) ek called);
    }

    stands_at : (first : MachineState) → IsMachineState first → SamePages w.work first → StandAt first journal p (mark_count p) w.store (told_by seen old) → SourceStands first (source p journal w (told_by seen old))
    stands_at first is pages stands = record { is = is; recorded = recorded; machine = pages; levels = stands }

    -- other bytes came back than those that were put
    pub others_damaged : (r : Result (List ℕ) RunFault) → ((j : ℕ) (put got : List ℕ) → r ≡ Err (Damaged j put got) → (j ≡ k) × IsOther (levels_in w (told_by seen old)) k n put got) →
        (j : ℕ) (put got : List ℕ) → r ≡ Err (Damaged j put got) → IsMarkDamaged (source p journal w (told_by seen old)) i j put got
    others_damaged r damaged j put got e =
        let d = damaged j put got e in
        let o = d.1 in
        record {
          known = known;
          level = d.0 ∙ ek;
          kept = o.kept;
          held = subst (λ (m : ℕ). kept_at w.store j m ≡ Some o.kept) en (subst (λ (l : ℕ). kept_at w.store l n ≡ Some o.kept) (sym d.0) o.held);
          bytes = o.bytes;
          told = subst (λ (l : ℕ). IsGot o.kept (told_by seen old l) o.bytes) (sym d.0) o.told;
          put_digest = o.put_digest;
          got_digest = o.got_digest;
          wrong = inl o.other;
        }

    -- the mark could not be fetched
    pub gets_unfetched : {A : Type 0} (r : Result (List ℕ) RunFault) (s : Result A RunFault) (x y : RunFault) → r ≡ Err x → s ≡ Err y → y ≡ x → KeepersAre seen (λ j. j ≡ k) r old new → IfErr r (IsFetching k) →
        ((images : Images) → LevelStands (level_of w.store k) (told_by seen old k) images → IfErr r (IsKeeping k)) → (AreRoomy (image_room w.work) (length p.slots) (rooms_by seen old) → r ≢ Err Memory) → Got (i ∷ []) s w v old new
    gets_unfetched r s x y first second same_one are fetching sound roomy = record {
      reads = one_read;
      are = are_err seen (λ j. j < length p.slots) r s x y old new first second same_one (are_wider seen (λ j. j ≡ k) (λ j. j < length p.slots) r old new (λ j e. subst (λ (n : ℕ). n < length p.slots) (sym e) within) are);
      lasting = λ e. IfErr-at_err (IsFetching k) (same_fault r s x y Ended first second same_one e) fetching;
      undamaged = λ one is pages stands j put got e.
          let at = mark_stands one (source p journal w (told_by seen old)) i (stands_at one is pages stands) known in
          let level = subst (λ (l : ℕ). LevelStands (level_of w.store l) (told_by seen old l) at.0) (sym ek) at.1 in
          IfErr-at_err (IsKeeping k) (same_fault r s x y (Damaged j put got) first second same_one e) (sound at.0 level);
      roomy = λ has e. roomy has (same_fault r s x y Memory first second same_one e);
    }

    pub not_fetched : {A : Type 0} (r : Result (List ℕ) RunFault) (s : Result A RunFault) (x y : RunFault) → r ≡ Err x → s ≡ Err y → y ≡ x → IfErr r (IsFetching k) →
        ((j : ℕ) (put got : List ℕ) → r ≡ Err (Damaged j put got) → (j ≡ k) × IsOther (levels_in w (told_by seen old)) k n put got) → IfErr s (IsNotGot (source p journal w (told_by seen old)) i)
    not_fetched r s x y first second same_one fetching damaged =
        let from = source p journal w (told_by seen old) in
        err_at (IsNotGot from i) s y second
        (subst (IsNotGot from i) (sym same_one) (of_fetching from i k ek x (IfErr-at_err (IsFetching k) first fetching) (λ j put got e. others_damaged r damaged j put got (first ∙ ap Err e))))

    -- it was fetched, and decoded or not
    module _ (u : Desk) (s : Result Unit RunFault) (are : KeepersAre {A = Unit} seen (λ j. j ≡ k) (Ok tt) old new) (fetched : IsFetched (levels_in w (told_by seen old)) k n v.buffer.items) (pages : SamePages u.work v.work) (kept : u.store ≡ v.store) (fits_u : Fits u)
        (damaged : IfErr s (λ fault. (fault ≡ Damaged k (sha256 v.buffer.items) (sha256 v.buffer.items)) × IsNoImage v.work v.buffer.items)) where
      abbrev WasNoImage : RunFault → Type 0
      WasNoImage fault = (fault ≡ Damaged k (sha256 v.buffer.items) (sha256 v.buffer.items)) × IsNoImage v.work v.buffer.items

      fetched_there : IsFetched (levels_in w (told_by seen old)) (mark_level p i) (marked p i) v.buffer.items
      fetched_there = subst (λ (m : ℕ). IsFetched (levels_in w (told_by seen old)) (mark_level p i) m v.buffer.items) en (subst (λ (l : ℕ). IsFetched (levels_in w (told_by seen old)) l n v.buffer.items) ek fetched)

      pub comes_decoded : OnOk s (IsDecoded v.work u.work v.buffer.items) → OnOk s (ComesFrom (source p journal w (told_by seen old)) i (marked p i) u.work)
      comes_decoded h = by_cases s h
        where
          by_cases : (r : Result Unit RunFault) → OnOk r (IsDecoded v.work u.work v.buffer.items) → OnOk r (ComesFrom (source p journal w (told_by seen old)) i (marked p i) u.work)
          by_cases (Err e) h = tt
          by_cases (Ok x) h =
              let none : 0 ≡ marked p i - marked p i = omega arith in
              record {
                known = known;
                below = omega arith;
                bytes = v.buffer.items;
                fetched = fetched_there;
                state = u.work;
                decoded = (h.0, h.1, h.2 ∙ ap (λ (t : MachineState). page_numbers t.memory) work);
                there = ap (state_number u.work journal) none;
              }

      -- the bytes are no image
      no_image_got : (fault : RunFault) → WasNoImage fault → IsNotGot (source p journal w (told_by seen old)) i fault
      no_image_got fault d =
          let f = fetched_there in
          subst (IsNotGot (source p journal w (told_by seen old)) i) (sym d.0) (record {
            known = known;
            level = ek;
            kept = f.0;
            held = subst (λ (l : ℕ). kept_at w.store l (marked p i) ≡ Some f.0) (sym ek) f.1;
            bytes = v.buffer.items;
            told = subst (λ (l : ℕ). IsGot f.0 (told_by seen old l) v.buffer.items) (sym ek) f.2;
            put_digest = f.4;
            got_digest = refl;
            wrong = inr (subst (λ (m : MachineState). IsNoImage m v.buffer.items) work d.1);
          })

      pub not_decoded : IfErr s (IsNotGot (source p journal w (told_by seen old)) i)
      not_decoded = if_err_map WasNoImage (IsNotGot (source p journal w (told_by seen old)) i) s no_image_got damaged

      pub gets_decoded : Got (i ∷ []) s w u old new
      gets_decoded = record {
        reads = record {
          machine = pages ∙ one_read.machine;
          fits = fits_u;
          store = kept ∙ store;
          told_same = one_read.told_same;
          called = one_read.called;
        };
        are = are_as {A = Unit} seen (λ j. j < length p.slots) (Ok tt) s old new (λ j e. (let d = IfErr-at_err WasNoImage e damaged in absurd (no_failure d.0))) (λ j e. absurd cc)
            (are_wider {A = Unit} seen (λ j. j ≡ k) (λ j. j < length p.slots) (Ok tt) old new (λ j e. subst (λ (n : ℕ). n < length p.slots) (sym e) within) are);
        lasting = λ e. (let d = IfErr-at_err WasNoImage e damaged in no_end d.0);
        undamaged = λ one is same_pages stands j put got e.
            let from = source p journal w (told_by seen old) in
            let at = stands_at one is same_pages stands in
            let d = IfErr-at_err WasNoImage e damaged in
            let state = mark_is_image one from i at in
            d.1 (state_number one journal (marked p i)) state.0 (state.1 ∙ sym (ap (λ (t : MachineState). page_numbers t.memory) work)) (sym (fetched_mark one from i v.buffer.items at known fetched_there));
        roomy = λ has e. let d = IfErr-at_err WasNoImage e damaged in never d.0;
      }
        where
          never : {j : ℕ} {put got : List ℕ} → Memory ≡ Damaged j put got → ⊥
          never e = cc

          no_failure : {i j : ℕ} {put got : List ℕ} → Keeper i ≡ Damaged j put got → ⊥
          no_failure e = cc

          no_end : {j : ℕ} {put got : List ℕ} → Ended ≡ Damaged j put got → ⊥
          no_end e = cc
