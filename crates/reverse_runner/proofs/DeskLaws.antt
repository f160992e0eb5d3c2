-- What follows from a call on an image of one level.
use Rattle.reverse_runner.proofs.Common.{◌≡◌, ℕ, ◌∙◌, refl, ap, sym, subst, arith, ◌≢◌, List, set, Option, Some, None, vec_len, IfOk, [], length, Vec, Result, Ok, Err, IsSome, IfErr, OnOk, OnErr, length-set, get_or-set_other, set-get_or, on_ok_weaker, on_err_weaker, Images, Ghosts, IsKept, IsNotKept, IsGot, IsFreed, IsNotFreed, ShelfState, level_of, kept_at, KeepsPair, FetchesPair, ReleasesPair, LevelStands, Kept, StoreFault, KeepGives, FetchGives, ReleaseGives, answer_on, CallsAt, fault_on, IsKeeping, IsFetching, by_number, told_by}
use Rattle.image_store.specs.declared.shelf.StoreFault.TheVariants as store
use Rattle.reverse_runner.specs.declared.fault.RunFault.{RunFault}
use Rattle.reverse_runner.specs.declared.fault.RunFault.TheVariants.{Damaged, Memory}
use Rattle.reverse_runner.proofs.OneKeeper.{some_kept, damage_is, never_damage}
use Rattle.reverse_runner.proofs.Rooms.{memory_is, roomy_is, short_kept, short_released, short_same}
use Rattle.reverse_runner.proofs.KeeperCalls.{put_at, get_at, free_at, keepers_are, told_else, told_there, told_same}

module _ {A : Type 0} (k : ℕ) where
  -- a fact about an answer of the store is one about that of the session
  on_ok : (P : Type 0) (r : Result A RunFault) (a : Result A StoreFault) → r ≡ answer_on k a → OnOk a P → OnOk r P
  on_ok P r (Ok x) is h = subst (λ (q : Result A RunFault). OnOk q P) (sym is) h
  on_ok P r (Err e) is h = subst (λ (q : Result A RunFault). OnOk q P) (sym is) tt

  on_err : (P : Type 0) (r : Result A RunFault) (a : Result A StoreFault) → r ≡ answer_on k a → OnErr a P → OnErr r P
  on_err P r (Ok x) is h = subst (λ (q : Result A RunFault). OnErr q P) (sym is) tt
  on_err P r (Err e) is h = subst (λ (q : Result A RunFault). OnErr q P) (sym is) h

  keeping : (r : Result A RunFault) (a : Result A StoreFault) → r ≡ answer_on k a → ((put got : List ℕ) → a ≢ Err (store.Damaged put got)) → IfErr r (IsKeeping k)
  keeping r (Ok x) is whole = subst (λ (q : Result A RunFault). IfErr q (IsKeeping k)) (sym is) tt
  keeping r (Err e) is whole = subst (λ (q : Result A RunFault). IfErr q (IsKeeping k)) (sym is) (never_damage k e (λ put got q. whole put got (ap (λ f. Err f) q)))

  wants : (a : Result A StoreFault) → answer_on k a ≡ Err Memory → a ≡ Err store.Memory
  wants (Ok x) e = absurd cc
  wants (Err f) e = (let is : fault_on k f ≡ Memory = cc in ap (λ f. Err f) (memory_is k f is))

  damage : (a : Result A StoreFault) (j : ℕ) (put got : List ℕ) → answer_on k a ≡ Err (Damaged j put got) → (j ≡ k) × (a ≡ Err (store.Damaged put got))
  damage (Ok x) j put got e = absurd cc
  damage (Err f) j put got e = (let is = damage_is k f j put got cc in (is.0, ap (λ f. Err f) is.1))

both_ok : {A E P Q R : Type 0} (a : Result A E) → (P → Q → R) → OnOk a P → OnOk a Q → OnOk a R
both_ok (Ok x) f h i = f h i
both_ok (Err e) f h i = tt

-- of every level, by what was done or not
either : {A E : Type 0} {P Q R : Type 0} (a : Result A E) → OnOk a P → OnErr a Q → (P → R) → (Q → R) → R
either (Ok x) h i f g = f h
either (Err e) h i f g = g i

module _ {K : Type 0} (g : Ghosts K) (k n : ℕ) (old new : List ShelfState) (ks ls : List K) (set_is : new ≡ set old k (level_of new k)) where
  other_level : (j : ℕ) → j ≢ k → level_of new j ≡ level_of old j
  other_level j ne = ap (λ (s : List ShelfState). level_of s j) set_is ∙ get_or-set_other old k j (level_of new k) (level_of [] 0) ne

  as_many : length new ≡ length old
  as_many = ap (λ (s : List ShelfState). length s) set_is ∙ length-set old k (level_of new k)

  unchanged : level_of new k ≡ level_of old k → new ≡ old
  unchanged same = set_is ∙ ap (set old k) same ∙ set-get_or old k (level_of [] 0)

  module _ {Z : Type 0} (buffer : Vec ℕ Z) (whole : vec_len buffer ≡ length buffer.items) (r : Result Unit RunFault) (c : CallsAt k (λ a. KeepsPair g n buffer.items a (level_of old k) (level_of new k)) r ks ls) where
    told_k : (by_number None g.told ks k ≡ g.told c.before) × (by_number None g.told ls k ≡ g.told c.after)
    told_k = told_there g k (λ a. KeepsPair g n buffer.items a (level_of old k) (level_of new k)) r ks ls c None g.told

    pub keep_gives : KeepGives g k n buffer r old new ks ls
    keep_gives = record {
      keeps = on_ok k _ r c.answer c.is (on_ok_weaker c.answer
          (λ kept. subst (λ (o : Option Images). IsKept (level_of old k) (level_of new k) n buffer.items o (told_by g ls k)) (sym told_k.0)
          (subst (λ (o : Option Images). IsKept (level_of old k) (level_of new k) n buffer.items (g.told c.before) o) (sym told_k.1) kept)) c.does.ok);
      left = on_err k _ r c.answer c.is (on_err_weaker c.answer
          (λ not. subst (λ (o : Option Images). IsNotKept (level_of old k) o (told_by g ls k)) (sym told_k.0)
          (subst (λ (o : Option Images). IsNotKept (level_of old k) (g.told c.before) o) (sym told_k.1) not)) c.does.left);
      others = λ j ne. (other_level j ne, told_else g k (λ a. KeepsPair g n buffer.items a (level_of old k) (level_of new k)) r ks ls c None g.told j ne);
      count = as_many;
      called = put_at g k (λ a. KeepsPair g n buffer.items a (level_of old k) (level_of new k)) r ks ls c c.does.counted;
      are = keepers_are g k (λ a. KeepsPair g n buffer.items a (level_of old k) (level_of new k)) r ks ls c c.does.rest;
      fault = keeping k r c.answer c.is c.does.whole;
      short = λ most fits short. either c.answer c.does.ok c.does.refused
          (λ kept. short_kept most k n kept.slot buffer.items old new (omega (arith, fits, whole)) kept.pairs other_level short)
          (λ same. short_same most old new (unchanged same) short);
      roomy = λ most has fits e.
          (let room = roomy_is most _ has in
          let there = told_there g k (λ a. KeepsPair g n buffer.items a (level_of old k) (level_of new k)) r ks ls c None g.room_bytes in
          let few = room.2 in
          c.does.roomy room.0 (sym there.0 ∙ room.1) (omega (arith, fits, few, whole)) (wants k c.answer (sym c.is ∙ e)));
    }

  module _ (r : Result Unit RunFault) (held : IsSome (kept_at old k n)) (c : CallsAt k (λ a. ReleasesPair g n a (level_of old k) (level_of new k)) r ks ls) where
    told_k' : (by_number None g.told ks k ≡ g.told c.before) × (by_number None g.told ls k ≡ g.told c.after)
    told_k' = told_there g k (λ a. ReleasesPair g n a (level_of old k) (level_of new k)) r ks ls c None g.told

    pub release_gives : ReleaseGives g k n r old new ks ls
    release_gives = record {
      releases = (let pair = some_kept (kept_at old k n) held in on_ok k _ r c.answer c.is (both_ok c.answer
          (λ gone freed. (
            gone,
            (
              pair.0,
              pair.1,
              subst (λ (o : Option Images). IsFreed pair.0 o (told_by g ls k)) (sym told_k'.0)
                  (subst (λ (o : Option Images). IsFreed pair.0 (g.told c.before) o) (sym told_k'.1) (freed pair.0 pair.1)),
            ),
          )) c.does.ok c.does.freed));
      left = on_err k _ r c.answer c.is (on_err_weaker c.answer
          (λ not kept at. subst (λ (o : Option Images). IsNotFreed kept o (told_by g ls k)) (sym told_k'.0)
          (subst (λ (o : Option Images). IsNotFreed kept (g.told c.before) o) (sym told_k'.1) (not kept at))) c.does.left);
      others = λ j ne. (other_level j ne, told_else g k (λ a. ReleasesPair g n a (level_of old k) (level_of new k)) r ks ls c None g.told j ne);
      count = as_many;
      called = free_at g k (λ a. ReleasesPair g n a (level_of old k) (level_of new k)) r ks ls c c.does.counted;
      are = keepers_are g k (λ a. ReleasesPair g n a (level_of old k) (level_of new k)) r ks ls c c.does.rest;
      fault = keeping k r c.answer c.is c.does.whole;
      short = λ most short. either c.answer c.does.ok c.does.refused
          (λ gone. short_released most k n old new gone other_level short)
          (λ same. short_same most old new (unchanged same) short);
      roomy = λ most has e.
          (let room = roomy_is most _ has in
          let there = told_there g k (λ a. ReleasesPair g n a (level_of old k) (level_of new k)) r ks ls c None g.room_bytes in
          c.does.roomy room.0 (sym there.0 ∙ room.1) (wants k c.answer (sym c.is ∙ e)));
    }

-- a fault of a fetch is of its level
fetching : (k : ℕ) (r : Result (List ℕ) RunFault) (a : Result (List ℕ) StoreFault) → r ≡ answer_on k a → IfErr r (IsFetching k)
fetching k r (Ok x) is = subst (λ (q : Result (List ℕ) RunFault). IfErr q (IsFetching k)) (sym is) tt
fetching k r (Err store.Keeper) is = subst (λ (q : Result (List ℕ) RunFault). IfErr q (IsFetching k)) (sym is) refl
fetching k r (Err (store.Damaged put got)) is = subst (λ (q : Result (List ℕ) RunFault). IfErr q (IsFetching k)) (sym is) refl
fetching k r (Err store.Memory) is = subst (λ (q : Result (List ℕ) RunFault). IfErr q (IsFetching k)) (sym is) tt

digest_is : (k : ℕ) (r : Result (List ℕ) RunFault) (a : Result (List ℕ) StoreFault) (P : List ℕ → Type 0) → r ≡ answer_on k a → IfOk a P → IfOk r P
digest_is k r (Ok x) P is h = subst (λ (q : Result (List ℕ) RunFault). IfOk q P) (sym is) h
digest_is k r (Err e) P is h = subst (λ (q : Result (List ℕ) RunFault). IfOk q P) (sym is) tt

module _ {K Z : Type 0} (g : Ghosts K) (k n : ℕ) (level : List ShelfState) (ks ls : List K) (into into' : Vec ℕ Z) (whole : vec_len into' ≡ length into'.items) (held : IsSome (kept_at level k n))
    (r : Result (List ℕ) RunFault) (c : CallsAt k (λ a. FetchesPair g n into into' a (level_of level k)) r ks ls) where
  abbrev Does : Result (List ℕ) StoreFault → K → K → Type 0
  Does a = FetchesPair g n into into' a (level_of level k)

  told_f : (by_number None g.told ks k ≡ g.told c.before) × (by_number None g.told ls k ≡ g.told c.after)
  told_f = told_there g k Does r ks ls c None g.told

  pair : (kept : Kept) × (kept_at level k n ≡ Some kept)
  pair = some_kept (kept_at level k n) held

  pub fetch_gives : FetchGives g k n into into' r level level ks ls
  fetch_gives = record {
    fetched = on_ok k _ r c.answer c.is (on_ok_weaker c.answer
        (λ got. (let it = got pair.0 pair.1 in (pair.0, pair.1, subst (λ (o : Option Images). IsGot pair.0 o into'.items) (sym told_f.0) it.0, (let few = it.1 in omega (arith, few, whole)), it.2))) c.does.ok);
    damaged = λ j put got e.
        (let is = damage k c.answer j put got (sym c.is ∙ e) in
        let it = c.does.damaged put got is.1 pair.0 pair.1 in (
          is.0,
          record {
            kept = pair.0;
            held = pair.1;
            bytes = into'.items;
            told = subst (λ (o : Option Images). IsGot pair.0 o into'.items) (sym told_f.0) it.0;
            put_digest = it.1;
            got_digest = it.2;
            other = it.3;
          },
        ));
    sound = λ images stands. keeping k r c.answer c.is (c.does.sound images (subst (λ (o : Option Images). LevelStands (level_of level k) o images) told_f.0 stands));
    digest = digest_is k r c.answer _ c.is c.does.digest;
    fault = fetching k r c.answer c.is;
    few = λ most short. on_ok k _ r c.answer c.is (on_ok_weaker c.answer (λ got. (let it = got pair.0 pair.1 in let few = it.1 in let at = short k n pair.0 pair.1 in omega (arith, few, at))) c.does.ok);
    roomy = λ most has short reserved e.
        (let room = roomy_is most _ has in
        let there = told_there g k Does r ks ls c None g.room_bytes in
        let at = short k n pair.0 pair.1 in
        c.does.roomy room.0 pair.0 (sym there.0 ∙ room.1) pair.1 (omega (arith, at, reserved)) (wants k c.answer (sym c.is ∙ e)));
    same = λ j. (refl, told_same g k Does r ks ls c g.told c.does.same j);
    short = on_ok k _ r c.answer c.is c.does.short;
    reserved = c.does.reserved;
    called = get_at g k Does r ks ls c c.does.counted;
    are = keepers_are g k Does r ks ls c c.does.rest;
  }
