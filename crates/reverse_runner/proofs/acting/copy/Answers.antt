use Rattle.reverse_runner.proofs.Common.{◌≡◌, ℕ, ◌∙◌, refl, ap, sym, subst, inr, List, Option, length, Err, Contains, IfErr-at_err, err_from_is_err_and, on_ok_weaker, on_err_weaker, sha256, Copy, Dest, levels_named, page_numbers, MachineState, Images, IsKept, ShelfState, level_of, Holdings, IsDecoded, IsFetched, Does, IsKeeping, calls_of, Called, told_by, calls_to, image_room, rooms_by, IsDamage, IsNoImage, unit_states, holdings_in, levels_in}
use Rattle.reverse_runner.specs.declared.fault.RunFault.{RunFault}
use Rattle.reverse_runner.specs.declared.fault.RunFault.TheVariants.{Keeper, Damaged, Memory}
use Rattle.reverse_runner.proofs.AllCalls.{called_copy, at_most, counts_none, called_into_work, some_copied}
use Rattle.reverse_runner.proofs.ImageIntegrity.{held_stands, fetched_image, state_of_run}
use Rattle.reverse_runner.proofs.KeeperCalls.{are_as, are_err, are_then, are_wider, ok_not, passed}
use Rattle.reverse_runner.proofs.LevelPreconditions.{on_level, may_keep, may_get, may_give, copies_held, copies_free, damage_of, copied_to_work, copy_names_source, copy_names_target, keeping_is_on}
use Rattle.reverse_runner.proofs.ResidueByCalls.{on_err, not_ok, leaves_not_got, leaves_not_decoded, leaves_copied, copy_came}
use Rattle.reverse_runner.proofs.Rooms.{roomy_still, short_same}
use Rattle.reverse_runner.proofs.WorkspaceInvariant.{desk_fits, still_fits, still_in_order, same_pages, same_room}
use Rattle.reverse_runner.proofs.acting.copy.Goals as goal

pub fetch-requires-clause-on : goal.fetch-requires-clause-on
fetch-requires-clause-on g c =
    let now = c.args.config.now in
    let store = c.args.space.now.desk.store in
    let keepers = c.args.keepers.now.items in
    let is_held = copies_held now.steps now.slots now.at c.args.n c.args.from c.args.dest c.requires.allowed in
    on_level g.K.Storage keepers keepers now.steps now.slots now.at store store c.args.from c.requires.ready.laid c.requires.ready.room is_held.level refl refl refl

pub fetch-requires-clause-held : goal.fetch-requires-clause-held
fetch-requires-clause-held g c =
    let now = c.args.config.now in
    let is_held = copies_held now.steps now.slots now.at c.args.n c.args.from c.args.dest c.requires.allowed in
    (may_give now.steps now.slots now.at c.args.space.now.desk.store c.args.n c.args.from c.requires.ready.laid is_held).0

pub returns-in_err-digest-clause-ends : goal.returns-in_err-digest-clause-ends
returns-in_err-digest-clause-ends g c unit journal steps =
    let told = g.K.Storage in
    let now = c.args.config.now in
    let w = c.args.space.now in
    let d = c.fetch.new.self in
    let stays = c.fetch.ensures.states in
    let old = levels_in w (told_by told c.args.keepers.now.items) in
    let is_held = copies_held now.steps now.slots now.at c.args.n c.args.from c.args.dest c.requires.allowed in
    let give = may_give now.steps now.slots now.at w.desk.store c.args.n c.args.from c.requires.ready.laid is_held in
    let left = leaves_not_got c.args.n c.args.from c.args.dest old (told_by told c.fetch.new.keepers.items) (λ k. (c.fetch.ensures.fetches.same k).1)
    (λ k e.
    let free = copies_free now.steps now.slots now.at c.args.n c.args.from k c.args.dest c.requires.allowed e in
    (may_get now.steps now.slots now.at w.desk.store c.args.n k c.requires.ready.laid free.1 give.1).0) in
    let p = err_from_is_err_and c.from_residual.result c.from_residual.ensures.1 in
    let T : ℕ → Type 0 = λ k. Contains (levels_named (Copy c.args.n c.args.from c.args.dest)) k in
    let wide = are_wider told _ T c.fetch.result _ _ (λ k e. subst T (sym e) (copy_names_source c.args.n c.args.from c.args.dest)) c.fetch.ensures.fetches.are in
    let kept = are_err told T c.fetch.result c.from_residual.result _ _ _ _ c.in_err-digest.was p.1 p.2 wide in
    let same : (fault : RunFault) → c.from_residual.result ≡ Err fault → c.fetch.result ≡ Err fault =
    λ fault e. passed c.fetch.result c.from_residual.result _ _ fault c.in_err-digest.was p.1 p.2 e in
    record {
      does = record {
        acted = not_ok c.from_residual.result _ _ p.1;
        leaves = on_err c.from_residual.result (record {
          left = left;
          uncounted = refl;
          called_at_most = some_copied c.args.n c.args.from c.args.dest _ _ c.fetch.ensures.fetches.called;
        });
      };
      caused = record {
        named = λ k e. (kept.cause k e).0;
        damaged = λ k put got e.
            (let other = c.fetch.ensures.fetches.damaged k put got (same (Damaged k put got) e) in
            damage_of (Copy c.args.n c.args.from c.args.dest) (holdings_in w (told_by told c.args.keepers.now.items)) c.args.n c.args.from k put got refl other.0 other.1);
        unreached = λ k j e un. (c.fetch.ensures.fetches.same j).1;
        whole = λ k put got e j. (c.fetch.ensures.fetches.same j).1;
        wants = λ e. refl;
      };
      spared = λ recorded short. record {
        roomy = λ roomy e.
            c.fetch.ensures.fetches.roomy (image_room w.desk.work) (roomy c.args.from is_held.level) short c.requires.ready.fits.buffer (same Memory e);
        undamaged = λ first is stands k put got e.
            (let s = holdings_in w (told_by told c.args.keepers.now.items) in
            let there = held_stands first journal unit now.steps now.slots now.at s c.args.from c.args.n stands c.requires.ready.laid is_held.level is_held.there in
            IfErr-at_err (IsKeeping c.args.from) (same (Damaged k put got) e) (c.fetch.ensures.fetches.sound there.0 there.1));
      };
      kept = kept;
      order = record {
        fits =
            still_in_order w d (same_pages stays.0) (still_fits w.desk d (same_pages stays.0) c.fetch.ensures.fetches.reserved (desk_fits w c.requires.ready.fits))
            c.requires.ready.fits;
        pages = same_pages stays.0;
        short = λ short. short_same (image_room w.desk.work) w.desk.store d.store stays.1 short;
      };
    }

pub decode-requires-clause-fits : goal.decode-requires-clause-fits
decode-requires-clause-fits g c =
    still_fits c.args.space.now.desk c.fetch.new.self (same_pages c.fetch.ensures.states.0) c.fetch.ensures.fetches.reserved (desk_fits c.args.space.now c.requires.ready.fits)

pub keep-requires : goal.keep-requires
keep-requires g c =
    let now = c.args.config.now in
    let is_held = copies_held now.steps now.slots now.at c.args.n c.args.from c.args.dest c.requires.allowed in
    let free = copies_free now.steps now.slots now.at c.args.n c.args.from c.in-Level.to c.args.dest c.requires.allowed c.in-Level.is in
    let give = may_give now.steps now.slots now.at c.args.space.now.desk.store c.args.n c.args.from c.requires.ready.laid is_held in
    may_keep g.K.Storage c.args.keepers.now.items c.fetch.new.keepers.items now.steps now.slots now.at c.args.space.now.desk.store c.fetch.new.self.store c.args.n c.in-Level.to
    c.fetch.new.self.buffer _ c.requires.ready.laid c.requires.ready.room c.fetch.ensures.fetches.are.slots c.fetch.ensures.states.1 free.1 give.1 c.in_ok-digest.ensures.fetches.short
    c.in_ok-digest.ensures.fetches.digest

-- fetched bytes that are no image are damage
unread : (n from k : ℕ) (dest : Dest) (s : Holdings) (work : MachineState) (put got bytes : List ℕ) → IsFetched s.levels from n bytes → work ≡ s.work → Damaged k put got ≡ Damaged from (sha256 bytes) (sha256 bytes) →
    IsNoImage work bytes → IsDamage (Copy n from dest) s k put got
unread n from k dest s work put got bytes fetched same is none =
    let on : k ≡ from = cc in
    let put_is : put ≡ sha256 bytes = cc in
    let P : ℕ → Type 0 = λ j. IsDamage (Copy n from dest) s j put got in
    subst P (sym on) (record {
      number = n;
      pair = refl;
      kept = fetched.0;
      held = fetched.1;
      bytes = bytes;
      told = fetched.2;
      put_digest = put_is ∙ fetched.4;
      got_digest = cc;
      wrong = inr (subst (λ (x : MachineState). IsNoImage x bytes) same none);
    })

unlike_keeper : (k j : ℕ) (put got : List ℕ) → Keeper k ≡ Damaged j put got → ⊥
unlike_keeper k j put got e = cc

unlike_memory : (j : ℕ) (put got : List ℕ) → Memory ≡ Damaged j put got → ⊥
unlike_memory j put got e = cc

pub returns-in-Work-clause-ends : goal.returns-in-Work-clause-ends
returns-in-Work-clause-ends g c unit journal steps =
    let told = g.K.Storage in
    let now = c.args.config.now in
    let w = c.args.space.now in
    let fetched = c.fetch.new.self in
    let d = c.decode.new.self in
    let bytes = c.fetch.new.self.buffer.items in
    let stays = c.fetch.ensures.states in
    let store = c.decode.ensures.store ∙ stays.1 in
    let old = holdings_in w (told_by told c.args.keepers.now.items) in
    let new = holdings_in (record w { desk = d }) (told_by told c.fetch.new.keepers.items) in
    let is_held = copies_held now.steps now.slots now.at c.args.n c.args.from c.args.dest c.requires.allowed in
    let P : MachineState → Type 0 = λ s. IsDecoded s d.work bytes in
    let Unread : RunFault → Type 0 = λ fault. (fault ≡ Damaged c.args.from (sha256 bytes) (sha256 bytes)) × IsNoImage fetched.work bytes in
    let T : ℕ → Type 0 = λ k. Contains (levels_named (Copy c.args.n c.args.from c.args.dest)) k in
    let wide = are_wider told _ T c.fetch.result _ _ (λ k e. subst T (sym e) (copy_names_source c.args.n c.args.from c.args.dest)) c.fetch.ensures.fetches.are in
    let pages = same_pages stays.0 ∙ sym c.decode.ensures.pages in
    let called = called_into_work c.args.n c.args.from c.args.dest _ _ c.in-Work.is c.fetch.ensures.fetches.called in
    record {
      does = record {
        acted = on_ok_weaker c.decode.result (λ decoded. record {
          acts =
              copied_to_work unit journal c.args.n c.args.from c.args.dest old new bytes c.in-Work.is c.in_ok-digest.ensures.fetches.fetched (subst P stays.0 decoded) refl (ap length store)
              (λ j. let same = c.fetch.ensures.fetches.same j in (ap (λ (s : List ShelfState). level_of s j) store, same.1));
          counted = counts_none unit steps;
          called = called;
        }) c.decode.ensures.decoded;
        leaves = on_err c.decode.result (record {
          left = leaves_not_decoded c.args.n c.args.from c.args.dest old.levels new.levels.told c.in-Work.is (λ k. (c.fetch.ensures.fetches.same k).1);
          uncounted = refl;
          called_at_most = at_most _ _ _ called;
        });
      };
      caused = record {
        named = λ k e. absurd (unlike_keeper k _ _ _ (IfErr-at_err Unread e c.decode.ensures.damaged).0);
        damaged = λ k put got e.
            (let damaged = IfErr-at_err Unread e c.decode.ensures.damaged in
            unread c.args.n c.args.from k c.args.dest old fetched.work put got bytes c.in_ok-digest.ensures.fetches.fetched stays.0 damaged.0 damaged.1);
        unreached = λ k j e un. (c.fetch.ensures.fetches.same j).1;
        whole = λ k put got e j. (c.fetch.ensures.fetches.same j).1;
        wants = λ e. refl;
      };
      spared = λ recorded short. record {
        roomy = λ roomy e. unlike_memory _ _ _ (IfErr-at_err Unread e c.decode.ensures.damaged).0;
        undamaged = λ first is stands k put got e.
            (let got_is = fetched_image first journal unit now.steps now.slots now.at old c.args.from c.args.n bytes stands c.requires.ready.laid is_held.level is_held.there
            c.in_ok-digest.ensures.fetches.fetched in
            let state = state_of_run first journal unit now.at old c.args.n is recorded stands in
            (IfErr-at_err Unread e c.decode.ensures.damaged).1 (unit_states first journal unit c.args.n) state.0 (state.1 ∙ sym (ap (λ (x : MachineState). page_numbers x.memory) stays.0)) (sym got_is));
      };
      kept = are_as told T c.fetch.result c.decode.result _ _
          (λ k e. absurd (unlike_keeper k _ _ _ (IfErr-at_err Unread e c.decode.ensures.damaged).0))
          (λ k e. absurd (ok_not c.fetch.result _ k c.in_ok-digest.was e)) wide;
      order = record {
        fits = still_in_order w d pages c.decode.ensures.fits c.requires.ready.fits;
        pages = pages;
        short = λ short. short_same (image_room w.desk.work) w.desk.store d.store store short;
      };
    }

pub returns-in-Level-clause-ends : goal.returns-in-Level-clause-ends
returns-in-Level-clause-ends g c unit journal steps =
    let told = g.K.Storage in
    let now = c.args.config.now in
    let w = c.args.space.now in
    let fetched = c.fetch.new.self in
    let d = c.keep.new.self in
    let to = c.in-Level.to in
    let got = c.fetch.new.self.buffer.items in
    let stays = c.fetch.ensures.states in
    let kept = c.keep.ensures.states in
    let same = c.fetch.ensures.fetches.same in
    let old = holdings_in w (told_by told c.args.keepers.now.items) in
    let mid = levels_in (record w { desk = fetched }) (told_by told c.fetch.new.keepers.items) in
    let new = holdings_in (record w { desk = d }) (told_by told c.keep.new.keepers.items) in
    let calls = calls_to told in
    let D : Dest → Type 0 = λ i. Does unit journal (Copy c.args.n c.args.from i) old new in
    let C : Dest → Type 0 = λ i. Called (calls_of (Copy c.args.n c.args.from i)) (calls c.args.keepers.now.items) (calls c.keep.new.keepers.items) in
    let called : Called (calls_of (Copy c.args.n c.args.from c.args.dest)) (calls c.args.keepers.now.items) (calls c.keep.new.keepers.items) =
    subst C (sym c.in-Level.is) (called_copy c.args.n c.args.from to (calls c.args.keepers.now.items) (calls c.fetch.new.keepers.items) (calls c.keep.new.keepers.items) c.fetch.ensures.fetches.called c.keep.ensures.keeps.called) in
    let free = copies_free now.steps now.slots now.at c.args.n c.args.from to c.args.dest c.requires.allowed c.in-Level.is in
    let T : ℕ → Type 0 = λ k. Contains (levels_named (Copy c.args.n c.args.from c.args.dest)) k in
    let read = are_wider told _ T c.fetch.result _ _ (λ k e. subst T (sym e) (copy_names_source c.args.n c.args.from c.args.dest)) c.fetch.ensures.fetches.are in
    let written = are_wider told _ T c.keep.result _ _ (λ k e. subst T (sym e) (copy_names_target c.args.n c.args.from to c.args.dest c.in-Level.is)) c.keep.ensures.keeps.are in
    let pages = same_pages stays.0 ∙ same_pages kept.0 in
    let bound = image_room w.desk.work in
    record {
      does = record {
        acted = on_ok_weaker c.keep.result (λ keeps. record {
          acts = record {
            count = c.keep.ensures.keeps.count ∙ ap length stays.1;
            does = subst D (sym c.in-Level.is) (
              kept.0 ∙ stays.0,
              refl,
              (
                got,
                (
                  c.in_ok-digest.ensures.fetches.fetched,
                  subst (λ (s : ShelfState). IsKept s (level_of new.levels.store to) c.args.n got (old.levels.told to) (new.levels.told to)) (same to).0
                      (subst (λ (o : Option Images). IsKept (level_of fetched.store to) (level_of new.levels.store to) c.args.n got o (new.levels.told to)) (same to).1 keeps),
                ),
              ),
              λ i ne. ((c.keep.ensures.keeps.others i ne).0 ∙ (same i).0, (c.keep.ensures.keeps.others i ne).1 ∙ (same i).1),
            );
          };
          counted = counts_none unit steps;
          called = called;
        }) c.keep.ensures.keeps.keeps;
        leaves = on_err_weaker c.keep.result (λ left. record {
          left = leaves_copied c.args.n c.args.from to c.args.dest old.levels mid new.levels.told c.in-Level.is (same to).0 (λ k. (same k).1) left (λ k ne. (c.keep.ensures.keeps.others k ne).1);
          uncounted = refl;
          called_at_most = at_most _ _ _ called;
        }) c.keep.ensures.keeps.left;
      };
      caused = record {
        named = λ k e.
            (let on = keeping_is_on to k (Keeper k) (IfErr-at_err (IsKeeping to) e c.keep.ensures.keeps.fault) refl in
            subst T (sym on) (copy_names_target c.args.n c.args.from to c.args.dest c.in-Level.is));
        damaged = λ k put got e. absurd (IfErr-at_err (IsKeeping to) e c.keep.ensures.keeps.fault);
        unreached = λ k j e un.
            (let on = keeping_is_on to k (Keeper k) (IfErr-at_err (IsKeeping to) e c.keep.ensures.keeps.fault) refl in
            absurd (copy_came c.args.n c.args.from to k j c.args.dest c.in-Level.is free.0 on un));
        whole = λ k put got e. absurd (IfErr-at_err (IsKeeping to) e c.keep.ensures.keeps.fault);
        wants = λ e. refl;
      };
      spared = λ recorded short. record {
        roomy = λ roomy e.
            (let rooms = rooms_by told in
            let there = roomy_still bound (rooms c.args.keepers.now.items to) (rooms c.fetch.new.keepers.items to) (c.fetch.ensures.fetches.are.rooms to) (roomy to free.1.level) in
            c.keep.ensures.keeps.roomy bound there (c.in_ok-digest.ensures.fetches.few bound short) e);
        undamaged = λ first is stands k put got e. IfErr-at_err (IsKeeping to) e c.keep.ensures.keeps.fault;
      };
      kept = are_then told T c.fetch.result c.keep.result _ _ _ (λ k. ok_not c.fetch.result _ k c.in_ok-digest.was) read written;
      order = record {
        fits =
            still_in_order w d pages (still_fits fetched d (same_pages kept.0) (same_room kept.1)
            (still_fits w.desk fetched (same_pages stays.0) c.fetch.ensures.fetches.reserved (desk_fits w c.requires.ready.fits))) c.requires.ready.fits;
        pages = pages;
        short = λ short. c.keep.ensures.keeps.short bound (c.in_ok-digest.ensures.fetches.few bound short) (short_same bound w.desk.store fetched.store stays.1 short);
      };
    }
