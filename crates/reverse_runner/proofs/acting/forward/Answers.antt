use Rattle.reverse_runner.proofs.Common.{◌≡◌, ℕ, ◌*◌, ◌∙◌, refl, ap, sym, subst, arith, List, length, Err, Contains, ◌-◌, err_from_is_err_and, vec_capacity, Forward, Keep, Configuration, is_write, Goes, levels_named, rule, page_numbers, MachineState, state_number, image, IsKept, ShelfState, level_of, led, leads_there, told_by, image_room, calls_keepers, holdings_in, levels_in}
use Rattle.reverse_runner.specs.declared.fault.RunFault.{RunFault}
use Rattle.reverse_runner.specs.declared.fault.RunFault.TheVariants.{Damaged, Memory}
use Rattle.reverse_runner.proofs.AllCalls.{at_most, called_no_keeper, called_stored}
use Rattle.reverse_runner.proofs.KeeperCalls.{are_ok, are_err, are_still, are_wider, passed}
use Rattle.reverse_runner.proofs.KeeperFaults.{no_reason, is_safe, keeping_is_whole, keeping_has_reason}
use Rattle.reverse_runner.proofs.LevelPreconditions.{forward_kept_nothing, forward_stored, forward_taped, store_names, may_keep, stores_free}
use Rattle.reverse_runner.proofs.ResidueByCalls.{on_err, not_ok, leaves_stored}
use Rattle.reverse_runner.proofs.Rooms.{short_same}
use Rattle.reverse_runner.proofs.SessionTape.{units_kept, units_put}
use Rattle.reverse_runner.proofs.WorkspaceInvariant.{desk_fits, still_fits, still_in_order, same_pages, same_room}
use Rattle.reverse_runner.proofs.acting.forward.Goals as goal

pub keep-requires : goal.keep-requires
keep-requires g c =
    let now = c.args.config.now in
    let P : Keep → Type 0 = λ k. rule now.steps now.slots now.at (Forward c.args.from c.args.to k) ≡ 0 in
    let free = stores_free now.steps now.slots now.at c.args.from c.args.to c.in-Store.level c.requires.ready.sound (subst P c.in-Store.is c.requires.allowed) in
    may_keep g.K.Storage c.args.keepers.now.items c.args.keepers.now.items now.steps now.slots now.at c.args.space.now.desk.store c.encode-digest.new.self.store c.args.from c.in-Store.level
    c.encode-digest.new.self.buffer _ c.requires.ready.laid c.requires.ready.room refl c.encode-digest.ensures.same.1 free.0 free.1 c.encode-digest.ensures.short c.encode-digest.ensures.digest

pub returns-in-Nothing-clause-ends : goal.returns-in-Nothing-clause-ends
returns-in-Nothing-clause-ends g c =
    let w = c.args.space.now in
    let d = c.advance.new.self in
    let tells = told_by g.K.Storage c.args.keepers.now.items in
    let stored = c.advance.ensures.store in
    record {
      does = record {
        acted = record {
          acts =
              forward_kept_nothing c.args.unit c.args.journal.now c.args.from c.args.to c.args.keep (holdings_in w tells) (holdings_in (record w { desk = d }) tells) c.in-Nothing.is c.advance.ensures.work refl
              (ap length stored) (λ k. (ap (λ (s : List ShelfState). level_of s k) stored, refl));
          counted = c.advance.ensures.counted;
          called = called_no_keeper c.args.from c.args.to c.args.keep _ (λ k. ap (λ (x : Keep). is_write k (Forward c.args.from c.args.to x)) c.in-Nothing.is);
        };
        leaves = tt;
      };
      caused = no_reason _ _ _ _;
      spared = λ recorded short. is_safe _ _ _ _ _ _ _;
      kept = are_still g.K.Storage _ tt c.args.keepers.now.items;
      order = record {
        fits =
            still_in_order w d c.advance.ensures.pages (still_fits w.desk d c.advance.ensures.pages (same_room c.advance.ensures.buffer) (desk_fits w c.requires.ready.fits))
            c.requires.ready.fits;
        pages = c.advance.ensures.pages;
        short = λ short. short_same (image_room w.desk.work) w.desk.store d.store stored short;
      };
    }

pub returns-in-Nothing-clause-units : goal.returns-in-Nothing-clause-units
returns-in-Nothing-clause-units g c d goes =
    let now = c.args.config.now in
    let w = c.args.space.now in
    let G : Keep → Type 0 = λ k. Goes now.steps now.slots now.at (Forward c.args.from c.args.to k) d in
    let at = subst G c.in-Nothing.is goes in
    units_kept c.args.unit now.steps c.args.journal.now now.at d w (record w { desk = c.advance.new.self }) refl (ap (λ (x : Configuration). x.tape) at.2) c.requires.units

pub returns-in_ok-keep-in-Store-clause-ends : goal.returns-in_ok-keep-in-Store-clause-ends
returns-in_ok-keep-in-Store-clause-ends g c =
    let told = g.K.Storage in
    let w = c.args.space.now in
    let encoded = c.encode-digest.new.self in
    let kept = c.keep.new.self in
    let d = c.advance-in-Store.new.self in
    let old = holdings_in w (told_by told c.args.keepers.now.items) in
    let new = holdings_in (record w { desk = d }) (told_by told c.keep.new.keepers.items) in
    let journal = c.args.journal.now in
    let count = c.args.unit * (c.args.to - c.args.from) in
    let images = c.encode-digest.ensures in
    let stays = c.keep.ensures.states in
    let level = c.in-Store.level in
    let stored = c.advance-in-Store.ensures.store in
    let K : List ShelfState → Type 0 = λ s. IsKept (level_of s level) (level_of kept.store level) c.args.from encoded.buffer.items (told_by told c.args.keepers.now.items level)
    (told_by told c.keep.new.keepers.items level) in
    let B : List ℕ → Type 0 = λ b. IsKept (level_of w.desk.store level) (level_of kept.store level) c.args.from b (told_by told c.args.keepers.now.items level)
    (told_by told c.keep.new.keepers.items level) in
    let S : List ShelfState → Type 0 = λ s. IsKept (level_of w.desk.store level) (level_of s level) c.args.from (image w.desk.work)
    (told_by told c.args.keepers.now.items level) (told_by told c.keep.new.keepers.items level) in
    let keeps = subst S (sym stored) (subst B images.image (subst K images.same.1 c.in_ok-keep-in-Store.ensures.keeps.keeps)) in
    let T : ℕ → Type 0 = λ k. Contains (levels_named (Forward c.args.from c.args.to c.args.keep)) k in
    let wide = are_wider told _ T c.keep.result _ _ (λ k e. subst T (sym e) (store_names c.args.from c.args.to level c.args.keep c.in-Store.is)) c.keep.ensures.keeps.are in
    let pages = same_pages images.same.0 ∙ same_pages stays.0 ∙ c.advance-in-Store.ensures.pages in
    let bound = image_room w.desk.work in
    record {
      does = record {
        acted = record {
          acts =
              forward_stored c.args.unit journal c.args.from c.args.to level c.args.keep old new c.in-Store.is
              (c.advance-in-Store.ensures.work ∙ ap (λ (s : MachineState). state_number s journal count) (stays.0 ∙ images.same.0))
              refl
              (ap length stored ∙ c.keep.ensures.keeps.count ∙ ap length images.same.1)
              keeps
              (λ j ne. (
                ap (λ (s : List ShelfState). level_of s j) stored ∙ (c.keep.ensures.keeps.others j ne).0 ∙ ap (λ (s : List ShelfState). level_of s j) images.same.1,
                (c.keep.ensures.keeps.others j ne).1,
              ));
          counted = c.advance-in-Store.ensures.counted;
          called = called_stored c.args.from c.args.to level c.args.keep _ _ c.in-Store.is c.keep.ensures.keeps.called;
        };
        leaves = tt;
      };
      caused = no_reason _ _ _ _;
      spared = λ recorded short. is_safe _ _ _ _ _ _ _;
      kept = are_ok told T c.keep.result _ tt _ _ c.in_ok-keep-in-Store.was wide;
      order = record {
        fits =
            still_in_order w d pages (still_fits kept d c.advance-in-Store.ensures.pages (same_room c.advance-in-Store.ensures.buffer)
            (still_fits encoded kept (same_pages stays.0) (same_room stays.1) images.fits)) c.requires.ready.fits;
        pages = pages;
        short = λ short. short_same bound kept.store d.store stored (c.keep.ensures.keeps.short bound images.few (short_same bound w.desk.store encoded.store images.same.1 short));
      };
    }

pub returns-in_ok-keep-in-Store-clause-units : goal.returns-in_ok-keep-in-Store-clause-units
returns-in_ok-keep-in-Store-clause-units g c d goes =
    let now = c.args.config.now in
    let w = c.args.space.now in
    let G : Keep → Type 0 = λ k. Goes now.steps now.slots now.at (Forward c.args.from c.args.to k) d in
    let at = subst G c.in-Store.is goes in
    units_kept c.args.unit now.steps c.args.journal.now now.at d w (record w { desk = c.advance-in-Store.new.self }) refl (ap (λ (x : Configuration). x.tape) at.3) c.requires.units

pub returns-in_err-keep-in-Store-clause-ends : goal.returns-in_err-keep-in-Store-clause-ends
returns-in_err-keep-in-Store-clause-ends g c =
    let told = g.K.Storage in
    let w = c.args.space.now in
    let encoded = c.encode-digest.new.self in
    let kept = c.keep.new.self in
    let images = c.encode-digest.ensures in
    let stays = c.keep.ensures.states in
    let level = c.in-Store.level in
    let old = levels_in w (told_by told c.args.keepers.now.items) in
    let mid = levels_in (record w { desk = encoded }) (told_by told c.args.keepers.now.items) in
    let left = leaves_stored c.args.from c.args.to level c.args.keep old mid (told_by told c.keep.new.keepers.items) c.in-Store.is
    (ap (λ (s : List ShelfState). level_of s level) images.same.1) (λ k. refl) c.in_err-keep-in-Store.ensures.keeps.left (λ k ne. (c.keep.ensures.keeps.others k ne).1) in
    let p = err_from_is_err_and c.from_residual.result c.from_residual.ensures.1 in
    let T : ℕ → Type 0 = λ k. Contains (levels_named (Forward c.args.from c.args.to c.args.keep)) k in
    let wide = are_wider told _ T c.keep.result _ _ (λ k e. subst T (sym e) (store_names c.args.from c.args.to level c.args.keep c.in-Store.is)) c.keep.ensures.keeps.are in
    let refused = are_err told T c.keep.result c.from_residual.result _ _ _ _ c.in_err-keep-in-Store.was p.1 p.2 wide in
    let same : (fault : RunFault) → c.from_residual.result ≡ Err fault → c.keep.result ≡ Err fault =
    λ fault e. passed c.keep.result c.from_residual.result _ _ fault c.in_err-keep-in-Store.was p.1 p.2 e in
    let pages = same_pages images.same.0 ∙ same_pages stays.0 in
    let bound = image_room w.desk.work in
    record {
      does = record {
        acted = not_ok c.from_residual.result _ _ p.1;
        leaves = on_err c.from_residual.result (record {
          left = left;
          uncounted = refl;
          called_at_most = at_most _ _ _ (called_stored c.args.from c.args.to level c.args.keep _ _ c.in-Store.is c.keep.ensures.keeps.called);
        });
      };
      caused = keeping_has_reason level c.keep.result c.from_residual.result _ _ _ c.keep.ensures.keeps.fault same (λ k e. (refused.cause k e).0) (λ k j un. un)
          (ap (λ (x : Keep). calls_keepers (Forward c.args.from c.args.to x)) c.in-Store.is);
      spared = λ recorded short. record {
        roomy = λ roomy e.
            (let now = c.args.config.now in
            let P : Keep → Type 0 = λ k. rule now.steps now.slots now.at (Forward c.args.from c.args.to k) ≡ 0 in
            let free = stores_free now.steps now.slots now.at c.args.from c.args.to level c.requires.ready.sound (subst P c.in-Store.is c.requires.allowed) in
            c.keep.ensures.keeps.roomy bound (roomy level free.0.level) images.few (same Memory e));
        undamaged = λ first is stands k put got e. keeping_is_whole level c.keep.result k put got c.keep.ensures.keeps.fault (same (Damaged k put got) e);
      };
      kept = refused;
      order = record {
        fits = still_in_order w kept pages (still_fits encoded kept (same_pages stays.0) (same_room stays.1) images.fits) c.requires.ready.fits;
        pages = pages;
        short = λ short. c.keep.ensures.keeps.short bound images.few (short_same bound w.desk.store encoded.store images.same.1 short);
      };
    }

pub returns-in-Tape-clause-ends : goal.returns-in-Tape-clause-ends
returns-in-Tape-clause-ends g c =
    let told = g.K.Storage in
    let w = c.args.space.now in
    let x = c.advance_on_tape.new.self in
    let on = c.advance_on_tape.ensures in
    let old = holdings_in w (told_by told c.args.keepers.now.items) in
    let new = holdings_in x (told_by told c.args.keepers.now.items) in
    let fits = c.requires.ready.fits in
    let pages = c.advance_on_tape.ensures.pages in
    let count : length (page_numbers w.desk.work.memory) ≡ length (page_numbers x.desk.work.memory) = ap length pages in
    let reserved : vec_capacity x.desk.buffer ≡ vec_capacity w.desk.buffer = ap (λ b. vec_capacity b) on.stays.3 in
    record {
      does = record {
        acted = record {
          acts =
              forward_taped c.args.unit c.args.journal.now c.args.from c.args.to c.args.keep old new c.in-Tape.is on.work
              (λ i. record { states = led x.undo.entries x.tape _ on.back i; after = on.tape i })
              (ap length on.stays.2)
              (λ k. (ap (λ (s : List ShelfState). level_of s k) on.stays.2, refl));
          counted = on.counted;
          called = called_no_keeper c.args.from c.args.to c.args.keep _ (λ k. ap (λ (x : Keep). is_write k (Forward c.args.from c.args.to x)) c.in-Tape.is);
        };
        leaves = tt;
      };
      caused = no_reason _ _ _ _;
      spared = λ recorded short. is_safe _ _ _ _ _ _ _;
      kept = are_still told _ tt c.args.keepers.now.items;
      order = record {
        fits = record {
          pages = ap (λ (s : MachineState). page_numbers s.memory) on.tape;
          few = omega (arith, count, fits.few);
          back = leads_there x.undo.entries x.tape _ on.back;
          known = on.known;
          some = (let unit = on.stays.0 in omega (arith, unit, fits.some));
          room = (let unit = on.stays.0 in omega (arith, unit, fits.room, on.room));
          buffer = omega (arith, count, reserved, fits.buffer);
        };
        pages = pages;
        short = λ short. short_same (image_room w.desk.work) w.desk.store x.desk.store on.stays.2 short;
      };
    }

pub returns-in-Tape-clause-units : goal.returns-in-Tape-clause-units
returns-in-Tape-clause-units g c d goes =
    let now = c.args.config.now in
    let G : Keep → Type 0 = λ k. Goes now.steps now.slots now.at (Forward c.args.from c.args.to k) d in
    units_put c.args.unit now.steps c.args.from c.args.to c.args.journal.now now.slots now.at d c.args.space.now c.advance_on_tape.new.self c.args.space.now.desk.work (subst G c.in-Tape.is goes)
    c.advance_on_tape.ensures.back c.advance_on_tape.ensures.stays.0 c.advance_on_tape.ensures.stays.1 c.requires.units
