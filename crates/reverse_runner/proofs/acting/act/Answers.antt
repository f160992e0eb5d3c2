use Rattle.reverse_runner.proofs.Common.{◌≡◌, ℕ, ◌∙◌, refl, sym, subst, [], Err, IsSome, Contains, rules, IfErr-at_err, err_from_is_err_and, on_ok_weaker, on_err_weaker, Action, Move, Level, Goes, levels_named, rule, pair_at, ShelfState, IsKeeping, told_by, calls_to, image_room, rooms_by, holdings_in, Ends}
use Rattle.reverse_runner.specs.declared.fault.RunFault.{RunFault}
use Rattle.reverse_runner.specs.declared.fault.RunFault.TheVariants.{Keeper, Damaged, Memory}
use Rattle.reverse_runner.proofs.AllCalls.{at_most, some_moved}
use Rattle.reverse_runner.proofs.KeeperCalls.{are_err, are_then, are_wider, passed, ok_not}
use Rattle.reverse_runner.proofs.LevelPreconditions.{on_level, may_give, copy_keeps_source, called_move_then, moves_held, moves_apart, move_names_copied, copy_names_source, keeping_is_on, damage_moves, moved}
use Rattle.reverse_runner.proofs.ResidueByCalls.{on_err, leaves_uncopied, leaves_moved, move_came, move_unreached}
use Rattle.reverse_runner.proofs.Rooms.{roomy_still}
use Rattle.reverse_runner.proofs.WorkspaceInvariant.{desk_fits, still_fits, still_in_order, same_pages, same_room}
use Rattle.reverse_runner.proofs.acting.act.Goals as goal

pub returns-in-Forward-clause-ends : goal.returns-in-Forward-clause-ends
returns-in-Forward-clause-ends g c =
    let P : Action → Type 0 = λ a. Ends g.K.Storage c.forward.result c.args.unit c.args.journal.now c.args.config.now a c.args.space.now c.forward.new.space
    c.args.keepers.now.items c.forward.new.keepers.items c.args.steps.now c.forward.new.steps in
    subst P (sym c.in-Forward.is) c.forward.ensures.ends

pub returns-in-Forward-clause-units : goal.returns-in-Forward-clause-units
returns-in-Forward-clause-units g c d goes =
    let now = c.args.config.now in
    let G : Action → Type 0 = λ a. Goes now.steps now.slots now.at a d in
    c.forward.ensures.units d (subst G c.in-Forward.is goes)

pub returns-in-Copy-clause-ends : goal.returns-in-Copy-clause-ends
returns-in-Copy-clause-ends g c =
    let P : Action → Type 0 = λ a. Ends g.K.Storage c.copy.result c.args.unit c.args.journal.now c.args.config.now a c.args.space.now c.copy.new.space
    c.args.keepers.now.items c.copy.new.keepers.items c.args.steps.now c.args.steps.now in
    subst P (sym c.in-Copy.is) (c.copy.ensures.ends c.args.unit c.args.journal.now c.args.steps.now)

pub release-requires-clause-on : goal.release-requires-clause-on
release-requires-clause-on g c =
    let now = c.args.config.now in
    let allowed = subst (λ (a : Action). rule now.steps now.slots now.at a ≡ 0) c.in-Move.is c.requires.allowed in
    let told = g.K.Storage in
    let old = holdings_in c.args.space.now (told_by told c.args.keepers.now.items) in
    let mid = holdings_in c.copy-in-Move.new.space (told_by told c.copy-in-Move.new.keepers.items) in
    let is_held = moves_held now.steps now.slots now.at c.in-Move.n c.in-Move.from c.in-Move.dest allowed in
    let apart = λ (j : ℕ) (e : c.in-Move.dest ≡ Level j). moves_apart now.steps now.slots now.at c.in-Move.n c.in-Move.from j c.in-Move.dest allowed e in
    let copied = (c.in_ok-copy-in-Move.ensures.ends 0 [] 0).does.acted.acts in
    on_level told c.args.keepers.now.items c.copy-in-Move.new.keepers.items now.steps now.slots now.at c.args.space.now.desk.store c.copy-in-Move.new.space.desk.store c.in-Move.from
    c.requires.ready.laid c.requires.ready.room is_held.level (c.copy-in-Move.ensures.ends 0 [] 0).kept.slots (copy_keeps_source 0 [] c.in-Move.n c.in-Move.from c.in-Move.dest old mid apart copied).0 copied.count

pub release-requires-clause-held : goal.release-requires-clause-held
release-requires-clause-held g c =
    let now = c.args.config.now in
    let allowed = subst (λ (a : Action). rule now.steps now.slots now.at a ≡ 0) c.in-Move.is c.requires.allowed in
    let told = g.K.Storage in
    let old = holdings_in c.args.space.now (told_by told c.args.keepers.now.items) in
    let mid = holdings_in c.copy-in-Move.new.space (told_by told c.copy-in-Move.new.keepers.items) in
    let is_held = moves_held now.steps now.slots now.at c.in-Move.n c.in-Move.from c.in-Move.dest allowed in
    let apart = λ (j : ℕ) (e : c.in-Move.dest ≡ Level j). moves_apart now.steps now.slots now.at c.in-Move.n c.in-Move.from j c.in-Move.dest allowed e in
    let same = copy_keeps_source 0 [] c.in-Move.n c.in-Move.from c.in-Move.dest old mid apart (c.in_ok-copy-in-Move.ensures.ends 0 [] 0).does.acted.acts in
    let P : ShelfState → Type 0 = λ s. IsSome (pair_at s.pairs c.in-Move.n) in
    subst P (sym same.0) (may_give now.steps now.slots now.at c.args.space.now.desk.store c.in-Move.n c.in-Move.from c.requires.ready.laid is_held).0

pub returns-in_err-copy-in-Move-clause-ends : goal.returns-in_err-copy-in-Move-clause-ends
returns-in_err-copy-in-Move-clause-ends g c =
    let unit = c.args.unit in
    let journal = c.args.journal.now in
    let steps = c.args.steps.now in
    let P : Action → Type 0 = λ a. Ends g.K.Storage c.from_residual.result unit journal c.args.config.now a c.args.space.now c.copy-in-Move.new.space
    c.args.keepers.now.items c.copy-in-Move.new.keepers.items steps steps in
    let now = c.args.config.now in
    let allowed = subst (λ (a : Action). rule now.steps now.slots now.at a ≡ 0) c.in-Move.is c.requires.allowed in
    let told = g.K.Storage in
    let old = holdings_in c.args.space.now (told_by told c.args.keepers.now.items) in
    let tells = told_by told c.copy-in-Move.new.keepers.items in
    let ends = c.copy-in-Move.ensures.ends unit journal steps in
    let leaves = (c.in_err-copy-in-Move.ensures.ends unit journal steps).does.leaves in
    let apart = λ (j : ℕ) (e : c.in-Move.dest ≡ Level j). moves_apart now.steps now.slots now.at c.in-Move.n c.in-Move.from j c.in-Move.dest allowed e in
    let p = err_from_is_err_and c.from_residual.result c.from_residual.ensures.1 in
    let same : (fault : RunFault) → c.from_residual.result ≡ Err fault → c.copy-in-Move.result ≡ Err fault =
    λ fault e. passed c.copy-in-Move.result c.from_residual.result _ _ fault c.in_err-copy-in-Move.was p.1 p.2 e in
    let T : ℕ → Type 0 = λ k. Contains (levels_named (Move c.in-Move.n c.in-Move.from c.in-Move.dest)) k in
    let wide = are_wider told _ T c.copy-in-Move.result _ _ (λ k h. move_names_copied c.in-Move.n c.in-Move.from c.in-Move.dest k h) ends.kept in
    subst P (sym c.in-Move.is) (record {
      does = record {
        acted = search rules;
        leaves = on_err c.from_residual.result (record {
          left = leaves_uncopied c.in-Move.n c.in-Move.from c.in-Move.dest old.levels tells apart leaves.left;
          uncounted = refl;
          called_at_most = some_moved c.in-Move.n c.in-Move.from c.in-Move.dest _ _ leaves.called_at_most;
        });
      };
      caused = record {
        named = search rules;
        damaged = λ k put got e. damage_moves c.in-Move.n c.in-Move.from c.in-Move.dest old k put got (ends.caused.damaged k put got (same (Damaged k put got) e));
        unreached = λ k j e un. move_unreached c.in-Move.n c.in-Move.from k j c.in-Move.dest old.levels tells apart leaves.left un;
        whole = λ k put got e. ends.caused.whole k put got (same (Damaged k put got) e);
        wants = search rules;
      };
      spared = λ recorded short. record {
        roomy = λ roomy e. (ends.spared recorded short).roomy roomy (same Memory e);
        undamaged = λ first is stands k put got e. (ends.spared recorded short).undamaged first is stands k put got (same (Damaged k put got) e);
      };
      kept = are_err told T c.copy-in-Move.result c.from_residual.result _ _ _ _ c.in_err-copy-in-Move.was p.1 p.2 wide;
      order = ends.order;
    })

pub returns-in_ok-copy-in-Move-clause-ends : goal.returns-in_ok-copy-in-Move-clause-ends
returns-in_ok-copy-in-Move-clause-ends g c =
    let unit = c.args.unit in
    let journal = c.args.journal.now in
    let steps = c.args.steps.now in
    let P : Action → Type 0 = λ a. Ends g.K.Storage c.release.result unit journal c.args.config.now a c.args.space.now (record c.copy-in-Move.new.space { desk = c.release.new.self })
    c.args.keepers.now.items c.release.new.keepers.items steps steps in
    let now = c.args.config.now in
    let allowed = subst (λ (a : Action). rule now.steps now.slots now.at a ≡ 0) c.in-Move.is c.requires.allowed in
    let told = g.K.Storage in
    let w = c.copy-in-Move.new.space in
    let d = c.release.new.self in
    let stays = c.release.ensures.states in
    let gives = c.release.ensures.releases in
    let old = holdings_in c.args.space.now (told_by told c.args.keepers.now.items) in
    let mid = holdings_in w (told_by told c.copy-in-Move.new.keepers.items) in
    let new = holdings_in (record w { desk = d }) (told_by told c.release.new.keepers.items) in
    let ends = c.copy-in-Move.ensures.ends unit journal steps in
    let copied = (c.in_ok-copy-in-Move.ensures.ends unit journal steps).does.acted in
    let is_held = moves_held now.steps now.slots now.at c.in-Move.n c.in-Move.from c.in-Move.dest allowed in
    let apart = λ (j : ℕ) (e : c.in-Move.dest ≡ Level j). moves_apart now.steps now.slots now.at c.in-Move.n c.in-Move.from j c.in-Move.dest allowed e in
    let calls = calls_to told in
    let called = called_move_then c.in-Move.n c.in-Move.from c.in-Move.dest (calls c.args.keepers.now.items) (calls c.copy-in-Move.new.keepers.items) (calls c.release.new.keepers.items) copied.called gives.called in
    let T : ℕ → Type 0 = λ k. Contains (levels_named (Move c.in-Move.n c.in-Move.from c.in-Move.dest)) k in
    let source = move_names_copied c.in-Move.n c.in-Move.from c.in-Move.dest c.in-Move.from (copy_names_source c.in-Move.n c.in-Move.from c.in-Move.dest) in
    let read = are_wider told _ T c.copy-in-Move.result _ _ (λ k h. move_names_copied c.in-Move.n c.in-Move.from c.in-Move.dest k h) ends.kept in
    let freed = are_wider told _ T c.release.result _ _ (λ k e. subst T (sym e) source) gives.are in
    subst P (sym c.in-Move.is) (record {
      does = record {
        acted = on_ok_weaker c.release.result (λ releases. record {
          acts = moved unit journal c.in-Move.n c.in-Move.from c.in-Move.dest old mid new apart copied.acts releases stays.0 refl gives.count gives.others;
          counted = search rules;
          called = called;
        }) gives.releases;
        leaves = on_err_weaker c.release.result (λ left. record {
          left = leaves_moved unit journal c.in-Move.n c.in-Move.from c.in-Move.dest old mid new.levels.told apart copied.acts left (λ k ne. (gives.others k ne).1);
          uncounted = refl;
          called_at_most = at_most _ _ _ called;
        }) gives.left;
      };
      caused = record {
        named = λ k e.
            (let on = keeping_is_on c.in-Move.from k (Keeper k) (IfErr-at_err (IsKeeping c.in-Move.from) e gives.fault) refl in
            subst T (sym on) source);
        damaged = search rules;
        unreached = λ k j e un.
            (let on = keeping_is_on c.in-Move.from k (Keeper k) (IfErr-at_err (IsKeeping c.in-Move.from) e gives.fault) refl in
            absurd (move_came c.in-Move.n c.in-Move.from k j c.in-Move.dest apart on un));
        whole = search rules;
        wants = search rules;
      };
      spared = λ recorded short. record {
        roomy = λ roomy e.
            (let bound = image_room c.args.space.now.desk.work in
            let rooms = rooms_by told in
            let there = roomy_still bound (rooms c.args.keepers.now.items c.in-Move.from) (rooms c.copy-in-Move.new.keepers.items c.in-Move.from) (ends.kept.rooms c.in-Move.from) (roomy c.in-Move.from is_held.level) in
            gives.roomy bound there e);
        undamaged = search rules;
      };
      kept = are_then told T c.copy-in-Move.result c.release.result _ _ _ (λ k. ok_not c.copy-in-Move.result _ k c.in_ok-copy-in-Move.was) read freed;
      order = record {
        fits =
            still_in_order w d (same_pages stays.0) (still_fits w.desk d (same_pages stays.0) (same_room stays.1) (desk_fits w ends.order.fits)) ends.order.fits;
        pages = ends.order.pages ∙ same_pages stays.0;
        short = λ short. gives.short (image_room c.args.space.now.desk.work) (ends.order.short short);
      };
    })
