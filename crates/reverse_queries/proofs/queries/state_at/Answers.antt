use Rattle.std.proofs.Common.{◌≡◌, ◌≢◌, ◌∙◌, ℕ, ◌<◌, inl, inr, List, length, take, slice_get, slice_index_or, Some, Ok, Err, Result, true≢false, refl, sym, ap, subst, arith}
use Rattle.std.proofs.lemmas.Option.{slice_get-get_or}
use Rattle.std.proofs.lemmas.Result.{err_from_is_err_and}
use Rattle.plan_types.specs.declared.action.Action.{Action}
use Rattle.plan_types.specs.declared.action.Action.TheVariants.{Forward}
use Rattle.plan_types.specs.declared.action.Keep.TheVariants.{Nothing}
use Rattle.keepers.specs.Counts.{Rose}
use Rattle.rv_machine.specs.MachineState.{MachineState}
use Rattle.rv_machine.specs.States.{state_number}
use Rattle.reverse_runner.specs.declared.fault.RunFault.{RunFault}
use Rattle.reverse_runner.specs.declared.fault.RunFault.TheVariants.{Damaged, Visitor, Ended, Memory}
use Rattle.reverse_runner.specs.KeepersSeen.{calls_to, told_by}
use Rattle.reverse_runner.specs.VisitorCalls.{states_out}
use Rattle.reverse_runner.specs.SessionState.{holdings_of}
use Rattle.reverse_queries.specs.Queries.{hands_out, front_to}
use Rattle.reverse_queries.specs.QuestionEffects.{Performed}
use Rattle.reverse_queries.specs.ListExecution.{GetsState, MissesState}
use Rattle.reverse_queries.specs.PickVisitor.{PassesOn}
use Rattle.reverse_queries.proofs.ActionCalls.{fault_fits, if_err_at}
use Rattle.reverse_queries.proofs.ListPrefixes.{front_past, front_ends, front_takes}
use Rattle.reverse_queries.proofs.TraceSteps.{gone_start, gone_on, found_on, got_even}
use Rattle.reverse_queries.proofs.PickVisitor.{MissesPicked, MissedAt, picks_at, missed_at, shown_at, unshown_at, misses_state, of_visitor}
use Rattle.reverse_queries.proofs.ReversalOrder.{left, left_at_start, left_at_end}
use Rattle.reverse_queries.proofs.Progress.{way_start, way_on, may_perform, may_go, has_room, refused_in, at_end, goes_from, below_levels, on_err_always, same_fault, not_both, acts_there, gets_there, misses_there, run_has, ok_spared, ok_seen}
use Rattle.reverse_runner.specs.Rooms.{rooms_by}
use Rattle.reverse_runner.proofs.Rooms.{still_roomy}
use Rattle.reverse_runner.proofs.KeeperFaults.{no_keeper}
use Rattle.reverse_runner.proofs.KeeperCalls.{are_ok, are_err, are_then, are_wider}
use Rattle.reverse_queries.proofs.queries.state_at.Goals as goal

-- the action at a place of the list
at_place : (list : List Action) (i : ℕ) → i < length list → slice_get list i ≡ Some (slice_index_or list i (Forward 0 0 Nothing))
at_place list i within = slice_get-get_or list i (Forward 0 0 Nothing) within

-- a result has one fault
same_err : {T E : Type 0} (r : Result T E) (x y : E) → r ≡ Err x → r ≡ Err y → x ≡ y
same_err r x y first second = cc

pub loop-action-init : goal.loop-action-init
loop-action-init g c =
    let old = c.args.session.now in
    let picked = c.new-picked.ensures in
    let all = left_at_start old.unit old.situation.steps old.situation.slots old.situation.at c.requires.awaits.start in
    let place = c.requires.place in
    record {
      way = way_start _ c.args.list.now old c.args.keepers.now.items c.args.steps.now c.requires.awaits.start c.requires.awaits.lasts;
      gone = gone_start old.unit old.situation.steps old.journal c.args.list.now (holdings_of old (told_by g.K.Storage c.args.keepers.now.items)) old.situation.at;
      still = omega (arith, place, all);
      front = refl;
      place = picked.place;
      reference = refl;
      visitor = picked.same;
      passed = picked.nothing;
    }

pub perform-requires-clause-allowed : goal.perform-requires-clause-allowed
perform-requires-clause-allowed g c lasts =
    let so_far = c.loop-action.invariant in
    let old = c.args.session.now in
    let mid = c.loop-action.session in
    let list = c.args.list.now in
    let i = c.loop-action.action-index in
    let a = slice_index_or list i (Forward 0 0 Nothing) in
    let within : i < length list = omega arith in
    let at = at_place list i within in
    may_perform _ list i old mid _ _ _ _ a c.requires.awaits.start c.requires.awaits.valid at so_far.way

pub perform-requires-clause-room : goal.perform-requires-clause-room
perform-requires-clause-room g c lasts =
    let so_far = c.loop-action.invariant in
    let old = c.args.session.now in
    let mid = c.loop-action.session in
    let list = c.args.list.now in
    let i = c.loop-action.action-index in
    let a = slice_index_or list i (Forward 0 0 Nothing) in
    let within : i < length list = omega arith in
    let at = at_place list i within in
    has_room _ list i old mid _ _ _ _ c.requires.awaits.room so_far.way

pub returns-then-picked-clause-gets : goal.returns-then-picked-clause-gets
returns-then-picked-clause-gets g c =
    let so_far = c.loop-action.invariant in
    let old = c.args.session.now in
    let mid = c.loop-action.session in
    let list = c.args.list.now in
    let i = c.loop-action.action-index in
    let a = slice_index_or list i (Forward 0 0 Nothing) in
    let within : i < length list = omega arith in
    let at = at_place list i within in
    let new = c.perform.new.self in
    let done = c.in_ok-perform.ensures in
    let unit = old.unit in
    let steps = old.situation.steps in
    let slots = old.situation.slots in
    let goes = goes_from old mid new (take i list) a so_far.way.performs done.session.performs in
    let told = told_by g.K.Storage in
    let held = holdings_of mid (told c.loop-action.keepers.items) in
    let gets = gets_there (PassesOn g.V.Visitor.got) old mid (take i list) a (states_out a mid.work mid.tape.states) c.loop-action.picked c.perform.new.visitor so_far.way.performs done.hands.gets in
    let it = picks_at g.V.Visitor.got unit steps slots old.journal a mid.situation.at new.situation.at held c.loop-action.picked c.perform.new.visitor goes so_far.way.turns gets in
    let shown = shown_at g.V.Visitor.got unit steps old.journal a mid.situation.at new.situation.at held c.loop-action.picked c.perform.new.visitor c.args.place c.args.visitor.now so_far.place so_far.visitor so_far.passed c.if-picked.true it in
    let front = front_ends unit steps c.args.place list i a at shown.hands so_far.front in
    let last = c.visitor-then-picked-1.given.1 (sym (it.reference ∙ so_far.reference ∙ c.new-picked.ensures.same_reference)) in
    let acts = acts_there old mid (take i list) a _ _ so_far.way.performs (done.does so_far.way.performs.lasts).acted.acts in
    let even = got_even (PassesOn g.V.Visitor.got) old.journal unit steps a held c.loop-action.picked c.perform.new.visitor gets in
    found_on (GetsState g.V.Visitor.got old (told c.args.keepers.now.items) c.args.place c.args.visitor.now _) unit steps slots old.journal list (front_to unit steps c.args.place list) i
    (holdings_of old (told c.args.keepers.now.items)) held (holdings_of new (told c.perform.new.keepers.items)) mid.situation.at a new.situation.at (omega (arith, within)) front goes so_far.way.turns at acts even so_far.gone
    (λ states have all. record {
      gets =
          (let S : MachineState → Type 0 = λ s. g.V.Visitor.got c.args.visitor.now c.args.place s old.journal c.perform.new.visitor.visitor.now in
          let W : g.row.V.Denot → Type 0 = λ w. g.V.Visitor.got c.args.visitor.now c.args.place (states c.args.place) old.journal w in
          subst W (sym last) (subst S (shown.is states have) shown.gets));
      of_run = λ first is stands.
          sym (shown.is states have)
          ∙ shown.is (state_number first old.journal) (run_has first old mid (told c.loop-action.keepers.items) (take i list) a new.situation.at c.requires.awaits.start so_far.way.performs goes (so_far.way.stands first is stands));
    })

pub returns-then-picked-clause-performed : goal.returns-then-picked-clause-performed
returns-then-picked-clause-performed g c =
    let so_far = c.loop-action.invariant in
    let old = c.args.session.now in
    let mid = c.loop-action.session in
    let list = c.args.list.now in
    let i = c.loop-action.action-index in
    let a = slice_index_or list i (Forward 0 0 Nothing) in
    let within : i < length list = omega arith in
    let at = at_place list i within in
    let new = c.perform.new.self in
    let done = c.in_ok-perform.ensures in
    let unit = old.unit in
    let steps = old.situation.steps in
    let slots = old.situation.slots in
    let goes = goes_from old mid new (take i list) a so_far.way.performs done.session.performs in
    let told = told_by g.K.Storage in
    let held = holdings_of mid (told c.loop-action.keepers.items) in
    let gets = gets_there (PassesOn g.V.Visitor.got) old mid (take i list) a (states_out a mid.work mid.tape.states) c.loop-action.picked c.perform.new.visitor so_far.way.performs done.hands.gets in
    let it = picks_at g.V.Visitor.got unit steps slots old.journal a mid.situation.at new.situation.at held c.loop-action.picked c.perform.new.visitor goes so_far.way.turns gets in
    let shown = shown_at g.V.Visitor.got unit steps old.journal a mid.situation.at new.situation.at held c.loop-action.picked c.perform.new.visitor c.args.place c.args.visitor.now so_far.place so_far.visitor so_far.passed c.if-picked.true it in
    let front = front_ends unit steps c.args.place list i a at shown.hands so_far.front in
    let last = c.visitor-then-picked-1.given.1 (sym (it.reference ∙ so_far.reference ∙ c.new-picked.ensures.same_reference)) in
    let on = way_on _ list i old mid new _ _ c.perform.new.keepers.items _ _ _ a c.requires.awaits.start at so_far.way (record {
      performs = done.session.performs;
      acts = (done.does so_far.way.performs.lasts).acted.acts;
      counted = (done.does so_far.way.performs.lasts).acted.counted;
      called = (done.does so_far.way.performs.lasts).acted.called;
      are = are_ok g.K.Storage _ c.perform.result _ tt _ _ c.in_ok-perform.was c.perform.ensures.kept;
      stands = done.stays.stands;
      alone = done.stays.alone;
    }) in
    let calls = calls_to g.K.Storage in
    let P : List Action → Type 0 = λ l. Performed old l new c.args.steps.now c.perform.new.steps (calls c.args.keepers.now.items) (calls c.perform.new.keepers.items) in
    subst P (sym front) (record { performs = on.performs; counted = on.counted; called = on.called })

pub returns-then-picked-clause-stays : goal.returns-then-picked-clause-stays
returns-then-picked-clause-stays g c =
    let way = c.loop-action.invariant.way in
    let done = c.in_ok-perform.ensures in
    record { stands = λ first is stands. done.stays.stands first is (way.stands first is stands); alone = λ alone. done.stays.alone (way.alone alone) }

pub returns-then-picked-clause-seen : goal.returns-then-picked-clause-seen
returns-then-picked-clause-seen g c =
    let so_far = c.loop-action.invariant in
    let old = c.args.session.now in
    let mid = c.loop-action.session in
    let list = c.args.list.now in
    let i = c.loop-action.action-index in
    let a = slice_index_or list i (Forward 0 0 Nothing) in
    let within : i < length list = omega arith in
    let at = at_place list i within in
    let new = c.perform.new.self in
    let done = c.in_ok-perform.ensures in
    let unit = old.unit in
    let steps = old.situation.steps in
    let slots = old.situation.slots in
    let goes = goes_from old mid new (take i list) a so_far.way.performs done.session.performs in
    let told = told_by g.K.Storage in
    let held = holdings_of mid (told c.loop-action.keepers.items) in
    let gets = gets_there (PassesOn g.V.Visitor.got) old mid (take i list) a (states_out a mid.work mid.tape.states) c.loop-action.picked c.perform.new.visitor so_far.way.performs done.hands.gets in
    let it = picks_at g.V.Visitor.got unit steps slots old.journal a mid.situation.at new.situation.at held c.loop-action.picked c.perform.new.visitor goes so_far.way.turns gets in
    let last = ap g.V.Visitor.fault_count (c.visitor-then-picked-1.given.1 (sym (it.reference ∙ so_far.reference ∙ c.new-picked.ensures.same_reference))) in
    let same = c.perform.ensures.seen.faults.quiet (λ e. not_both c.perform.result _ Visitor c.in_ok-perform.was e) in
    let first = ap g.V.Visitor.fault_count so_far.visitor in
    ok_seen _ _ _ _ (last ∙ same ∙ first)

pub returns-then-picked-clause-spared : goal.returns-then-picked-clause-spared
returns-then-picked-clause-spared g c = ok_spared _ _ _ _

pub returns-then-picked-clause-kept : goal.returns-then-picked-clause-kept
returns-then-picked-clause-kept g c =
    let so_far = c.loop-action.invariant in
    let old = c.args.session.now in
    let mid = c.loop-action.session in
    let list = c.args.list.now in
    let i = c.loop-action.action-index in
    let a = slice_index_or list i (Forward 0 0 Nothing) in
    let within : i < length list = omega arith in
    let at = at_place list i within in
    let rule_is = may_perform _ list i old mid _ _ _ _ a c.requires.awaits.start c.requires.awaits.valid at so_far.way in
    let T : ℕ → Type 0 = λ k. k < length old.situation.slots in
    let wide = are_wider g.K.Storage _ T c.perform.result _ _ (below_levels old mid (take i list) a so_far.way.performs rule_is) c.perform.ensures.kept in
    are_ok g.K.Storage T c.perform.result _ _ _ _ c.in_ok-perform.was (are_then g.K.Storage T (Ok tt) c.perform.result _ _ _ (λ k. no_keeper (Ok tt) tt k refl) so_far.way.are wide)

pub returns-in_err-perform-clause-kept : goal.returns-in_err-perform-clause-kept
returns-in_err-perform-clause-kept g c =
    let so_far = c.loop-action.invariant in
    let old = c.args.session.now in
    let mid = c.loop-action.session in
    let list = c.args.list.now in
    let i = c.loop-action.action-index in
    let a = slice_index_or list i (Forward 0 0 Nothing) in
    let within : i < length list = omega arith in
    let at = at_place list i within in
    let rule_is = may_perform _ list i old mid _ _ _ _ a c.requires.awaits.start c.requires.awaits.valid at so_far.way in
    let p = err_from_is_err_and c.from_residual.result c.from_residual.ensures.1 in
    let T : ℕ → Type 0 = λ k. k < length old.situation.slots in
    let wide = are_wider g.K.Storage _ T c.perform.result _ _ (below_levels old mid (take i list) a so_far.way.performs rule_is) c.perform.ensures.kept in
    are_err g.K.Storage T c.perform.result c.from_residual.result _ _ _ _ c.in_err-perform.was p.1 p.2 (are_then g.K.Storage T (Ok tt) c.perform.result _ _ _ (λ k. no_keeper (Ok tt) tt k refl) so_far.way.are wide)

pub returns-in_err-perform-clause-refused : goal.returns-in_err-perform-clause-refused
returns-in_err-perform-clause-refused g c =
    let so_far = c.loop-action.invariant in
    let old = c.args.session.now in
    let mid = c.loop-action.session in
    let list = c.args.list.now in
    let i = c.loop-action.action-index in
    let a = slice_index_or list i (Forward 0 0 Nothing) in
    let within : i < length list = omega arith in
    let at = at_place list i within in
    let p = err_from_is_err_and c.from_residual.result c.from_residual.ensures.1 in
    let told = told_by g.K.Storage in
    let held = holdings_of mid (told c.loop-action.keepers.items) in
    let goes = may_go _ list i old mid _ _ _ _ a c.requires.awaits.start c.requires.awaits.valid at so_far.way in
    let missed : c.perform.result ≡ Err Visitor → MissedAt g.V.Visitor.missed old.unit old.situation.steps old.journal a held c.loop-action.picked c.perform.new.visitor = λ e.
    missed_at g.V.Visitor.got g.V.Visitor.missed old.unit old.situation.steps old.situation.slots old.journal a mid.situation.at _ held c.loop-action.picked c.perform.new.visitor goes so_far.way.turns
    (misses_there (PassesOn g.V.Visitor.got) (MissesPicked g.V.Visitor.missed) old mid (take i list) a (states_out a mid.work mid.tape.states) c.loop-action.picked c.perform.new.visitor so_far.way.performs (c.perform.ensures.hands.misses e)) in
    let takes = front_takes old.unit old.situation.steps c.args.place list i a at so_far.front in
    let is = same_fault c.perform.result c.from_residual.result _ _ p.0 c.in_err-perform.was p.1 p.2 p.1 in
    let Misses = MissesState g.V.Visitor.missed old (told c.args.keepers.now.items) c.args.place c.args.visitor.now _ in
    let fits = fault_fits Misses a held c.perform.result p.0 is c.perform.ensures.caused.named c.perform.ensures.caused.damaged c.perform.ensures.caused.wants
    (λ e. misses_state g.V.Visitor.missed old (told c.args.keepers.now.items) a held c.loop-action.picked c.perform.new.visitor c.args.place c.args.visitor.now _ so_far.place so_far.visitor
    (c.in_err-perform.visitor-in-Break-1-own.given.1 (sym ((missed e).reference ∙ so_far.reference ∙ c.new-picked.ensures.same_reference)))
    (λ first is stands. run_has first old mid (told c.loop-action.keepers.items) (take i list) a _ c.requires.awaits.start so_far.way.performs goes (so_far.way.stands first is stands)) (missed e))
    (λ e. true≢false (sym (c.perform.ensures.ended.0 e) ∙ so_far.way.performs.lasts)) in
    let leaves = (c.in_err-perform.ensures.does so_far.way.performs.lasts).leaves in
    if_err_at _ c.from_residual.result p.0 p.1
    (refused_in _ list (front_to old.unit old.situation.steps c.args.place list) i old mid c.perform.new.self _ _ c.perform.new.keepers.items _ _ _ a Misses p.0 at takes.0 takes.1 takes.2 so_far.way so_far.gone
    c.in_err-perform.ensures.session.refused leaves.uncounted leaves.called_at_most fits)

pub returns-in_err-perform-clause-spared : goal.returns-in_err-perform-clause-spared
returns-in_err-perform-clause-spared g c =
    let way = c.loop-action.invariant.way in
    let old = c.args.session.now in
    let mid = c.loop-action.session in
    let rooms = rooms_by g.K.Storage in
    let p = err_from_is_err_and c.from_residual.result c.from_residual.ensures.1 in
    let same : (f : RunFault) → c.from_residual.result ≡ Err f → c.perform.result ≡ Err f = λ f e. same_fault c.perform.result c.from_residual.result _ _ f c.in_err-perform.was p.1 p.2 e in
    record {
      not_ended = λ e. true≢false (sym (c.perform.ensures.ended.0 (same Ended e)) ∙ way.performs.lasts);
      roomy = λ roomy e.
          c.perform.ensures.spared.roomy
          (still_roomy old.work mid.work old.situation.slots mid.situation.slots (rooms c.args.keepers.now.items) (rooms c.loop-action.keepers.items) way.pages way.performs.slots way.are.rooms roomy) (same Memory e);
      undamaged = λ first is stands k put got e. c.perform.ensures.spared.undamaged first is (way.stands first is stands) k put got (same (Damaged k put got) e);
    }

pub returns-in_err-perform-clause-seen : goal.returns-in_err-perform-clause-seen
returns-in_err-perform-clause-seen g c =
    let so_far = c.loop-action.invariant in
    let old = c.args.session.now in
    let mid = c.loop-action.session in
    let list = c.args.list.now in
    let i = c.loop-action.action-index in
    let a = slice_index_or list i (Forward 0 0 Nothing) in
    let within : i < length list = omega arith in
    let at = at_place list i within in
    let p = err_from_is_err_and c.from_residual.result c.from_residual.ensures.1 in
    let told = told_by g.K.Storage in
    let held = holdings_of mid (told c.loop-action.keepers.items) in
    let goes = may_go _ list i old mid _ _ _ _ a c.requires.awaits.start c.requires.awaits.valid at so_far.way in
    let missed : c.perform.result ≡ Err Visitor → MissedAt g.V.Visitor.missed old.unit old.situation.steps old.journal a held c.loop-action.picked c.perform.new.visitor = λ e.
    missed_at g.V.Visitor.got g.V.Visitor.missed old.unit old.situation.steps old.situation.slots old.journal a mid.situation.at _ held c.loop-action.picked c.perform.new.visitor goes so_far.way.turns
    (misses_there (PassesOn g.V.Visitor.got) (MissesPicked g.V.Visitor.missed) old mid (take i list) a (states_out a mid.work mid.tape.states) c.loop-action.picked c.perform.new.visitor so_far.way.performs (c.perform.ensures.hands.misses e)) in
    let is = same_fault c.perform.result c.from_residual.result _ _ p.0 c.in_err-perform.was p.1 p.2 p.1 in
    let reference : c.perform.new.visitor.visitor.ghost_name ≡ c.loop-action.picked.visitor.ghost_name = elim (of_visitor p.0) [
      | inl e ↦ (missed (is ∙ ap (λ f. Err f) e)).reference
      | inr ne ↦ ap (λ v. v.visitor.ghost_name) (c.in_err-perform.ensures.seen.unseen (λ e. ne (same_err c.perform.result _ _ is (c.in_err-perform.was ∙ e))))
    ] in
    let faults = g.V.Visitor.fault_count in
    let last = c.in_err-perform.visitor-in-Break-1-own.given.1 (sym (reference ∙ so_far.reference ∙ c.new-picked.ensures.same_reference)) in
    let still = λ (never : c.from_residual.result ≢ Err Visitor).
    c.in_err-perform.ensures.seen.unseen (λ e. never (same_fault c.from_residual.result c.perform.result _ _ Visitor p.1 c.in_err-perform.was (sym p.2) (c.in_err-perform.was ∙ e))) in
    record {
      unseen = on_err_always c.from_residual.result (λ never. last ∙ ap (λ v. v.visitor.now) (still never) ∙ so_far.visitor);
      faults = record {
        cause = λ e.
            (let P : ℕ → Type 0 = λ n. Rose n (faults c.perform.new.visitor.visitor.now) in
            let Q : g.row.V.Denot → Type 0 = λ w. Rose (faults c.args.visitor.now) (faults w) in
            subst Q (sym last) (subst P (ap faults so_far.visitor) (c.perform.ensures.seen.faults.cause (same_fault c.perform.result c.from_residual.result _ _ Visitor c.in_err-perform.was p.1 p.2 e))));
        quiet = λ never. ap faults (last ∙ ap (λ v. v.visitor.now) (still never) ∙ so_far.visitor);
        later = (let end = ap faults last in let first = ap faults so_far.visitor in let later = c.perform.ensures.seen.faults.later in omega (arith, end, first, later));
      };
    }

pub loop-action-preserved : goal.loop-action-preserved
loop-action-preserved g c =
    let so_far = c.loop-action.invariant in
    let old = c.args.session.now in
    let mid = c.loop-action.session in
    let list = c.args.list.now in
    let i = c.loop-action.action-index in
    let a = slice_index_or list i (Forward 0 0 Nothing) in
    let within : i < length list = omega arith in
    let at = at_place list i within in
    let new = c.perform.new.self in
    let done = c.in_ok-perform.ensures in
    let unit = old.unit in
    let steps = old.situation.steps in
    let slots = old.situation.slots in
    let goes = goes_from old mid new (take i list) a so_far.way.performs done.session.performs in
    let told = told_by g.K.Storage in
    let held = holdings_of mid (told c.loop-action.keepers.items) in
    let gets = gets_there (PassesOn g.V.Visitor.got) old mid (take i list) a (states_out a mid.work mid.tape.states) c.loop-action.picked c.perform.new.visitor so_far.way.performs done.hands.gets in
    let it = picks_at g.V.Visitor.got unit steps slots old.journal a mid.situation.at new.situation.at held c.loop-action.picked c.perform.new.visitor goes so_far.way.turns gets in
    let on = way_on _ list i old mid new _ _ c.perform.new.keepers.items _ _ _ a c.requires.awaits.start at so_far.way (record {
      performs = done.session.performs;
      acts = (done.does so_far.way.performs.lasts).acted.acts;
      counted = (done.does so_far.way.performs.lasts).acted.counted;
      called = (done.does so_far.way.performs.lasts).acted.called;
      are = are_ok g.K.Storage _ c.perform.result _ tt _ _ c.in_ok-perform.was c.perform.ensures.kept;
      stands = done.stays.stands;
      alone = done.stays.alone;
    }) in
    let none = unshown_at g.V.Visitor.got unit steps old.journal a mid.situation.at new.situation.at held c.loop-action.picked c.perform.new.visitor c.if-picked.false it in
    let acts = acts_there old mid (take i list) a _ _ so_far.way.performs (done.does so_far.way.performs.lasts).acted.acts in
    let even = got_even (PassesOn g.V.Visitor.got) old.journal unit steps a held c.loop-action.picked c.perform.new.visitor gets in
    let P : ℕ → Type 0 = λ n. n < left unit steps mid.situation.at → n < left unit steps new.situation.at in
    record {
      way = on;
      gone = gone_on unit steps slots old.journal list i (holdings_of old (told c.args.keepers.now.items)) held (holdings_of new (told c.perform.new.keepers.items)) mid.situation.at a new.situation.at goes so_far.way.turns at acts even so_far.gone;
      still = subst P so_far.place none.left_still so_far.still;
      front = front_past unit steps c.args.place list i a at (ap (λ m. hands_out unit steps m a) (sym so_far.place) ∙ none.none) so_far.front;
      place = it.same_place ∙ so_far.place;
      reference = it.reference ∙ so_far.reference;
      visitor = none.visitor ∙ so_far.visitor;
      passed = c.if-picked.false;
    }

pub unreachable-requires : goal.unreachable-requires
unreachable-requires g c =
    let so_far = c.loop-action.invariant in
    let old = c.args.session.now in
    let over = at_end _ c.args.list.now c.loop-action.action-index old c.loop-action.session _ _ _ _ c.requires.awaits.start c.requires.awaits.valid (omega arith) so_far.way in
    let none = left_at_end old.unit old.situation.steps c.loop-action.session.situation.at so_far.way.turns over in
    let still = so_far.still in
    absurd (omega (arith, none, still))
