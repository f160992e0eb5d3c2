use Rattle.std.proofs.Common.{◌≡◌, ◌≢◌, ◌∙◌, ◌+◌, ◌≤◌, ℕ, List, map, length, Some, Err, inl, arith, sym, ap, refl, subst, slice_get, inr}
use Rattle.std.proofs.lemmas.Bool.{false≢true}
use Rattle.std.specs.List.{AllByRecursion}
use Rattle.rv_pages.specs.Memory.{page_numbers}
use Rattle.unit_digests.specs.Digests.{HasPages}
use Rattle.keepers.specs.Counts.{Rose}
use Rattle.plan_types.specs.declared.action.Action.{Action}
use Rattle.level_book.specs.declared.book.Slots.{Slots}
use Rattle.level_book.specs.Valid.{Valid}
use Rattle.reverse_runner.specs.declared.fault.RunFault.{RunFault}
use Rattle.reverse_runner.specs.StateOrder.{handed_by}
use Rattle.reverse_runner.specs.VisitorCalls.{states_out}
use Rattle.reverse_runner.specs.KeepersSeen.{HaveRoom}
use Rattle.reverse_runner.specs.SessionState.{SessionState, SamePages}
use Rattle.level_book.specs.Rules.{rule}
use Rattle.endings.specs.declared.outcome.Outcome.{Outcome}
use Rattle.endings.specs.Outcomes.{done}
use Rattle.endings.specs.Endings.{status_of}
use Rattle.requests.proofs.Lists.{at_front, none_left}
use Rattle.reversal.specs.Job.{Run, perform}
use Rattle.reversal.specs.Moment.{Moment, moment}
use Rattle.reversal.specs.Deeds.{States}
use Rattle.reversal.specs.JobModel.{Works, fault_ending}
use Rattle.reversal.specs.ActionsLeft.{left_of}
use Rattle.reversal.proofs.AllowedActions.{allowed}
use Rattle.reversal.proofs.LinesWritten.{Got, same_sink, same_sink_missed, all_written, one_broken}
use Rattle.reversal.proofs.ListDeeds.{IsAt}
use Rattle.reversal.proofs.Progress.{past_is_unnamed, run_of, SoFar, same_run, Refuses, went_whole, nothing_so_far, same_Err, more, refused, may_go}
use Rattle.reversal.proofs.job.perform_all.Given.{Over}
use Rattle.reversal.proofs.job.perform_all.Goals.{After-perform}
use Rattle.reverse_runner.specs.Rooms.{rooms_by}
use Rattle.reverse_runner.proofs.Rooms.{still_roomy}
use Rattle.reversal.proofs.MemoryFaults.{is_memory}
use Rattle.reversal.proofs.job.perform_all.Goals as goal
use Rattle.reversal.proofs.QuestionProgress.{is_visitor}

-- ---- what is known before an action

abbrev list_of : (g : Over) (c : After-perform g) → List Action
list_of g c = left_of c.args.actions.now

abbrev old_of : (g : Over) (c : After-perform g) → Moment
old_of g c = moment g.O.Sink g.K.Storage c.args.out.now c.args.keepers.now.items c.args.counter.now

abbrev mid_of : (g : Over) (c : After-perform g) → Moment
mid_of g c = moment g.O.Sink g.K.Storage c.loop-action.writer.out.now c.loop-action.keepers.items c.loop-action.counter

there : (g : Over) (c : After-perform g) → slice_get (list_of g c) c.loop-action.place ≡ Some c.in-Some.action
there g c = (at_front (list_of g c) c.loop-action.place c.in-Some.action _ (sym c.loop-action.invariant.rest ∙ c.in-Some.ensures)).0

-- what is known of the session, which is as it was before the digests were taken
so_far_of : (g : Over) (c : After-perform g) → SoFar (run_of c.args.session.now.work c.args.session.now (list_of g c)) c.loop-action.place c.loop-action.invariant.so_far.0 c.digest_lines.new.session (old_of g c) (mid_of g c)
so_far_of g c =
    let S : SessionState → Type 0 = λ s. SoFar (run_of c.args.session.now.work c.args.session.now (list_of g c)) c.loop-action.place c.loop-action.invariant.so_far.0 s (old_of g c) (mid_of g c) in
    subst S (sym c.digest_lines.ensures.session) c.loop-action.invariant.so_far.1

pages_of : (g : Over) (c : After-perform g) → SamePages c.digest_lines.new.session.work c.args.session.now.work
pages_of g c = let S : SessionState → Type 0 = λ s. SamePages s.work c.args.session.now.work in subst S (sym c.digest_lines.ensures.session) c.loop-action.invariant.pages

-- the run is that of the session before the action
abbrev run_now : (g : Over) (c : After-perform g) → run_of c.args.session.now.work c.digest_lines.new.session (list_of g c) ≡ run_of c.args.session.now.work c.args.session.now (list_of g c)
run_now g c =
    let so_far = so_far_of g c in
    same_run c.digest_lines.new.session c.args.session.now c.args.session.now.work (list_of g c) so_far.journal so_far.unit so_far.steps so_far.slots

here : (g : Over) (c : After-perform g) → SoFar (run_of c.args.session.now.work c.digest_lines.new.session (list_of g c)) c.loop-action.place c.loop-action.invariant.so_far.0 c.digest_lines.new.session (old_of g c) (mid_of g c)
here g c =
    let R : Run → Type 0 = λ r. SoFar r c.loop-action.place c.loop-action.invariant.so_far.0 c.digest_lines.new.session (old_of g c) (mid_of g c) in
    subst R (sym (run_now g c)) (so_far_of g c)

-- ---- the loop

pub perform-requires-clause-allowed : goal.perform-requires-clause-allowed
perform-requires-clause-allowed g c ended =
    let so_far = c.loop-action.invariant.so_far.1 in
    let S : SessionState → Type 0 = λ s. rule s.situation.steps s.situation.slots s.situation.at c.in-Some.action ≡ 0 in
    subst S (sym c.digest_lines.ensures.session)
    (allowed _ _ (left_of c.args.actions.now) c.loop-action.place c.in-Some.action c.loop-action.session.situation so_far.steps so_far.slots
    (at_front (left_of c.args.actions.now) c.loop-action.place c.in-Some.action _ (sym c.loop-action.invariant.rest ∙ c.in-Some.ensures)).0 so_far.leads c.requires.begun.valid)

pub perform-requires-clause-room : goal.perform-requires-clause-room
perform-requires-clause-room g c ended =
    let so_far = c.loop-action.invariant.so_far.1 in
    let N : ℕ → Type 0 = λ n. HaveRoom n c.loop-action.session.situation.slots (map g.K.Storage.slot_count c.loop-action.keepers.items) in
    let S : List Slots → Type 0 = λ s. HaveRoom c.args.session.now.situation.steps s (map g.K.Storage.slot_count c.loop-action.keepers.items) in
    let C : List ℕ → Type 0 = λ l. HaveRoom c.args.session.now.situation.steps c.args.session.now.situation.slots l in
    let T : SessionState → Type 0 = λ s. HaveRoom s.situation.steps s.situation.slots (map g.K.Storage.slot_count c.loop-action.keepers.items) in
    subst T (sym c.digest_lines.ensures.session) (subst N (sym so_far.steps) (subst S (sym so_far.slots) (subst C (sym c.loop-action.invariant.room) c.requires.begun.room)))

pub loop-action-init : goal.loop-action-init
loop-action-init g c =
    let session = c.args.session.now in
    let list = left_of c.args.actions.now in
    let same = c.new-writer.ensures.same in
    let old = moment g.O.Sink g.K.Storage c.args.out.now c.args.keepers.now.items c.args.counter.now in
    let mid = moment g.O.Sink g.K.Storage c.new-writer.result.out.now c.args.keepers.now.items c.args.counter.now in
    record {
      rest = refl;
      within = omega arith;
      so_far = (
        _,
        nothing_so_far session list old mid c.requires.begun.begins c.requires.begun.stands c.requires.alone (ap g.O.Sink.told same) (ap g.O.Sink.call_count same) refl refl refl
            (record { sink = ap g.O.Sink.fault_count same; keepers = λ k. refl }),
      );
      rooms = λ k. refl;
      pages = refl;
      digesters = c.requires.pages;
      room = refl;
      places = refl;
      reference = refl;
      others = λ k past. refl;
    }

pub loop-action-preserved : goal.loop-action-preserved
loop-action-preserved g c =
    let p = (goal.at.loop-action-preserved g c).After-perform in
    let inv = c.loop-action.invariant in
    let first = c.args.session.now.work in
    let before = c.digest_lines.new.session in
    let after = c.perform.new.self in
    let list = list_of g p in
    let next = at_front list c.loop-action.place c.in-Some.action _ (sym inv.rest ∙ c.in-Some.ensures) in
    let ok = c.in-Ok.ensures in
    let does = ok.does (so_far_of g p).lasts in
    let new = moment g.O.Sink g.K.Storage c.perform.new.visitor.out.now c.perform.new.keepers.items c.perform.new.steps in
    let numbers = handed_by before.unit before.situation.steps c.in-Some.action in
    let states = states_out c.in-Some.action before.work before.tape.states in
    let lines = all_written g.O.Sink.told g.O.Sink.call_count before.journal numbers states c.loop-action.writer c.perform.new.visitor ok.hands.gets in
    let one = more g.O.Sink.told g.O.Sink.call_count first before list c.loop-action.place inv.so_far.0 c.loop-action.writer.out.now (old_of g p) (mid_of g p) c.in-Some.action (there g p) (record { tells = refl; counts = refl }) (here g p)
    (Got g.O.Sink.told g.O.Sink.call_count) after c.loop-action.writer c.perform.new.visitor c.perform.new.visitor.out.now new (record { tells = refl; counts = refl }) ok.session.performs does.acted.acts ok.hands.gets lines does.acted.counted does.acted.called
    (ok.stays.stands first c.requires.begun.state) ok.stays.alone (record { sink = c.perform.ensures.seen.faults.quiet (λ e. cc); keepers = λ j. c.perform.ensures.kept.quiet j (λ e. cc) }) in
    let now : States = _ in
    let R : Run → Type 0 = λ r. SoFar r (c.loop-action.place + 1) now after (old_of g p) new in
    record {
      rest = sym next.1;
      within = omega (arith, next.2);
      so_far = (_, subst R (run_now g p) one);
      rooms = λ k. c.perform.ensures.kept.rooms k ∙ inv.rooms k;
      pages = sym c.perform.ensures.session.pages ∙ pages_of g p;
      digesters =
          subst (λ (ds : List (List ℕ)). AllByRecursion (HasPages after.work) ds) (sym c.digest_lines.ensures.pages)
          (subst (λ (ps : List ℕ). AllByRecursion (λ (qs : List ℕ). qs ≡ ps) c.loop-action.digesters)
          (sym (ap (λ (t : SessionState). page_numbers t.work.memory) c.digest_lines.ensures.session) ∙ c.perform.ensures.session.pages) inv.digesters);
      room = c.perform.ensures.kept.slots ∙ inv.room;
      places = c.perform.ensures.kept.places ∙ inv.places;
      reference = same_sink g.O.Sink.told g.O.Sink.call_count before.journal numbers states c.loop-action.writer c.perform.new.visitor ok.hands.gets ∙ inv.reference;
      others = λ k past.
          c.perform.ensures.kept.others k (past_is_unnamed before.situation.steps before.situation.slots before.situation.at c.in-Some.action after.situation.at k ok.session.performs.goes
          (let slots = ap length (so_far_of g p).slots in omega (arith, past, slots)))
          ∙ inv.others k past;
    }

-- ---- an action was refused

pub fault_ending-requires : goal.fault_ending-requires
fault_ending-requires g c =
    let p = (goal.at.fault_ending-requires g c).After-perform in
    record { over = λ e. absurd (false≢true (sym (so_far_of g p).lasts ∙ c.perform.ensures.ended.0 (c.in-Err.is ∙ ap (λ f. Err f) e))) }

pub returns-in-Err : goal.returns-in-Err
returns-in-Err g c =
    let p = (goal.at.returns-in-Err g c).After-perform in
    let inv = c.loop-action.invariant in
    let first = c.args.session.now.work in
    let before = c.digest_lines.new.session in
    let fault = c.in-Err.fault in
    let err = c.in-Err.ensures in
    let all = c.perform.ensures in
    let list = list_of g p in
    let a = c.in-Some.action in
    let so_far = here g p in
    let leaves = (err.does so_far.lasts).leaves in
    let is = λ (f : RunFault) (e : fault ≡ f). c.in-Err.is ∙ ap (λ x. Err x) e in
    let isnt = λ (f : RunFault) (ne : fault ≢ f) (e : c.perform.result ≡ Err f). ne (same_Err c.perform.result _ _ c.in-Err.is e) in
    let kept : c.perform.new.visitor.out.ghost_name ≡ c.loop-action.writer.out.ghost_name = elim (is_visitor fault) [
      | inl e ↦ same_sink_missed g.O.Sink.told g.O.Sink.call_count before.journal (handed_by before.unit before.situation.steps a) (states_out a before.work before.tape.states) c.loop-action.writer c.perform.new.visitor (all.hands.misses (is _ e))
      | inr ne ↦ ap (λ v. v.out.ghost_name) (err.seen.unseen (λ e. ne cc))
    ] in
    let last = c.in-Err.out-1-own.given.1 (sym (kept ∙ inv.reference ∙ c.new-writer.ensures.same_reference)) in
    let new = moment g.O.Sink g.K.Storage c.in-Err.out-1-own.given.0 c.perform.new.keepers.items c.perform.new.steps in
    let at_end : IsAt g.O.Sink.told g.O.Sink.call_count c.perform.new.visitor.out.now new = record { tells = ap g.O.Sink.told last; counts = ap g.O.Sink.call_count last } in
    let V : ℕ → Type 0 = λ n. Rose (g.O.Sink.fault_count c.loop-action.writer.out.now) n in
    let numbers = handed_by before.unit before.situation.steps a in
    let states = states_out a before.work before.tape.states in
    let y = c.perform.new.visitor.out.now in
    let refuses : Refuses g.O.Sink.told g.O.Sink.call_count first before a fault c.loop-action.writer.out.now y (mid_of g p) new = record {
      uncounted = leaves.uncounted;
      called = leaves.called_at_most;
      left = leaves.left;
      unreached = λ k j e past. all.caused.unreached k j (is _ e) past;
      whole = λ k put got e. all.caused.whole k put got (is _ e);
      breaks = λ e. one_broken g.O.Sink.told g.O.Sink.call_count before.journal numbers states c.loop-action.writer c.perform.new.visitor (all.hands.misses (is _ e));
      unseen = λ ne. ap (λ v. v.out.now) (err.seen.unseen (λ e. ne cc));
      counts = record {
        sink = λ e. subst V (ap g.O.Sink.fault_count (sym last)) (all.seen.faults.cause (is _ e));
        sink_quiet = λ ne. ap g.O.Sink.fault_count last ∙ all.seen.faults.quiet (isnt _ ne);
        keeper = λ k e. (all.kept.cause k (is _ e)).1;
        keepers_quiet = λ j ne. all.kept.quiet j (isnt _ ne);
      };
      named = λ k e. all.caused.named k (is _ e);
      damaged = λ k put got e. all.caused.damaged k put got (is _ e);
      undamaged = λ stands k put got e. all.spared.undamaged first c.requires.begun.state stands k put got (is _ e);
      wants = λ e. all.caused.wants (is _ e);
      lasts = λ e. absurd (false≢true (sym so_far.lasts ∙ all.ended.0 (is _ e)));
    } in
    let R : Run → Type 0 = λ r. Works (perform r) (fault_ending (c.loop-action.place + 1) fault) (old_of g p) new in
    let V2 : List Slots → Type 0 = λ s. Valid before.situation.steps s list in
    let V1 : ℕ → Type 0 = λ n. Valid n c.args.session.now.situation.slots list in
    let valid = subst V2 (sym (so_far_of g p).slots) (subst V1 (sym (so_far_of g p).steps) c.requires.begun.valid) in
    let E : Outcome → Type 0 = λ e. Works (perform (run_of first c.args.session.now list)) e (old_of g p) new in
    let goes = may_go g.O.Sink.told g.O.Sink.call_count first before list c.loop-action.place inv.so_far.0 c.loop-action.writer.out.now (old_of g p) (mid_of g p) a (there g p) (record { tells = refl; counts = refl }) so_far
    valid c.loop-action.writer.out.now (mid_of g p) (record { tells = refl; counts = refl }) in
    let rooms = rooms_by g.K.Storage in
    record {
      works = subst E (sym c.fault_ending.ensures) (subst R (run_now g p)
          (refused g.O.Sink.told g.O.Sink.call_count first before list c.loop-action.place inv.so_far.0 c.loop-action.writer.out.now (old_of g p) (mid_of g p) a (there g p) (record { tells = refl; counts = refl }) so_far
          valid y new at_end fault refuses));
      others = (
        record { slots_same = all.kept.slots ∙ inv.room; places_same = all.kept.places ∙ inv.places },
        λ k past.
            all.kept.others k (past_is_unnamed before.situation.steps before.situation.slots before.situation.at a goes.0 k goes.1
            (let slots = ap length (so_far_of g p).slots in omega (arith, past, slots)))
            ∙ inv.others k past,
      );
      roomy = λ roomy e.
          (let wants = is_memory (c.loop-action.place + 1) fault (λ q. absurd (false≢true (sym so_far.lasts ∙ all.ended.0 (is _ q)))) (sym (ap status_of c.fault_ending.ensures) ∙ e) in
          all.spared.roomy
          (still_roomy c.args.session.now.work before.work c.args.session.now.situation.slots before.situation.slots (rooms c.args.keepers.now.items) (rooms c.loop-action.keepers.items) (pages_of g p) (so_far_of g p).slots inv.rooms roomy) (is _ wants));
    }

-- ---- all actions were performed

pub returns : goal.returns
returns g c =
    let inv = c.loop-action.invariant in
    let so_far = inv.so_far.1 in
    let first = c.args.session.now.work in
    let session = c.loop-action.session in
    let list = left_of c.args.actions.now in
    let short : length list ≤ c.loop-action.place = none_left list c.loop-action.place (sym inv.rest ∙ c.in_default.ensures.0) in
    let last = c.out-in_default-1.given.1 (sym (inv.reference ∙ c.new-writer.ensures.same_reference)) in
    let old = moment g.O.Sink g.K.Storage c.args.out.now c.args.keepers.now.items c.args.counter.now in
    let mid = λ (o : g.row.O.Denot). moment g.O.Sink g.K.Storage o c.loop-action.keepers.items c.loop-action.counter in
    let eq = same_run session c.args.session.now first list so_far.journal so_far.unit so_far.steps so_far.slots in
    let R : Run → Type 0 = λ r. SoFar r c.loop-action.place inv.so_far.0 session old (mid c.loop-action.writer.out.now) in
    let V2 : List Slots → Type 0 = λ s. Valid session.situation.steps s list in
    let V1 : ℕ → Type 0 = λ n. Valid n c.args.session.now.situation.slots list in
    let valid = subst V2 (sym so_far.slots) (subst V1 (sym so_far.steps) c.requires.begun.valid) in
    let P : Run → Type 0 = λ r. Works (perform r) done old (mid c.loop-action.writer.out.now) in
    let O : g.row.O.Denot → Type 0 = λ o. Works (perform (run_of first c.args.session.now list)) done old (mid o) in
    record {
      works = subst O (sym last) (subst P eq (inl (went_whole first session list c.loop-action.place inv.so_far.0 old (mid c.loop-action.writer.out.now) (subst R (sym eq) so_far) short inv.within valid)));
      others = (record { slots_same = inv.room; places_same = inv.places }, inv.others);
      roomy = λ roomy e. (let zero : 0 ≡ 17 = e in absurd (omega (arith, zero)));
    }
