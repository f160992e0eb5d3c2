use Rattle.std.proofs.Common.{◌≡◌, ◌≢◌, ℕ, inl, inr, ◌∙◌, ◌+◌, ◌++◌, [], ◌∷◌, Err, arith, sym, ap, subst, refl}
use Rattle.keepers.specs.Counts.{raised, Rose}
use Rattle.keepers.specs.Claims.{Tells, AddsPrefix}
use Rattle.plan_types.specs.declared.action.Action.{Action}
use Rattle.state_image.specs.Line.{line}
use Rattle.reverse_runner.specs.declared.fault.RunFault.{RunFault}
use Rattle.reverse_runner.specs.declared.fault.RunFault.TheVariants.{Visitor}
use Rattle.reverse_runner.specs.KeepersSeen.{told_by, calls_to}
use Rattle.reverse_runner.specs.SessionState.{SessionState, holdings_of}
use Rattle.reverse_runner.specs.ActionEffects.{Holdings}
use Rattle.reverse_queries.specs.HoldingsTrace.{GoesThrough}
use Rattle.reverse_queries.specs.ListExecution.{done_after, MissesState, FaultFits, RefusedIn}
use Rattle.reverse_queries.specs.Queries.{front_to}
use Rattle.endings.specs.declared.outcome.Outcome.{Outcome}
use Rattle.requests.specs.declared.question.Question.TheVariants.{State}
use Rattle.reversal.specs.Job.{ask}
use Rattle.reversal.specs.Moment.{moment, NothingFails}
use Rattle.endings.specs.Outcomes.{done}
use Rattle.endings.specs.Endings.{status_of}
use Rattle.reversal.specs.JobModel.{Works, fault_ending, run_from}
use Rattle.reversal.specs.Output.{Adds}
use Rattle.reversal.proofs.QuestionProgress.{front_shorter, performed_so_far, is_visitor, state_done, state_ended}
use Rattle.reversal.proofs.MemoryFaults.{is_memory}
use Rattle.reverse_runner.proofs.KeeperCalls.{past_others}
use Rattle.reversal.proofs.asking.show_state.Goals as goal
use Rattle.reversal.proofs.Progress.{FaultCounts, same_Err}

pub refused-requires-clause-counts : goal.refused-requires-clause-counts
refused-requires-clause-counts g c =
    let session = c.args.session.now in
    let refused = c.in-Err.ensures.refused in
    let shorter = front_shorter session.unit session.situation.steps c.args.place c.args.list.now in
    let none = ap (λ (s : SessionState). s.done) c.requires.begun.begins in
    let count = refused.done ∙ ap (λ n. done_after n refused.place) none ∙ performed_so_far refused.place (omega (arith, refused.within, shorter, c.requires.begun.few)) in
    omega (arith, count, refused.within, shorter, c.requires.begun.few)

pub returns-in-Ok : goal.returns-in-Ok
returns-in-Ok g c =
    let session = c.args.session.now in
    let run = run_from session c.args.list.now in
    let place = c.args.place in
    let ok = c.in-Ok.ensures in
    let found = ok.gets in
    let got = found.holds.gets in
    let same = c.new-writer.ensures.same in
    let last = c.out-1.given.1 (sym (got.0 ∙ c.new-writer.ensures.same_reference)) in
    let told = told_by g.K.Storage c.args.keepers.now.items in
    let old = moment g.O.Sink g.K.Storage c.args.out.now c.args.keepers.now.items c.args.counter.now in
    let new = λ (o : g.row.O.Denot). moment g.O.Sink g.K.Storage o c.state_at.new.keepers.items c.state_at.new.steps in
    let end = holdings_of c.state_at.new.session (told_by g.K.Storage c.state_at.new.keepers.items) in
    let T : g.row.O.Denot → Type 0 = λ o. Tells (g.O.Sink.told o) (g.O.Sink.told c.state_at.new.visitor.out.now) (Adds (line place (found.states place) ++ 10 ∷ [])) in
    let C : g.row.O.Denot → Type 0 = λ o. g.O.Sink.call_count c.state_at.new.visitor.out.now ≡ raised (g.O.Sink.call_count o) 1 in
    let H : Holdings → Type 0 = λ h. GoesThrough session.unit session.situation.steps session.journal (front_to session.unit session.situation.steps place c.args.list.now) h end found.states in
    let through = subst H (ap (λ (s : SessionState). holdings_of s told) c.requires.begun.begins) found.through in
    let quiet : NothingFails old (new c.state_at.new.visitor.out.now) =
    record { sink = c.state_at.ensures.seen.faults.quiet (λ e. cc) ∙ ap g.O.Sink.fault_count same; keepers = λ j. c.state_at.ensures.kept.quiet j (λ e. cc) } in
    let P : g.row.O.Denot → Type 0 = λ o. Works (ask (State place) run) done old (new o) in
    record {
      works = subst P (sym last)
          (inl (state_done run place old (new c.state_at.new.visitor.out.now) found.states end c.requires.place c.requires.begun.valid refl through
          (λ tells. found.holds.of_run session.work c.requires.begun.state (c.requires.begun.stands told tells)) (subst T same got.1) (subst C same got.2) ok.performed.counted ok.performed.called quiet));
      others = (record { slots_same = c.state_at.ensures.kept.slots; places_same = c.state_at.ensures.kept.places }, past_others g.K.Storage _ _ _ _ c.state_at.ensures.kept);
      roomy = λ roomy e. (let zero : 0 ≡ 17 = e in absurd (omega (arith, zero)));
    }

pub returns-in-Err : goal.returns-in-Err
returns-in-Err g c =
    let session = c.args.session.now in
    let run = run_from session c.args.list.now in
    let place = c.args.place in
    let fault = c.in-Err.fault in
    let all = c.state_at.ensures in
    let told = told_by g.K.Storage c.args.keepers.now.items in
    let w = c.new-writer.result in
    let v = c.state_at.new.visitor in
    let Missing : Action → Holdings → Type 0 = MissesState (λ w n s journal v. (v.out.ghost_name ≡ w.out.ghost_name) × Tells (g.O.Sink.told w.out.now) (g.O.Sink.told v.out.now) (AddsPrefix (line n s ++ 10 ∷ [])) × (g.O.Sink.call_count v.out.now ≡ raised (g.O.Sink.call_count w.out.now) 1)) session told place w v in
    let front = front_to session.unit session.situation.steps place c.args.list.now in
    let R : SessionState → Type 0 = λ s. RefusedIn Missing front fault s c.state_at.new.session told c.args.counter.now c.state_at.new.steps
    (calls_to g.K.Storage c.args.keepers.now.items) (calls_to g.K.Storage c.state_at.new.keepers.items) in
    let refused = subst R c.requires.begun.begins c.in-Err.ensures.refused in
    let shorter = front_shorter session.unit session.situation.steps place c.args.list.now in
    let count = refused.done ∙ performed_so_far refused.place (omega (arith, refused.within, shorter, c.requires.begun.few)) in
    let stands = c.requires.begun.stands told in
    let same = c.new-writer.ensures.same in
    let is = λ (f : RunFault) (e : fault ≡ f). c.in-Err.is ∙ ap (λ x. Err x) e in
    let isnt = λ (f : RunFault) (ne : fault ≢ f) (e : c.state_at.result ≡ Err f). ne (same_Err c.state_at.result _ _ c.in-Err.is e) in
    let unseen : fault ≢ Visitor → v ≡ w = λ other. c.in-Err.ensures.seen.unseen (λ e. other cc) in
    let kept : v.out.ghost_name ≡ w.out.ghost_name = elim (is_visitor fault) [
      | inl e ↦ (let F : RunFault → Type 0 = λ f. FaultFits Missing f refused.next refused.held in let missed : Missing refused.next refused.held = subst F e refused.fits in missed.misses.0)
      | inr other ↦ ap (λ x. x.out.ghost_name) (unseen other)
    ] in
    let last = c.out-1.given.1 (sym (kept ∙ c.new-writer.ensures.same_reference)) in
    let old = moment g.O.Sink g.K.Storage c.args.out.now c.args.keepers.now.items c.args.counter.now in
    let new = λ (o : g.row.O.Denot). moment g.O.Sink g.K.Storage o c.state_at.new.keepers.items c.state_at.new.steps in
    let C : g.row.O.Denot → Type 0 = λ o. g.O.Sink.call_count v.out.now ≡ raised (g.O.Sink.call_count o) 1 in
    let N : ℕ → Type 0 = λ n. Rose n (g.O.Sink.fault_count v.out.now) in
    let counts : FaultCounts fault old (new v.out.now) = record {
      sink = λ e. subst N (ap g.O.Sink.fault_count same) (all.seen.faults.cause (is _ e));
      sink_quiet = λ ne. all.seen.faults.quiet (isnt _ ne) ∙ ap g.O.Sink.fault_count same;
      keeper = λ k e. (all.kept.cause k (is _ e)).1;
      keepers_quiet = λ j ne. all.kept.quiet j (isnt _ ne);
    } in
    let P : g.row.O.Denot → Type 0 = λ o. Works (ask (State place) run) (fault_ending (refused.place + 1) fault) old (new o) in
    let E : Outcome → Type 0 = λ e. Works (ask (State place) run) e old (new c.out-1.given.0) in
    record {
      works = subst E (sym (c.refused.ensures ∙ ap (λ n. fault_ending (n + 1) fault) count)) (subst P (sym last)
          (state_ended run place Missing fault c.state_at.new.session old (new v.out.now) refused
          (λ other. (ap (λ x. g.O.Sink.told x.out.now) (unseen other) ∙ ap g.O.Sink.told same, ap (λ x. g.O.Sink.call_count x.out.now) (unseen other) ∙ ap g.O.Sink.call_count same))
          (λ next held missed.
          let M : g.row.O.Denot → Type 0 = λ o. Tells (g.O.Sink.told o) (g.O.Sink.told v.out.now) (AddsPrefix (line place missed.state ++ 10 ∷ [])) in
          (missed.state, (missed.out, λ tells. missed.of_run session.work c.requires.begun.state (stands tells), subst M same missed.misses.1, subst C same missed.misses.2)))
          (λ k put got e tells. all.spared.undamaged session.work c.requires.begun.state (stands tells) k put got (is _ e)) counts));
      others = (record { slots_same = c.state_at.ensures.kept.slots; places_same = c.state_at.ensures.kept.places }, past_others g.K.Storage _ _ _ _ c.state_at.ensures.kept);
      roomy = λ roomy e.
          (let wants = is_memory (c.state_at.new.session.done + 1) fault (λ q. all.spared.not_ended (is _ q)) (sym (ap status_of c.refused.ensures) ∙ e) in
          all.spared.roomy roomy (is _ wants));
    }
