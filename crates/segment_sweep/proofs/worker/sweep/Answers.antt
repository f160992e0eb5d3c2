use Rattle.std.proofs.Common.{◌≡◌, ◌+◌, ◌-◌, true, subst, ap, sym, ◌∙◌, arith, true≢false}
use Rattle.rv_machine.specs.StepTable.{next}
use Rattle.segment_sweep.specs.SegmentResults.{Covers}
use Rattle.segment_sweep.proofs.StepExtension.{one_more}
use Rattle.segment_sweep.proofs.SegmentCovers.{covers_it, covers_on}
use Rattle.segment_sweep.proofs.worker.sweep.Goals.{then-has_digest+then-seen-n, then-has_digest+else-seen-n, else-has_digest}
use Rattle.segment_sweep.proofs.worker.sweep.Goals as goal

pub overflow_cast-result : goal.overflow_cast-result
overflow_cast-result g c =
    let place = c.load-seen.ensures (c.load-seen.result - 1) (omega arith) in
    let within = place.within in
    record { fits = omega arith }

pub loop-n-preserved : goal.loop-n-preserved
loop-n-preserved g c =
    let q = g.K.Sought.query in
    let n = c.loop-n.n in
    let from = c.args.from in
    let stands = c.loop-n.invariant.state in
    let it = λ (h : c.has_digest.result ≡ true). covers_it q from n c.loop-n.state c.args.digest.now (omega arith) stands c.requires.digest (c.has_digest.ensures.0 h) in
    record {
      from = omega arith;
      state = subst (λ j. c.step.new.state ≡ j) (one_more q.start q.journal n (n + 1) c.loop-n.state stands (omega arith)) (c.step.ensures.next ∙ ap (λ j. next c.loop-n.state j) c.requires.journal);
      covers = elim c.if-has_digest.branch [
        | then-has_digest+then-seen-n w ↦ subst (λ f. Covers q from (n + 1) f) (sym w.found-is) (it w.if-has_digest.true)
        | then-has_digest+else-seen-n w ↦ subst (λ f. Covers q from (n + 1) f) (sym w.found-is) (it w.if-has_digest.true)
        | else-has_digest w ↦ subst (λ f. Covers q from (n + 1) f) (sym w.found-is)
            (covers_on q from n c.loop-n.state c.args.digest.now c.loop-n.found stands c.requires.digest (λ h. absurd (true≢false (sym (c.has_digest.ensures.1 h) ∙ w.if-has_digest.false))) c.loop-n.invariant.covers)
      ];
    }
