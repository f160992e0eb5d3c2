use Rattle.std.proofs.Common.{◌≡◌, ◌+◌, ◌*◌, ◌/◌, ◌<◌, length, subst, sym, ◌∙◌, arith}
use Rattle.segment_sweep.proofs.MarkExtension.{marked_more, quotients, scaled}
use Rattle.segment_sweep.proofs.StepExtension.{same_number}
use Rattle.segment_sweep.proofs.marks.Marks.make.Goals as goal

pub loop-preserved : goal.loop-preserved
loop-preserved g c =
    let i = c.loop.counter in
    let width = c.args.count / c.args.workers + 1 in
    let start = c.args.start.now in
    let journal = c.args.journal.now in
    let inv = c.loop.invariant in
    let stands = c.advance.ensures.state start (i * width) inv.state ∙ same_number start journal (i * width + width) ((i + 1) * width) (omega arith) in
    record {
      count = omega (arith, c.in_ok-push-2.ensures.len, inv.count);
      state = stands;
      each = marked_more c.loop.states.items c.push-in-loop.new.self.items c.in_ok-clone-2.field-0 start journal (i + 1) width c.in_ok-push-2.ensures.items (omega (arith, inv.count, c.loop.states.ok)) inv.each (c.in_ok-clone-2.ensures.cases ∙ stands);
      counted = omega (arith, c.advance.ensures.counted, inv.counted);
    }

pub returns-clause-stand : goal.returns-clause-stand
returns-clause-stand g c =
    let inv = c.loop.invariant in
    let n = c.args.count in
    let width = n / c.args.workers + 1 in
    let q = quotients n c.args.workers (omega arith) in
    let len : length c.loop.states.items ≡ n / width + 1 = omega (arith, inv.count, c.loop.states.ok) in
    record {
      wide = omega arith;
      within = λ i h. scaled i (n / width) width n (omega arith) q.2;
      enough = subst (λ m. n < m * width) (sym len) q.1;
      each = λ i h. inv.each i (omega (arith, inv.count, c.loop.states.ok));
    }
