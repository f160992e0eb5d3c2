use Rattle.std.proofs.Common.{refl, arith}
use Rattle.rv_machine.specs.States.{state_number}
use Rattle.run_timeline.proofs.walk.Walk.begin.Goals as goal

pub invariant_of-result : goal.invariant_of-result
invariant_of-result c = record {
  marks = c.in_ok-marks.ensures.marks (state_number c.args.first c.args.journal) refl;
  spans = c.in_ok-marks.ensures.spans;
  work = c.in_ok-work.ensures.cases;
  known = omega arith;
  within = omega arith;
  runs = λ k l. absurd (omega (arith, l));
}
