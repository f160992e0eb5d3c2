use Rattle.multistage_gen.specs.Numbers.{steps_of, AreAscending}
use Rattle.multistage_gen.proofs.StretchTraffic.{AreHeld}
use Rattle.multistage_gen.proofs.numbers.count_place.Given as goal

-- those that are still held, those that are begun above, and the visits so far
abbrev pub invariant-loop-steps : goal.invariant-loop-steps
invariant-loop-steps l = record {
  held : AreHeld l.free l.fn.stretches.items l.stretches.items l.above.items l.visits;
  ascending : AreAscending l.stretches.items;
  above : AreAscending l.above.items;
}

abbrev pub decreases-loop-steps : goal.decreases-loop-steps
decreases-loop-steps l = steps_of l.stretches.items
