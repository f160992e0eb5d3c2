use Rattle.multistage_gen.specs.Numbers.{AreCounted, AreAscending}
use Rattle.multistage_gen.proofs.numbers.revolve_places.Given as goal

-- the places so far, and the stretches that are begun on the next one
abbrev pub invariant-loop-alloc : goal.invariant-loop-alloc
invariant-loop-alloc l = record {
  counted : AreCounted l.steps l.slots l.free l.places.items l.stretches.items;
  ascending : AreAscending l.stretches.items;
}

abbrev pub decreases-loop-alloc : goal.decreases-loop-alloc
decreases-loop-alloc l = l.free
