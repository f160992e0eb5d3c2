use Rattle.std.proofs.Common.{◌≡◌, take}
use Rattle.multistage_gen.specs.Numbers.{count_of}
use Rattle.multistage_gen.proofs.numbers.count_of.Given as goal

abbrev pub invariant-loop-of : goal.invariant-loop-of
invariant-loop-of l = l.count ≡ count_of (take l.of-index l.stretches)
