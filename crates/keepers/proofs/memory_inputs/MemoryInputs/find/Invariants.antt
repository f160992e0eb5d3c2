use Rattle.std.proofs.Common.{◌≡◌}
use Rattle.std.specs.FinMap as finmap
use Rattle.keepers.proofs.InputSearch.{found_from}
use Rattle.keepers.proofs.memory_inputs.MemoryInputs.find.Given as goal

abbrev pub invariant-loop-key : goal.invariant-loop-key
invariant-loop-key l = finmap.get l.self.files l.name ≡ found_from l.key-index l.name l.key-items
