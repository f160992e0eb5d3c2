use Rattle.std.proofs.Common.{ℕ, refl}
use Rattle.keepers.specs.KeeperState.{KeeperState}
use Rattle.keepers.specs.declared.memory_keeper.Op.TheVariants.{Get}
use Rattle.keepers.proofs.ListedCalls.{listed}
use Rattle.keepers.proofs.memory_keeper.MemoryKeeperKeeper.get.Goals as goal

abbrev count : KeeperState → ℕ
count k = k.gets

pub returns-then-fails-clause-listed : goal.returns-then-fails-clause-listed
returns-then-fails-clause-listed c = listed Get count _ _ _ _ c.self.view_is c.deref.ensures.value c.is_listed-fails.ensures _ c.if-fails.true refl
