use Rattle.std.proofs.Common.{arith, rules}
use Rattle.level_book.proofs.LevelNames.{ram_alone}
use Rattle.level_book.proofs.CostOrder.{one_rises}
use Rattle.level_book.proofs.book.Book.plain.Goals as goal

pub invariant_of-result : goal.invariant_of-result
invariant_of-result c = (omega arith, omega arith, omega arith, search rules, ram_alone c.ram.result.name c.ram.ensures.0, one_rises 1 1 c.ram.result)
