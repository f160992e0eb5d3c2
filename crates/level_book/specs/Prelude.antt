-- The names that the clauses of other crates cite, passed on from one place. Declares nothing.
pub use Rattle.level_book.specs.BookCosts.{BookCosts, IsWithinLimits, names_of, plain, room, slots_of, total_room}
pub use Rattle.level_book.specs.BookFaults.{IsBookText}
pub use Rattle.level_book.specs.Configuration.{Configuration, held_on, start}
pub use Rattle.level_book.specs.Moves.{Goes}
pub use Rattle.level_book.specs.Rules.{is_full, levels_named, rule, target}
pub use Rattle.level_book.specs.Valid.{BrokenAt, Leads, Valid}
pub use Rattle.level_book.specs.CostFold.{cost, forward, is_read, is_reversed, is_taped, is_write, reads, reversed, steps_of, taped, writes}
pub use Rattle.level_book.specs.NestedClass.{GoesOnTop, IsNestedFrom, IsNewest, KeepsFaster, Nested, older_than_newest}
pub use Rattle.level_book.specs.UnderTable.{IsAtMost, IsGreatest, IsUnderTable, Tables, never, number, sum_of, top_entry}
pub use Rattle.level_book.specs.DiskClass.{Disk, ForwardsFirst, NeverStores}
pub use Rattle.level_book.specs.DiskUnderTable.{DiskTables, IsDiskUnderTable, IsGreatestDisk, disk_top_entry}
