-- The names that the clauses of other crates cite, passed on from one place. Declares nothing.
pub use Rattle.cost_tables.specs.TableRows.{AreFor, AreGreatestFor, FastestTablesFit, TableRows, TablesFit, tables_in, value_of}
pub use Rattle.cost_tables.specs.TableUpdates.{IsOther}
pub use Rattle.cost_tables.specs.LevelCosts.{AreCheap, AreCosts}
pub use Rattle.cost_tables.specs.Entries.{entry, least_of, least_split}
