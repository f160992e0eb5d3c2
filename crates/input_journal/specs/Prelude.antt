-- The names that the clauses of other crates cite, passed on from one place. Declares nothing.
pub use Rattle.input_journal.specs.Form.{IsRecorded, IsShort}
