-- The names that the clauses of other crates cite, passed on from one place. Declares nothing.
pub use Rattle.gdb_replies.specs.Commands.{IsCommand}
pub use Rattle.gdb_replies.specs.StateWords.{ending_line, hexadecimal, place_line}
