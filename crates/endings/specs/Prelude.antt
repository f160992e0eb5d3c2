-- The names that the clauses of other crates cite, passed on from one place. Declares nothing.
pub use Rattle.endings.specs.Outcomes.{bad_book, bad_certificate, bad_journal, bad_program, bad_script, bad_text, done, invalid, no_memory, no_plan, stopped, unreadable}
pub use Rattle.endings.specs.Endings.{ended_of, status_of}
