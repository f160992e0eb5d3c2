-- The names that the clauses of other crates cite, passed on from one place. Declares nothing.
pub use Rattle.run_timeline.specs.Moves.{CameBackward, CameForward, EndsBackward, EndsForward, state, step_ahead, step_behind, steps_of}
pub use Rattle.run_timeline.specs.MoveParts.{MatchPart}
