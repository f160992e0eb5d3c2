-- The names that the clauses of other crates cite, passed on from one place. Declares nothing.
pub use Rattle.unit_undo.specs.Entry.{Entry, undone}
pub use Rattle.unit_undo.specs.UndoTrail.{HasSteps, IsMadeFor, LeadsBack, led_back, states_below}
pub use Rattle.unit_undo.specs.UndoState.{CanGoBack, begun}
