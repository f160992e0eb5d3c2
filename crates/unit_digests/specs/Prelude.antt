-- The names that the clauses of other crates cite, passed on from one place. Declares nothing.
pub use Rattle.unit_digests.specs.Digests.{AreDigests, HasPages, IsKnown, states_of}
