-- The names that the clauses of other crates cite, passed on from one place. Declares nothing.
pub use Rattle.bound_cert.specs.Acceptance.{IsAccepted, IsLeastOf, class_of}
