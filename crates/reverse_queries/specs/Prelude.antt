-- The names that the clauses of other crates cite, passed on from one place. Declares nothing.
pub use Rattle.reverse_queries.specs.Collision.{CollidesOn}
pub use Rattle.reverse_queries.specs.ListExecution.{AwaitsList, IsOut}
pub use Rattle.reverse_queries.specs.Queries.{ChangesIn, IsLast, WritesIn, front_to, up_to}
