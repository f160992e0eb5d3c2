-- The names that the clauses of other crates cite, passed on from one place. Declares nothing.
pub use Rattle.revolve_gen.specs.Places.{IsRoomy, level_at, places_on}
pub use Rattle.revolve_gen.specs.RevolveList.{revolve, revolve_list}
pub use Rattle.revolve_gen.specs.Plans.{HasPlan}
pub use Rattle.revolve_gen.specs.Stack.{held_after, on_level, place, placed, read, stack_step, written}
pub use Rattle.revolve_gen.specs.Multistage.{HasPlaces, IsMultistage}
