-- The names that the clauses of other crates cite, passed on from one place. Declares nothing.
pub use Rattle.state_image.specs.Image.{image}
pub use Rattle.state_image.specs.ImageForm.{first_unmapped, first_wrong, memory_room}
pub use Rattle.state_image.specs.Line.{line}
