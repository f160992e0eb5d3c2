-- The names that the clauses of other crates cite, passed on from one place. Declares nothing.
pub use Rattle.image_store.specs.Shelves.{kept_at, no_pairs_on}
pub use Rattle.image_store.specs.StoredImages.{IsToldAnd}
