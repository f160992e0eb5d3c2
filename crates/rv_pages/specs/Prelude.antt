-- The names that the clauses of other crates cite, passed on from one place. Declares nothing.
pub use Rattle.rv_pages.specs.Memory.{IsMapped, IsMemory, IsZeroPage, Memory, bytes_at, number_at, page_bytes, page_numbers, with_number, word_at, wrapped}
