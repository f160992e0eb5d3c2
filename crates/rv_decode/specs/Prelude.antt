-- The names that the clauses of other crates cite, passed on from one place. Declares nothing.
pub use Rattle.rv_decode.specs.Formats.{funct3, funct7, opcode, sign_extended}
pub use Rattle.rv_decode.specs.Rows.{decoded}
pub use Rattle.rv_decode.specs.Ranges.{HasRanges}
pub use Rattle.rv_decode.specs.Words.{word_of}
