-- The names that the clauses of other crates cite, passed on from one place. Declares nothing.
pub use Rattle.line_texts.specs.Lines.{lines}
pub use Rattle.line_texts.specs.Tokens.{is_blank, words}
pub use Rattle.line_texts.specs.Numbers.{hex_word}
pub use Rattle.line_texts.specs.Parsers.{Gives, GivesSome, GivesUnlessMemory, number_at, number_of}
pub use Rattle.line_texts.specs.Cursors.{column_in, text_in, token_of}
