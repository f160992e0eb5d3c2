pub mod Lines
pub mod Tokens
pub mod Numbers
pub mod Parsers
pub mod Cursors
pub mod Prelude
