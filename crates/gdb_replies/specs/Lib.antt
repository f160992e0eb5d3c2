pub mod Commands
pub mod Description
pub mod StateTexts
pub mod StateWords
pub mod Prelude
