pub mod ParserCorrectness
pub mod Digits
pub mod Frames
pub mod Items
pub mod Numbers
pub mod ItemDecomposition
pub mod ReplyPackets
pub mod UnescapedBodies
