pub mod Debugger
pub mod Moves
pub mod Answers
pub mod Conversation
pub mod SessionFields
pub mod ServerState
pub mod Turns
