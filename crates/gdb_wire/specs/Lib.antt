pub mod Escapes
pub mod Items
pub mod Laws
pub mod Numbers
pub mod Replies
pub mod RequestParser
pub mod Requests
pub mod Prelude
