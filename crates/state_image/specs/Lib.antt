pub mod Decoder
pub mod Image
pub mod ImageForm
pub mod StoredPages
pub mod Line
pub mod HashInput
pub mod Prelude
