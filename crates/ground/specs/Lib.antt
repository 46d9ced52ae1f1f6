-- Choices, fields of words, bytes, lists, signed words and texts: what every crate above speaks with. Assumes nothing.
pub mod Choice
pub mod Field
pub mod Bytes
pub mod Lists
pub mod Signed
pub mod Text
