-- The laws of the words in specs/. Assumes nothing.
pub mod Tests
pub mod Choice
pub mod All
pub mod Field
pub mod Lists
pub mod Bytes
pub mod Signed
pub mod Text
