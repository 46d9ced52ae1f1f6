-- The map, and how a read and a write are judged and carried out. Assumes nothing.
pub mod Mapping
pub mod Showing
pub mod Judged
pub mod Slots
pub mod Cleared
pub mod Acted
pub mod Facts
