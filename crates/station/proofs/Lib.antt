pub mod Hand
pub mod Turns
