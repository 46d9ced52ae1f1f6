-- Laws of the steps of a send. Assumes nothing.
pub mod Choice
pub mod Facts
pub mod Steps
