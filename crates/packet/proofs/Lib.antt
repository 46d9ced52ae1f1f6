-- Laws of reading and of forming a packet. Assumes nothing.
pub mod Reading
pub mod Forming
