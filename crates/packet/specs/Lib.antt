-- What the functions of `packet` ask and what they leave. Assumes nothing.
pub mod Packet
