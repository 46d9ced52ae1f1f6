-- What the gate says. Assumes nothing.
pub mod Gated
