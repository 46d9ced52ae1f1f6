-- What the functions of `receiver` ask and what they leave. Assumes nothing.
pub mod Acting
pub mod Judging
