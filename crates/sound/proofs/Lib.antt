-- How a call's judgement goes past the gate. Assumes nothing.
pub mod Passing
