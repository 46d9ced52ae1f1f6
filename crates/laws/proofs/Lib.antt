-- The laws of verdicts and of soundness. Assumes nothing.
pub mod Sound
pub mod Gate
pub mod Postings
pub mod Receipts
pub mod Verdicts
pub mod Reading
pub mod Writing
