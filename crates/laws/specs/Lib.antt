-- What each verdict says, what is known of a sound machine, and how contracts name lent memories. Assumes nothing.
pub mod Types
pub mod Sound
pub mod Postings
pub mod Receipts
pub mod Verdicts
pub mod Writing
pub mod Lent
