-- What reads and writes ask and give. Assumes nothing.
pub mod Reading
pub mod Writing
