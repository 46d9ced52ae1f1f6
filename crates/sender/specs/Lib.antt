-- What the steps of a send ask and give. Assumes nothing.
pub mod Steps
