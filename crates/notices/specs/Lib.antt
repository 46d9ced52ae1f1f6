-- What the steps of postings and takes ask and give. Assumes nothing.
pub mod Steps
