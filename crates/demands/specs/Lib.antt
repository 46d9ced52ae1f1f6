-- What the buyer asked for, as statements over document 01's definitions. Assumes nothing.
pub mod Types
pub mod Runs
pub mod History
pub mod Places
pub mod Fields
pub mod Demands
