-- The run of `demands` that is worked out. Assumes nothing.
pub mod Worked
