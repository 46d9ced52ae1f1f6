-- What is proved of the definitions: document 01's widths, its "Bench set", its sample. Assumes nothing.
pub mod Layouts
pub mod Bench
pub mod Sample
