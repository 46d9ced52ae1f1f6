-- What a refusal answers. Assumes nothing.
pub mod Refusing
