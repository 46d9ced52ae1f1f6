-- What judging gives to postings and takes, and how their steps go together. Assumes nothing.
pub mod Steps
pub mod Facts
