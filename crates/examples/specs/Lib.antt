pub mod Dates
pub mod Trees
pub mod Steps
pub mod Sequences
pub mod Worked
