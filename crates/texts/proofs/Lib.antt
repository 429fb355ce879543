pub mod Rows
pub mod Letters
pub mod Readings
pub mod Reversed
pub mod Evaluations
pub mod Grow
