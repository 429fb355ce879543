pub mod Numbers
pub mod Inputs
pub mod Words
pub mod Records
pub mod Steps
pub mod Plainly
