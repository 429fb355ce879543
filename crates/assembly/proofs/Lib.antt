pub mod Nones
pub mod Laying
pub mod Writes
pub mod Sayables
pub mod Filing
