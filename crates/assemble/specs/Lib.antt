pub mod Faults
pub mod Taking
pub mod Views
