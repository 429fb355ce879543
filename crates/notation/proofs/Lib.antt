pub mod Naming
pub mod Recording
pub mod Cutting
pub mod Stepping
pub mod Spacing
pub mod Back
pub mod Plainness
