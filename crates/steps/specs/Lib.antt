pub mod Refusals
pub mod Sides
pub mod Walks
pub mod Records
pub mod Readings
pub mod Rewrites
pub mod Stepping
pub mod Files
