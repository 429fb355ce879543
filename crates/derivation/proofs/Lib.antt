pub mod Singles
pub mod Reaching
pub mod Lawfuls
pub mod Calls
pub mod Closings
pub mod Questions
pub mod Walking
pub mod Speaking
