pub mod Model
pub mod Law
pub mod Stands
pub mod Views
pub mod Dating
pub mod Jobs
