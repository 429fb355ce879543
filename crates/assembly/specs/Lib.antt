pub mod Faults
pub mod Layouts
pub mod Writing
pub mod StepFiles
