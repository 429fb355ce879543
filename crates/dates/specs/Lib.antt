pub mod Ticks
pub mod ShiftTicks
pub mod Causes
pub mod Reading
