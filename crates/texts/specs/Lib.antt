pub mod Spans
pub mod Stack
pub mod Evaluation
pub mod Text
