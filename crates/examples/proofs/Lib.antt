pub mod TreeExamples
pub mod StepExamples
pub mod SequenceExamples
