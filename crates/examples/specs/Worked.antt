-- All worked examples, as one proposition computed from the definitions.
-- Assumes nothing.
use Rattle.examples.specs.Dates.{DateExamples}
use Rattle.examples.specs.Trees.{TreeExamples}
use Rattle.examples.specs.Steps.{StepExamples}
use Rattle.examples.specs.Sequences.{SequenceExamples}

pub record WorkedExamples : Type 0 where
  pub dates : DateExamples
  pub trees : TreeExamples
  pub steps : StepExamples
  pub sequences : SequenceExamples
