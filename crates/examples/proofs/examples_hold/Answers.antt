use Rattle.std.proofs.Common.{refl}
use Rattle.examples.proofs.SequenceExamples.{sequence_examples}
use Rattle.examples.proofs.StepExamples.{step_examples}
use Rattle.examples.proofs.TreeExamples.{tree_examples}
use Rattle.examples.proofs.examples_hold.Goals as goal

pub returns : goal.returns
returns c = record {
  dates = record {
    pand_tie = refl;
    pand_late = refl;
    pand_early = refl;
    before_tie = refl;
    before_never = refl;
    shifts = refl;
    cause_or = refl;
    cause_tie = refl;
  };
  trees = tree_examples;
  steps = step_examples;
  sequences = sequence_examples;
}
