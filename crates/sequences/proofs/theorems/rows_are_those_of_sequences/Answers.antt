use Rattle.sequences.proofs.Sums.{rows_match}
use Rattle.sequences.proofs.theorems.rows_are_those_of_sequences.Goals as goal

pub returns : goal.returns
returns c = rows_match
