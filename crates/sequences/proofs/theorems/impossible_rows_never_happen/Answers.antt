use Rattle.sequences.proofs.RowDates.{never_happens}
use Rattle.sequences.proofs.Ticks.{impossible_by_ticks}
use Rattle.sequences.proofs.theorems.impossible_rows_never_happen.Goals as goal

pub returns : goal.returns
returns c = record { ticks = impossible_by_ticks; numbers = λ K. never_happens K }
