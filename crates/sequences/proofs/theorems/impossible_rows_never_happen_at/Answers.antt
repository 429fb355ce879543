use Rattle.sequences.proofs.RowDates.{never_happens}
use Rattle.sequences.proofs.Tables.{table_keeps}
use Rattle.sequences.proofs.theorems.impossible_rows_never_happen_at.Goals as goal

pub returns : goal.returns
returns g c = record { never = never_happens g.D.Date.kind; dates = table_keeps g.D.Date.kind }
