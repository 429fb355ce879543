use Rattle.sequences.proofs.Exact.{dates_of_rows}
use Rattle.sequences.proofs.theorems.row_dates_are_latest.Goals as goal

pub returns : goal.returns
returns g c = dates_of_rows g.D.Date.kind
