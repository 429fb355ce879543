use Rattle.sequences.proofs.Fit.{lines_fit}
use Rattle.sequences.proofs.Tell.{lines_tell}
use Rattle.sequences.proofs.theorems.lines_tell_rows.Goals as goal

pub returns : goal.returns
returns c = record { tell = lines_tell; fit = lines_fit }
