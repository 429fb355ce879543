use Rattle.algebra.proofs.Sheet.{sheet_stands, sheet_keeps, ranks_decide}
use Rattle.algebra.proofs.rules_keep_dates.Goals as goal

pub returns : goal.returns
returns c = record { stands = sheet_stands; keeps = λ K. sheet_keeps K; ranks = λ K. ranks_decide K }
