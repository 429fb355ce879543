use Rattle.algebra.proofs.Sheet.{sheet_keeps, ranks_decide}
use Rattle.algebra.proofs.Steps.{reached_keeps}
use Rattle.texts.proofs.derivations.rules_keep_dates_of.Goals as goal

pub returns : goal.returns
returns g c =
    let K = g.D.Date.kind in
    record { keeps = sheet_keeps K; ranks = ranks_decide K; reached = reached_keeps K }
