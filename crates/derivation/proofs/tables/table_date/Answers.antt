use Rattle.derivation.proofs.Lawfuls.{table_dated_as}
use Rattle.derivation.proofs.tables.table_date.Goals as goal

pub returns : goal.returns
returns g c =
    record { value = c.date.ensures.outcome; rows = c.date.ensures.rows; law = table_dated_as g.D.Date.kind c.args.dating.now c.args.table.now c.date.result c.date.ensures.outcome }
