use Rattle.derivation.proofs.Speaking.{tables_speak}
use Rattle.derivation.proofs.tables.numbers_speak_for_tables.Goals as goal

pub returns : goal.returns
returns g c = tables_speak g.D.Date.kind c.args.dating.now
