use Rattle.algebra.proofs.Derived.{derived_keeps_under}
use Rattle.texts.proofs.derivations.derivations_keep_dates_under.Goals as goal

pub returns : goal.returns
returns g c = derived_keeps_under g.D.Date.kind c.args.dating.now
