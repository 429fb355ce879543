use Rattle.algebra.proofs.Numbers.{numbers_speak}
use Rattle.texts.proofs.derivations.numbers_speak_for.Goals as goal

pub returns : goal.returns
returns g c = numbers_speak g.D.Date.kind c.args.dating.now
