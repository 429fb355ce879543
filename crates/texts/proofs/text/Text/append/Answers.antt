use Rattle.std.proofs.Common.{length, arith, tests, ap}
use Rattle.texts.specs.Text.{length-used}
use Rattle.texts.proofs.Grow.{grown_filled}
use Rattle.texts.proofs.text.Text.append.Goals as goal

pub invariant_of-self : goal.invariant_of-self
invariant_of-self c =
    grown_filled c.self.inside c.self.invariant c.args.more.now c.copy_from_slice.new.self c.copy_from_slice.ensures.after
    (omega (arith, tests, length-used c.self.inside c.self.invariant, ap length c.self.view_is))
