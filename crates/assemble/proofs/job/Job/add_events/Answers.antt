use Rattle.std.proofs.Common.{◌≡◌, None, arith}
use Rattle.std.proofs.lemmas.Grind.{common_steps}
use Rattle.assemble.proofs.Steps.{no_step}
use Rattle.assemble.proofs.job.Job.add_events.Goals as goal

pub invariant_of-self : goal.invariant_of-self
invariant_of-self c =
    let none : c.self.inside.events ≡ None = grind (arith, common_steps) in
    record { filed = no_step _ _ (c.self.invariant.bare none).1; counted = c.self.invariant.counted; bare = λ h. absurd (cc) }
