use Rattle.std.proofs.Common.{◌≡◌, Some, refl, arith}
use Rattle.steps.specs.Readings.{request_of}
use Rattle.assemble.proofs.Steps.{with_step}
use Rattle.assemble.proofs.job.Job.add_step.Goals as goal

pub invariant_of-self : goal.invariant_of-self
invariant_of-self c =
    let some : c.self.inside.events ≡ Some c.in_ok-events.events = grind arith in
    with_step c.self.inside _ c.in_ok-events.events (request_of c.args.said.now) _ c.add_step.result refl refl some c.add_step.ensures.added c.add_step.ensures.left c.self.invariant

pub invariant_of-self-2 : goal.invariant_of-self-2
invariant_of-self-2 c =
    let some : c.self.inside.events ≡ Some c.in_ok-events.events = grind arith in
    with_step c.self.inside _ c.in_ok-events.events (request_of c.args.said.now) _ c.add_step.result refl refl some c.add_step.ensures.added c.add_step.ensures.left c.self.invariant
