use Rattle.std.proofs.Common.{vec_items}
use Rattle.assemble.proofs.Steps.{same_file}
use Rattle.assemble.proofs.job.Job.step_bytes.Goals as goal

pub returns-clause-filed : goal.returns-clause-filed
returns-clause-filed c = rw (← c.self.view_is) (same_file _ (vec_items c.self.inside.steps) _ c.as_slice.ensures.value c.self.invariant.filed)
