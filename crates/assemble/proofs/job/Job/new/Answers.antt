use Rattle.std.proofs.Common.{arith}
use Rattle.assemble.proofs.Steps.{no_step}
use Rattle.assemble.proofs.job.Job.new.Goals as goal

pub invariant_of-result : goal.invariant_of-result
invariant_of-result c = record { filed = no_step 0 _ c.new-2.ensures.items; counted = rw c.new.ensures.items (omega arith); bare = λ _. (c.new.ensures.items, c.new-2.ensures.items) }
