use Rattle.std.proofs.Common.{[]}
use Rattle.trees.specs.Held.{Holds}
use Rattle.trees.proofs.inputs.Inputs.new.Given as goal

abbrev pub invariant-loop-event : goal.invariant-loop-event
invariant-loop-event l = Holds l.event [] l.inputs
