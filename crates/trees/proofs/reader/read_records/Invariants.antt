use Rattle.trees.proofs.Progress.{Progress}
use Rattle.trees.proofs.reader.read_records.Given as goal

abbrev pub invariant-loop-k : goal.invariant-loop-k
invariant-loop-k l = Progress l.counts.events l.body l.k l.inputs l.rest
