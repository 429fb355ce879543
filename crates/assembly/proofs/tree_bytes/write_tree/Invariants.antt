use Rattle.std.proofs.Common.{vec_items}
use Rattle.assembly.proofs.Laying.{Underway}
use Rattle.assembly.proofs.tree_bytes.write_tree.Given as goal

abbrev pub invariant-loop-one : goal.invariant-loop-one
invariant-loop-one l = Underway l.events l.count l.records l.one-index (vec_items l.bytes)
