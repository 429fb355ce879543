use Rattle.std.proofs.Common.{◌≡◌, length}
use Rattle.walkthrough.proofs.tell_terms.Given as goal

abbrev pub invariant-loop-place : goal.invariant-loop-place
invariant-loop-place g l = length l.work ≡ 256
