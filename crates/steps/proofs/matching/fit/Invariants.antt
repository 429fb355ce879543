use Rattle.std.proofs.Common.{◌≡◌, drop}
use Rattle.algebra.specs.Terms.{Term}
use Rattle.algebra.specs.declared.Variable.{Variable}
use Rattle.steps.specs.Sides.{side_text}
use Rattle.steps.proofs.Taken.{Sofar}
use Rattle.steps.proofs.matching.fit.Given as goal

abbrev pub invariant-loop-symbol : goal.invariant-loop-symbol
invariant-loop-symbol l =
    (s : Term Variable) → l.side ≡ side_text s → Sofar s l.text (drop l.symbol-index l.side) l.walk.bound l.walk.rest.now
