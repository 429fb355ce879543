use Rattle.std.proofs.Common.{◌≡◌, true, drop, is_some}
use Rattle.algebra.specs.Rules.{has}
use Rattle.algebra.specs.Terms.{Term}
use Rattle.algebra.specs.declared.Variable.{Variable}
use Rattle.steps.specs.Sides.{side_text, slot}
use Rattle.steps.proofs.Spelt.{Spelt}
use Rattle.steps.proofs.rewriting.append_side.Given as goal

abbrev pub invariant-loop-symbol : goal.invariant-loop-symbol
invariant-loop-symbol l =
    (s : Term Variable) → l.side ≡ side_text s → ((v : Variable) → has v s ≡ true → is_some (slot l.bound v) ≡ true)
    → Spelt l.bound s l.initial.text l.text (drop l.symbol-index l.side)
