use Rattle.std.proofs.Common.{List}
use Rattle.derivation.specs.Law.{Known, Run}
use Rattle.derivation.specs.Stands.{Stands}
use Rattle.derivation.proofs.Walking.{Underway}
use Rattle.derivation.proofs.bench.Bench.step_all.Given as goal

abbrev pub invariant-loop-record : goal.invariant-loop-record
invariant-loop-record l =
    (goal.iterator-loop-record).can_next l.record-iterator ×
    (goal.iterator-loop-record).is_finite l.record-iterator ×
    ((h : List Known) → Run h l.initial.self → Underway h l.file l.record-iterator.step l.record-iterator.left.now l.self) ×
    Stands l.self
