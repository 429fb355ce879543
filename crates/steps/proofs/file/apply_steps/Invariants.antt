use Rattle.steps.proofs.Running.{Running}
use Rattle.steps.proofs.file.apply_steps.Given as goal

abbrev pub invariant-loop-record : goal.invariant-loop-record
invariant-loop-record l =
    (goal.iterator-loop-record).can_next l.record-iterator ×
    (goal.iterator-loop-record).is_finite l.record-iterator ×
    Running l.events l.initial.present l.file l.record-iterator.step l.present l.record-iterator.left.now
