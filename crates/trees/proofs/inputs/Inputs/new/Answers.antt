use Rattle.trees.proofs.Slots.{holds_none}
use Rattle.trees.proofs.inputs.Inputs.new.Goals as goal

pub loop-event-init : goal.loop-event-init
loop-event-init c = holds_none
