use Rattle.trees.proofs.inputs.Inputs.add.Goals as goal

pub returns-in-Joins : goal.returns-in-Joins
returns-in-Joins c E rs h n = rw c.in-Joins.is (c.add_gate.ensures E rs h n)

pub returns-in-Triggers : goal.returns-in-Triggers
returns-in-Triggers c E rs h n = rw c.in-Triggers.is (c.add_trigger.ensures E rs h)
