use Rattle.std.proofs.Common.{map, take, vec_items}
use Rattle.std.specs.Option.{option_map}
use Rattle.steps.specs.Readings.{field_of}
use Rattle.assembly.proofs.Writes.{AllAdded}
use Rattle.assembly.proofs.step_bytes.encode.Given as goal

abbrev pub invariant-loop-field : goal.invariant-loop-field
invariant-loop-field l = AllAdded (map (option_map field_of) (take l.field-index l.field-items)) (vec_items l.initial.out) (vec_items l.out)
