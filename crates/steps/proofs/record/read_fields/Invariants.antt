use Rattle.std.proofs.Common.{drop}
use Rattle.steps.specs.Records.{bits}
use Rattle.steps.specs.Readings.{request_of}
use Rattle.steps.proofs.Fields.{Remaining}
use Rattle.steps.proofs.record.read_fields.Given as goal

abbrev pub invariant-loop-bit : goal.invariant-loop-bit
invariant-loop-bit l = Remaining l.map l.bytes (drop l.bit bits) (request_of l.reading.said) l.reading.rest.now
