use Rattle.std.proofs.Common.{◌≡◌}
use Rattle.algebra.specs.Terms.{dating_of}
use Rattle.sequences.specs.Dates.{table_date}
use Rattle.sequences.proofs.Earliest.{earliest_with}
use Rattle.sequences.proofs.table.date.earliest.Given as goal

abbrev pub invariant-loop-row : goal.invariant-loop-row
invariant-loop-row g l =
    let K = g.D.Date.kind in
    let d = dating_of K l.dating in
    earliest_with K d l.row-iterator.iter.rest.now l.earliest ≡ table_date K d l.rows
