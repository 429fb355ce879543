use Rattle.std.proofs.Common.{length, sym, ap, ◌∙◌}
use Rattle.sequences.specs.Stored.{length-held}
use Rattle.sequences.specs.declared.row.Row.{Row}
use Rattle.sequences.proofs.table.Table.len.Goals as goal

pub returns-clause-count : goal.returns-clause-count
returns-clause-count c = sym (length-held c.self.inside c.self.invariant) ∙ ap (length {A = Row}) c.self.view_is
