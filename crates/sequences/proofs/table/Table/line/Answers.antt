use Rattle.std.proofs.Common.{◌<◌, length, Err, subst, rules}
use Rattle.sequences.specs.Tables.{IsTable}
use Rattle.sequences.specs.declared.refusals.LineRefusal.TheVariants.{SmallBuffer}
use Rattle.sequences.proofs.Held.{tells_row}
use Rattle.sequences.proofs.Only.{one_line}
use Rattle.sequences.proofs.table.Table.line.Goals as goal

pub returns-then-not-has_room-clause-only : goal.returns-then-not-has_room-clause-only
returns-then-not-has_room-clause-only c =
    λ s h. one_line c.args.self.now c.args.row c.args.buffer.now c.args.buffer.now (Err SmallBuffer) s (search rules) h

pub returns-in_err-row-clause-only : goal.returns-in_err-row-clause-only
returns-in_err-row-clause-only c =
    λ s h. one_line c.args.self.now c.args.row c.args.buffer.now c.args.buffer.now c.from_residual.result s (search rules) h

pub returns-clause-tells : goal.returns-clause-tells
returns-clause-tells c =
    let low : c.args.row < length c.args.self.now = search rules in
    tells_row c.args.self.now c.args.row (subst IsTable c.self.view_is c.self.invariant.table) low
