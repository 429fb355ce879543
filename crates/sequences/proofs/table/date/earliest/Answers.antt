use Rattle.std.proofs.Common.{◌≡◌}
use Rattle.algebra.specs.Terms.{dating_of}
use Rattle.sequences.proofs.Earliest.{earliest_at_first, earliest_with_one}
use Rattle.sequences.proofs.table.date.earliest.Goals as goal

pub loop-row-init : goal.loop-row-init
loop-row-init g c =
    let rows = c.args.rows.now in
    let e : c.into_iter-row-iterator.result.iter.rest.now ≡ rows = cc in
    earliest_at_first g.D.Date.kind (dating_of g.D.Date.kind c.args.dating.now) _ rows _ e c.never-earliest.ensures

pub loop-row-preserved : goal.loop-row-preserved
loop-row-preserved g c =
    earliest_with_one g.D.Date.kind (dating_of g.D.Date.kind c.args.dating.now) _ c.next.new.self.iter.rest.now c.in-Some.row.now _ _ _ _
    c.in-Some.ensures.steps c.date.ensures c.earlier-earliest.ensures c.loop-row.invariant
