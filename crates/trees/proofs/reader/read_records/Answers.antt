use Rattle.std.proofs.Common.{◌∙◌, arith}
use Rattle.std.proofs.lemmas.Result.{err_from_is_err_and}
use Rattle.trees.specs.Reading.{unread, faulty}
use Rattle.trees.proofs.Progress.{ending, end_granted, end_refused}
use Rattle.trees.proofs.reader.read_records.Goals as goal

pub returns-in_err-next : goal.returns-in_err-next
returns-in_err-next c =
    let x = err_from_is_err_and c.from_residual.result c.from_residual.ensures.1 in
    let told = c.in_err-next.ensures in
    rw (x.1, x.2, told.0) (ending c.loop-k.invariant (unread (omega arith) told.1))

pub returns-in_err-add : goal.returns-in_err-add
returns-in_err-add c =
    let x = err_from_is_err_and c.from_residual-in_err-add.result c.from_residual-in_err-add.ensures.1 in
    let g = c.loop-k.invariant in
    rw (x.1, x.2) (ending g (faulty (omega arith) c.in_ok-next.next c.in_ok-next.after.now c.in_ok-next.ensures _ (c.in_err-add.ensures c.args.counts.events g.records g.holds (omega arith))))

pub returns-in_err-source : goal.returns-in_err-source
returns-in_err-source c =
    let x = err_from_is_err_and c.from_residual-in_err-source.result c.from_residual-in_err-source.ensures.1 in
    rw (x.1, x.2) (end_refused c.loop-k.invariant c.args.counts.records c.copied.result (omega arith) (c.copied.ensures ∙ c.text.ensures) _ c.in_err-source.ensures)

pub returns : goal.returns
returns c =
    end_granted c.loop-k.invariant c.args.counts.records c.copied.result (omega arith) (c.copied.ensures ∙ c.text.ensures) c.in_ok-source.source (omega arith) c.in_ok-source.ensures
