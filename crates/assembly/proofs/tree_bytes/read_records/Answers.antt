use Rattle.std.proofs.Common.{◌≡◌, ◌<◌, List, length, vec_items, sym, subst, arith, rules}
use Rattle.std.proofs.lemmas.Result.{err_from_is_err_and}
use Rattle.trees.specs.declared.record.Record.{Record}
use Rattle.assembly.proofs.Laying.{Underread, read_none, read_more, no_more, too_much, read_all}
use Rattle.assembly.proofs.tree_bytes.read_records.Goals as goal

pub loop-init : goal.loop-init
loop-init c =
    let bs = c.args.bytes.now in
    (subst (λ (x : List Record). Underread bs x bs) (sym c.new-records.ensures.items) (read_none bs), c.new-records.ensures.len)

pub returns-in_err-one : goal.returns-in_err-one
returns-in_err-one c =
    let len : length (vec_items c.loop.records) < c.args.count = omega (arith, c.loop.records.ok.0) in
    let p = err_from_is_err_and c.from_residual.result c.from_residual.ensures.1 in
    rw (p.1, p.2) (no_more _ (vec_items c.loop.records) c.loop.rest.now c.loop.invariant.0 c.args.count len c.in_err-one.ensures.1)

pub loop-preserved : goal.loop-preserved
loop-preserved c = (
  read_more c.args.bytes.now (vec_items c.loop.records) _ c.in_ok-one.one c.loop.rest.now _ c.loop.invariant.0 c.in_ok-one.ensures c.in_ok-push.ensures.items,
  omega (arith, c.in_ok-push.ensures.len),
)

pub returns-then-not-is_empty : goal.returns-then-not-is_empty
returns-then-not-is_empty c =
    let len : length (vec_items c.loop.records) ≡ c.args.count = omega (arith, c.loop.records.ok.0) in
    too_much _ (vec_items c.loop.records) c.loop.rest.now c.loop.invariant.0 c.args.count len (search rules)

pub returns : goal.returns
returns c =
    let len : length (vec_items c.loop.records) ≡ c.args.count = omega (arith, c.loop.records.ok.0) in
    read_all _ (vec_items c.loop.records) c.loop.rest.now c.loop.invariant.0 c.args.count len (search rules)
