use Rattle.std.proofs.Common.{◌≡◌, ◌<◌, ℕ, length, vec_items, subst, arith, rules}
use Rattle.assembly.proofs.Laying.{Underway, written_none, written_more, written_all, one_layout, means_as_laid}
use Rattle.assembly.proofs.tree_bytes.write_tree.Goals as goal

pub loop-one-init : goal.loop-one-init
loop-one-init c = written_none _ _ c.args.records.now _ c.in_ok-bytes.ensures.items

pub loop-one-preserved : goal.loop-one-preserved
loop-one-preserved c =
    written_more c.args.events c.in_ok-count.count c.args.records.now c.loop-one.one-index _ (vec_items c.loop-one.bytes) _ c.bytes.result (omega arith) c.loop-one.invariant c.bytes.ensures c.in_ok-extend_from_slice.ensures.items

pub returns : goal.returns
returns c =
    let rs = c.args.records.now in
    let all : c.loop-one.one-index ≡ length rs = omega arith in
    let few : length rs < 256 = search rules in
    let count : c.in_ok-count.count ≡ length rs = search rules in
    let lays = written_all c.args.events c.in_ok-count.count rs (vec_items c.loop-one.bytes)
    (subst (λ (n : ℕ). Underway c.args.events c.in_ok-count.count rs n (vec_items c.loop-one.bytes)) all c.loop-one.invariant) (omega arith) (omega arith) in
    record { written = lays; many = tt; back = one_layout _; meaning = means_as_laid _ c.args.events rs lays }
