use Rattle.std.proofs.Common.{ℕ, List, subst, arith}
use Rattle.std.proofs.lemmas.List.{drop_all}
use Rattle.std.proofs.lemmas.Result.{err_from_is_err_and}
use Rattle.steps.proofs.Spelt.{Spelt, spelt_none, spelt_bound, spelt_more, spelt_full, spelt_all}
use Rattle.steps.proofs.rewriting.append_side.Goals as goal

pub loop-symbol-init : goal.loop-symbol-init
loop-symbol-init c s is bound = spelt_none _ s _ c.args.side.now is bound

pub returns-in_err-append_symbol : goal.returns-in_err-append_symbol
returns-in_err-append_symbol c s is bound =
    let p = err_from_is_err_and c.from_residual.result c.from_residual.ensures.1 in
    rw p.1 (spelt_full c.args.bound s _ c.loop-symbol.text c.args.side.now c.loop-symbol.symbol-index (omega arith) (c.loop-symbol.invariant s is bound) c.in_err-append_symbol.ensures)

pub loop-symbol-preserved : goal.loop-symbol-preserved
loop-symbol-preserved c s is bound =
    spelt_more c.args.bound s _ c.loop-symbol.text c.args.side.now c.loop-symbol.symbol-index (omega arith) (c.loop-symbol.invariant s is bound) c.append_symbol.new.text c.in_ok-append_symbol.ensures

pub returns : goal.returns
returns c s is bound =
    let side = c.args.side.now in
    spelt_all c.args.bound s _ _
    (subst (λ (l : List ℕ). Spelt c.args.bound s c.args.text.now c.loop-symbol.text l) (drop_all c.loop-symbol.symbol-index side (omega arith)) (c.loop-symbol.invariant s is bound))

pub append_symbol-requires : goal.append_symbol-requires
append_symbol-requires c =
    spelt_bound c.args.bound c.requires.term _ c.loop-symbol.text c.args.side.now c.loop-symbol.symbol-index (omega arith) (c.loop-symbol.invariant c.requires.term c.requires.written c.requires.bound)
