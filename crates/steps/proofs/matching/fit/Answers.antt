use Rattle.std.proofs.Common.{ℕ, List, subst, arith}
use Rattle.std.proofs.lemmas.List.{drop_all}
use Rattle.steps.proofs.Taken.{Sofar, start, again, never_fits, done}
use Rattle.steps.proofs.matching.fit.Goals as goal

pub loop-symbol-init : goal.loop-symbol-init
loop-symbol-init c s is = start s c.args.text.now c.args.side.now _ _ is c.start-walk.ensures.none c.start-walk.ensures.rest

pub returns-in_err-walk : goal.returns-in_err-walk
returns-in_err-walk c s is =
    rw c.from_residual.ensures (never_fits s c.args.text.now c.args.side.now c.loop-symbol.symbol-index c.loop-symbol.walk (omega arith) (c.loop-symbol.invariant s is) c.in_err-walk.ensures)

pub loop-symbol-preserved : goal.loop-symbol-preserved
loop-symbol-preserved c s is =
    again s c.args.text.now c.args.side.now c.loop-symbol.symbol-index c.loop-symbol.walk c.in_ok-walk.walk (omega arith) (c.loop-symbol.invariant s is) c.in_ok-walk.ensures

pub returns : goal.returns
returns c s is =
    let side = c.args.side.now in
    let walk = c.loop-symbol.walk in
    done s c.args.text.now _ _
    (subst (λ (l : List ℕ). Sofar s c.args.text.now l walk.bound walk.rest.now) (drop_all c.loop-symbol.symbol-index side (omega arith)) (c.loop-symbol.invariant s is))
