use Rattle.std.proofs.Common.{ℕ, List, drop, sym, subst}
use Rattle.std.proofs.lemmas.Result.{err_from_is_err_and}
use Rattle.algebra.specs.Terms.{Term}
use Rattle.algebra.specs.declared.Variable.{Variable}
use Rattle.steps.specs.Sides.{Fitted, WritesSides}
use Rattle.steps.specs.Rewrites.{Provided}
use Rattle.steps.specs.declared.refusal.StepRefusal.TheVariants.{NoFit}
use Rattle.steps.proofs.Merge.{Both, merged, all_bound, complete, long_front, long_side, long_rest}
use Rattle.steps.proofs.Options.{match_from_ok_or}
use Rattle.steps.proofs.rewriting.rewrite.Goals as goal
use Rattle.steps.proofs.rewriting.rewrite.Goals.{After-append}

fitted : (c : After-append) (s t : Term Variable) → WritesSides c.args.sides s t → Fitted s (drop c.args.place c.args.old.now) c.in_ok-bound.field-0.bound c.in_ok-bound.field-0.rest.now
fitted c s t w =
    let walk = c.in_ok-bound.field-0 in
    subst (λ (l : List ℕ). Fitted s l walk.bound walk.rest.now) c.split_at.ensures.back
    (match_from_ok_or _ _ c.fit.result NoFit walk (c.fit.ensures s w.old) (sym c.in_ok-bound.ensures.value))

both : (c : After-append) (s t : Term Variable) → WritesSides c.args.sides s t → Provided s t c.args.supplied → Both s (drop c.args.place c.args.old.now) c.or-bound.result c.args.supplied c.in_ok-bound.field-0.rest.now
both c s t w sup = merged s t _ c.in_ok-bound.field-0.bound c.args.supplied _ _ (fitted c s t w) sup c.or-bound.ensures

pub returns-in_err-append-clause-made : goal.returns-in_err-append-clause-made
returns-in_err-append-clause-made c s t w sup =
    let k = (goal.at.returns-in_err-append-clause-made c).After-append in
    let p = err_from_is_err_and c.from_residual-in_err-append.result c.from_residual-in_err-append.ensures.1 in
    rw (p.1, p.2)
    (long_front c.args.old.now c.args.place s t c.or-bound.result c.args.supplied _ _ c.append.new.self _ (both k s t w sup) c.empty-new.ensures c.split_at.ensures.front c.in_err-append.ensures.err)

pub returns-in_err-append_side-clause-made : goal.returns-in_err-append_side-clause-made
returns-in_err-append_side-clause-made c s t w sup =
    let k = (goal.at.returns-in_err-append_side-clause-made c).After-append in
    let p = err_from_is_err_and c.from_residual-in_err-append_side.result c.from_residual-in_err-append_side.ensures.1 in
    let bound = all_bound s t _ c.in_ok-bound.field-0.bound c.args.supplied _ _ (fitted k s t w) sup c.or-bound.ensures in
    rw (p.1, p.2)
    (long_side c.args.old.now c.args.place s t c.or-bound.result c.args.supplied _ _ _ _ (both k s t w sup) c.empty-new.ensures c.split_at.ensures.front c.in_ok-append.ensures.ok
    (c.in_err-append_side.ensures t w.new bound))

pub returns-in_err-append-2-clause-made : goal.returns-in_err-append-2-clause-made
returns-in_err-append-2-clause-made c s t w sup =
    let k = (goal.at.returns-in_err-append-2-clause-made c).After-append in
    let p = err_from_is_err_and c.from_residual-in_err-append-2.result c.from_residual-in_err-append-2.ensures.1 in
    let bound = all_bound s t _ c.in_ok-bound.field-0.bound c.args.supplied _ _ (fitted k s t w) sup c.or-bound.ensures in
    rw (p.1, p.2)
    (long_rest c.args.old.now c.args.place s t c.or-bound.result c.args.supplied _ _ _ _ (both k s t w sup) c.empty-new.ensures c.split_at.ensures.front _ c.in_ok-append.ensures.ok
    (c.in_ok-append_side.ensures t w.new bound) c.in_err-append-2.ensures.err)

pub returns-clause-made : goal.returns-clause-made
returns-clause-made c s t w sup =
    let k = (goal.at.returns-clause-made c).After-append in
    let bound = all_bound s t _ c.in_ok-bound.field-0.bound c.args.supplied _ _ (fitted k s t w) sup c.or-bound.ensures in
    complete c.args.old.now c.args.place s t c.or-bound.result c.args.supplied _ _ _ _ (both k s t w sup) c.empty-new.ensures c.split_at.ensures.front _ _
    c.in_ok-append.ensures.ok (c.in_ok-append_side.ensures t w.new bound) c.in_ok-append-2.ensures.ok

pub append_side-requires : goal.append_side-requires
append_side-requires c =
    let r = c.requires.ready in
    let k = (goal.at.append_side-requires c).After-append in
    record {
      term = r.to;
      written = r.written.new;
      bound = all_bound r.from r.to _ c.in_ok-bound.field-0.bound c.args.supplied _ _ (fitted k r.from r.to r.written) r.provided c.or-bound.ensures;
    }
