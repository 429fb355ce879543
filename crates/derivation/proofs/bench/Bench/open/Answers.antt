use Rattle.std.proofs.Common.{Ok, Err, sym, refl, ap, subst}
use Rattle.std.proofs.lemmas.Result.{err_from_is_err_and}
use Rattle.trees.specs.Reading.{Outcome, refuses}
use Rattle.trees.specs.Refusals.{tree_code}
use Rattle.trees.specs.Trees.{TreeParts}
use Rattle.trees.specs.declared.refusal.TreeRefusal.{TreeRefusal}
use Rattle.derivation.specs.Model.{Opened}
use Rattle.derivation.proofs.Calls.{opened_stands}
use Rattle.derivation.proofs.Lawfuls.{law_open}
use Rattle.derivation.proofs.bench.Bench.open.Goals as goal

pub returns-in_err-tree-clause-law : goal.returns-in_err-tree-clause-law
returns-in_err-tree-clause-law c =
    let s = c.args.self.now in
    let bs = c.args.tree.now in
    let p = err_from_is_err_and c.from_residual.result c.from_residual.ensures.1 in
    let o : Opened s bs (Err p.0) s = (subst (λ (e : TreeRefusal). Outcome bs (refuses (tree_code e))) (sym p.2) c.in_err-tree.ensures.outcome, refl) in
    rw p.1 (law_open s s bs (Err p.0) o)

pub invariant_of-self : goal.invariant_of-self
invariant_of-self c = rw (ap (λ (t : TreeParts). t.source) c.tree.view_is) (opened_stands _ c.args.tree.now c.in_ok-tree.tree c.self.invariant c.in_ok-tree.ensures.outcome c.in_ok-tree.ensures.source)

pub returns-clause-law : goal.returns-clause-law
returns-clause-law c =
    rw (ap (λ (t : TreeParts). t.source) c.tree.view_is) (law_open c.args.self.now _ c.args.tree.now (Ok tt) (c.in_ok-tree.ensures.outcome, refl, refl))

pub returns-clause-stands : goal.returns-clause-stands
returns-clause-stands c =
    rw (ap (λ (t : TreeParts). t.source) c.tree.view_is) (opened_stands _ c.args.tree.now c.in_ok-tree.tree c.self.invariant c.in_ok-tree.ensures.outcome c.in_ok-tree.ensures.source)
