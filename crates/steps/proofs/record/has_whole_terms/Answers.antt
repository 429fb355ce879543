use Rattle.std.proofs.Common.{true, false, Decides, sym, refl, subst, rules}
use Rattle.algebra.specs.declared.Variable.{Variable}
use Rattle.steps.specs.Readings.{bytes_of, request_of}
use Rattle.steps.specs.Records.{WholeTerm, supplied_for}
use Rattle.steps.specs.Sides.{slot}
use Rattle.steps.proofs.Letters.{decides_all, not_true, supplied_is}
use Rattle.steps.proofs.record.has_whole_terms.Goals as goal

pub returns : goal.returns
returns c =
    decides_all (λ (v : Variable). WholeTerm c.args.events (supplied_for (request_of c.args.said.now) v)) _ _ c.all.result c.all.ensures
    (λ v post.
    let d : Decides true (WholeTerm c.args.events (bytes_of (slot c.args.said.now.supplied v))) = search rules in
    subst (WholeTerm c.args.events) (sym (supplied_is c.args.said.now v)) (d.0 refl))
    (λ v post whole.
    let d : Decides false (WholeTerm c.args.events (bytes_of (slot c.args.said.now.supplied v))) = search rules in
    not_true (d.1 (subst (WholeTerm c.args.events) (supplied_is c.args.said.now v) whole)))
