use Rattle.std.proofs.Common.{◌≡◌, not, ◌&&◌, is_some, rules}
use Rattle.algebra.specs.Rules.{has}
use Rattle.algebra.specs.declared.Variable.{Variable}
use Rattle.steps.specs.Sides.{slot}
use Rattle.steps.proofs.Letters.{decides_all}
use Rattle.steps.proofs.rewriting.supplies_lacked.Goals as goal

pub returns : goal.returns
returns c s t sides =
    decides_all (λ (v : Variable). is_some (slot c.args.supplied v) ≡ (has v t && not (has v s))) _ _ c.all.result c.all.ensures
    (λ v post. search rules)
    (λ v post is. search rules)
