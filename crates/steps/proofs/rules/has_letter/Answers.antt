use Rattle.std.proofs.Common.{ℕ, eqb, List, Decides, Contains, subst}
use Rattle.std.proofs.lemmas.List.Elements.{contains_decides, Decides-contains}
use Rattle.std.proofs.lemmas.Bool.Decides.{same_from_decides, Decides-eqb}
use Rattle.algebra.specs.Rules.{has, variable_byte}
use Rattle.steps.proofs.Having.{decides_has}
use Rattle.steps.proofs.rules.has_letter.Goals as goal

pub returns : goal.returns
returns c s is =
    let r = c.contains.result in
    let found =
    Decides-contains c.args.side.now c.from.result r
    (contains_decides eqb Decides-eqb c.args.side.now c.from.result r c.contains.ensures.cases) in
    same_from_decides r (has c.args.letter s)
    (subst (λ (l : List ℕ). Decides r (Contains l (variable_byte c.args.letter))) is (subst (λ (n : ℕ). Decides r (Contains c.args.side.now n)) c.from.ensures found))
    (decides_has c.args.letter s)
