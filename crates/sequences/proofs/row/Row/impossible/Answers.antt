use Rattle.std.proofs.Common.{◌&&◌, T, subst, rules}
use borrow.Author.Tests.{tests}
use Rattle.sequences.specs.Masks.{linked}
use Rattle.sequences.specs.Rows.{precedes}
use Rattle.sequences.specs.Walks.{any, Closes}
use Rattle.sequences.proofs.Closure.{closes_like}
use Rattle.sequences.proofs.Ranges.{any_letter}
use Rattle.sequences.proofs.Returns.{weak, weak_low, decides}
use Rattle.sequences.proofs.row.Row.impossible.Goals as goal

pub closed-reach-requires : goal.closed-reach-requires
closed-reach-requires c = λ v w t. weak_low c.args.self.now c.requires v w (subst T (c.union.ensures v w) t)

pub returns : goal.returns
returns c =
    let r = c.args.self.now in
    let g = linked c.closed-reach.result.of in
    let k : Closes (weak r) g = closes_like _ (weak r) _ c.union.ensures c.closed-reach.ensures in
    decides r g c.requires k _
    (any_letter _ _ _ (λ v. any 24 (λ w. precedes r v w && g w v)) (λ x b q k. search (rules, tests)) c.any.ensures.ran)
