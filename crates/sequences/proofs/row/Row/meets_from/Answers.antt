use Rattle.std.proofs.Common.{rules}
use borrow.Author.Tests.{tests}
use Rattle.algebra.specs.Terms.{dating_of}
use Rattle.sequences.specs.Dates.{pair_meets}
use Rattle.sequences.proofs.Ranges.{all_letters}
use Rattle.sequences.proofs.row.Row.meets_from.Goals as goal

pub returns : goal.returns
returns g c =
    let K = g.D.Date.kind in
    let d = dating_of K c.args.dating.now in
    let v = c.args.v in
    all_letters _ _ _ (λ w. pair_meets K c.args.self.now v w (d v) (d w))
    (λ x b q k. search (rules, tests)) c.all.ensures.ran
