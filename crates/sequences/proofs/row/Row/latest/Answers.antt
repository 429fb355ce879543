use Rattle.std.proofs.Common.{rules, arith}
use borrow.Author.Tests.{tests}
use Rattle.std.proofs.lemmas.Iterator.{YieldsList-from_range, YieldsList-from_map}
use Rattle.std.proofs.lemmas.Iterator.Consumers.{YieldsList-at, YieldsList-from_filter}
use Rattle.algebra.specs.Terms.{dating_of, joined}
use Rattle.algebra.specs.declared.Operator.TheVariants.{And}
use Rattle.sequences.specs.Dates.{counts}
use Rattle.sequences.proofs.Ranges.{reduced}
use Rattle.sequences.proofs.Datings.{latest_by}
use Rattle.sequences.proofs.row.Row.latest.Goals as goal

pub returns : goal.returns
returns g c =
    let K = g.D.Date.kind in
    let d = dating_of K c.args.dating.now in
    latest_by K d (counts c.args.self.now) c.reduce.result 24
    (reduced (joined K And) (λ x y r q k. search (rules, tests)) c.map.result c.reduce.result c.reduce.ensures.ran
    (YieldsList-from_map _ d
    (YieldsList-at c.map.ensures.source
    (YieldsList-from_filter _ (counts c.args.self.now) (YieldsList-from_range 0 24 24 c.filter.ensures.source (omega arith)) c.filter.ensures.closure (λ x r q k. search (rules, tests))))
    c.map.ensures.closure (λ x r q k. search (rules, tests))))
