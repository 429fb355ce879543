use Rattle.std.proofs.Common.{length}
use Rattle.algebra.specs.Terms.{dating_of}
use Rattle.derivation.proofs.Questions.{text_dated, dated_as}
use Rattle.derivation.proofs.Reaching.{source_dates}
use Rattle.derivation.proofs.bench.Bench.source_date.Goals as goal

pub returns : goal.returns
returns g c =
    let K = g.D.Date.kind in
    let s = c.args.self.now in
    let ds = c.args.dating.now in
    let v = text_dated K s.source ds (length c.args.work.now) c.source.ensures.text.text c.evaluate.result (rw (← c.source.ensures.is) c.evaluate.ensures.outcome) in
    record {
      value = v;
      stands = c.source.ensures.stands;
      law = λ h tree run is. dated_as K ds _ s.source tree (source_dates K (dating_of K ds) h s run tree is) c.evaluate.result v;
      sized = c.evaluate.ensures.sized;
      left = c.evaluate.ensures.left;
    }
