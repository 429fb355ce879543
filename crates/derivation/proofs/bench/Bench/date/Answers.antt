use Rattle.std.proofs.Common.{length}
use Rattle.algebra.specs.Terms.{dating_of}
use Rattle.derivation.proofs.Questions.{text_dated, dated_as}
use Rattle.derivation.proofs.Reaching.{text_dates_lem}
use Rattle.derivation.proofs.bench.Bench.date.Goals as goal

pub returns : goal.returns
returns g c =
    let K = g.D.Date.kind in
    let s = c.args.self.now in
    let ds = c.args.dating.now in
    let v = text_dated K s.present ds (length c.args.work.now) c.present.ensures.text.text c.evaluate.result (rw (← c.present.ensures.is) c.evaluate.ensures.outcome) in
    record {
      value = v;
      stands = c.present.ensures.stands;
      law = λ h tree run is. dated_as K ds _ s.present tree (text_dates_lem K (dating_of K ds) h s run tree is) c.evaluate.result v;
      sized = c.evaluate.ensures.sized;
      left = c.evaluate.ensures.left;
    }
