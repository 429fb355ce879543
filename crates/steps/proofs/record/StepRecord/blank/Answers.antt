use Rattle.algebra.specs.declared.Variable.TheVariants.{X, Y, Z}
use Rattle.algebra.specs.declared.Way.TheVariants.{Forward}
use Rattle.steps.specs.Readings.{bytes_of}
use Rattle.steps.proofs.record.StepRecord.blank.Goals as goal

pub returns : goal.returns
returns c = λ k. record {
  rule = 0;
  way = Forward;
  place = 0;
  x = bytes_of (c.none.ensures X k);
  y = bytes_of (c.none.ensures Y k);
  z = bytes_of (c.none.ensures Z k);
}
