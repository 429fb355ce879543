use Rattle.std.proofs.Common.{refl, arith}
use Rattle.sequences.specs.Walks.{closure}
use Rattle.sequences.specs.Masks.{linked}
use Rattle.sequences.proofs.Closure.{closure_next, closes_by}
use Rattle.sequences.proofs.letters.LetterSets.closed.Goals as goal

pub loop-k-init : goal.loop-k-init
unfolding closure
loop-k-init c = λ v w. refl

pub loop-k-preserved : goal.loop-k-preserved
loop-k-preserved c =
    closure_next (linked c.args.self.of) (linked c.loop-k.reach.of) (linked c.passing-reach.result.of) c.loop-k.k
    c.loop-k.invariant c.passing-reach.ensures

pub returns : goal.returns
returns c =
    closes_by (linked c.args.self.of) (linked c.loop-k.reach.of) c.loop-k.k (omega arith) c.requires c.loop-k.invariant
