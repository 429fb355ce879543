use Rattle.sequences.proofs.Turns.{Passed}
use Rattle.sequences.proofs.letters.LetterSets.passing.Given as goal

abbrev pub invariant-loop-set : goal.invariant-loop-set
invariant-loop-set l = Passed l.fn.self.of l.k l.set-items l.set-index
