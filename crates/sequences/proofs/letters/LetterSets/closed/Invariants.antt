use Rattle.std.proofs.Common.{◌≡◌, ℕ}
use Rattle.sequences.specs.Masks.{linked}
use Rattle.sequences.specs.Walks.{closure}
use Rattle.sequences.proofs.letters.LetterSets.closed.Given as goal

abbrev pub invariant-loop-k : goal.invariant-loop-k
invariant-loop-k l = (v w : ℕ) → linked l.reach.of v w ≡ closure l.k (linked l.initial.reach.of) v w
