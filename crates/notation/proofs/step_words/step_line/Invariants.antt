use Rattle.std.proofs.Common.{take, vec_items}
use Rattle.notation.proofs.Spacing.{TermsAdded}
use Rattle.notation.proofs.step_words.step_line.Given as goal

abbrev pub invariant-loop-letter : goal.invariant-loop-letter
invariant-loop-letter l = TermsAdded (take l.letter-index l.letter-items) (vec_items l.initial.line) (vec_items l.line)
