-- The worked examples of closing hold.
-- Assumes nothing.
use Rattle.std.proofs.Common.{List, [], ◌∷◌, codes, refl, arith}
use Rattle.algebra.specs.Terms.{leaf, node}
use Rattle.algebra.specs.declared.Operator.TheVariants.{And, Before}
use Rattle.sequences.specs.Masks.{has}
use Rattle.sequences.specs.Lines.{sifted, paired}
use Rattle.sequences.specs.Rows.{row_with}
use Rattle.sequences.specs.Sequences.{TextCloses, less, factor, both, sequence, sum}
use Rattle.sequences.specs.Walks.{Impossible, stay}
use Rattle.sequences.specs.Walks as walks
use Rattle.sequences.specs.declared.row.Factor.{Factor}
use Rattle.sequences.specs.declared.row.Sign.TheVariants.{Precedes}
use Rattle.sequences.specs.declared.row.Factor.TheVariants.{Pair}
use Rattle.sequences.proofs.Closings.{one_impossible}
use Rattle.examples.specs.Sequences.{SequenceExamples}

circle : List Factor
circle = Pair Precedes 0 1 ∷ Pair Precedes 1 2 ∷ Pair Precedes 2 0 ∷ []

closes : TextCloses (codes "**<ab<bc<ca") (circle ∷ [])
unfolding circle
closes = record {
  term = node And (node And (node Before (leaf 0) (leaf 1)) (node Before (leaf 1) (leaf 2))) (node Before (leaf 2) (leaf 0));
  written = refl;
  short = omega arith;
  closes =
      sum (sequence (both (both
      (factor (less {v = 0} {w = 1} (omega arith) (omega arith) (λ e. omega arith)))
      (factor (less {v = 1} {w = 2} (omega arith) (omega arith) (λ e. omega arith))))
      (factor (less {v = 2} {w = 0} (omega arith) (omega arith) (λ e. omega arith)))));
}

around : Impossible (row_with circle)
unfolding circle has
around = record { at = 0; walk = walks.less {w = 1} tt (walks.less {w = 2} tt (walks.less {w = 0} tt stay)) }

pub sequence_examples : SequenceExamples
unfolding has sifted paired
sequence_examples = record {
  circle = one_impossible (codes "**<ab<bc<ca") (circle ∷ []) closes (omega arith) (0, row_with circle, omega arith, refl, around);
  number = refl;
  lines = refl;
}
