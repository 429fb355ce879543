-- Worked examples of closing, from the definitions, as one proposition.
-- Assumes nothing.
use Rattle.std.specs.Prelude.{◌≡◌, ℕ, List, [], ◌∷◌, ◌++◌, map, codes}
use Rattle.std.proofs.Math.Option.{Option, none, some}
use Rattle.algebra.specs.Refusals.{Refused}
use Rattle.algebra.specs.Texts.{term_of}
use Rattle.sequences.specs.Closing.{CloseAsks}
use Rattle.sequences.specs.Codes.{close_code}
use Rattle.sequences.specs.Lines.{line}
use Rattle.sequences.specs.Sequences.{rows_of}
use Rattle.sequences.specs.declared.row.Row.{Row}
use Rattle.sequences.specs.declared.refusals.CloseRefusal.TheVariants.{ImpossibleSequence}

-- the lines of the rows of a text
abbrev pub lines_of : Option (List Row) → List (List ℕ)
lines_of none = []
lines_of (some rs) = map line rs

pub record SequenceExamples : Type 0 where
  -- a before b, b before c, c before a: the closing is refused as impossible, with the number 24
  pub circle : Refused close_code (CloseAsks (codes "**<ab<bc<ca")) ImpossibleSequence
  pub number : close_code ImpossibleSequence ≡ 24
  -- two sequences, two lines
  pub lines : lines_of (rows_of (term_of (codes "+*b<ab*b=ab"))) ≡ (codes "b a<b" ++ (10 ∷ [])) ∷ (codes "b a=b" ++ (10 ∷ [])) ∷ []
