-- The rows of a term that is a sum of sequences of factors.
-- Assumes nothing.
use Rattle.std.specs.Prelude.{◌≡◌, ℕ, ◌<◌, ◌≤◌, cond, ◌↔◌, List, [], ◌∷◌, ◌++◌, map, length, ◌==◌, ◌≢◌, nat_lt}
use Rattle.std.proofs.Math.Option.{Option, none, some}
use Rattle.algebra.specs.Kinds.{Kind, Same}
use Rattle.algebra.specs.Terms.{Term, leaf, never, node, date}
use Rattle.algebra.specs.declared.Operator.TheVariants.{Or, And, Before, Simultaneous, Inclusive}
use Rattle.algebra.specs.Texts.{text_of}
use Rattle.sequences.specs.Rows.{blank, entered, row_with}
use Rattle.sequences.specs.Dates.{table_date}
use Rattle.sequences.specs.declared.row.Row.{Row}
use Rattle.sequences.specs.declared.row.Factor.{Factor}
use Rattle.sequences.specs.declared.row.Sign.TheVariants.{Precedes, Ties}
use Rattle.sequences.specs.declared.row.Factor.TheVariants.{Letter, Pair}

-- the letter that a term is
abbrev pub letter_of : Term ℕ → Option ℕ
letter_of (leaf v) = cond (nat_lt v 24) (some v) none
letter_of never = none
letter_of (node o l r) = none

-- two different letters
abbrev pub pair_of : (ℕ → ℕ → Factor) → Option ℕ → Option ℕ → Option Factor
pair_of f none w = none
pair_of f (some v) none = none
pair_of f (some v) (some w) = cond (v == w) none (some (f v w))

abbrev pub single : Option ℕ → Option Factor
single none = none
single (some v) = some (Letter v)

-- a factor is a letter, or '<' or '=' with two different letters
abbrev pub factor_of : Term ℕ → Option Factor
factor_of (leaf v) = single (letter_of (leaf v))
factor_of never = none
factor_of (node Or l r) = none
factor_of (node And l r) = none
factor_of (node Before l r) = pair_of (Pair Precedes) (letter_of l) (letter_of r)
factor_of (node Simultaneous l r) = pair_of (Pair Ties) (letter_of l) (letter_of r)
factor_of (node Inclusive l r) = none

abbrev pub enter_of : Option Factor → Row → Option Row
enter_of none r = none
enter_of (some f) r = some (entered f r)

abbrev pub onto : Option Row → (Row → Option Row) → Option Row
onto none f = none
onto (some r) f = f r

-- the row r with the factors of a sequence, from left to right; a sequence is a factor, or '*' of two sequences
abbrev pub row_of : Term ℕ → Row → Option Row
row_of (leaf v) r = enter_of (factor_of (leaf v)) r
row_of never r = none
row_of (node Or a b) r = none
row_of (node And a b) r = onto (row_of a r) (row_of b)
row_of (node Before a b) r = enter_of (factor_of (node Before a b)) r
row_of (node Simultaneous a b) r = enter_of (factor_of (node Simultaneous a b)) r
row_of (node Inclusive a b) r = none

abbrev pub alone : Option Row → Option (List Row)
alone none = none
alone (some r) = some (r ∷ [])

abbrev pub both_of : Option (List Row) → Option (List Row) → Option (List Row)
both_of none rs = none
both_of (some qs) none = none
both_of (some qs) (some rs) = some (qs ++ rs)

-- the rows of a sum, from left to right; a sum is a sequence, or '+' of two sums
abbrev pub sum_of : Term ℕ → Option (List Row)
sum_of (leaf v) = alone (row_of (leaf v) blank)
sum_of never = none
sum_of (node Or a b) = both_of (sum_of a) (sum_of b)
sum_of (node And a b) = alone (row_of (node And a b) blank)
sum_of (node Before a b) = alone (row_of (node Before a b) blank)
sum_of (node Simultaneous a b) = alone (row_of (node Simultaneous a b) blank)
sum_of (node Inclusive a b) = none

-- the term that is never closes to no sequences
abbrev pub rows_of : Term ℕ → Option (List Row)
rows_of (leaf v) = sum_of (leaf v)
rows_of never = some []
rows_of (node o a b) = sum_of (node o a b)

-- The table's date is the term's, under every dating of the kind.
abbrev pub TableKeeps : {D : Type 0} → Kind D → Type 0
TableKeeps {D} K = (t : Term ℕ) (rs : List Row) → rows_of t ≡ some rs → (d : ℕ → D) → Same K (date K d t) (table_date K d rs)

-- The same in the words of the subject, as relations between a term and what it is made of.

-- the term is the factor: a letter, or '<' or '=' with two different letters
pub data Factored : Term ℕ → Factor → Type 0 where
  letter : {v : ℕ} → v < 24 → Factored (leaf v) (Letter v)
  less : {v w : ℕ} → v < 24 → w < 24 → (v ≢ w) → Factored (node Before (leaf v) (leaf w)) (Pair Precedes v w)
  tie : {v w : ℕ} → v < 24 → w < 24 → (v ≢ w) → Factored (node Simultaneous (leaf v) (leaf w)) (Pair Ties v w)

-- the term is a sequence of these factors, from left to right: a factor, or '*' of two sequences
pub data Sequenced : Term ℕ → List Factor → Type 0 where
  factor : {t : Term ℕ} {f : Factor} → Factored t f → Sequenced t (f ∷ [])
  both : {a b : Term ℕ} {fs gs : List Factor} → Sequenced a fs → Sequenced b gs → Sequenced (node And a b) (fs ++ gs)

-- the term is a sum of these sequences, from left to right: a sequence, or '+' of two sums
pub data Summed : Term ℕ → List (List Factor) → Type 0 where
  sequence : {t : Term ℕ} {fs : List Factor} → Sequenced t fs → Summed t (fs ∷ [])
  plus : {a b : Term ℕ} {x y : List (List Factor)} → Summed a x → Summed b y → Summed (node Or a b) (x ++ y)

-- the term closes to these sequences: it is a sum of them, or it is never and they are none
pub data ClosesTo : Term ℕ → List (List Factor) → Type 0 where
  nothing : ClosesTo never []
  sum : {t : Term ℕ} {x : List (List Factor)} → Summed t x → ClosesTo t x

-- the rows of sequences
abbrev pub rows_with : List (List Factor) → List Row
rows_with x = map row_with x

-- a term has rows by the definitions above exactly where it closes to sequences, and they are the rows of these
pub record RowsAre (t : Term ℕ) (rs : List Row) : Type 0 where
  pub sequences : List (List Factor)
  pub closes : ClosesTo t sequences
  pub rows : rs ≡ rows_with sequences

-- The definitions and the relations agree.
abbrev pub RowsMatch : Type 0
RowsMatch = (t : Term ℕ) (rs : List Row) → (rows_of t ≡ some rs) ↔ RowsAre t rs

-- the bytes are a text that closes to these sequences
pub record TextCloses (bs : List ℕ) (x : List (List Factor)) : Type 0 where
  pub term : Term ℕ
  pub written : bs ≡ text_of term
  pub short : length bs ≤ 511
  pub closes : ClosesTo term x
