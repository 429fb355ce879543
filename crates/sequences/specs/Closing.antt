-- Closing a text: what it asks for, what it gives, and what that means for dates.
-- Assumes nothing.
use Rattle.std.specs.Prelude.{◌≡◌, ℕ, ◌<◌, ◌≤◌, ◌↔◌, List, length, Err, All, Result, slice_index_or}
use Rattle.algebra.specs.Kinds.{Kind, Same}
use Rattle.algebra.specs.Refusals.{Answers}
use Rattle.algebra.specs.Texts.{text_date}
use Rattle.dates.specs.Ticks.{tick_kind}
use Rattle.dates.specs.declared.Tick.{Tick}
use Rattle.sequences.specs.Codes.{close_code}
use Rattle.sequences.specs.Dates.{Happens, table_date}
use Rattle.sequences.specs.Rows.{absent, row_with}
use Rattle.sequences.specs.Sequences.{TextCloses, rows_with}
use Rattle.sequences.specs.Walks.{Impossible}
use Rattle.sequences.specs.declared.row.Factor.{Factor}
use Rattle.sequences.specs.declared.row.Row.{Row}
use Rattle.sequences.specs.declared.refusals.CloseRefusal.{CloseRefusal}
use Rattle.sequences.specs.declared.refusals.CloseRefusal.TheVariants.{NoTree, NoSum, TooMany, ImpossibleSequence}

-- the bytes are the text N, or that of a sum
pub record SumText (bs : List ℕ) : Type 0 where
  pub sequences : List (List Factor)
  pub closes : TextCloses bs sequences

-- what a closing asks for, by the refusal that it else gives: a sum or N, at most 64 sequences, and that none is impossible
abbrev pub CloseAsks : List ℕ → CloseRefusal → Type 0
CloseAsks bs NoTree = Unit {0}
CloseAsks bs NoSum = SumText bs
CloseAsks bs TooMany = (x : List (List Factor)) → TextCloses bs x → length x ≤ 64
CloseAsks bs ImpossibleSequence = (x : List (List Factor)) → TextCloses bs x → All (λ fs. Impossible (row_with fs) → ⊥) x

-- the answer to a closing, where Given says what a grant leaves
abbrev pub Closed : {A : Type 0} → List ℕ → (A → Type 0) → Result A CloseRefusal → Type 0
Closed bs Given r = Answers close_code (CloseAsks bs) Given r

-- the rows have the date of the text, over every kind whose dates are numbers
abbrev pub KeepsDates : List ℕ → List Row → Type 0
KeepsDates bs rs = (K : Kind ℕ) (d : ℕ → ℕ) → Same K (text_date K d bs) (table_date K d rs)

-- some row happens under no dating by ticks
pub record SomeNever (rs : List Row) : Type 0 where
  pub at : ℕ
  pub low : at < length rs
  pub never : (d : ℕ → Tick) → Happens tick_kind d (slice_index_or rs at absent) → ⊥

-- some row happens under no dating of any kind whose dates are numbers
pub record SomeNowhere (rs : List Row) : Type 0 where
  pub at : ℕ
  pub low : at < length rs
  pub never : (K : Kind ℕ) (d : ℕ → ℕ) → Happens K d (slice_index_or rs at absent) → ⊥

-- Where a closing is refused as impossible, one of the sequences happens under no dating of any such kind.
abbrev pub RefusedNowhere : {A : Type 0} → List ℕ → Result A CloseRefusal → Type 0
RefusedNowhere bs r = (x : List (List Factor)) → TextCloses bs x → r ≡ Err ImpossibleSequence → SomeNowhere (rows_with x)

-- Of a sum of at most 64 sequences, a closing is refused as impossible exactly where one of them happens under no dating by ticks.
abbrev pub RefusedExactly : {A : Type 0} → List ℕ → Result A CloseRefusal → Type 0
RefusedExactly bs r =
    (x : List (List Factor)) → TextCloses bs x → length x ≤ 64 → (r ≡ Err ImpossibleSequence) ↔ SomeNever (rows_with x)
