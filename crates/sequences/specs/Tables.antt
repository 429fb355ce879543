-- What a table holds, its date and its lines.
-- Assumes nothing.
use Rattle.std.specs.Prelude.{◌≡◌, ℕ, ◌<◌, ◌≤◌, List, length, All, Result, slice_index_or}
use Rattle.algebra.specs.Kinds.{Kind, Same}
use Rattle.algebra.specs.Refusals.{Answers}
use Rattle.algebra.specs.Terms.{dating_of}
use Rattle.algebra.specs.Texts.{text_date}
use Rattle.sequences.specs.Codes.{line_code, table_code}
use Rattle.sequences.specs.Dates.{HappensByTicks, table_date}
use Rattle.sequences.specs.Lines.{front, line}
use Rattle.sequences.specs.Rows.{absent}
use Rattle.sequences.specs.Sequences.{TextCloses, rows_with}
use Rattle.sequences.specs.Walks.{Impossible, Sound}
use Rattle.sequences.specs.declared.row.Factor.{Factor}
use Rattle.sequences.specs.declared.row.Row.{Row}
use Rattle.sequences.specs.declared.refusals.LineRefusal.{LineRefusal}
use Rattle.sequences.specs.declared.refusals.LineRefusal.TheVariants.{SmallBuffer, NoRow}
use Rattle.sequences.specs.declared.refusals.TableRefusal.{TableRefusal}
use Rattle.sequences.specs.declared.refusals.TableRefusal.TheVariants.{NoDating}

-- what holds of the rows of every table: they are at most 64, none is impossible, each happens under some dating by
-- ticks, and the line of each has at most 512 bytes
pub record IsTable (rs : List Row) : Type 0 where
  pub few : length rs ≤ 64
  pub sound : All Sound rs
  pub possible : All (λ r. Impossible r → ⊥) rs
  pub happens : All HappensByTicks rs
  pub short : All (λ r. length (line r) ≤ 512) rs

-- one of the rows
abbrev pub row_at : List Row → ℕ → Row
row_at rs k = slice_index_or rs k absent

-- the rows are those of the text's sequences, from left to right
pub record Holds (bs : List ℕ) (rs : List Row) : Type 0 where
  pub sequences : List (List Factor)
  pub closes : TextCloses bs sequences
  pub rows : rs ≡ rows_with sequences

-- a date asks for exactly 24 dates
abbrev pub DateAsks : {D : Type 0} → List D → TableRefusal → Type 0
DateAsks ds NoDating = length ds ≡ 24

abbrev pub TableDated : {D : Type 0} → Kind D → List D → List Row → Result D TableRefusal → Type 0
TableDated K ds rs r = Answers table_code (DateAsks ds) (λ p. p ≡ table_date K (dating_of K ds) rs) r

-- p is the same as the date of every text whose rows the table holds
abbrev pub KeepsDateOf : {D : Type 0} → Kind D → List D → List Row → D → Type 0
KeepsDateOf K ds rs p = (bs : List ℕ) → Holds bs rs → Same K (text_date K (dating_of K ds) bs) p

-- a line asks for a buffer of at least 512 bytes, and for a row of the table
abbrev pub LineAsks : List Row → ℕ → ℕ → LineRefusal → Type 0
LineAsks rs row room SmallBuffer = 512 ≤ room
LineAsks rs row room NoRow = row < length rs

-- n bytes of the buffer are the row's line, and the others stay
pub record Lined (rs : List Row) (row : ℕ) (old new : List ℕ) (n : ℕ) : Type 0 where
  pub written : new ≡ front (line (row_at rs row)) old
  pub long : n ≡ length (line (row_at rs row))
  pub fits : n ≤ 512

abbrev pub LineAnswered : List Row → ℕ → List ℕ → List ℕ → Result ℕ LineRefusal → Type 0
LineAnswered rs row old new r = Answers line_code (LineAsks rs row (length old)) (Lined rs row old new) r

-- a row of any table that has the same line is the same row
abbrev pub TellsRow : List Row → ℕ → Type 0
TellsRow rs row =
    (us : List Row) (k : ℕ) → IsTable us → k < length us → line (row_at us k) ≡ line (row_at rs row) → row_at us k ≡ row_at rs row
