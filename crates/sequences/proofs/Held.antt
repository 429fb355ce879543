-- What the rows of a text give to the table that holds them.
-- Assumes nothing.
use Rattle.std.proofs.Common.{ℕ, ◌<◌, List, length, All, sym, ap, subst, arith}
use Rattle.algebra.specs.Kinds.{Kind, Same}
use Rattle.algebra.specs.Refusals.{Granted}
use Rattle.algebra.specs.Texts.{text_date}
use Rattle.sequences.specs.Closing.{CloseAsks, KeepsDates}
use Rattle.sequences.specs.Dates.{table_date}
use Rattle.sequences.specs.Rows.{absent}
use Rattle.sequences.specs.Tables.{Holds, IsTable, TellsRow, row_at}
use Rattle.sequences.specs.Walks.{Impossible}
use Rattle.sequences.specs.declared.row.Row.{Row}
use Rattle.sequences.specs.declared.refusals.CloseRefusal.TheVariants.{TooMany, ImpossibleSequence}
use Rattle.sequences.proofs.Closings.{Proper, all_rows, keeps_date, map_length, text_proper}
use Rattle.sequences.proofs.Tell.{lines_tell}
use Rattle.sequences.proofs.Ticks.{happens_by_ticks}

-- the rows of a text that closes are those of a table
module _ (bs : List ℕ) (rs : List Row) (all : Granted (CloseAsks bs)) (h : Holds bs rs) where
  proper : All (Proper 511) rs
  proper = subst (All (Proper 511)) (sym h.rows) (text_proper bs h.sequences h.closes)

  possible : All (λ r. Impossible r → ⊥) rs
  possible =
      subst (All (λ r. Impossible r → ⊥)) (sym h.rows) (all_rows (λ r. Impossible r → ⊥) h.sequences (all ImpossibleSequence h.sequences h.closes))

  pub closed_table : IsTable rs
  closed_table = record {
    few = omega (arith, all TooMany h.sequences h.closes, ap length h.rows, map_length h.sequences);
    sound = λ k d l. (proper k d l).sound;
    possible = possible;
    happens = λ k d l. happens_by_ticks _ (proper k d l).sound (proper k d l).counted (possible k d l);
    short = λ k d l. omega (arith, (proper k d l).short);
  }

-- the date of the table, at any kind
pub held_date : {D : Type 0} (K : Kind D) (d : ℕ → D) (bs : List ℕ) (rs : List Row) → Holds bs rs
    → Same K (text_date K d bs) (table_date K d rs)
held_date K d bs rs h =
    subst (λ (qs : List Row). Same K (text_date K d bs) (table_date K d qs)) (sym h.rows) (keeps_date K d bs h.sequences h.closes)

pub held_dates : (bs : List ℕ) (rs : List Row) → Holds bs rs → KeepsDates bs rs
held_dates bs rs h K d = held_date K d bs rs h

-- lines
pub tells_row : (rs : List Row) (row : ℕ) → IsTable rs → row < length rs → TellsRow rs row
tells_row rs row t h us k u l e = lines_tell (row_at us k) (row_at rs row) (u.sound k absent l) (t.sound row absent h) e
