-- How a table is stored: its rows first, and then blank ones.
-- Assumes nothing.
use Rattle.std.specs.Prelude.{◌≡◌, ℕ, zero, suc, ◌≤◌, List, [], ◌∷◌, length, take, refl}
use Rattle.std.proofs.Common.{sym, ap, ap₂, arith}
use Rattle.std.proofs.lemmas.List.{length-take-le}
use Rattle.sequences.specs.Rows.{padded}
use Rattle.sequences.specs.Tables.{IsTable}
use Rattle.sequences.specs.declared.row.Row.{Row}
use Rattle.sequences.specs.declared.table.Table.TheInside.{Inside}

-- the rows of a table
abbrev pub held : Inside → List Row
held t = take t.len t.rows

-- the unused rows are blank, and the used ones are those of a table
pub record Stored (t : Inside) : Type 0 where
  pub low : t.len ≤ 64
  pub filled : t.rows ≡ padded 64 (held t)
  pub table : IsTable (held t)

-- the memory of a table with these rows
abbrev pub stored : List Row → Inside
stored rs = record { rows = padded 64 rs; len = length rs }

length-padded : (n : ℕ) (rs : List Row) → length (padded n rs) ≡ n
unfolding padded
length-padded zero rs = refl
length-padded (suc n) [] = ap suc (length-padded n [])
length-padded (suc n) (r ∷ rs) = ap suc (length-padded n rs)

pub length-held : (t : Inside) → Stored t → length (held t) ≡ t.len
length-held t s = length-take-le t.len t.rows (omega (arith, s.low, ap length s.filled, length-padded 64 (held t)))

-- the rows of a table give back how it is stored
pub stored_held : (t : Inside) → Stored t → stored (held t) ≡ t
stored_held t s = ap₂ of (sym s.filled) (length-held t s)
  where
    of : List Row → ℕ → Inside
    of rs n = record { rows = rs; len = n }
