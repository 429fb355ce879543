-- Rows, and what a factor adds to one.
-- Assumes nothing.
use Rattle.std.specs.Prelude.{◌≡◌, ℕ, zero, suc, ◌^◌, ◌<◌, Bool, List, [], ◌∷◌, replicate, ◌≢◌, bit_or}
use Rattle.sequences.specs.Masks.{has, linked, added}
use Rattle.sequences.specs.declared.row.Row.{Row}
use Rattle.sequences.specs.declared.row.Factor.{Factor}
use Rattle.sequences.specs.declared.row.Factor.TheVariants.{Letter, Pair}
use Rattle.sequences.specs.declared.row.Sign.{Sign}
use Rattle.sequences.specs.declared.row.Sign.TheVariants.{Precedes, Ties}

-- its letters are among the 24, and those of a pair differ
abbrev pub Fitting : Factor → Type 0
Fitting (Letter v) = v < 24
Fitting (Pair sign v w) = (v < 24) × (w < 24) × (v ≢ w)

-- what a pair is written with
abbrev pub sign_byte : Sign → ℕ
sign_byte Precedes = 60
sign_byte Ties = 61

abbrev pub SignByte : Sign → ℕ → Type 0
SignByte s b = b ≡ sign_byte s

-- the row with the factor's letter or pair; a tie stands at both its letters
abbrev pub entered : Factor → Row → Row
entered (Letter v) r = record { letters = bit_or r.letters (2 ^ v); before = r.before; ties = r.ties }
entered (Pair Precedes v w) r = record { letters = r.letters; before = record { of = added v w r.before.of }; ties = r.ties }
entered (Pair Ties v w) r = record { letters = r.letters; before = r.before; ties = record { of = added w v (added v w r.ties.of) } }

-- the row has the letter v; it has the pair v < w; it has the tie v = w, at v
abbrev pub listed : Row → ℕ → Bool
listed r v = has r.letters v

abbrev pub precedes : Row → ℕ → ℕ → Bool
precedes r v w = linked r.before.of v w

abbrev pub ties : Row → ℕ → ℕ → Bool
ties r v w = linked r.ties.of v w

abbrev pub blank : Row
blank = record { letters = 0; before = record { of = replicate 24 0 }; ties = record { of = replicate 24 0 } }

-- what is read past the end of a list of rows
abbrev pub absent : Row
absent = record { letters = 0; before = record { of = [] }; ties = record { of = [] } }

-- the row with each of the factors, from left to right
abbrev pub entered_all : List Factor → Row → Row
entered_all [] r = r
entered_all (f ∷ fs) r = entered_all fs (entered f r)

-- the row of a sequence
abbrev pub row_with : List Factor → Row
row_with fs = entered_all fs blank

-- the first n of the rows, and blank ones after them where there are fewer
unfoldable pub padded : ℕ → List Row → List Row
padded zero rs = []
padded (suc n) [] = blank ∷ padded n []
padded (suc n) (r ∷ rs) = r ∷ padded n rs
