-- The line of a row: its letters in order, then the '<' pairs, then the '=' pairs with the smaller letter first.
-- Assumes nothing.
use Rattle.std.specs.Prelude.{◌≡◌, ℕ, zero, suc, ◌+◌, ◌<◌, ◌≤◌, Bool, cond, ◌&&◌, List, [], ◌∷◌, ◌++◌, map, length, drop, nat_lt}
use Rattle.std.proofs.Math.Option.{some}
use Rattle.algebra.specs.Terms.{Term}
use Rattle.algebra.specs.Texts.{text_of}
use Rattle.sequences.specs.Rows.{listed, precedes, ties, blank}
use Rattle.sequences.specs.Walks.{Sound}
use Rattle.sequences.specs.Sequences.{row_of}
use Rattle.sequences.specs.declared.row.Row.{Row}
use Rattle.sequences.specs.declared.row.Factor.{Factor}
use Rattle.sequences.specs.declared.row.Factor.TheVariants.{Letter, Pair}
use Rattle.sequences.specs.declared.row.Sign.{Sign}
use Rattle.sequences.specs.declared.row.Sign.TheVariants.{Precedes, Ties}

-- the numbers below n that pass, in order
unfoldable pub sifted : ℕ → (ℕ → Bool) → List ℕ
sifted zero p = []
sifted (suc n) p = sifted n p ++ cond (p n) (n ∷ []) []

-- the pairs whose first letter is below n, by first and second letter
unfoldable pub paired : (ℕ → ℕ → Factor) → ℕ → (ℕ → ℕ → Bool) → List Factor
paired mk zero p = []
paired mk (suc n) p = paired mk n p ++ map (mk n) (sifted 24 (p n))

-- the items of a row, in the order in which they are printed
abbrev pub items : Row → List Factor
items r =
    map Letter (sifted 24 (λ v. listed r v))
    ++ (paired (Pair Precedes) 24 (λ v w. precedes r v w) ++ paired (Pair Ties) 24 (λ v w. ties r v w && nat_lt v w))

abbrev pub spell : Factor → List ℕ
spell (Letter v) = (97 + v) ∷ []
spell (Pair Precedes v w) = (97 + v) ∷ 60 ∷ (97 + w) ∷ []
spell (Pair Ties v w) = (97 + v) ∷ 61 ∷ (97 + w) ∷ []

-- one space before each further item, and byte 10 at the end
abbrev pub rest : List Factor → List ℕ
rest [] = 10 ∷ []
rest (f ∷ fs) = 32 ∷ (spell f ++ rest fs)

abbrev pub line_of : List Factor → List ℕ
line_of [] = 10 ∷ []
line_of (f ∷ fs) = spell f ++ rest fs

abbrev pub line : Row → List ℕ
line r = line_of (items r)

-- Two rows have one line only where they are equal.
abbrev pub LinesTell : Type 0
LinesTell = (r q : Row) → Sound r → Sound q → line r ≡ line q → r ≡ q

-- The row of a sequence has a line that is at most one byte longer than the sequence's text.
abbrev pub LinesFit : Type 0
LinesFit = (t : Term ℕ) (r : Row) → row_of t blank ≡ some r → length (line r) ≤ length (text_of t) + 1

-- a space before each item but the first
abbrev pub gap : List ℕ → List ℕ
gap [] = []
gap (b ∷ bs) = 32 ∷ []

abbrev pub grown : List ℕ → Factor → List ℕ
grown acc f = acc ++ (gap acc ++ spell f)

abbrev pub spelt : List ℕ → List Factor → List ℕ
spelt acc [] = acc
spelt acc (f ∷ fs) = spelt (grown acc f) fs

-- the bytes of xs with those of acc at its front
abbrev pub front : List ℕ → List ℕ → List ℕ
front acc xs = acc ++ drop (length acc) xs

-- the letters of an item are among the 24
abbrev pub Lettered : Factor → Type 0
Lettered (Letter v) = v < 24
Lettered (Pair sign v w) = (v < 24) × (w < 24)

-- a pair of the sign is printed: a tie with the smaller letter first
abbrev pub stands : Sign → Row → ℕ → ℕ → Bool
stands Ties r v w = ties r v w && nat_lt v w
stands Precedes r v w = precedes r v w
