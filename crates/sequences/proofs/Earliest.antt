-- The earliest date of rows, from the last row to the first.
-- Assumes nothing.
use Rattle.std.proofs.Common.{◌≡◌, ℕ, List, [], ◌∷◌, ◌++◌, length, sym, refl, ap, ◌∙◌, arith}
use Rattle.algebra.specs.Kinds.{Kind}
use Rattle.algebra.specs.Terms.{joined}
use Rattle.algebra.specs.declared.Operator.TheVariants.{Or}
use Rattle.sequences.specs.Dates.{row_date, table_date}
use Rattle.sequences.specs.declared.row.Row.{Row}

module _ {D : Type 0} (K : Kind D) (d : ℕ → D) where
  -- the date of the rows, where p is that of the rows after them
  abbrev pub earliest_with : List Row → D → D
  earliest_with [] p = p
  earliest_with (r ∷ rs) p = joined K Or (row_date K d r) (earliest_with rs p)

  earliest_with-never : (rs : List Row) → earliest_with rs K.never ≡ table_date K d rs
  earliest_with-never [] = refl
  earliest_with-never (r ∷ rs) = ap (joined K Or (row_date K d r)) (earliest_with-never rs)

  earliest_with-push : (rs : List Row) (r : Row) (p : D) → earliest_with (rs ++ r ∷ []) p ≡ earliest_with rs (joined K Or (row_date K d r) p)
  earliest_with-push [] r p = refl
  earliest_with-push (q ∷ rs) r p = ap (joined K Or (row_date K d q)) (earliest_with-push rs r p)

  -- none is read yet
  pub earliest_at_first : (rest rs : List Row) (p : D) → rest ≡ rs → p ≡ K.never → earliest_with rest p ≡ table_date K d rs
  earliest_at_first rest rs p e n =
      ap (λ (qs : List Row). earliest_with qs p) e ∙ ap (earliest_with rs) n ∙ earliest_with-never rs

  -- one more is read
  pub earliest_with_one : (before rest : List Row) (r : Row) (p q x all : D) → before ≡ rest ++ r ∷ [] → q ≡ row_date K d r → x ≡ joined K Or q p
      → earliest_with before p ≡ all → earliest_with rest x ≡ all
  earliest_with_one before rest r p q x all e f h i =
      ap (earliest_with rest) (h ∙ ap (λ (y : D). joined K Or y p) f)
      ∙ sym (earliest_with-push rest r p)
      ∙ ap (λ (rs : List Row). earliest_with rs p) (sym e)
      ∙ i

  -- all are read
  pub earliest_at_last : (rest : List Row) (p all : D) → length rest ≡ 0 → earliest_with rest p ≡ all → p ≡ all
  earliest_at_last [] p all n i = i
  earliest_at_last (r ∷ rest) p all n i = absurd (omega arith)
