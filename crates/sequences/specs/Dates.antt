-- The date of a row and of a table of rows.
-- Assumes nothing.
use Rattle.std.specs.Prelude.{◌≡◌, ℕ, zero, suc, ◌<◌, Bool, true, cond, ◌&&◌, ◌||◌, T, ◌↔◌, List, [], ◌∷◌, length, Some, None, Option, slice_index_or}
use Rattle.algebra.specs.Kinds.{Kind, before, Same}
use Rattle.algebra.specs.Terms.{joined}
use Rattle.algebra.specs.declared.Operator.TheVariants.{Or, And}
use Rattle.dates.specs.Ticks.{tick_kind}
use Rattle.dates.specs.declared.Tick.{Tick}
use Rattle.sequences.specs.Rows.{absent, listed, precedes, ties}
use Rattle.sequences.specs.Walks.{any, all, Impossible, Sound}
use Rattle.sequences.specs.declared.row.Row.{Row}

-- v is one of the row's letters, or the left letter of a pair; of a tie both letters are
abbrev pub counts : Row → ℕ → Bool
counts r v = listed r v || (any 24 (λ w. precedes r v w) || any 24 (λ w. ties r v w))

-- a test that is asked only where the pair stands
abbrev pub asked : Bool → Bool → Bool
asked pair test = cond pair test true

-- of the letters v and w, with the dates p and q, each pair that stands meets its operator's test
abbrev pub pair_meets : {D : Type 0} → Kind D → Row → ℕ → ℕ → D → D → Bool
pair_meets K r v w p q = asked (precedes r v w) (before K p q) && asked (ties r v w) (K.no_later p q && K.no_later q p)

-- every pair meets its operator's test
abbrev pub meets : {D : Type 0} → Kind D → (ℕ → D) → Row → Bool
meets K d r = all 24 (λ v. all 24 (λ w. pair_meets K r v w (d v) (d w)))

-- the later of two dates, the first where they are the same
abbrev pub later : {D : Type 0} → Kind D → Option D → D → Option D
later K None q = Some q
later K (Some p) q = Some (joined K And p q)

-- the latest date among the letters below n that p names, the first in letter order where several are the same
unfoldable pub latest : {D : Type 0} → Kind D → (ℕ → D) → (ℕ → Bool) → ℕ → Option D
latest K d p zero = None
latest K d p (suc n) = cond (p n) (later K (latest K d p n) (d n)) (latest K d p n)

abbrev pub or_never : {D : Type 0} → Kind D → Option D → D
or_never K None = K.never
or_never K (Some p) = p

abbrev pub row_date : {D : Type 0} → Kind D → (ℕ → D) → Row → D
row_date K d r = cond (meets K d r) (or_never K (latest K d (counts r) 24)) K.never

-- the earliest of the rows, the first such row's, and never if there are none
abbrev pub table_date : {D : Type 0} → Kind D → (ℕ → D) → List Row → D
table_date K d [] = K.never
table_date K d (r ∷ rs) = joined K Or (row_date K d r) (table_date K d rs)

-- the row's date is before never
abbrev pub Happens : {D : Type 0} → Kind D → (ℕ → D) → Row → Type 0
Happens K d r = T (before K (row_date K d r) K.never)

-- some letter counts
pub record Counted (r : Row) : Type 0 where
  pub at : ℕ
  pub counted : T (counts r at)

-- A row that is impossible happens under no dating.
abbrev pub NeverHappens : {D : Type 0} → Kind D → Type 0
NeverHappens {D} K = (r : Row) → Sound r → Impossible r → (d : ℕ → D) → Happens K d r → ⊥

-- A row is impossible exactly when it happens under no dating by ticks.
abbrev pub ImpossibleByTicks : Type 0
ImpossibleByTicks = (r : Row) → Sound r → Counted r → Impossible r ↔ ((d : ℕ → Tick) → Happens tick_kind d r → ⊥)

-- the row happens under some dating by ticks
pub record HappensByTicks (r : Row) : Type 0 where
  pub dating : ℕ → Tick
  pub happens : Happens tick_kind dating r

-- The dates of rows and tables once more, as relations.

-- every pair meets its operator's test
pub record PairsMet {D : Type 0} (K : Kind D) (d : ℕ → D) (r : Row) : Type 0 where
  pub less : (v w : ℕ) → T (precedes r v w) → T (before K (d v) (d w))
  pub same : (v w : ℕ) → T (ties r v w) → Same K (d v) (d w)

-- p is the latest date of the letters that count, the first in letter order where several are the same
pub record LatestOf {D : Type 0} (K : Kind D) (d : ℕ → D) (r : Row) (p : D) : Type 0 where
  pub at : ℕ
  pub counted : T (counts r at)
  pub is : p ≡ d at
  pub latest : (v : ℕ) → T (counts r v) → T (K.no_later (d v) p)
  pub first : (v : ℕ) → v < at → T (counts r v) → T (before K (d v) p)

-- p is the date of the row
pub data RowDated {D : Type 0} (K : Kind D) (d : ℕ → D) (r : Row) (p : D) : Type 0 where
  met : PairsMet K d r → LatestOf K d r p → RowDated K d r p
  unmet : (PairsMet K d r → ⊥) → p ≡ K.never → RowDated K d r p

-- p is the earliest of the rows' dates, the first such row's
pub record EarliestOf {D : Type 0} (K : Kind D) (d : ℕ → D) (rs : List Row) (p : D) : Type 0 where
  pub at : ℕ
  pub low : at < length rs
  pub is : p ≡ row_date K d (slice_index_or rs at absent)
  pub earliest : (k : ℕ) → k < length rs → T (K.no_later p (row_date K d (slice_index_or rs k absent)))
  pub first : (k : ℕ) → k < at → T (before K p (row_date K d (slice_index_or rs k absent)))

-- p is the date of the table with these rows
pub data RowsDated {D : Type 0} (K : Kind D) (d : ℕ → D) (rs : List Row) (p : D) : Type 0 where
  none : rs ≡ [] → p ≡ K.never → RowsDated K d rs p
  some : EarliestOf K d rs p → RowsDated K d rs p

-- The date of a row is what the relation says, where some letter counts.
abbrev pub DatesOfRows : {D : Type 0} → Kind D → Type 0
DatesOfRows {D} K = (r : Row) → Sound r → Counted r → (d : ℕ → D) → RowDated K d r (row_date K d r)
