-- Terms over any letters, and their dates.
-- Assumes nothing.
use Rattle.std.specs.Prelude.{ℕ, ◌<◌, cond, ◌&&◌, List, slice_index_or}
use Rattle.algebra.specs.Kinds.{Kind, before}
use Rattle.algebra.specs.declared.Operator.{Operator}
use Rattle.algebra.specs.declared.Operator.TheVariants.{Or, And, Before, Simultaneous, Inclusive}

pub data Term (V : Type 0) : Type 0 where
  leaf : V → Term V
  never : Term V
  node : Operator → Term V → Term V → Term V

-- what an operator makes of the dates p and q of its two sides
abbrev pub joined : {D : Type 0} → Kind D → Operator → D → D → D
joined K Or p q = cond (before K q p) q p
joined K And p q = cond (before K p q) q p
joined K Before p q = cond (before K p q) p K.never
joined K Simultaneous p q = cond (K.no_later p q && K.no_later q p) p K.never
joined K Inclusive p q = cond (K.no_later p q) p K.never

-- the date of a term under a dating of its letters
abbrev pub date : {D V : Type 0} → Kind D → (V → D) → Term V → D
date K d (leaf v) = d v
date K d never = K.never
date K d (node o l r) = joined K o (date K d l) (date K d r)

-- the dating of events by number that a list of dates gives
abbrev pub dating_of : {D : Type 0} → Kind D → List D → ℕ → D
dating_of K ds v = slice_index_or ds v K.never

-- the letters of the term are among the first n events
abbrev pub Among : ℕ → Term ℕ → Type 0
Among n (leaf v) = v < n
Among n never = Unit {0}
Among n (node o l r) = Among n l × Among n r

-- the term with a term for each letter
abbrev pub inst : {V W : Type 0} → (V → Term W) → Term V → Term W
inst σ (leaf v) = σ v
inst σ never = never
inst σ (node o l r) = node o (inst σ l) (inst σ r)
