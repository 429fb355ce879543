-- The evaluator's stack: the dates of the terms read from the end of a text, the last read first.
-- Assumes nothing.
use Rattle.std.specs.Prelude.{ℕ, ◌<◌, ◌≤◌, List, [], ◌∷◌}
use Rattle.algebra.specs.Kinds.{Kind}
use Rattle.algebra.specs.Terms.{joined}
use Rattle.algebra.specs.declared.Operator.{Operator}
use Rattle.algebra.specs.declared.Token.{Token}
use Rattle.algebra.specs.declared.Token.TheVariants.{Letter, Never, Joins, Unknown}

-- a stack: how many places are free, and the dates, the one pushed last first
pub record DateStack (D : Type 0) : Type 0 where
  pub free : ℕ
  pub dates : List D

-- an operator takes two dates from the stack, and puts theirs there
abbrev pub joined_top : {D : Type 0} → Kind D → Operator → List D → List D
joined_top K o [] = []
joined_top K o (p ∷ []) = []
joined_top K o (p ∷ (q ∷ ds)) = joined K o p q ∷ ds

-- the stack after one token more, under the dating d
abbrev pub stacked : {D : Type 0} → Kind D → (ℕ → D) → Token ℕ → List D → List D
stacked K d (Letter v) st = d v ∷ st
stacked K d Never st = K.never ∷ st
stacked K d (Joins o) st = joined_top K o st
stacked K d Unknown st = st

-- what a token needs of a stack with so many free places and so many dates
abbrev pub Room : Token ℕ → ℕ → ℕ → Type 0
Room (Letter v) free dates = 0 < free
Room Never free dates = 0 < free
Room (Joins o) free dates = 2 ≤ dates
Room Unknown free dates = Unit {0}
