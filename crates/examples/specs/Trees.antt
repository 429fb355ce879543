-- Trees and what comes of their bytes.
-- Assumes nothing.
use Rattle.std.specs.Prelude.{[], ◌∷◌, codes}
use Rattle.trees.specs.Reading.{Outcome, gives, refuses}

pub record TreeExamples : Type 0 where
  -- a PAND of two events
  pub pand : Outcome (2 ∷ 1 ∷ 7 ∷ 2 ∷ 0 ∷ 1 ∷ []) (gives 2 (codes "*b[ab"))
  -- a triggers b, and then b and c are joined
  pub fdep : Outcome (3 ∷ 2 ∷ 7 ∷ 4 ∷ 0 ∷ 1 ∷ 7 ∷ 1 ∷ 1 ∷ 2 ∷ []) (gives 3 (codes "*+bac"))
  -- the other way round b is read before it is a dependent
  pub turned : Outcome (3 ∷ 2 ∷ 7 ∷ 1 ∷ 1 ∷ 2 ∷ 7 ∷ 4 ∷ 0 ∷ 1 ∷ []) (refuses 4)
