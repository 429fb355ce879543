-- A date at the front of bytes.
-- Assumes nothing.
use Rattle.std.specs.Prelude.{◌≡◌, ℕ, List, ◌++◌, Some, None, Option}
use Rattle.std.specs.Borrow.{Bor}

-- the bytes begin with those of the date d, and go on with rest
pub record Front {D : Type 0} (date_of : List ℕ → Option D) (bs : List ℕ) (d : D) (rest : List ℕ) : Type 0 where
  pub bytes : List ℕ
  pub is : bs ≡ bytes ++ rest
  pub dated : date_of bytes ≡ Some d

-- what stands at the front of the bytes, if a date does
abbrev pub FrontOf : {D : Type 0} → (List ℕ → Option D) → List ℕ → Option (D × Bor (List ℕ)) → Type 0
FrontOf {D} date_of bs None = (d : D) (rest : List ℕ) → Front date_of bs d rest → ⊥
FrontOf date_of bs (Some p) = Front date_of bs p.0 p.1.now
