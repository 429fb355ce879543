-- One symbol of a side, taken from the text of a match under way.
-- Assumes nothing.
use Rattle.std.specs.Prelude.{◌≡◌, ℕ, ◌⊎◌, List, ◌∷◌, ◌++◌, Some, ◌≢◌}
use Rattle.std.specs.Borrow.{Bor}
use Rattle.algebra.specs.Rules.{variable_byte}
use Rattle.algebra.specs.declared.Variable.{Variable}
use Rattle.steps.specs.Sides.{slot, Takes}
use Rattle.steps.specs.declared.matching.Walk.{Walk}

-- a letter takes bytes of the text
pub record Letter (a : Walk) (s : ℕ) (b : Walk) : Type 0 where
  pub letter : Variable
  pub is : s ≡ variable_byte letter
  pub bytes : Bor (List ℕ)
  pub takes : Takes (slot a.bound letter) bytes.now
  pub here : slot b.bound letter ≡ Some bytes
  pub other : (u : Variable) → (u ≢ letter) → slot b.bound u ≡ slot a.bound u
  pub cut : a.rest.now ≡ bytes.now ++ b.rest.now

-- any other symbol takes itself
pub record Plain (a : Walk) (s : ℕ) (b : Walk) : Type 0 where
  pub none : (v : Variable) → s ≢ variable_byte v
  pub same : b.bound ≡ a.bound
  pub cut : a.rest.now ≡ s ∷ b.rest.now

abbrev pub Took : Walk → ℕ → Walk → Type 0
Took a s b = Letter a s b ⊎ Plain a s b

-- the text has nothing for the symbol
pub record Stuck (a : Walk) (s : ℕ) : Type 0 where
  pub letter : (v : Variable) → s ≡ variable_byte v → (w rest : List ℕ) → Takes (slot a.bound v) w → a.rest.now ≢ w ++ rest
  pub plain : ((v : Variable) → s ≢ variable_byte v) → (rest : List ℕ) → a.rest.now ≢ s ∷ rest
