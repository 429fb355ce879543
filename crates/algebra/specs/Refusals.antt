-- Refusals are tried in the rising order of their codes.
-- Assumes nothing.
use Rattle.std.specs.Prelude.{ℕ, ◌<◌, Ok, Err, Result}

-- refused with e: what e asks for is missing, and what each lower code asks for is there
pub record Refused {E : Type 0} (code : E → ℕ) (Asked : E → Type 0) (e : E) : Type 0 where
  pub fails : Asked e → ⊥
  pub lower : (f : E) → code f < code e → Asked f

-- granted: nothing that is asked for is missing
abbrev pub Granted : {E : Type 0} → (E → Type 0) → Type 0
Granted {E} Asked = (e : E) → Asked e

-- the one answer of a call: a value as given, or the refusal with the lowest code
abbrev pub Answers : {A E : Type 0} → (E → ℕ) → (E → Type 0) → (A → Type 0) → Result A E → Type 0
Answers code Asked Given (Ok x) = Granted Asked × Given x
Answers code Asked Given (Err e) = Refused code Asked e
