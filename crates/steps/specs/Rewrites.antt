-- One text made of another by a rule: its symbols one by one, and all together.
-- Assumes nothing.
use Rattle.std.specs.Prelude.{◌≡◌, ℕ, ◌<◌, true, false, ◌⊎◌, List, [], ◌∷◌, ◌++◌, length, take, drop, is_some, Some, None, Ok, Err, Option, Result, ◌≢◌}
use Rattle.std.specs.Borrow.{Bor}
use Rattle.algebra.specs.Terms.{Term, inst}
use Rattle.algebra.specs.Texts.{text_of}
use Rattle.algebra.specs.Rules.{variable_byte, has}
use Rattle.algebra.specs.declared.Variable.{Variable}
use Rattle.texts.specs.declared.text.NoRoom.{NoRoom}
use Rattle.steps.specs.Sides.{slot, side_text, Agrees, Matches, WritesSides}
use Rattle.steps.specs.declared.binding.Binding.{Binding}
use Rattle.steps.specs.declared.refusal.StepRefusal.{StepRefusal}
use Rattle.steps.specs.declared.rules.Sides.{Sides}
use Rattle.steps.specs.declared.refusal.StepRefusal.TheVariants.{NoTree, Form, Supplies, Place, NoFit, TooLong}

-- the symbol is a letter, and these are the bytes that it is bound to
pub record Bound (b : Binding) (symbol : ℕ) (w : List ℕ) : Type 0 where
  pub letter : Variable
  pub is : symbol ≡ variable_byte letter
  pub bytes : Bor (List ℕ)
  pub there : slot b letter ≡ Some bytes
  pub same : w ≡ bytes.now

-- the bytes that stand for a symbol of a side: those that a letter is bound to, or else the symbol itself
abbrev pub Piece : Binding → ℕ → List ℕ → Type 0
Piece b symbol w = Bound b symbol w ⊎ (((v : Variable) → symbol ≢ variable_byte v) × (w ≡ symbol ∷ []))

-- where the symbol is a letter, that is bound
abbrev pub BoundSymbol : Binding → ℕ → Type 0
BoundSymbol b symbol = (v : Variable) → symbol ≡ variable_byte v → is_some (slot b v) ≡ true

-- the side is that of a term, whose letters are bound
pub record BoundSide (b : Binding) (side : List ℕ) : Type 0 where
  pub term : Term Variable
  pub written : side ≡ side_text term
  pub bound : (v : Variable) → has v term ≡ true → is_some (slot b v) ≡ true

-- borrowed bytes are those of a term
abbrev pub OfTerm : Option (Bor (List ℕ)) → Type 0
OfTerm None = Unit {0}
OfTerm (Some w) = (t : Term ℕ) × (w.now ≡ text_of t)

-- terms are supplied for no letter of the old side, and for each that only the new side has
pub record Provided (from to : Term Variable) (sup : Binding) : Type 0 where
  pub terms : (v : Variable) → OfTerm (slot sup v)
  pub none : (v : Variable) → has v from ≡ true → slot sup v ≡ None
  pub lacked : (v : Variable) → has v to ≡ true → has v from ≡ false → is_some (slot sup v) ≡ true

-- the sides are those of two terms, for which the terms are supplied
pub record Ready (sides : Sides) (sup : Binding) : Type 0 where
  pub from : Term Variable
  pub to : Term Variable
  pub written : WritesSides sides from to
  pub provided : Provided from to sup

-- the old side stands at the place, and the new bytes have the new side there
pub record Instance (old : List ℕ) (place : ℕ) (from to : Term Variable) (sup : Binding) (new : List ℕ) : Type 0 where
  pub choice : Variable → Term ℕ
  pub rest : List ℕ
  pub agrees : Agrees sup choice
  pub before : Matches from choice (drop place old) rest
  pub after : new ≡ take place old ++ (text_of (inst choice to) ++ rest)

-- the bytes w were added, or they do not fit into a text
abbrev pub Added : Result (Unit {0}) NoRoom → List ℕ → List ℕ → List ℕ → Type 0
Added (Ok u) old new w = new ≡ old ++ w
Added (Err e) old new w = 511 < length (old ++ w)

-- the new text, or that the side does not fit, or that the new text would be too long
abbrev pub Rewritten : List ℕ → ℕ → Term Variable → Term Variable → Binding → Result (List ℕ) StepRefusal → Type 0
Rewritten old place from to sup (Ok new) = Instance old place from to sup new
Rewritten old place from to sup (Err NoFit) = (σ : Variable → Term ℕ) (rest : List ℕ) → Matches from σ (drop place old) rest → ⊥
Rewritten old place from to sup (Err TooLong) = (new : List ℕ) × (Instance old place from to sup new × (511 < length new))
Rewritten old place from to sup (Err NoTree) = ⊥
Rewritten old place from to sup (Err Form) = ⊥
Rewritten old place from to sup (Err Supplies) = ⊥
Rewritten old place from to sup (Err Place) = ⊥
