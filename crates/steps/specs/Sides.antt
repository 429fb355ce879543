-- The bytes of a rule's side, and the letters of a rule beside the terms that they stand for.
-- Assumes nothing.
use Rattle.std.specs.Prelude.{◌≡◌, ℕ, List, ◌++◌, is_some, Some, None, Option}
use Rattle.std.specs.Borrow.{Bor}
use Rattle.algebra.specs.Terms.{Term, inst}
use Rattle.algebra.specs.Texts.{write, text_of}
use Rattle.algebra.specs.Rules.{variable_byte, has}
use Rattle.algebra.specs.declared.Variable.{Variable}
use Rattle.algebra.specs.declared.Variable.TheVariants.{X, Y, Z}
use Rattle.steps.specs.declared.binding.Binding.{Binding}
use Rattle.steps.specs.declared.rules.Sides.{Sides}

-- a side as the sheet writes it
abbrev pub side_text : Term Variable → List ℕ
side_text s = write variable_byte s

-- what a letter is bound to
abbrev pub slot : Binding → Variable → Option (Bor (List ℕ))
slot b X = b.x
slot b Y = b.y
slot b Z = b.z

-- the first, or else the second
abbrev pub either : Option (Bor (List ℕ)) → Option (Bor (List ℕ)) → Option (Bor (List ℕ))
either None o = o
either (Some w) o = Some w

-- the bytes, where there are some, are those of the term
abbrev pub Holds : Option (Bor (List ℕ)) → Term ℕ → Type 0
Holds None t = Unit {0}
Holds (Some w) t = w.now ≡ text_of t

-- what a letter takes of a text: the bytes that it is bound to, or else those of a term
abbrev pub Takes : Option (Bor (List ℕ)) → List ℕ → Type 0
Takes None w = (t : Term ℕ) × (w ≡ text_of t)
Takes (Some s) w = w ≡ s.now

-- the terms of the choice are those that are bound
abbrev pub Agrees : Binding → (Variable → Term ℕ) → Type 0
Agrees b σ = (v : Variable) → Holds (slot b v) (σ v)

-- the text begins with the side's instance, and goes on with rest
abbrev pub Matches : Term Variable → (Variable → Term ℕ) → List ℕ → List ℕ → Type 0
Matches s σ text rest = text ≡ text_of (inst σ s) ++ rest

-- the side fits the front of the text by the terms that are bound, which are those of its letters
pub record Fitted (s : Term Variable) (text : List ℕ) (b : Binding) (rest : List ℕ) : Type 0 where
  pub choice : Variable → Term ℕ
  pub agrees : Agrees b choice
  pub matches : Matches s choice text rest
  pub letters : (v : Variable) → is_some (slot b v) ≡ has v s

-- the two sides in code are those of the terms s and t
pub record WritesSides (sides : Sides) (s t : Term Variable) : Type 0 where
  pub old : sides.old.now ≡ side_text s
  pub new : sides.new.now ≡ side_text t
