-- The inputs that a reader of records holds.
-- Assumes nothing.
use Rattle.std.specs.Prelude.{◌≡◌, ℕ, ◌≤◌, Bool, true, false, List, ◌∷◌, Some, None, Ok, Err, Option, Result, slice_index_or}
use Rattle.algebra.specs.Terms.{Term}
use Rattle.algebra.specs.Texts.{text_of}
use Rattle.texts.specs.declared.text.Text.{Text}
use Rattle.trees.specs.declared.record.Record.{Record}
use Rattle.trees.specs.declared.refusal.TreeRefusal.{TreeRefusal}
use Rattle.trees.specs.declared.inputs.Input.{Input}
use Rattle.trees.specs.declared.inputs.Inputs.{Inputs}
use Rattle.trees.specs.Gates.{known, term_at, fault}
use Rattle.trees.specs.Triggers.{read}

-- a text is there where the input is known, and it is its term's
abbrev pub Slot : Bool → Option Text → Term ℕ → Type 0
Slot true (Some x) t = x ≡ text_of t
Slot true None t = ⊥
Slot false (Some x) t = ⊥
Slot false None t = Unit {0}

abbrev pub text_in : Option Input → Option Text
text_in None = None
text_in (Some x) = Some x.text

abbrev pub read_in : Option Input → Bool
read_in None = false
read_in (Some x) = x.is_read

-- the input at a place, where there is one
abbrev pub input_at : Inputs → ℕ → Option Input
input_at s i = slice_index_or s.places i None

-- the inputs hold the texts after the records rs of a tree with E events, and which of them were read
pub record Holds (E : ℕ) (rs : List Record) (s : Inputs) : Type 0 where
  pub events : E ≤ 24
  pub texts : (i : ℕ) → Slot (known E rs i) (text_in (input_at s i)) (term_at rs i)
  pub reads : (i : ℕ) → read_in (input_at s i) ≡ read rs i

-- the record r came after the records rs, or cannot
abbrev pub After : ℕ → List Record → Record → Inputs → Result (Unit {0}) TreeRefusal → Type 0
After E rs r s (Ok u) = (fault E rs r ≡ None) × Holds E (r ∷ rs) s
After E rs r s (Err e) = fault E rs r ≡ Some e
