-- One term put in the place of another, in a term and in its text.
-- Assumes nothing.
use Rattle.std.specs.Prelude.{◌≡◌, ℕ, ◌<◌, List, ◌++◌, length, take, drop}
use Rattle.algebra.specs.Terms.{Term, node}
use Rattle.algebra.specs.Texts.{write, text_of, event_byte}
use Rattle.algebra.specs.declared.Operator.{Operator}

-- u is t but for one place, where t has p and u has q
pub data Replaced {V : Type 0} (p q : Term V) : Term V → Term V → Type 0 where
  here : Replaced p q p q
  left : {o : Operator} {l l' r : Term V} → Replaced p q l l' → Replaced p q (node o l r) (node o l' r)
  right : {o : Operator} {l r r' : Term V} → Replaced p q r r' → Replaced p q (node o l r) (node o l r')

-- the text of t with that of q at a place where p stood, and rest after it, is that of a term again
pub record Put {V : Type 0} (f : V → ℕ) (t p q : Term V) (place : ℕ) (rest : List ℕ) : Type 0 where
  pub new : Term V
  pub replaced : Replaced p q t new
  pub written : take place (write f t) ++ (write f q ++ rest) ≡ write f new

-- Where the text of t has that of p, it is a text again with that of q there: of the term that is t with q for p.
abbrev pub PutsTerms : Type 0
PutsTerms =
    (t p q : Term ℕ) (place : ℕ) (rest : List ℕ) → place < length (text_of t) → drop place (text_of t) ≡ text_of p ++ rest
    → Put event_byte t p q place rest
