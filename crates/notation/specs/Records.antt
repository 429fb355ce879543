-- A tree's records in words: the kind, and the two inputs.
-- Assumes nothing.
use Rattle.std.specs.Prelude.{◌≡◌, ℕ, List, [], ◌∷◌, codes}
use Rattle.trees.specs.declared.record.Gate.{Gate}
use Rattle.trees.specs.declared.record.Gate.TheVariants as gate
use Rattle.trees.specs.declared.record.Record.{Record}
use Rattle.trees.specs.declared.record.Record.TheVariants as tree
use Rattle.trees.specs.declared.record.Kind.{Kind}
use Rattle.trees.specs.declared.record.Kind.TheVariants.{Joins, Triggers}
use Rattle.trees.specs.Records.{record_of}
use Rattle.notation.specs.Inputs.{Names, input_word}

abbrev pub gate_word : Gate → List ℕ
gate_word gate.Or = codes "or"
gate_word gate.And = codes "and"
gate_word gate.Pand = codes "pand"
gate_word gate.Before = codes "before"

abbrev pub kind_word : Kind → List ℕ
kind_word (Joins g) = gate_word g
kind_word Triggers = codes "fdep"

-- the words are those of the record
pub record RecordWords (r : Record) (ws : List (List ℕ)) : Type 0 where
  pub kind : Kind
  pub one : List ℕ
  pub two : List ℕ
  pub first : ℕ
  pub second : ℕ
  pub is : ws ≡ kind_word kind ∷ one ∷ two ∷ []
  pub first_named : Names one first
  pub second_named : Names two second
  pub made : r ≡ record_of kind first second

-- the words that are written for a record
abbrev pub record_words : Record → List (List ℕ)
record_words (tree.Joins g a b) = gate_word g ∷ input_word a ∷ input_word b ∷ []
record_words (tree.Triggers t d) = kind_word Triggers ∷ input_word t ∷ input_word d ∷ []

-- words are those of one record only
abbrev pub OneRecord : List (List ℕ) → Type 0
OneRecord ws = (r q : Record) → RecordWords r ws → RecordWords q ws → r ≡ q
