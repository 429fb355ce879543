-- The records of a tree, and how they are written.
-- Assumes nothing.
use Rattle.std.specs.Prelude.{◌≡◌, ℕ, List, [], ◌∷◌, ◌++◌}
use Rattle.trees.specs.declared.record.Gate.{Gate}
use Rattle.trees.specs.declared.record.Gate.TheVariants.{Or, And, Pand, Before}
use Rattle.trees.specs.declared.record.Kind.{Kind}
use Rattle.trees.specs.declared.record.Kind.TheVariants.{Joins as joins, Triggers as triggers}
use Rattle.trees.specs.declared.record.Record.{Record}
use Rattle.trees.specs.declared.record.Record.TheVariants.{Joins, Triggers}

abbrev pub kind_of : Gate → ℕ
kind_of Or = 0
kind_of And = 1
kind_of Pand = 2
kind_of Before = 3

-- the byte of a kind; that of an FDEP is 4
abbrev pub kind_byte : Kind → ℕ
kind_byte (joins g) = kind_of g
kind_byte triggers = 4

-- kind, first input, second input; an FDEP has the kind 4
abbrev pub fields : Record → List ℕ
fields (Joins g a b) = kind_of g ∷ a ∷ b ∷ []
fields (Triggers t d) = 4 ∷ t ∷ d ∷ []

-- the bytes of a record: a map byte and the fields; without the kind it is OR
pub data Written : Record → List ℕ → Type 0 where
  full : (r : Record) → Written r (7 ∷ fields r)
  short : (a b : ℕ) → Written (Joins Or a b) (6 ∷ a ∷ b ∷ [])

-- the bytes begin with the record r, and rest is left
pub record Front (bs : List ℕ) (r : Record) (rest : List ℕ) : Type 0 where
  pub bytes : List ℕ
  pub written : Written r bytes
  pub is : bs ≡ bytes ++ rest

abbrev pub NoRecord : List ℕ → Type 0
NoRecord bs = (r : Record) (rest : List ℕ) → Front bs r rest → ⊥

-- the record of a kind with these inputs
abbrev pub record_of : Kind → ℕ → ℕ → Record
record_of (joins g) a b = Joins g a b
record_of triggers t d = Triggers t d

-- what a record makes of its inputs
abbrev pub kind : Record → Kind
kind (Joins g a b) = joins g
kind (Triggers t d) = triggers

abbrev pub first : Record → ℕ
first (Joins g a b) = a
first (Triggers t d) = t

abbrev pub second : Record → ℕ
second (Joins g a b) = b
second (Triggers t d) = d

-- the last record, which stands first in the list, is a gate
abbrev pub LastIsGate : List Record → Type 0
LastIsGate [] = ⊥
LastIsGate (Joins g a b ∷ rs) = Unit {0}
LastIsGate (Triggers t d ∷ rs) = ⊥
