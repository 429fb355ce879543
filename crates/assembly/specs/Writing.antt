-- What a step record is written from: its fields, and what can be said at all.
-- Assumes nothing.
use Rattle.std.specs.Prelude.{◌≡◌, ℕ, ◌+◌, ◌<◌, ◌≤◌, Bool, cond, List, [], ◌∷◌, ◌++◌, length, Some, None, All, Option, ◌==◌}
use Rattle.algebra.specs.declared.Variable.{Variable}
use Rattle.algebra.specs.declared.Variable.TheVariants.{X, Y, Z}
use Rattle.algebra.specs.declared.Way.{Way}
use Rattle.algebra.specs.declared.Way.TheVariants.{Forward, Backward}
use Rattle.steps.specs.Records.{Field, the_rule, the_way, the_place, the_term, Written, WholeTerm, Request, Says, supplied_for}
use Rattle.assembly.specs.Faults.{WhereNone}
use Rattle.assembly.specs.declared.fault.BytesFault.{BytesFault}

-- the fields that are written: what is said without a field has none
abbrev pub way_field : Way → Option Field
way_field Forward = None
way_field Backward = Some (the_way Backward)

abbrev pub place_field : ℕ → Option Field
place_field p = cond (p == 0) None (Some (the_place p))

abbrev pub term_field : Variable → Option (List ℕ) → Option Field
term_field v None = None
term_field v (Some t) = Some (the_term v t)

-- the fields beside the rule, in order, where each stands
abbrev pub fields_of : Request → List (Option Field)
fields_of q = way_field q.way ∷ place_field q.place ∷ term_field X q.x ∷ term_field Y q.y ∷ term_field Z q.z ∷ []

-- the bytes of the field were added, whatever stands after them
pub record Added (f : Field) (old new : List ℕ) : Type 0 where
  pub bytes : List ℕ
  pub after : new ≡ old ++ bytes
  pub written : (rest : List ℕ) → Written f (bytes ++ rest) rest

-- the field can be written in bytes: a place in two, and the length of a term in one
abbrev pub Fits : Field → Type 0
Fits (the_rule n) = Unit {0}
Fits (the_way w) = Unit {0}
Fits (the_place p) = p < 65536
Fits (the_term v t) = (1 ≤ length t) × (length t ≤ 255)

-- a field was added, or there is none and nothing was
abbrev pub AddedIf : Option Field → List ℕ → List ℕ → Type 0
AddedIf None old new = new ≡ old
AddedIf (Some f) old new = Added f old new

abbrev pub Each : {A : Type 0} → (A → Type 0) → Option A → Type 0
Each P None = Unit {0}
Each P (Some x) = P x

-- its place and its terms can be written in bytes
pub record Sized (q : Request) : Type 0 where
  pub place : Fits (the_place q.place)
  pub terms : (v : Variable) → Each (λ t. Fits (the_term v t)) (supplied_for q v)

-- a term that can be supplied: it is whole, with letters among the events, and its length fits one byte
abbrev pub WritableTerm : ℕ → Option (List ℕ) → Type 0
WritableTerm events o = WholeTerm events o × Each (λ t. length t ≤ 255) o

-- what a step record can say: a rule of the sheet, a place in two bytes, and terms that can be supplied
pub record Sayable (events : ℕ) (q : Request) : Type 0 where
  pub number : (1 ≤ q.rule) × (q.rule ≤ 42)
  pub place : Fits (the_place q.place)
  pub terms : (v : Variable) → WritableTerm events (supplied_for q v)

-- the values of bytes
abbrev pub Bytes : List ℕ → Type 0
Bytes bs = All (λ b. b < 256) bs

-- where the fault is that there is no form: no bytes are a step record that says this
abbrev pub NoBytesSay : BytesFault → ℕ → Request → Type 0
NoBytesSay e events q = WhereNone e ((bs : List ℕ) → Bytes bs → Says events bs q → ⊥)

-- the map byte of a record that has a rule, and of the other fields those that are flagged
abbrev pub map_of : Bool → Bool → Bool → Bool → Bool → ℕ
map_of way place x y z = 1 + (cond way 2 0 + (cond place 4 0 + (cond x 8 0 + (cond y 16 0 + cond z 32 0))))

-- the same from the flags of the fields beside the rule, in order
abbrev pub map_of_all : List Bool → ℕ
map_of_all (way ∷ place ∷ x ∷ y ∷ z ∷ []) = map_of way place x y z
map_of_all _ = 1
