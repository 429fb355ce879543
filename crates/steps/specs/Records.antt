-- What a step record is, and what it says: a map byte, and then the fields whose bit stands.
-- Assumes nothing.
use Rattle.std.specs.Prelude.{◌≡◌, ℕ, ◌+◌, ◌*◌, ◌/◌, ◌%◌, ◌^◌, ◌<◌, ◌≤◌, Bool, true, false, List, [], ◌∷◌, ◌++◌, length, Some, None, Option, ◌==◌}
use Rattle.algebra.specs.Conversions.{way_byte}
use Rattle.algebra.specs.Texts.{Whole}
use Rattle.algebra.specs.declared.Variable.{Variable}
use Rattle.algebra.specs.declared.Variable.TheVariants.{X, Y, Z}
use Rattle.algebra.specs.declared.Way.{Way}
use Rattle.algebra.specs.declared.Way.TheVariants.{Forward}

-- what a step record asks for: a rule, a way, a place, and terms for X, Y and Z
pub record Request : Type 0 where
  pub rule : ℕ
  pub way : Way
  pub place : ℕ
  pub x : Option (List ℕ)
  pub y : Option (List ℕ)
  pub z : Option (List ℕ)

abbrev pub supplied_for : Request → Variable → Option (List ℕ)
supplied_for q X = q.x
supplied_for q Y = q.y
supplied_for q Z = q.z

-- without a field: forward, at the place 0, and no terms; the rule has to be there
abbrev pub blank : Request
blank = record { rule = 0; way = Forward; place = 0; x = None; y = None; z = None }

-- a field, and what it says
pub data Field : Type 0 where
  the_rule : ℕ → Field
  the_way : Way → Field
  the_place : ℕ → Field
  the_term : Variable → List ℕ → Field

-- the bit of the map byte that says that the field stands
abbrev pub bit_of : Field → ℕ
bit_of (the_rule n) = 0
bit_of (the_way w) = 1
bit_of (the_place p) = 2
bit_of (the_term X t) = 3
bit_of (the_term Y t) = 4
bit_of (the_term Z t) = 5

abbrev pub bits : List ℕ
bits = 0 ∷ 1 ∷ 2 ∷ 3 ∷ 4 ∷ 5 ∷ []

abbrev pub bit_stands : ℕ → ℕ → Bool
bit_stands map bit = map / 2 ^ bit % 2 == 1

-- the field is written at the front of the bytes, and rest stands after it: a place has its high byte first,
-- and a term its length before it, in one byte
abbrev pub Written : Field → List ℕ → List ℕ → Type 0
Written (the_rule n) bs rest = bs ≡ n ∷ rest
Written (the_way w) bs rest = bs ≡ way_byte w ∷ rest
Written (the_place p) bs rest = (high : ℕ) × (low : ℕ) × (bs ≡ high ∷ (low ∷ rest)) × (p ≡ 256 * high + low)
Written (the_term v t) bs rest = (1 ≤ length t) × (length t ≤ 255) × (bs ≡ length t ∷ (t ++ rest))

-- the request with what a field says
abbrev pub put : Field → Request → Request
put (the_rule n) q = record { rule = n; way = q.way; place = q.place; x = q.x; y = q.y; z = q.z }
put (the_way w) q = record { rule = q.rule; way = w; place = q.place; x = q.x; y = q.y; z = q.z }
put (the_place p) q = record { rule = q.rule; way = q.way; place = p; x = q.x; y = q.y; z = q.z }
put (the_term X t) q = record { rule = q.rule; way = q.way; place = q.place; x = Some t; y = q.y; z = q.z }
put (the_term Y t) q = record { rule = q.rule; way = q.way; place = q.place; x = q.x; y = Some t; z = q.z }
put (the_term Z t) q = record { rule = q.rule; way = q.way; place = q.place; x = q.x; y = q.y; z = Some t }

-- the field of a bit stands at the front of the bytes
abbrev pub FieldAt : ℕ → List ℕ → Field → List ℕ → Type 0
FieldAt bit bs f rest = (bit ≡ bit_of f) × Written f bs rest

-- one bit of the map: where it stands, its field leads from the request q to q'; where not, nothing is read
abbrev pub Next : Bool → ℕ → Request → List ℕ → Request → List ℕ → Type 0
Next true bit q bs q' rest = (f : Field) × FieldAt bit bs f rest × (q' ≡ put f q)
Next false bit q bs q' rest = (q' ≡ q) × (bs ≡ rest)

-- the fields of these bits, as far as they stand in the map, are all the bytes, and lead from the request q to q'
abbrev pub Fields : ℕ → List ℕ → Request → List ℕ → Request → Type 0
Fields map [] q bs q' = (bs ≡ []) × (q' ≡ q)
Fields map (bit ∷ more) q bs q' = (r : Request) × (rest : List ℕ) × Next (bit_stands map bit) bit q bs r rest × Fields map more r rest q'

-- a supplied term is one whole term with letters among the events
abbrev pub WholeTerm : ℕ → Option (List ℕ) → Type 0
WholeTerm events None = Unit {0}
WholeTerm events (Some t) = Whole events t

-- the bytes are a well-formed step record of a tree with so many events, and this is what it says
pub record Says (events : ℕ) (bs : List ℕ) (q : Request) : Type 0 where
  pub map : ℕ
  pub fields : List ℕ
  pub begins : bs ≡ map ∷ fields
  -- bits 6 and 7 do not stand, and the rule's bit does
  pub low : map < 64
  pub first : bit_stands map 0 ≡ true
  pub said : Fields map bits blank fields q
  pub number : (1 ≤ q.rule) × (q.rule ≤ 42)
  pub terms : (v : Variable) → WholeTerm events (supplied_for q v)
