-- What the values that are read of a step record stand for.
-- Assumes nothing.
use Rattle.std.specs.Prelude.{◌≡◌, ℕ, Bool, List, [], Some, None, Ok, Err, Option, Result}
use Rattle.std.specs.Borrow.{Bor}
use Rattle.steps.specs.Records.{Request, Field, the_rule, the_way, the_place, the_term, bit_of, FieldAt, Next, Fields, Says, bits, blank}
use Rattle.steps.specs.declared.record.FieldKind.{FieldKind}
use Rattle.steps.specs.declared.record.FieldKind.TheVariants.{Rule as KindRule, Way as KindWay, Place as KindPlace, Supply as KindSupply}
use Rattle.steps.specs.declared.record.StepField.{StepField}
use Rattle.steps.specs.declared.record.StepField.TheVariants.{Rule, Way, Place, Supply}
use Rattle.steps.specs.declared.record.StepRecord.{StepRecord}
use Rattle.steps.specs.declared.record.Reading.{Reading}
use Rattle.steps.specs.declared.refusal.StepRefusal.{StepRefusal}
use Rattle.steps.specs.declared.refusal.StepRefusal.TheVariants.{Form}

-- the bytes that are borrowed, if there are any
abbrev pub bytes_of : Option (Bor (List ℕ)) → Option (List ℕ)
bytes_of None = None
bytes_of (Some w) = Some w.now

abbrev pub request_of : StepRecord → Request
request_of s = record {
  rule = s.rule;
  way = s.way;
  place = s.place;
  x = bytes_of s.supplied.x;
  y = bytes_of s.supplied.y;
  z = bytes_of s.supplied.z;
}

abbrev pub field_of : StepField → Field
field_of (Rule n) = the_rule n
field_of (Way w) = the_way w
field_of (Place p) = the_place p
field_of (Supply v t) = the_term v t.now

-- the bit of the map byte that a kind of field has
abbrev pub kind_bit : FieldKind → ℕ
kind_bit KindRule = 0
kind_bit KindWay = 1
kind_bit KindPlace = 2
kind_bit (KindSupply v) = bit_of (the_term v [])

-- the field of a bit was read, or none stands there
abbrev pub FieldRead : ℕ → List ℕ → Result (StepField × Bor (List ℕ)) StepRefusal → Type 0
FieldRead bit bs (Ok p) = FieldAt bit bs (field_of p.0) p.1.now
FieldRead bit bs (Err e) = (e ≡ Form) × ((f : Field) (rest : List ℕ) → FieldAt bit bs f rest → ⊥)

-- one bit more was read, or its field does not stand there
abbrev pub NextRead : Bool → ℕ → Reading → Result Reading StepRefusal → Type 0
NextRead given bit a (Ok b) = Next given bit (request_of a.said) a.rest.now (request_of b.said) b.rest.now
NextRead given bit a (Err e) = (e ≡ Form) × ((q : Request) (rest : List ℕ) → Next given bit (request_of a.said) a.rest.now q rest → ⊥)

-- all fields were read, or the bytes are not those of the map's fields
abbrev pub FieldsRead : ℕ → List ℕ → Result StepRecord StepRefusal → Type 0
FieldsRead map bs (Ok s) = Fields map bits blank bs (request_of s)
FieldsRead map bs (Err e) = (e ≡ Form) × ((q : Request) → Fields map bits blank bs q → ⊥)

-- the record was read, or it is not well-formed
abbrev pub StepRead : ℕ → List ℕ → Result StepRecord StepRefusal → Type 0
StepRead events bs (Ok s) = Says events bs (request_of s)
StepRead events bs (Err e) = (e ≡ Form) × ((q : Request) → Says events bs q → ⊥)
