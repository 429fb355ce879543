-- What can be said by a step record, and that nothing else can.
-- Assumes nothing.
use Rattle.std.proofs.Common.{ℕ, zero, suc, ◌<◌, ◌≤◌, Bool, true, false, List, [], ◌∷◌, ◌++◌, length, All, Some, None, Decides, Option, sym, ap, subst, arith}
use Rattle.std.proofs.lemmas.List.Elements.{All-head, All-tail}
use Rattle.algebra.specs.Terms.{Term, leaf, never, node}
use Rattle.algebra.specs.Texts.{text_of}
use Rattle.algebra.specs.declared.Variable.{Variable}
use Rattle.algebra.specs.declared.Variable.TheVariants.{X, Y, Z}
use Rattle.steps.specs.Records.{Request, Field, the_rule, the_way, the_place, the_term, Written, put, Next, Fields, Says, blank, bits, bit_stands, supplied_for}
use Rattle.steps.specs.Readings.{bytes_of, request_of}
use Rattle.steps.specs.declared.record.StepRecord.{StepRecord}
use Rattle.assembly.specs.Writing.{Fits, Each, Sized, WritableTerm, Sayable, Bytes}

-- what holds of each of three
three : {A : Type 0} (P : A → Type 0) (x y z : A) → P x → P y → P z → All P (x ∷ (y ∷ (z ∷ [])))
three P x y z p q r zero d h = p
three P x y z p q r (suc zero) d h = q
three P x y z p q r (suc (suc zero)) d h = r
three P x y z p q r (suc (suc (suc k))) d h = absurd (omega arith)

-- a rule of the sheet and a place can be said where the terms can be written
pub decides_sayable : (events : ℕ) (s : StepRecord) (b : Bool) → (1 ≤ s.rule) × (s.rule ≤ 42) → s.place < 65536 → Decides b (All (λ term. WritableTerm events (bytes_of term)) (s.supplied.x ∷ (s.supplied.y ∷ (s.supplied.z ∷ [])))) → Decides b (Sayable events (request_of s))
decides_sayable events s b n p d = (
  (λ t.
      let all = d.0 t in
      record {
        number = n;
        place = p;
        terms = λ v. elim v as (λ u. WritableTerm events (supplied_for (request_of s) u)) [
          | X ↦ all 0 None (omega arith)
          | Y ↦ all 1 None (omega arith)
          | Z ↦ all 2 None (omega arith)
        ];
      }),
  λ w. d.1 (three (λ term. WritableTerm events (bytes_of term)) s.supplied.x s.supplied.y s.supplied.z (w.terms X) (w.terms Y) (w.terms Z)),
)

-- a whole term has a byte
some_bytes : (t : Term ℕ) → 1 ≤ length (text_of t)
some_bytes (leaf v) = omega arith
some_bytes never = omega arith
some_bytes (node o l r) = omega arith

fits_writable : (events : ℕ) (v : Variable) (o : Option (List ℕ)) → WritableTerm events o → Each (λ t. Fits (the_term v t)) o
fits_writable events v None w = tt
fits_writable events v (Some t) w = (omega (arith, some_bytes w.0.term, ap length w.0.written), w.1)

pub sized : (events : ℕ) (q : Request) → Sayable events q → Sized q
sized events q s = record { place = s.place; terms = λ v. fits_writable events v (supplied_for q v) (s.terms v) }

-- WHAT BYTES SAY IS SIZED

blank_sized : Sized blank
blank_sized = record { place = omega arith; terms = λ v. elim v as (λ u. Each (λ t. Fits (the_term u t)) (supplied_for blank u)) [ X ↦ tt | Y ↦ tt | Z ↦ tt ] }

byte : (x : ℕ) (xs : List ℕ) → Bytes (x ∷ xs) → x < 256
byte x xs h = All-head (λ b. b < 256) x xs h

bytes_past : (x : ℕ) (xs : List ℕ) → Bytes (x ∷ xs) → Bytes xs
bytes_past x xs h = All-tail (λ b. b < 256) x xs h

bytes_after : (xs ys : List ℕ) → Bytes (xs ++ ys) → Bytes ys
bytes_after [] ys h = h
bytes_after (x ∷ xs) ys h = bytes_after xs ys (bytes_past x (xs ++ ys) h)

-- the same for each letter
supplies : (P : Variable → Option (List ℕ) → Type 0) (q : Request) → P X q.x → P Y q.y → P Z q.z → (v : Variable) → P v (supplied_for q v)
supplies P q a b c v = elim v as (λ u. P u (supplied_for q u)) [ X ↦ a | Y ↦ b | Z ↦ c ]

abbrev Writable : Variable → Option (List ℕ) → Type 0
Writable v o = Each (λ t. Fits (the_term v t)) o

put_sized : (f : Field) (bs rest : List ℕ) (q : Request) → Written f bs rest → Bytes bs → Sized q → Sized (put f q) × Bytes rest
put_sized (the_rule n) bs rest q w h s = (record { place = s.place; terms = supplies Writable (put (the_rule n) q) (s.terms X) (s.terms Y) (s.terms Z) }, bytes_past _ rest (subst Bytes w h))
put_sized (the_way y) bs rest q w h s = (record { place = s.place; terms = supplies Writable (put (the_way y) q) (s.terms X) (s.terms Y) (s.terms Z) }, bytes_past _ rest (subst Bytes w h))
put_sized (the_place p) bs rest q w h s =
    let b = subst Bytes w.2 h in
    let a = bytes_past w.0 (w.1 ∷ rest) b in
    (record { place = omega (arith, byte w.0 (w.1 ∷ rest) b, byte w.1 rest a, w.3); terms = supplies Writable (put (the_place p) q) (s.terms X) (s.terms Y) (s.terms Z) }, bytes_past w.1 rest a)
put_sized (the_term X t) bs rest q w h s = (record { place = s.place; terms = supplies Writable (put (the_term X t) q) (w.0, w.1) (s.terms Y) (s.terms Z) }, bytes_after t rest (bytes_past (length t) (t ++ rest) (subst Bytes w.2 h)))
put_sized (the_term Y t) bs rest q w h s = (record { place = s.place; terms = supplies Writable (put (the_term Y t) q) (s.terms X) (w.0, w.1) (s.terms Z) }, bytes_after t rest (bytes_past (length t) (t ++ rest) (subst Bytes w.2 h)))
put_sized (the_term Z t) bs rest q w h s = (record { place = s.place; terms = supplies Writable (put (the_term Z t) q) (s.terms X) (s.terms Y) (w.0, w.1) }, bytes_after t rest (bytes_past (length t) (t ++ rest) (subst Bytes w.2 h)))

next_sized : (stands : Bool) (bit : ℕ) (q r : Request) (bs rest : List ℕ) → Next stands bit q bs r rest → Bytes bs → Sized q → Sized r × Bytes rest
next_sized true bit q r bs rest n h s =
    let p = put_sized n.0 bs rest q n.1.1 h s in
    (subst Sized (sym n.2) p.0, p.1)
next_sized false bit q r bs rest n h s = (subst Sized (sym n.0) s, subst Bytes n.1 h)

fields_sized : (map : ℕ) (each : List ℕ) (q : Request) (bs : List ℕ) (r : Request) → Fields map each q bs r → Bytes bs → Sized q → Sized r
fields_sized map [] q bs r f h s = subst Sized (sym f.1) s
fields_sized map (bit ∷ each) q bs r f h s =
    let n = next_sized (bit_stands map bit) bit q f.0 bs f.1 f.2 h s in
    fields_sized map each f.0 f.1 r f.3 n.1 n.0

short : (v : Variable) (o : Option (List ℕ)) → Writable v o → Each (λ t. length t ≤ 255) o
short v None w = tt
short v (Some t) w = w.1

pub said_sayable : (events : ℕ) (bs : List ℕ) (q : Request) → Bytes bs → Says events bs q → Sayable events q
said_sayable events bs q h s =
    let all = fields_sized s.map bits blank s.fields q s.said (bytes_past s.map s.fields (subst Bytes s.begins h)) blank_sized in
    record { number = s.number; place = all.place; terms = λ v. (s.terms v, short v (supplied_for q v) (all.terms v)) }
