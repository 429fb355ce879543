-- Fields written one after another are a step record.
-- Assumes nothing.
use Rattle.std.proofs.Common.{◌≡◌, ℕ, zero, suc, ◌<◌, ◌≤◌, Bool, true, false, ◌&&◌, eqb, ltb, cond, ◌*◌, ◌+◌, List, [], ◌∷◌, ◌++◌, length, map, take, get_or, arith, is_some, Some, None, Option, sym, refl, ap, ◌∙◌, subst, append_assoc, append-nil}
use Rattle.std.proofs.lemmas.Bool.{cond_both, eqb-true, ltb-true, and_parts}
use Rattle.algebra.specs.declared.Variable.{Variable}
use Rattle.algebra.specs.declared.Variable.TheVariants.{X, Y, Z}
use Rattle.algebra.specs.declared.Way.{Way}
use Rattle.algebra.specs.declared.Way.TheVariants.{Forward, Backward}
use Rattle.steps.specs.Records.{Request, Field, the_rule, the_place, the_term, bit_of, bit_stands, put, Next, Fields, Says, blank, bits}
use Rattle.steps.specs.Readings.{field_of}
use Rattle.steps.specs.declared.record.StepField.{StepField}
use Rattle.std.specs.Option.{option_map}
use Rattle.std.specs.Int.{from_bool}
use Rattle.assembly.specs.Writing.{Added, AddedIf, Fits, Each, Sized, way_field, place_field, term_field, fields_of, map_of, map_of_all, Sayable}

-- a term after its length
pub term_added : (v : Variable) (t old mid new : List ℕ) → 1 ≤ length t → length t ≤ 255 → mid ≡ old ++ (length t ∷ []) → new ≡ mid ++ t → Added (the_term v t) old new
term_added v t old mid new a b e f = record {
  bytes = length t ∷ t;
  after = f ∙ ap (λ (x : List ℕ). x ++ t) e ∙ append_assoc old (length t ∷ []) t;
  written = λ rest. (a, b, refl);
}

-- the field is that of the bit, and leads from the request q to q'
abbrev Leads : Option Field → ℕ → Request → Request → Type 0
Leads None bit q q' = q' ≡ q
Leads (Some f) bit q q' = (bit ≡ bit_of f) × (q' ≡ put f q)

-- new is old with the fields of these bits after it, which lead from the request q to q'
abbrev Parts : ℕ → List ℕ → Request → List ℕ → List ℕ → Request → Type 0
Parts map bs q old new q' = (fields : List ℕ) × (new ≡ old ++ fields) × Fields map bs q fields q'

part : (o : Option Field) (bit : ℕ) (q q' : Request) (old new : List ℕ) → AddedIf o old new → Leads o bit q q' → (w : List ℕ) × (new ≡ old ++ w) × ((rest : List ℕ) → Next (is_some o) bit q (w ++ rest) q' rest)
part None bit q q' old new a l = ([], a ∙ sym (append-nil old), λ rest. (l, refl))
part (Some f) bit q q' old new a l = (a.bytes, a.after, λ rest. (f, (l.0, a.written rest), l.1))

parts_none : (map : ℕ) (q : Request) (old : List ℕ) → Parts map [] q old old q
parts_none map q old = ([], sym (append-nil old), (refl, refl))

parts_more : (map : ℕ) (o : Option Field) (bit : ℕ) (bs : List ℕ) (q q' q'' : Request) (old new last : List ℕ) → AddedIf o old new → Leads o bit q q' → bit_stands map bit ≡ is_some o → Parts map bs q' new last q'' → Parts map (bit ∷ bs) q old last q''
parts_more map o bit bs q q' q'' old new last a l s p =
    let w = part o bit q q' old new a l in (
      w.0 ++ p.0,
      p.1 ∙ ap (λ (x : List ℕ). x ++ p.0) w.1 ∙ append_assoc old w.0 p.0,
      (q', p.0, subst (λ (b : Bool). Next b bit q (w.0 ++ p.0) q' p.0) (sym s) (w.2 p.0), p.2),
    )

-- WHAT IS SAID AFTER EACH FIELD

abbrev up_to : ℕ → Way → ℕ → Option (List ℕ) → Option (List ℕ) → Option (List ℕ) → Request
up_to n w p x y z = record { rule = n; way = w; place = p; x = x; y = y; z = z }

leads_way : (n : ℕ) (w : Way) → Leads (way_field w) 1 (up_to n Forward 0 None None None) (up_to n w 0 None None None)
leads_way n Forward = refl
leads_way n Backward = (refl, refl)

leads_place : (n : ℕ) (w : Way) (p : ℕ) → Leads (place_field p) 2 (up_to n w 0 None None None) (up_to n w p None None None)
leads_place n w p =
    cond_both (eqb p 0) None (Some (the_place p)) (λ o. Leads o 2 (up_to n w 0 None None None) (up_to n w p None None None))
    (λ h. ap (λ (k : ℕ). up_to n w k None None None) (eqb-true p 0 h))
    (λ h. (refl, refl))

leads_x : (n : ℕ) (w : Way) (p : ℕ) (x : Option (List ℕ)) → Leads (term_field X x) 3 (up_to n w p None None None) (up_to n w p x None None)
leads_x n w p None = refl
leads_x n w p (Some t) = (refl, refl)

leads_y : (n : ℕ) (w : Way) (p : ℕ) (x y : Option (List ℕ)) → Leads (term_field Y y) 4 (up_to n w p x None None) (up_to n w p x y None)
leads_y n w p x None = refl
leads_y n w p x (Some t) = (refl, refl)

leads_z : (n : ℕ) (w : Way) (p : ℕ) (x y z : Option (List ℕ)) → Leads (term_field Z z) 5 (up_to n w p x y None) (up_to n w p x y z)
leads_z n w p x y None = refl
leads_z n w p x y (Some t) = (refl, refl)

-- the fields of what can be written can be written
fits_way : (w : Way) → Each Fits (way_field w)
fits_way Forward = tt
fits_way Backward = tt

fits_place : (p : ℕ) → Fits (the_place p) → Each Fits (place_field p)
fits_place p h = cond_both (eqb p 0) None (Some (the_place p)) (Each Fits) (λ _. tt) (λ _. h)

fits_term : (v : Variable) (o : Option (List ℕ)) → Each (λ t. Fits (the_term v t)) o → Each Fits (term_field v o)
fits_term v None h = tt
fits_term v (Some t) h = h

-- THE MAP BYTE

abbrev every : (Bool → Bool) → Bool
every f = f true && f false

every_at : (f : Bool → Bool) → every f ≡ true → (b : Bool) → f b ≡ true
every_at f h true = (and_parts (f true) (f false) h).0
every_at f h false = (and_parts (f true) (f false) h).1

abbrev alike : Bool → Bool → Bool
alike true b = b
alike false true = false
alike false false = true

alike_same : (a b : Bool) → alike a b ≡ true → a ≡ b
alike_same true b h = sym h
alike_same false true h = h
alike_same false false h = refl

-- the bits of the map byte are the flags
abbrev flagged : Bool → Bool → Bool → Bool → Bool → Bool
flagged w p x y z =
    let m = map_of w p x y z in
    ltb m 64 && (bit_stands m 0 && (alike (bit_stands m 1) w && (alike (bit_stands m 2) p && (alike (bit_stands m 3) x && (alike (bit_stands m 4) y && alike (bit_stands m 5) z)))))

all_flagged : every (λ w. every (λ p. every (λ x. every (λ y. every (λ z. flagged w p x y z))))) ≡ true
all_flagged = refl

record MapStands (m : ℕ) (w p x y z : Bool) : Type 0 where
  low : m < 64
  rule : bit_stands m 0 ≡ true
  way : bit_stands m 1 ≡ w
  place : bit_stands m 2 ≡ p
  in_x : bit_stands m 3 ≡ x
  in_y : bit_stands m 4 ≡ y
  in_z : bit_stands m 5 ≡ z

map_stands : (w p x y z : Bool) → MapStands (map_of w p x y z) w p x y z
map_stands w p x y z =
    let m = map_of w p x y z in
    let all : flagged w p x y z ≡ true =
    every_at (flagged w p x y)
    (every_at (λ b. every (flagged w p x b))
    (every_at (λ b. every (λ c. every (flagged w p b c)))
    (every_at (λ b. every (λ c. every (λ d. every (flagged w b c d))))
    (every_at (λ b. every (λ c. every (λ d. every (λ e. every (flagged b c d e))))) all_flagged w) p) x) y) z in
    let a = and_parts (ltb m 64) _ all in
    let b = and_parts (bit_stands m 0) _ a.1 in
    let c = and_parts (alike (bit_stands m 1) w) _ b.1 in
    let d = and_parts (alike (bit_stands m 2) p) _ c.1 in
    let e = and_parts (alike (bit_stands m 3) x) _ d.1 in
    let f = and_parts (alike (bit_stands m 4) y) _ e.1 in
    record {
      low = ltb-true m 64 a.0;
      rule = b.0;
      way = alike_same _ _ c.0;
      place = alike_same _ _ d.0;
      in_x = alike_same _ _ e.0;
      in_y = alike_same _ _ f.0;
      in_z = alike_same _ _ f.1;
    }

-- THE RECORD

module _ (events : ℕ) (q : Request) (map : ℕ) where
  says_written : (o₁ o₂ o₃ o₄ o₅ o₆ : List ℕ) → o₁ ≡ map ∷ q.rule ∷ [] → AddedIf (way_field q.way) o₁ o₂ → AddedIf (place_field q.place) o₂ o₃ → AddedIf (term_field X q.x) o₃ o₄ → AddedIf (term_field Y q.y) o₄ o₅ → AddedIf (term_field Z q.z) o₅ o₆ → map ≡ map_of (is_some (way_field q.way)) (is_some (place_field q.place)) (is_some (term_field X q.x)) (is_some (term_field Y q.y)) (is_some (term_field Z q.z)) → Sayable events q → Says events o₆ q
  says_written o₁ o₂ o₃ o₄ o₅ o₆ e a₁ a₂ a₃ a₄ a₅ m s =
      let b₁ = is_some (way_field q.way) in
      let b₂ = is_some (place_field q.place) in
      let b₃ = is_some (term_field X q.x) in
      let b₄ = is_some (term_field Y q.y) in
      let b₅ = is_some (term_field Z q.z) in
      let stands : MapStands map b₁ b₂ b₃ b₄ b₅ = subst (λ (k : ℕ). MapStands k b₁ b₂ b₃ b₄ b₅) (sym m) (map_stands b₁ b₂ b₃ b₄ b₅) in
      let n = q.rule in
      let w = q.way in
      let p = q.place in
      let a₀ : Added (the_rule n) (map ∷ []) o₁ = record { bytes = n ∷ []; after = e; written = λ rest. refl } in
      let all : Parts map bits blank (map ∷ []) o₆ q =
      parts_more map (Some (the_rule n)) 0 (1 ∷ 2 ∷ 3 ∷ 4 ∷ 5 ∷ []) blank (up_to n Forward 0 None None None) q (map ∷ []) o₁ o₆ a₀ (refl, refl) stands.rule
      (parts_more map (way_field w) 1 (2 ∷ 3 ∷ 4 ∷ 5 ∷ []) _ (up_to n w 0 None None None) q o₁ o₂ o₆ a₁ (leads_way n w) stands.way
      (parts_more map (place_field p) 2 (3 ∷ 4 ∷ 5 ∷ []) _ (up_to n w p None None None) q o₂ o₃ o₆ a₂ (leads_place n w p) stands.place
      (parts_more map (term_field X q.x) 3 (4 ∷ 5 ∷ []) _ (up_to n w p q.x None None) q o₃ o₄ o₆ a₃ (leads_x n w p q.x) stands.in_x
      (parts_more map (term_field Y q.y) 4 (5 ∷ []) _ (up_to n w p q.x q.y None) q o₄ o₅ o₆ a₄ (leads_y n w p q.x q.y) stands.in_y
      (parts_more map (term_field Z q.z) 5 [] _ q q o₅ o₆ o₆ a₅ (leads_z n w p q.x q.y q.z) stands.in_z
      (parts_none map q o₆)))))) in
      record {
        map = map;
        fields = all.0;
        begins = all.1;
        low = stands.low;
        first = stands.rule;
        said = all.2;
        number = s.number;
        terms = λ v. (s.terms v).0;
      }

-- THE FIELDS ONE AFTER ANOTHER

-- the bytes of those that stand were added in order
abbrev pub AllAdded : List (Option Field) → List ℕ → List ℕ → Type 0
AllAdded [] old new = new ≡ old
AllAdded (o ∷ os) old new = (mid : List ℕ) × AddedIf o old mid × AllAdded os mid new

pub one_more : {A : Type 0} (f : A → Option Field) (xs : List A) (d : A) (i : ℕ) (old mid new : List ℕ) → i < length xs → AllAdded (map f (take i xs)) old mid → AddedIf (f (get_or xs i d)) mid new → AllAdded (map f (take (suc i) xs)) old new
one_more f [] d i old mid new h all a = absurd (omega arith)
one_more f (x ∷ xs) d zero old mid new h all a = (new, subst (λ (w : List ℕ). AddedIf (f x) w new) all a, refl)
one_more f (x ∷ xs) d (suc i) old mid new h (w, b, all) a = (w, b, one_more f xs d i w mid new (omega arith) all a)

-- each of those that stand can be written
abbrev Fitting : List (Option Field) → Type 0
Fitting [] = Unit {0}
Fitting (o ∷ os) = Each Fits o × Fitting os

fitting : (q : Request) → Sized q → Fitting (fields_of q)
fitting q s = (fits_way q.way, (fits_place q.place s.place, (fits_term X q.x (s.terms X), (fits_term Y q.y (s.terms Y), (fits_term Z q.z (s.terms Z), tt)))))

fits_one : {A : Type 0} (f : A → Option Field) (xs : List A) (d : A) (i : ℕ) → f d ≡ None → Fitting (map f xs) → Each Fits (f (get_or xs i d))
fits_one f [] d i e h = rw e tt
fits_one f (x ∷ xs) d zero e h = h.0
fits_one f (x ∷ xs) d (suc i) e h = fits_one f xs d i e h.1

pub fits_each : (q : Request) → Sized q → (xs : List (Option StepField)) (i : ℕ) → map (option_map field_of) xs ≡ fields_of q → Each Fits (option_map field_of (get_or xs i None))
fits_each q s xs i e = fits_one (option_map field_of) xs None i refl (subst Fitting (sym e) (fitting q s))

flags : {A B : Type 0} (f : A → B) (xs : List (Option A)) → map is_some xs ≡ map is_some (map (option_map f) xs)
flags f [] = refl
flags f (None ∷ xs) = ap (λ (bs : List Bool). false ∷ bs) (flags f xs)
flags f (Some x ∷ xs) = ap (λ (bs : List Bool). true ∷ bs) (flags f xs)

pub says_all : (events : ℕ) (q : Request) (byte : ℕ) (xs : List (Option StepField)) (new : List ℕ) → map (option_map field_of) xs ≡ fields_of q → byte ≡ map_of_all (map is_some xs) → AllAdded (map (option_map field_of) xs) (byte ∷ q.rule ∷ []) new → Sayable events q → Says events new q
says_all events q byte xs new e m all s =
    let (o₂, a₁, (o₃, a₂, (o₄, a₃, (o₅, a₄, (o₆, a₅, last))))) = subst (λ (os : List (Option Field)). AllAdded os (byte ∷ q.rule ∷ []) new) e all in
    says_written events q byte _ o₂ o₃ o₄ o₅ new refl a₁ a₂ a₃ a₄ (subst (λ (w : List ℕ). AddedIf (term_field Z q.z) o₅ w) (sym last) a₅)
    (m ∙ ap map_of_all (flags field_of xs ∙ ap (λ (os : List (Option Field)). map is_some os) e)) s

-- THE MAP BYTE FROM NUMBERS

twofold : (n : ℕ) (b : Bool) → n * from_bool b ≡ cond b n 0
twofold n true = omega arith
twofold n false = omega arith

pub map_added : (w p x y z : Bool) → 1 + 2 * from_bool w + 4 * from_bool p + 8 * from_bool x + 16 * from_bool y + 32 * from_bool z ≡ map_of w p x y z
map_added w p x y z = omega (arith, twofold 2 w, twofold 4 p, twofold 8 x, twofold 16 y, twofold 32 z)

pub five : {A : Type 0} (xs : List (Option A)) → length xs ≡ 5 → map_of (is_some (get_or xs 0 None)) (is_some (get_or xs 1 None)) (is_some (get_or xs 2 None)) (is_some (get_or xs 3 None)) (is_some (get_or xs 4 None)) ≡ map_of_all (map is_some xs)
five [] h = absurd (omega arith)
five (a ∷ []) h = absurd (omega arith)
five (a ∷ b ∷ []) h = absurd (omega arith)
five (a ∷ b ∷ c ∷ []) h = absurd (omega arith)
five (a ∷ b ∷ c ∷ d ∷ []) h = absurd (omega arith)
five (a ∷ b ∷ c ∷ d ∷ e ∷ []) h = refl
five (a ∷ b ∷ c ∷ d ∷ e ∷ f ∷ xs) h = absurd (omega arith)
