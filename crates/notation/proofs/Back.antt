-- The words that are written are read back as the same.
-- Assumes nothing.
use Rattle.std.proofs.Common.{◌≡◌, ℕ, ◌^◌, ◌<◌, ◌≤◌, eqb, List, [], ◌∷◌, ◌++◌, get_or, Some, None, codes, decimal, Option, sym, refl, ap, subst, inl, inr, append-nil, arith, MatchOption}
use Rattle.std.proofs.lemmas.Fmt.{decimal_is_IsNumeral}
use Rattle.std.proofs.lemmas.Bool.{cond_both, eqb-true}
use Rattle.algebra.specs.Rules.{variable_byte}
use Rattle.algebra.specs.declared.Variable.{Variable}
use Rattle.algebra.specs.declared.Variable.TheVariants.{X, Y, Z}
use Rattle.algebra.specs.declared.Way.{Way}
use Rattle.algebra.specs.declared.Way.TheVariants.{Forward, Backward}
use Rattle.steps.specs.Readings.{request_of}
use Rattle.steps.specs.Records.{Request}
use Rattle.steps.specs.declared.record.StepRecord.{StepRecord}
use Rattle.trees.specs.declared.record.Record.{Record}
use Rattle.trees.specs.declared.record.Record.TheVariants as tree
use Rattle.trees.specs.Records.{first, second}
use Rattle.trees.specs.declared.record.Kind.TheVariants.{Joins, Triggers}
use Rattle.notation.specs.Numbers.{Number}
use Rattle.notation.specs.Records.{RecordWords, record_words}
use Rattle.notation.specs.Steps.{NotFirst, WayWords, PlaceWords, TermWords, StepWords, term_word, way_part, place_part, term_part, step_words}
use Rattle.notation.proofs.Naming.{word_names}
use Rattle.notation.proofs.Recording.{one_record}
use Rattle.notation.proofs.Stepping.{one_step}

-- RECORDS

record_words_lem : (x : Record) → first x < 256 → second x < 256 → RecordWords x (record_words x)
record_words_lem (tree.Joins g a b) h k = record { kind = Joins g; one = _; two = _; first = a; second = b; is = refl; first_named = word_names a h; second_named = word_names b k; made = refl }
record_words_lem (tree.Triggers t d) h k = record { kind = Triggers; one = _; two = _; first = t; second = d; is = refl; first_named = word_names t h; second_named = word_names d k; made = refl }

record_at : (ws : List (List ℕ)) (r : Option Record) → MatchOption r ((x : Record) → RecordWords x ws → ⊥) (λ x. RecordWords x ws) → (x : Record) → RecordWords x ws → r ≡ Some x
record_at ws (Some y) c x s = ap Some (one_record ws y x c s)
record_at ws None c x s = absurd (c x s)

pub record_back : (ws : List (List ℕ)) (r : Option Record) → MatchOption r ((x : Record) → RecordWords x ws → ⊥) (λ x. RecordWords x ws) → (x : Record) → first x < 256 → second x < 256 → ws ≡ record_words x → r ≡ Some x
record_back ws r c x h k e = record_at ws r c x (subst (RecordWords x) (sym e) (record_words_lem x h k))

-- STEPS

-- the first byte of the first word
abbrev lead : List (List ℕ) → ℕ
lead ws = get_or (get_or ws 0 []) 0 0

not_lead : (w : List ℕ) (ws : List (List ℕ)) → (lead ws ≡ get_or w 0 0 → ⊥) → NotFirst w ws
not_lead w ws h rest e = h (ap lead e)

-- the term parts begin with nothing, or with a letter
lead_z : (z : Option (List ℕ)) → lead (term_part Z z) ≡ 89 → ⊥
lead_z None e = omega arith
lead_z (Some t) e = omega arith

lead_y : (y z : Option (List ℕ)) → lead (term_part Y y ++ term_part Z z) ≡ 88 → ⊥
lead_y None None e = omega arith
lead_y None (Some t) e = omega arith
lead_y (Some s) z e = omega arith

lead_x : (x y z : Option (List ℕ)) → lead (term_part X x ++ (term_part Y y ++ term_part Z z)) ≤ 90
lead_x None None None = omega arith
lead_x None None (Some t) = omega arith
lead_x None (Some s) z = omega arith
lead_x (Some r) y z = omega arith

lead_place : (p : ℕ) (x y z : Option (List ℕ)) → lead (place_part p ++ (term_part X x ++ (term_part Y y ++ term_part Z z))) ≤ 97
lead_place p x y z =
    cond_both (eqb p 0) [] (codes "at" ∷ decimal p ∷ []) (λ l. lead (l ++ (term_part X x ++ (term_part Y y ++ term_part Z z))) ≤ 97)
    (λ h. omega (arith, lead_x x y z))
    (λ h. omega arith)

term_part_lem : (v : Variable) (o : Option (List ℕ)) (rest : List (List ℕ)) → (lead rest ≡ variable_byte v → ⊥) → TermWords v o (term_part v o ++ rest) rest
term_part_lem v None rest h = (refl, λ t. not_lead (term_word v t) rest h)
term_part_lem v (Some t) rest h = refl

way_part_lem : (w : Way) (rest : List (List ℕ)) → lead rest ≤ 97 → WayWords w (way_part w ++ rest) rest
way_part_lem Forward rest h = (refl, not_lead (codes "back") rest (λ e. omega arith))
way_part_lem Backward rest h = refl

decimal_number : (n : ℕ) → n < 2 ^ 64 → Number (decimal n) n
decimal_number n h = let r = decimal_is_IsNumeral n h in record { some = r.0.0; digits = r.0.1; is = r.1 }

place_part_lem : (p : ℕ) (rest : List (List ℕ)) → p < 65536 → lead rest ≤ 90 → PlaceWords p (place_part p ++ rest) rest
place_part_lem p rest h k =
    cond_both (eqb p 0) [] (codes "at" ∷ decimal p ∷ []) (λ l. PlaceWords p (l ++ rest) rest)
    (λ e. inr (record { zero = eqb-true p 0 e; same = refl; other = not_lead (codes "at") rest (λ l. omega arith) }))
    (λ e. inl (record { digits = decimal p; is = refl; few = h; number = decimal_number p (omega arith) }))

step_words_lem : (q : Request) → q.rule < 256 → q.place < 65536 → StepWords q (step_words q)
step_words_lem q h k = record {
  rule = decimal q.rule;
  after_rule = _;
  after_way = _;
  after_place = _;
  after_x = _;
  after_y = term_part Z q.z;
  is = refl;
  few = h;
  number = decimal_number q.rule (omega arith);
  way = way_part_lem q.way _ (lead_place q.place q.x q.y q.z);
  place = place_part_lem q.place _ k (lead_x q.x q.y q.z);
  x = term_part_lem X q.x _ (lead_y q.y q.z);
  y = term_part_lem Y q.y (term_part Z q.z) (lead_z q.z);
  z = subst (λ (l : List (List ℕ)). TermWords Z q.z l []) (append-nil (term_part Z q.z)) (term_part_lem Z q.z [] (λ e. omega arith));
}

step_at_lem : (ws : List (List ℕ)) (r : Option StepRecord) → MatchOption r ((q : Request) → StepWords q ws → ⊥) (λ s. StepWords (request_of s) ws) → (q : Request) → StepWords q ws → MatchOption r ⊥ (λ s. request_of s ≡ q)
step_at_lem ws (Some s) c q w = one_step ws (request_of s) q c w
step_at_lem ws None c q w = c q w

pub step_back : (ws : List (List ℕ)) (r : Option StepRecord) → MatchOption r ((q : Request) → StepWords q ws → ⊥) (λ s. StepWords (request_of s) ws) → (q : Request) → q.rule < 256 → q.place < 65536 → ws ≡ step_words q → MatchOption r ⊥ (λ s. request_of s ≡ q)
step_back ws r c q h k e = step_at_lem ws r c q (subst (StepWords q) (sym e) (step_words_lem q h k))
