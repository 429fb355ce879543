-- The words that are written have no spaces.
-- Assumes nothing.
use Rattle.std.proofs.Common.{◌≡◌, ℕ, ◌+◌, ◌-◌, ◌^◌, ◌<◌, eqb, ltb, List, [], ◌∷◌, Some, None, codes, decimal, All, Option, arith}
use Rattle.std.specs.Str.Parse.{AllDigits}
use Rattle.std.proofs.lemmas.Fmt.{decimal_is_IsNumeral}
use Rattle.std.proofs.lemmas.Str.Parse.{digit_from_value}
use Rattle.std.proofs.lemmas.Bool.{cond_both}
use Rattle.std.proofs.lemmas.List.Elements.{All-append, All-cons, All-from_recursion, All-nil}
use Rattle.algebra.specs.Rules.{variable_byte}
use Rattle.algebra.specs.declared.Variable.{Variable}
use Rattle.algebra.specs.declared.Variable.TheVariants.{X, Y, Z}
use Rattle.algebra.specs.declared.Way.{Way}
use Rattle.algebra.specs.declared.Way.TheVariants.{Forward, Backward}
use Rattle.trees.specs.declared.record.Gate.{Gate}
use Rattle.trees.specs.declared.record.Gate.TheVariants.{Or, And, Pand, Before}
use Rattle.trees.specs.declared.record.Record.TheVariants as tree
use Rattle.notation.specs.Inputs.{input_word}
use Rattle.notation.specs.Plainly.{RecordsPlain, StepsPlain}
use Rattle.notation.specs.Records.{gate_word}
use Rattle.notation.specs.Steps.{way_part, place_part, term_part, term_word, SpacelessTerm}
use Rattle.notation.specs.Words.{Plain}

abbrev IsOther : ℕ → Type 0
IsOther b = b ≡ 32 → ⊥

digits_spaceless : (ds : List ℕ) → AllDigits 10 ds → All IsOther ds
digits_spaceless [] d = All-nil IsOther
digits_spaceless (c ∷ ds) d = All-cons IsOther c ds (λ e. let p = digit_from_value c d.0 in omega (arith, p.0)) (digits_spaceless ds d.1)

decimal_plain : (n : ℕ) → n < 2 ^ 64 → Plain (decimal n)
decimal_plain n h = let r = decimal_is_IsNumeral n h in record { some = r.0.0; spaceless = digits_spaceless _ r.0.1 }

after_plain : (b n : ℕ) → (b ≡ 32 → ⊥) → n < 2 ^ 64 → Plain (b ∷ decimal n)
after_plain b n k h = record { some = omega arith; spaceless = All-cons IsOther b (decimal n) k (decimal_plain n h).spaceless }

input_plain : (i : ℕ) → i < 256 → Plain (input_word i)
input_plain i h =
    cond_both (ltb i 24) _ _ Plain
    (λ a. record { some = omega arith; spaceless = All-from_recursion IsOther ((97 + i) ∷ []) ((λ e. omega arith), tt) })
    (λ a. cond_both (ltb i 64) _ _ Plain (λ b. after_plain 101 i (λ e. omega arith) (omega arith)) (λ b. after_plain 103 (i - 64) (λ e. omega arith) (omega arith)))

gate_plain : (g : Gate) → Plain (gate_word g)
gate_plain Or = record { some = omega arith; spaceless = All-from_recursion IsOther (gate_word Or) ((λ e. omega arith), ((λ e. omega arith), tt)) }
gate_plain And = record { some = omega arith; spaceless = All-from_recursion IsOther (gate_word And) ((λ e. omega arith), ((λ e. omega arith), ((λ e. omega arith), tt))) }
gate_plain Pand = record { some = omega arith; spaceless = All-from_recursion IsOther (gate_word Pand) ((λ e. omega arith), ((λ e. omega arith), ((λ e. omega arith), ((λ e. omega arith), tt)))) }
gate_plain Before = record { some = omega arith; spaceless = All-from_recursion IsOther (gate_word Before) ((λ e. omega arith), ((λ e. omega arith), ((λ e. omega arith), ((λ e. omega arith), ((λ e. omega arith), ((λ e. omega arith), tt)))))) }

pub record_plain : RecordsPlain
record_plain (tree.Joins g a b) h k = All-from_recursion Plain (gate_word g ∷ input_word a ∷ input_word b ∷ []) (gate_plain g, (input_plain a h, (input_plain b k, tt)))
record_plain (tree.Triggers t d) h k =
    All-from_recursion Plain (codes "fdep" ∷ input_word t ∷ input_word d ∷ []) (record { some = omega arith; spaceless = All-from_recursion IsOther (codes "fdep") ((λ e. omega arith), ((λ e. omega arith), ((λ e. omega arith), ((λ e. omega arith), tt)))) }, (input_plain t h, (input_plain d k, tt)))

-- STEPS

way_plain : (w : Way) → All Plain (way_part w)
way_plain Forward = All-nil Plain
way_plain Backward = All-from_recursion Plain (codes "back" ∷ []) (record { some = omega arith; spaceless = All-from_recursion IsOther (codes "back") ((λ e. omega arith), ((λ e. omega arith), ((λ e. omega arith), ((λ e. omega arith), tt)))) }, tt)

place_plain : (p : ℕ) → p < 65536 → All Plain (place_part p)
place_plain p h =
    cond_both (eqb p 0) [] (codes "at" ∷ decimal p ∷ []) (All Plain) (λ e. All-nil Plain)
    (λ e. All-from_recursion Plain (codes "at" ∷ decimal p ∷ []) (record { some = omega arith; spaceless = All-from_recursion IsOther (codes "at") ((λ z. omega arith), ((λ z. omega arith), tt)) }, (decimal_plain p (omega arith), tt)))

letter_byte : (v : Variable) → variable_byte v ≡ 32 → ⊥
letter_byte X e = omega arith
letter_byte Y e = omega arith
letter_byte Z e = omega arith

term_plain : (v : Variable) (o : Option (List ℕ)) → SpacelessTerm o → All Plain (term_part v o)
term_plain v None s = All-nil Plain
term_plain v (Some t) s = All-from_recursion Plain (term_word v t ∷ []) (record { some = omega arith; spaceless = All-cons IsOther (variable_byte v) (61 ∷ t) (letter_byte v) (All-cons IsOther 61 t (λ e. omega arith) s) }, tt)

pub step_plain : StepsPlain
step_plain q h k s =
    All-cons Plain (decimal q.rule) _ (decimal_plain q.rule (omega arith))
    (All-append Plain (way_part q.way) _ (way_plain q.way)
    (All-append Plain (place_part q.place) _ (place_plain q.place k)
    (All-append Plain (term_part X q.x) _ (term_plain X q.x (s X))
    (All-append Plain (term_part Y q.y) _ (term_plain Y q.y (s Y)) (term_plain Z q.z (s Z))))))
