-- The letters of a term by the bytes of its text, and whole terms.
-- Assumes nothing.
use Rattle.std.proofs.Common.{◌≡◌, ◌≢◌, true, eqb, eq-eqb, Some, None, Option, MatchOption, ℕ, ◌+◌, ◌<◌, ◌≤◌, List, [], ◌∷◌, ◌++◌, length, take, drop, All, sym, refl, ap, ◌∙◌, subst, append-nil, arith, length-drop}
use Rattle.std.specs.Option.{option_eq}
use Rattle.std.proofs.lemmas.List.{take_at, drop_at}
use Rattle.std.proofs.lemmas.List.Elements.{All-nil, All-cons, All-head, All-tail, All-same, All-take, All-drop, All-append}
use Rattle.algebra.specs.declared.Operator.{Operator}
use Rattle.algebra.specs.declared.Operator.TheVariants.{Or, And, Before, Simultaneous, Inclusive}
use Rattle.algebra.specs.Terms.{Term, leaf, never, node, Among}
use Rattle.algebra.specs.Texts.{operator_byte, text_of, Whole}
use Rattle.algebra.proofs.Bytes.{one_text}
use Rattle.texts.specs.Spans.{Spans}

-- every byte is below that of event n
abbrev pub Below : ℕ → List ℕ → Type 0
Below n bs = All (λ b. b < 97 + n) bs

operator_low : (o : Operator) → operator_byte o < 97
operator_low Or = omega arith
operator_low And = omega arith
operator_low Before = omega arith
operator_low Simultaneous = omega arith
operator_low Inclusive = omega arith

pub all_left : (n : ℕ) (xs ys : List ℕ) → Below n (xs ++ ys) → Below n xs
all_left n xs ys h =
    All-same (λ b. b < 97 + n) xs (take (length xs) (xs ++ ys)) (sym (take_at xs ys (length xs) refl))
    (All-take (λ b. b < 97 + n) (length xs) (xs ++ ys) h)

pub all_right : (n : ℕ) (xs ys : List ℕ) → Below n (xs ++ ys) → Below n ys
all_right n xs ys h =
    All-same (λ b. b < 97 + n) ys (drop (length xs) (xs ++ ys)) (sym (drop_at xs ys (length xs) refl))
    (All-drop (λ b. b < 97 + n) (length xs) (xs ++ ys) h)

one_below : (n b : ℕ) → b < 97 + n → Below n (b ∷ [])
one_below n b h = All-cons (λ b. b < 97 + n) b [] h (All-nil (λ b. b < 97 + n))

pub among_below : (n : ℕ) (t : Term ℕ) → Among n t → Below n (text_of t)
among_below n (leaf v) h = one_below n (97 + v) (omega arith)
among_below n never h = one_below n 78 (omega arith)
among_below n (node o l r) h =
    All-cons (λ b. b < 97 + n) (operator_byte o) (text_of l ++ text_of r) (omega (arith, operator_low o))
    (All-append (λ b. b < 97 + n) (text_of l) (text_of r) (among_below n l h.0) (among_below n r h.1))

pub below_among : (n : ℕ) (t : Term ℕ) → Below n (text_of t) → Among n t
below_among n (leaf v) h = let low = All-head (λ b. b < 97 + n) (97 + v) [] h in omega arith
below_among n never h = tt
below_among n (node o l r) h =
    let sides = All-tail (λ b. b < 97 + n) (operator_byte o) (text_of l ++ text_of r) h in
    (below_among n l (all_left n (text_of l) (text_of r) sides), below_among n r (all_right n (text_of l) (text_of r) sides))

-- the term that spans all the bytes
pub spans_whole : (n : ℕ) (bs : List ℕ) (t : Term ℕ) (end : ℕ) → Spans bs 0 t end → end ≡ length bs → Below n bs → Whole n bs
spans_whole n bs t end s e b =
    let rest : drop end bs ≡ [] = drop_end bs end e in
    let w : bs ≡ text_of t = s.here ∙ ap (λ (z : List ℕ). text_of t ++ z) rest ∙ append-nil (text_of t) in
    record { term = t; written = w; letters = below_among n t (subst (Below n) w b) }
  where
    drop_end : (xs : List ℕ) (k : ℕ) → k ≡ length xs → drop k xs ≡ []
    drop_end xs k h = none (drop k xs) (omega (arith, length-drop k xs))
      where
        none : (ys : List ℕ) → length ys ≤ 0 → ys ≡ []
        none [] z = refl
        none (y ∷ ys) z = absurd (omega arith)

pub whole_below : (n : ℕ) (bs : List ℕ) → Whole n bs → Below n bs
whole_below n bs w = subst (Below n) (sym w.written) (among_below n w.term w.letters)

-- a whole term spans all the bytes
pub whole_end : (n : ℕ) (bs : List ℕ) (t : Term ℕ) (end : ℕ) → Spans bs 0 t end → Whole n bs → end ≡ length bs
whole_end n bs t end s w =
    let both : text_of t ++ drop end bs ≡ text_of w.term ++ [] = sym s.here ∙ w.written ∙ sym (append-nil (text_of w.term)) in
    let rest = (one_text t w.term (drop end bs) [] both).1 in
    omega (arith, ap length rest, length-drop end bs, s.within)

-- what was found at the front of the bytes, and what they then are
module _ (n : ℕ) (bs : List ℕ) where
  abbrev pub Found : Option ℕ → Type 0
  Found r = MatchOption r ((t : Term ℕ) (rest : List ℕ) → bs ≢ text_of t ++ rest) (λ end. (t : Term ℕ) × Spans bs 0 t end)

  pub whole_found : (r : Option ℕ) → Found r → r ≡ Some (length bs) → Below n bs → Whole n bs
  whole_found (Some end) f e b = let z : end ≡ length bs = cc in spans_whole n bs f.0 end f.1 z b
  whole_found None f e b = absurd (cc)

  pub whole_met : (r : Option ℕ) → Found r → Whole n bs → option_eq eqb r (Some (length bs)) ≡ true
  whole_met (Some end) f w = eq-eqb end (length bs) (whole_end n bs f.0 end f.1 w)
  whole_met None f w = absurd (f w.term [] (w.written ∙ sym (append-nil (text_of w.term))))
