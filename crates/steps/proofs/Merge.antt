-- The matched terms and the supplied terms together, and the new text in three parts.
-- Assumes nothing.
use Rattle.std.proofs.Common.{◌≡◌, ℕ, ◌+◌, ◌<◌, Bool, true, false, List, [], ◌++◌, length, take, drop, is_some, Some, None, Option, sym, refl, ap, ◌∙◌, subst, append_assoc, arith, length-append, Bor}
use Rattle.std.proofs.lemmas.Bool.{eq-eqb}
use Rattle.algebra.specs.Terms.{Term, leaf, never, node, inst}
use Rattle.algebra.specs.Texts.{text_of}
use Rattle.algebra.specs.Rules.{variable_byte, has}
use Rattle.algebra.specs.declared.Variable.{Variable}
use Rattle.steps.specs.Sides.{slot, either, Holds, Agrees, Matches, Fitted}
use Rattle.steps.specs.Rewrites.{OfTerm, Provided, Instance}
use Rattle.steps.specs.declared.binding.Binding.{Binding}
use Rattle.steps.proofs.Spelt.{or_left, or_right}

pub inst_same : (σ τ : Variable → Term ℕ) (s : Term Variable) → ((v : Variable) → has v s ≡ true → σ v ≡ τ v) → inst σ s ≡ inst τ s
inst_same σ τ (leaf v) h = h v (eq-eqb (variable_byte v) (variable_byte v) refl)
inst_same σ τ never h = refl
inst_same σ τ (node o l r) h =
    (λ k. node o (inst_same σ τ l (λ v e. h v (or_left (has v l) (has v r) e)) k) (inst_same σ τ r (λ v e. h v (or_right (has v l) (has v r) e)) k))

-- one term for a letter, by what is bound and what is supplied
abbrev mixed : (b s : Option (Bor (List ℕ))) → Term ℕ → OfTerm s → Term ℕ
mixed (Some w) s t h = t
mixed None None t h = t
mixed None (Some w) t h = h.0

mixed_either : (b s : Option (Bor (List ℕ))) (t : Term ℕ) (h : OfTerm s) → Holds b t → Holds (either b s) (mixed b s t h)
mixed_either (Some w) s t h e = e
mixed_either None None t h e = tt
mixed_either None (Some w) t h e = h.1

mixed_bound : (b s : Option (Bor (List ℕ))) (t : Term ℕ) (h : OfTerm s) → is_some b ≡ true → t ≡ mixed b s t h
mixed_bound (Some w) s t h e = refl
mixed_bound None s t h e = let z : ◌≡◌ {A = ℕ} 0 1 = cc in absurd (omega arith)

mixed_supplied : (b s : Option (Bor (List ℕ))) (t : Term ℕ) (h : OfTerm s) → (is_some b ≡ true → s ≡ None) → Holds s (mixed b s t h)
mixed_supplied b None t h f = tt
mixed_supplied None (Some w) t h f = h.1
mixed_supplied (Some x) (Some w) t h f = let e : Some w ≡ None = f refl in let z : ◌≡◌ {A = ℕ} 0 1 = cc in absurd (omega arith)

pub record Both (from : Term Variable) (text : List ℕ) (all sup : Binding) (rest : List ℕ) : Type 0 where
  pub choice : Variable → Term ℕ
  pub whole : Agrees all choice
  pub some : Agrees sup choice
  pub matches : Matches from choice text rest

pub merged : (from to : Term Variable) (text : List ℕ) (b sup all : Binding) (rest : List ℕ) → Fitted from text b rest → Provided from to sup → ((v : Variable) → slot all v ≡ either (slot b v) (slot sup v)) → Both from text all sup rest
merged from to text b sup all rest fit supplied joined =
    let σ : Variable → Term ℕ = λ v. mixed (slot b v) (slot sup v) (fit.choice v) (supplied.terms v) in
    record {
      choice = σ;
      whole = λ v. subst (λ (o : Option (Bor (List ℕ))). Holds o (σ v)) (sym (joined v)) (mixed_either (slot b v) (slot sup v) (fit.choice v) (supplied.terms v) (fit.agrees v));
      some = λ v. mixed_supplied (slot b v) (slot sup v) (fit.choice v) (supplied.terms v) (λ e. supplied.none v (sym (fit.letters v) ∙ e));
      matches = fit.matches ∙ ap (λ (t : Term ℕ). text_of t ++ rest) (inst_same fit.choice σ from (λ v e. mixed_bound (slot b v) (slot sup v) (fit.choice v) (supplied.terms v) (fit.letters v ∙ e)));
    }

-- the new text in three parts
module _ (old : List ℕ) (p : ℕ) (from to : Term Variable) (all sup : Binding) (rest u₀ u₁ front : List ℕ) (both : Both from (drop p old) all sup rest) (none : u₀ ≡ []) (before : front ≡ take p old) where
  abbrev new : List ℕ
  new = take p old ++ (text_of (inst both.choice to) ++ rest)

  made : Instance old p from to sup new
  made = record { choice = both.choice; rest = rest; agrees = both.some; before = both.matches; after = refl }

  first : u₁ ≡ u₀ ++ front → u₁ ≡ take p old
  first e = e ∙ (λ k. none k ++ before k)

  pub complete : (u₂ u₃ : List ℕ) → u₁ ≡ u₀ ++ front → ((σ : Variable → Term ℕ) → Agrees all σ → u₂ ≡ u₁ ++ text_of (inst σ to)) → u₃ ≡ u₂ ++ rest → Instance old p from to sup u₃
  complete u₂ u₃ a b c =
      let is : u₃ ≡ new = c ∙ ap (λ (l : List ℕ). l ++ rest) (b both.choice both.whole ∙ ap (λ (l : List ℕ). l ++ text_of (inst both.choice to)) (first a)) ∙ append_assoc (take p old) (text_of (inst both.choice to)) rest in
      subst (Instance old p from to sup) (sym is) made

  pub long_front : 511 < length u₀ + length front → (l : List ℕ) × (Instance old p from to sup l × (511 < length l))
  long_front h =
      (new, (made, omega (arith, h, ap length none, ap length before, length-append (take p old) (text_of (inst both.choice to) ++ rest))))

  pub long_side : u₁ ≡ u₀ ++ front → ((σ : Variable → Term ℕ) → Agrees all σ → 511 < length (u₁ ++ text_of (inst σ to))) → (l : List ℕ) × (Instance old p from to sup l × (511 < length l))
  long_side a h =
      let w = text_of (inst both.choice to) in
      (new, (made, omega (arith, h both.choice both.whole, ap length (first a), length-append u₁ w, length-append (take p old) (w ++ rest), length-append w rest)))

  pub long_rest : (u₂ : List ℕ) → u₁ ≡ u₀ ++ front → ((σ : Variable → Term ℕ) → Agrees all σ → u₂ ≡ u₁ ++ text_of (inst σ to)) → 511 < length u₂ + length rest → (l : List ℕ) × (Instance old p from to sup l × (511 < length l))
  long_rest u₂ a b h =
      let w = text_of (inst both.choice to) in
      (new, (made, omega (arith, h, ap length (b both.choice both.whole), ap length (first a), length-append u₁ w, length-append (take p old) (w ++ rest), length-append w rest)))

-- each letter of the new side is bound
pub all_bound : (from to : Term Variable) (text : List ℕ) (b sup all : Binding) (rest : List ℕ) → Fitted from text b rest → Provided from to sup → ((v : Variable) → slot all v ≡ either (slot b v) (slot sup v)) → (v : Variable) → has v to ≡ true → is_some (slot all v) ≡ true
all_bound from to text b sup all rest fit supplied joined v h =
    ap is_some (joined v) ∙ go (slot b v) (slot sup v) (has v from) (fit.letters v) (supplied.lacked v h)
  where
    go : (o s : Option (Bor (List ℕ))) (t : Bool) → is_some o ≡ t → (t ≡ false → is_some s ≡ true) → is_some (either o s) ≡ true
    go (Some w) s t e f = refl
    go None s t e f = f (sym e)
