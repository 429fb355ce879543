-- Whether a letter stands in a side, by the side's bytes.
-- Assumes nothing.
use Rattle.std.proofs.Common.{◌≡◌, ℕ, zero, suc, Bool, true, false, ◌||◌, ◌⊎◌, List, [], ◌∷◌, ◌++◌, Decides, Contains, sym, refl, inl, inr, arith, eq-eqb, eqb-true}
use Rattle.std.proofs.lemmas.List.Elements.{Contains-append_left, Contains-append_right}
use Rattle.algebra.specs.Terms.{Term, leaf, never, node}
use Rattle.algebra.specs.Rules.{variable_byte, has}
use Rattle.algebra.specs.declared.Variable.{Variable}
use Rattle.steps.specs.Sides.{side_text}
use Rattle.steps.proofs.Taken.{apart, not_never}
use Rattle.steps.proofs.Spelt.{or_left, or_right}

pub or_cases : (a b : Bool) → (a || b) ≡ true → (a ≡ true) ⊎ (b ≡ true)
or_cases true b e = inl refl
or_cases false b e = inr e

has_more : (y : ℕ) (xs : List ℕ) (x : ℕ) → Contains xs x → Contains (y ∷ xs) x
has_more y xs x (k, h, at) = (suc k, omega arith, at)

has_split : (xs ys : List ℕ) (x : ℕ) → Contains (xs ++ ys) x → Contains xs x ⊎ Contains ys x
has_split [] ys x h = inr h
has_split (y ∷ xs) ys x (zero, h, at) = inl (zero, omega arith, at)
has_split (y ∷ xs) ys x (suc k, h, at) =
    elim (has_split xs ys x (k, omega arith, at)) [ inl p ↦ inl (has_more y xs x p) | inr p ↦ inr p ]

has_in : (v : Variable) (s : Term Variable) → has v s ≡ true → Contains (side_text s) (variable_byte v)
has_in v (leaf u) e = (zero, omega arith, sym (eqb-true (variable_byte v) (variable_byte u) e))
has_in v never e = let z : ◌≡◌ {A = ℕ} 0 1 = cc in absurd (omega arith)
has_in v (node o l r) e =
    has_more _ (side_text l ++ side_text r) (variable_byte v)
    (elim (or_cases (has v l) (has v r) e) [
      | inl h ↦ Contains-append_left (side_text l) (side_text r) (variable_byte v) (has_in v l h)
      | inr h ↦ Contains-append_right (side_text l) (side_text r) (variable_byte v) (has_in v r h)
    ])

in_has : (v : Variable) (s : Term Variable) → Contains (side_text s) (variable_byte v) → has v s ≡ true
in_has v (leaf u) (zero, h, at) = eq-eqb (variable_byte v) (variable_byte u) (sym at)
in_has v (leaf u) (suc k, h, at) = absurd (omega arith)
in_has v never (zero, h, at) = absurd (not_never v (sym at))
in_has v never (suc k, h, at) = absurd (omega arith)
in_has v (node o l r) (zero, h, at) = absurd (apart v o (sym at))
in_has v (node o l r) (suc k, h, at) =
    elim (has_split (side_text l) (side_text r) (variable_byte v) (k, omega arith, at)) [
      | inl p ↦ or_left (has v l) (has v r) (in_has v l p)
      | inr p ↦ or_right (has v l) (has v r) (in_has v r p)
    ]

pub decides_has : (v : Variable) (s : Term Variable) → Decides (has v s) (Contains (side_text s) (variable_byte v))
decides_has v s = (has_in v s, in_has v s)
