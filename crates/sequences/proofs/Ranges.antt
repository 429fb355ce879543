-- What `all`, `any`, `array::from_fn` and `reduce` make of closures that compute a function.
-- Assumes nothing.
use Rattle.std.proofs.Common.{◌≡◌, ℕ, zero, suc, ◌+◌, ◌<◌, ◌≤◌, Bool, true, false, List, [], ◌∷◌, length, get_or, Some, None, Option, refl, sym, ap, ◌∙◌, subst, inl, inr, zero-add, arith}
use denote.Param.Members.{Mut}
use Rattle.std.specs.Array.{IsFromFnResult, IsFromFnResultFrom}
use Rattle.std.specs.Bool.{MatchBool}
use Rattle.std.specs.Fn.{Called}
use Rattle.std.specs.Iterator.{ChecksAll, ChecksAny, Drains, ReducesItems}
use Rattle.std.specs.List.{range_with_len, reduce, AllWithin, FoldsTo, HoldsAt}
use Rattle.std.specs.Option.{MatchOption}
use Rattle.std.specs.declared.ops.Range.{Range}
use Rattle.std.proofs.iter.Yields.{nat_range_steps}
use Rattle.std.proofs.lemmas.Iterator.{YieldsList, YieldsList-from_range, cases_from_all, cases_from_any}
use Rattle.std.proofs.lemmas.Iterator.Consumers.{reduce_from_yields_List}
use Rattle.std.proofs.lemmas.Bool.{cases_eq}
use Rattle.std.proofs.lemmas.List.FromFn.{length-range_with_len, get_or-range_with_len}
use Rattle.sequences.specs.Walks.{all, any}
use Rattle.sequences.proofs.Tests.{all_in, all_out, any_in, any_out, is_T, T_is, not_T_is, T_not_false}

abbrev letters : List ℕ
letters = range_with_len 0 24

letter : (k d : ℕ) → k < 24 → get_or letters k d ≡ k
letter k d h = get_or-range_with_len 0 24 k d h ∙ zero-add k

count : length letters ≡ 24
count = length-range_with_len 0 24

module _ (p : ℕ → Bool) where
  each : (b : Bool) → AllWithin (λ x. p x ≡ b) letters 0 (length letters) → (k : ℕ) → k < 24 → p k ≡ b
  each b h k l = subst (λ (n : ℕ). p n ≡ b) (letter k k l) (h k k (omega arith) (omega (arith, count)))

  some : (b : Bool) → (k : ℕ) × (k < length letters) × HoldsAt (λ x. p x ≡ b) letters k → (k : ℕ) × (k < 24) × (p k ≡ b)
  some b h = (h.0, omega (arith, h.1, count), subst (λ (n : ℕ). p n ≡ b) (letter h.0 h.0 (omega (arith, h.1, count))) (h.2 h.0))

  all_is : (r : Bool) → MatchBool r (AllWithin (λ x. p x ≡ true) letters 0 (length letters)) ((k : ℕ) × (k < length letters) × HoldsAt (λ x. p x ≡ false) letters k) → r ≡ all 24 p
  all_is true h = sym (T_is (all 24 p) (all_in 24 p (λ k l. is_T (p k) (each true h k l))))
  all_is false h = let k = some false h in sym (not_T_is (all 24 p) (λ t. T_not_false (p k.0) k.2 (all_out 24 p t k.0 k.1)))

  any_is : (r : Bool) → MatchBool r ((k : ℕ) × (k < length letters) × HoldsAt (λ x. p x ≡ true) letters k) (AllWithin (λ x. p x ≡ false) letters 0 (length letters)) → r ≡ any 24 p
  any_is true h = let k = some true h in sym (T_is (any 24 p) (any_in 24 p k.0 k.1 (is_T (p k.0) k.2)))
  any_is false h = sym (not_T_is (any 24 p) (λ t. let k = any_out 24 p t in T_not_false (p k.0) (each false h k.0 k.1) k.2))

-- a closure that computes p, at the letters in turn
module _ {F : Type 0} {g : Mut F (ℕ × Unit {0}) Bool} (u : Range ℕ) (f : F) (r : Bool) (p : ℕ → Bool)
    (computes : (x : ℕ) (b : Bool) (q : F) → Called g f (x, tt) b q → (q ≡ f) × (b ≡ p x)) where
  pub all_letters : ChecksAll nat_range_steps g (record { start = 0; end = 24 }) f r u → r ≡ all 24 p
  all_letters ran =
      all_is p r (cases_from_all u f r (λ x. p x ≡ true) (λ x. p x ≡ false) ran (YieldsList-from_range 0 24 24 refl (omega arith))
      (λ x q k. let h = computes x true q k in (h.0, sym h.1)) (λ x q k. sym (computes x false q k).1))

  pub any_letter : ChecksAny nat_range_steps g (record { start = 0; end = 24 }) f r u → r ≡ any 24 p
  any_letter ran =
      any_is p r (cases_from_any u f r (λ x. p x ≡ true) (λ x. p x ≡ false) ran (YieldsList-from_range 0 24 24 refl (omega arith))
      (λ x q k. sym (computes x true q k).1) (λ x q k. let h = computes x false q k in (h.0, sym h.1)))

-- what a closure made at each number below n
module _ {F B : Type 0} {g : Mut F (ℕ × Unit {0}) B} {f : F} (h : ℕ → B) (computes : (i : ℕ) (y : B) (q : F) → Called g f (i, tt) y q → (q ≡ f) × (y ≡ h i)) where
  made_from : (ys : List B) (i n : ℕ) (r : F) → r ≡ f → IsFromFnResultFrom g r ys i n → (k : ℕ) (d : B) → i ≤ k → k < i + n → get_or ys k d ≡ h k
  made_from ys i zero r e m k d low high = absurd (omega arith)
  made_from ys i (suc n) r e (q, y, at, called, rest) k d low high =
      let now = computes i y q (subst (λ (j : F). Called g j (i, tt) y q) e called) in
      elim (cases_eq k i) [
        | inl same ↦ ap (λ (j : ℕ). get_or ys j d) same ∙ at.1 d ∙ now.1 ∙ ap h (sym same)
        | inr other ↦ made_from ys (i + 1) n q now.0 rest k d (omega arith) (omega arith)
      ]

  pub made_at : (ys : List B) (n : ℕ) → IsFromFnResult g f ys n → (k : ℕ) (d : B) → k < n → get_or ys k d ≡ h k
  made_at ys n m k d low = made_from ys 0 n f refl m.each k d (omega arith) (omega arith)

-- what `reduce` makes of a list
module _ {A F : Type 0} {g : Mut F (A × (A × Unit {0})) A} {f : F} (h : A → A → A)
    (computes : (x y b : A) (q : F) → Called g f (x, (y, tt)) b q → (q ≡ f) × (b ≡ h x y)) where
  folded : (xs : List A) (j k : F) (x y : A) → j ≡ f → FoldsTo {P = F × A} (λ a z b. Called g a.0 (a.1, (z, tt)) b.1 b.0) (j, x) xs (k, y) → FoldsTo (λ a z b. b ≡ h a z) x xs y
  folded [] j k x y e m = ap (λ (p : F × A). p.1) m
  folded (z ∷ zs) j k x y e (m, called, rest) =
      let now = computes x z m.1 m.0 (subst (λ (i : F). Called g i (x, (z, tt)) m.1 m.0) e called) in
      (m.1, now.1, folded zs m.0 k m.1 y now.0 rest)

  module _ {S : Type 0} (steps : S → Option A → S → Type 0) (s : S) where
    plain : (o : Option A) → ReducesItems steps g s f o → MatchOption o (Drains steps s []) (λ y. (x : A) × (xs : List A) × Drains steps s (x ∷ xs) × FoldsTo (λ a z b. b ≡ h a z) x xs y)
    plain None d = d
    plain (Some y) (x, xs, k, d, m) = (x, xs, d, folded xs f k x y refl m)

  pub reduced : {S : Type 0} {steps : S → Option A → S → Type 0} {all : List A} (s : S) (r : Option A) → ReducesItems steps g s f r → YieldsList steps (λ x. x) s all → r ≡ reduce h all
  reduced {steps = steps} s r ran yields = reduce_from_yields_List h s r (plain steps s r ran) yields
