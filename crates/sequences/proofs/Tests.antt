-- Tests that are joined.
-- Assumes nothing.
use Rattle.std.proofs.Common.{◌≡◌, ℕ, zero, suc, ◌<◌, Bool, true, false, ◌&&◌, ◌||◌, T, ◌⊎◌, sym, refl, subst, inl, inr, arith}
use Rattle.std.proofs.lemmas.Bool.{cases_lt}
use Rattle.sequences.specs.Walks.{any, all}
use Rattle.sequences.specs.Dates.{asked}

pub or_in_l : (a b : Bool) → T a → T (a || b)
or_in_l true b t = tt
or_in_l false b t = absurd t

pub or_in_r : (a b : Bool) → T b → T (a || b)
or_in_r true b t = tt
or_in_r false b t = t

pub or_out : (a b : Bool) → T (a || b) → T a ⊎ T b
or_out true b t = inl tt
or_out false b t = inr t

pub and_in : (a b : Bool) → T a → T b → T (a && b)
and_in true b s t = t
and_in false b s t = s

pub and_out : (a b : Bool) → T (a && b) → T a × T b
and_out true b t = (tt, t)
and_out false b t = absurd t

pub is_T : (b : Bool) → b ≡ true → T b
is_T b e = subst T (sym e) tt

pub T_is : (b : Bool) → T b → b ≡ true
T_is true t = refl
T_is false t = absurd t

pub T_not_false : (b : Bool) → b ≡ false → T b → ⊥
T_not_false b e t = subst T e t

pub T_by : {a b : Bool} → a ≡ b → T a → T b
T_by e t = subst T e t

pub below_suc : (k n : ℕ) → k < suc n → (k ≡ n) ⊎ (k < n)
below_suc k n h = elim (cases_lt k n) [ inl l ↦ inr l | inr l ↦ inl (omega arith) ]

pub any_in : (n : ℕ) (p : ℕ → Bool) (k : ℕ) → k < n → T (p k) → T (any n p)
unfolding any
any_in zero p k h t = absurd (omega arith)
any_in (suc n) p k h t = elim (below_suc k n h) [ inl e ↦ or_in_l _ _ (subst (λ (m : ℕ). T (p m)) e t) | inr l ↦ or_in_r (p n) _ (any_in n p k l t) ]

pub any_out : (n : ℕ) (p : ℕ → Bool) → T (any n p) → (k : ℕ) × (k < n) × T (p k)
unfolding any
any_out zero p t = absurd t
any_out (suc n) p t = elim (or_out (p n) (any n p) t) [ inl s ↦ (n, omega arith, s) | inr s ↦ let r = any_out n p s in (r.0, omega (arith, r.1), r.2) ]

pub not_T_is : (b : Bool) → (T b → ⊥) → b ≡ false
not_T_is true f = absurd (f tt)
not_T_is false f = refl

pub all_in : (n : ℕ) (p : ℕ → Bool) → ((k : ℕ) → k < n → T (p k)) → T (all n p)
unfolding all
all_in zero p f = tt
all_in (suc n) p f = and_in _ _ (f n (omega arith)) (all_in n p (λ k h. f k (omega arith)))

pub all_out : (n : ℕ) (p : ℕ → Bool) → T (all n p) → (k : ℕ) → k < n → T (p k)
unfolding all
all_out zero p t k h = absurd (omega arith)
all_out (suc n) p t k h =
    let s = and_out (p n) (all n p) t in
    elim (below_suc k n h) [ inl e ↦ subst (λ (m : ℕ). T (p m)) (sym e) s.0 | inr l ↦ all_out n p s.1 k l ]

pub asked_in : (a b : Bool) → (T a → T b) → T (asked a b)
asked_in true b f = f tt
asked_in false b f = tt

pub asked_out : (a b : Bool) → T (asked a b) → T a → T b
asked_out true b t s = t
asked_out false b t s = absurd s
