-- Which bits the masks have.
-- Assumes nothing.
use Rattle.std.proofs.Common.{◌≡◌, ℕ, suc, ◌+◌, ◌-◌, ◌*◌, ◌/◌, ◌%◌, ◌^◌, ◌<◌, max, false, ◌||◌, eqb, ◌⊎◌, sym, ap, ◌∙◌, subst, inl, inr, pow-suc, arith}
use native.Mathlib.Nat.{div-eq_of_lt, div_self, zero-div}
use lib.Bits.{bit_or, or_step, or_shr}
use Rattle.std.proofs.lemmas.Bool.{eq-eqb, ne_eqb, cases_order}
use Rattle.std.proofs.lemmas.Bool.Decides.{nat_tests}
use Rattle.std.proofs.lemmas.Nat.{shl-shr, pow-add, pow_below, pow_pos}
use Rattle.sequences.specs.Masks.{has}

or_odd : (a b : ℕ) → bit_or a b % 2 ≡ max (a % 2) (b % 2)
or_odd a b = omega (arith, or_step a b)

max_one : (a b : ℕ) → a < 2 → b < 2 → eqb (max a b) 1 ≡ (eqb a 1 || eqb b 1)
max_one a b h k = grind (arith, nat_tests)

pub has_or : (a b v : ℕ) → has (bit_or a b) v ≡ (has a v || has b v)
unfolding has
has_or a b v =
    ap (λ (n : ℕ). eqb (n % 2) 1) (or_shr a b v) ∙ ap (λ (n : ℕ). eqb n 1) (or_odd (a / 2 ^ v) (b / 2 ^ v))
    ∙ max_one _ _ (omega arith) (omega arith)

pow_split : (v j : ℕ) → 2 ^ (suc j + v) / 2 ^ v ≡ 2 ^ j * 2
pow_split v j = ap (λ (n : ℕ). n / 2 ^ v) (pow-add 2 (suc j) v) ∙ shl-shr (2 ^ suc j) v ∙ pow-suc 2 j

bit_other : (k v : ℕ) → ((v < k) ⊎ (k < v)) → 2 ^ k / 2 ^ v % 2 ≡ 0
bit_other k v (inl h) =
    let e : suc (k - v - 1) + v ≡ k = omega arith in
    let f = subst (λ (n : ℕ). 2 ^ n / 2 ^ v ≡ 2 ^ (k - v - 1) * 2) e (pow_split v (k - v - 1)) in
    omega (arith, f)
bit_other k v (inr h) = let e : 2 ^ k / 2 ^ v ≡ 0 = div-eq_of_lt (pow_below k v h) in omega (arith, e)

pub has_one : (k v : ℕ) → has (2 ^ k) v ≡ eqb v k
unfolding has
has_one k v =
    elim (cases_order v k) [
      | inl e ↦ eq-eqb _ 1 (subst (λ (n : ℕ). 2 ^ n / 2 ^ v % 2 ≡ 1) e (ap (λ (n : ℕ). n % 2) (div_self (pow_pos v)))) ∙ sym (eq-eqb v k e)
      | inr o ↦ ne_eqb _ 1 (λ q. absurd (let z = bit_other k v o in omega arith)) ∙ sym (ne_eqb v k (λ q. elim o [ inl h ↦ omega arith | inr h ↦ omega arith ]))
    ]

pub has_none : (v : ℕ) → has 0 v ≡ false
unfolding has
has_none v = ne_eqb _ 1 (λ q. let z : 0 / 2 ^ v ≡ 0 = zero-div (2 ^ v) in omega arith)
