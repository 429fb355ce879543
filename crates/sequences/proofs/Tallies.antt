-- How many numbers pass a test.
-- Assumes nothing.
use Rattle.std.proofs.Common.{ℕ, zero, suc, ◌+◌, ◌<◌, ◌≤◌, Bool, true, false, T, subst, inl, inr, arith}
use Rattle.sequences.proofs.Tests.{below_suc}

abbrev pub one : Bool → ℕ
one true = 1
one false = 0

-- how many numbers below n pass, and how many pairs
unfoldable pub tally : ℕ → (ℕ → Bool) → ℕ
tally zero p = 0
tally (suc n) p = tally n p + one (p n)

unfoldable pub grid : ℕ → (ℕ → ℕ → Bool) → ℕ
grid zero p = 0
grid (suc n) p = grid n p + tally 24 (p n)

pub one_mono : (a b : Bool) → (T a → T b) → one a ≤ one b
one_mono true true f = omega arith
one_mono true false f = absurd (f tt)
one_mono false true f = omega arith
one_mono false false f = omega arith

one_less : (a b : Bool) → (T a → ⊥) → T b → one a < one b
one_less true b f t = absurd (f tt)
one_less false true f t = omega arith
one_less false false f t = absurd t

pub one_small : (a : Bool) → one a ≤ 1
one_small true = omega arith
one_small false = omega arith

pub tally_small : (p : ℕ → Bool) (n : ℕ) → tally n p ≤ n
unfolding tally
tally_small p zero = omega arith
tally_small p (suc n) = omega (arith, tally_small p n, one_small (p n))

-- what passes one test passes another
pub tally_most : (p q : ℕ → Bool) (n : ℕ) → ((k : ℕ) → k < n → T (q k) → T (p k)) → tally n q ≤ tally n p
unfolding tally
tally_most p q zero f = omega arith
tally_most p q (suc n) f = omega (arith, tally_most p q n (λ k h. f k (omega arith)), one_mono (q n) (p n) (f n (omega arith)))

-- and one number passes only the other
pub tally_less : (p q : ℕ → Bool) → ((k : ℕ) → T (q k) → T (p k)) → (n k : ℕ) → k < n → (T (q k) → ⊥) → T (p k) → tally n q < tally n p
unfolding tally
tally_less p q f zero k h a b = absurd (omega arith)
tally_less p q f (suc n) k h a b =
    elim (below_suc k n h) [
      | inl e ↦ omega (arith, one_less (q n) (p n) (subst (λ (m : ℕ). T (q m) → ⊥) e a) (subst (λ (m : ℕ). T (p m)) e b), tally_most p q n (λ k h. f k))
      | inr l ↦ omega (arith, one_mono (q n) (p n) (f n), tally_less p q f n k l a b)
    ]
