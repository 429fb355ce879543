-- Numbers are ordered by size.
-- Assumes nothing.
use Rattle.std.specs.Prelude.{ℕ, Bool, true, false, not, T, ◌⊎◌, nat_le}
use Rattle.std.proofs.Common.{inl, inr, arith, leb→le, le→leb}
use Rattle.std.proofs.Math.Dec.{nleb→lt}

pub yes_or_no : (b : Bool) → T b ⊎ T (not b)
yes_or_no true = inl tt
yes_or_no false = inr tt

pub leb_total : (m n : ℕ) → T (nat_le m n) ⊎ T (nat_le n m)
leb_total m n = elim (yes_or_no (nat_le m n)) [ inl t ↦ inl t | inr t ↦ inr (le→leb n m (omega (arith, nleb→lt m n t))) ]

pub leb_trans : (k m n : ℕ) → T (nat_le k m) → T (nat_le m n) → T (nat_le k n)
leb_trans k m n h j = le→leb k n (omega (arith, leb→le k m h, leb→le m n j))
