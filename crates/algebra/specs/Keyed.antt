-- A kind whose dates are ordered by a number, and where a number above that of never is the same as never.
-- Assumes nothing.
use Rattle.std.specs.Prelude.{ℕ, min, nat_le}
use Rattle.std.proofs.Common.{arith, le→leb}
use Rattle.algebra.specs.Kinds.{Kind}
use Rattle.algebra.specs.Sizes.{leb_total, leb_trans}

-- the number of a date, at most that of never
abbrev pub capped : {D : Type 0} → (D → ℕ) → D → D → ℕ
capped key never p = min (key p) (key never)

abbrev pub keyed_kind : {D : Type 0} → (D → ℕ) → D → Kind D
keyed_kind key never = record {
  never = never;
  no_later = λ p q. nat_le (capped key never p) (capped key never q);
  total = λ p q. leb_total (capped key never p) (capped key never q);
  trans = λ p q r. leb_trans (capped key never p) (capped key never q) (capped key never r);
  top = λ p. le→leb (capped key never p) (capped key never never) (omega arith);
}
