-- Dates by rank: how few of them decide whether two terms always have the same date.
-- Assumes nothing.
use Rattle.std.specs.Prelude.{◌≡◌, ℕ, ◌<◌, nat_le}
use Rattle.std.proofs.Common.{arith, le→leb}
use Rattle.algebra.specs.Kinds.{Kind, Same}
use Rattle.algebra.specs.Sizes.{leb_total, leb_trans}
use Rattle.algebra.specs.Terms.{Term, date}
use Rattle.algebra.specs.declared.Variable.{Variable}
use Rattle.algebra.specs.declared.Variable.TheVariants.{X, Y, Z}

-- numbers counted down: 0 is never, and a larger number is earlier
abbrev pub ranks : Kind ℕ
ranks = record {
  never = 0;
  no_later = λ p q. nat_le q p;
  total = λ p q. leb_total q p;
  trans = λ p q r h k. leb_trans r q p k h;
  top = λ p. le→leb 0 p (omega arith);
}

-- the dates a, b and c for X, Y and Z
abbrev pub given : {D : Type 0} → D → D → D → Variable → D
given a b c X = a
given a b c Y = b
given a b c Z = c

-- two terms have the same date where each letter has one of three ranks, or never
abbrev pub SameByRanks : Term Variable → Term Variable → Type 0
SameByRanks s t = (a b c : ℕ) → a < 4 → b < 4 → c < 4 → date ranks (given a b c) s ≡ date ranks (given a b c) t

-- then they have the same date under every dating of the kind
abbrev pub RanksDecide : {D : Type 0} → Kind D → Type 0
RanksDecide {D} K = (s t : Term Variable) → SameByRanks s t → (d : Variable → D) → Same K (date K d s) (date K d t)
