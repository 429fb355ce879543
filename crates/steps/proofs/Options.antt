-- What is known of an option's value, where `ok_or` passed it on.
-- Assumes nothing.
use Rattle.std.proofs.Common.{◌≡◌, ℕ, Some, None, Ok, Option, subst, arith}
use Rattle.std.specs.Option.{MatchOption, ok_or}

pub match_from_ok_or : {A E : Type 0} (N : Type 0) (S : A → Type 0) (o : Option A) (e : E) (x : A) → MatchOption o N S → ok_or o e ≡ Ok x → S x
match_from_ok_or N S None e x known h = let z : ◌≡◌ {A = ℕ} 0 1 = cc in absurd (omega arith)
match_from_ok_or N S (Some y) e x known h = let same : y ≡ x = cc in subst S same known
