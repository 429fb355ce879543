-- Where a term stands in bytes.
-- Assumes nothing.
use Rattle.std.specs.Prelude.{◌≡◌, ℕ, ◌+◌, ◌-◌, ◌≤◌, List, ◌++◌, length, drop, Some, None, Option}
use Rattle.algebra.specs.declared.Token.{Token}
use Rattle.algebra.specs.declared.Token.TheVariants.{Letter, Never, Joins, Unknown}
use Rattle.algebra.specs.Terms.{Term}
use Rattle.algebra.specs.Texts.{text_of}

-- the term t stands in the bytes at the place, and ends before the place end
pub record Spans (bs : List ℕ) (place : ℕ) (t : Term ℕ) (end : ℕ) : Type 0 where
  pub here : drop place bs ≡ text_of t ++ drop end bs
  pub counted : end ≡ place + length (text_of t)
  pub within : end ≤ length bs

-- how many terms are still to come after a token, where so many were before it
abbrev pub still_to_come : Token ℕ → ℕ → Option ℕ
still_to_come (Letter v) terms = Some (terms - 1)
still_to_come Never terms = Some (terms - 1)
still_to_come (Joins o) terms = Some (terms + 1)
still_to_come Unknown terms = None
