-- What is told of a term in a text.
-- Assumes nothing.
use Rattle.std.specs.Prelude.{◌≡◌, ℕ, List, Some, None, Option}
use Rattle.algebra.specs.Kinds.{Kind}
use Rattle.algebra.specs.Terms.{Term, date, dating_of}
use Rattle.texts.specs.Spans.{Spans}

-- a term stands at the place, ends where it is told, and has the date that is told
abbrev pub Told : {D : Type 0} → Kind D → List D → List ℕ → ℕ → Option (ℕ × D) → Type 0
Told K ds text place None = Unit {0}
Told K ds text place (Some p) = (t : Term ℕ) × Spans text place t p.0 × (p.1 ≡ date K (dating_of K ds) t)
