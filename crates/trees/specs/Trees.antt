-- The parts of a tree, as clauses see them: how many events, and the bytes of the source text.
-- Assumes nothing.
use Rattle.std.specs.Prelude.{ℕ, List}

pub record TreeParts : Type 0 where
  pub events : ℕ
  pub source : List ℕ
