-- What a granted tree means: one term for each input of the whole tree, and the source is the last gate's.
-- Assumes nothing.
use Rattle.std.specs.Prelude.{◌≡◌, ℕ, ◌+◌, ◌<◌, true, List, [], ◌∷◌, ◌++◌, length}
use Rattle.algebra.specs.Terms.{Term}
use Rattle.algebra.specs.Texts.{text_of, Whole, IsText}
use Rattle.trees.specs.declared.record.Record.{Record}
use Rattle.trees.specs.declared.record.Record.TheVariants.{Joins, Triggers}
use Rattle.trees.specs.declared.reader.Tree.{Tree}
use Rattle.trees.specs.Records.{Written, LastIsGate, first, second}
use Rattle.trees.specs.Gates.{gate_term, known}
use Rattle.trees.specs.Triggers.{triggered}

-- the bytes of records, the latest first
pub data Spelt : List Record → List ℕ → Type 0 where
  none : Spelt [] []
  more : (rs : List Record) (ws : List ℕ) (r : Record) (w : List ℕ) → Spelt rs ws → Written r w → Spelt (r ∷ rs) (ws ++ w)

-- each input is an event of the tree or an earlier gate
abbrev pub InputsKnown : ℕ → List Record → Type 0
InputsKnown E [] = Unit {0}
InputsKnown E (r ∷ rs) = (known E rs (first r) ≡ true) × (known E rs (second r) ≡ true) × InputsKnown E rs

-- the term of every gate is the operator of its kind over the terms of its inputs
abbrev pub GatesJoin : (ℕ → Term ℕ) → List Record → Type 0
GatesJoin v [] = Unit {0}
GatesJoin v (Joins g a b ∷ rs) = (v (64 + length rs) ≡ gate_term g (v a) (v b)) × GatesJoin v rs
GatesJoin v (Triggers t d ∷ rs) = GatesJoin v rs

pub record Means (bs : List ℕ) (t : Tree) : Type 0 where
  pub records : List Record
  pub body : List ℕ
  pub bytes : bs ≡ t.events ∷ length records ∷ body
  pub spelt : Spelt records body
  pub inputs : InputsKnown t.events records
  pub last : LastIsGate records
  -- the term of each input
  pub term : ℕ → Term ℕ
  pub gates : GatesJoin term records
  pub events : (e : ℕ) → e < t.events → term e ≡ triggered term records e
  pub source : t.source ≡ text_of (term (63 + length records))

-- two trees with the same number of events and the same source text
pub record SameTree (s t : Tree) : Type 0 where
  pub events : s.events ≡ t.events
  pub source : s.source ≡ t.source

-- one whole term over the letters of E events, and a text
pub record Source (E : ℕ) (bs : List ℕ) : Type 0 where
  pub whole : Whole E bs
  pub text : IsText bs
