-- The bytes of a tree beside its number of events and its records in order.
-- Assumes nothing.
use Rattle.std.specs.Prelude.{◌≡◌, ℕ, ◌<◌, ◌↔◌, List, ◌∷◌, reverse, length}
use Rattle.trees.specs.Means.{Means, Spelt}
use Rattle.trees.specs.declared.reader.Tree.{Tree}
use Rattle.trees.specs.declared.record.Record.{Record}

-- the bytes are those of so many records, in order
pub record RecordsLie (rs : List Record) (count : ℕ) (bs : List ℕ) : Type 0 where
  pub many : length rs ≡ count
  pub spelt : Spelt (reverse rs) bs

-- the bytes are those of a tree with so many events and these records, which one byte can count
pub record Lays (bs : List ℕ) (events : ℕ) (rs : List Record) : Type 0 where
  pub counted : length rs < 256
  pub body : List ℕ
  pub bytes : bs ≡ events ∷ length rs ∷ body
  pub records : RecordsLie rs (length rs) body

-- bytes are those of one number of events and one list of records only
abbrev pub OneLayout : List ℕ → Type 0
OneLayout bs = (E F : ℕ) (rs qs : List Record) → Lays bs E rs → Lays bs F qs → (E ≡ F) × (rs ≡ qs)

-- the bytes mean the same tree as any other bytes of the same records
abbrev pub MeansAsLaid : List ℕ → ℕ → List Record → Type 0
MeansAsLaid bs events rs = (cs : List ℕ) → Lays cs events rs → (t : Tree) → Means bs t ↔ Means cs t
