-- A record and its parts.
-- Assumes nothing.
use Rattle.std.proofs.Common.{◌≡◌, ℕ, [], ◌∷◌, refl}
use Rattle.trees.specs.declared.record.Kind.{Kind}
use Rattle.trees.specs.declared.record.Kind.TheVariants.{Joins as joins, Triggers as triggers}
use Rattle.trees.specs.declared.record.Record.{Record}
use Rattle.trees.specs.declared.record.Record.TheVariants.{Joins, Triggers}
use Rattle.trees.specs.Records.{fields, first, kind, kind_byte, record_of, second}

pub fields-record_of : (k : Kind) (a b : ℕ) → fields (record_of k a b) ≡ kind_byte k ∷ a ∷ b ∷ []
fields-record_of (joins g) a b = refl
fields-record_of triggers a b = refl

pub fields_of_parts : (r : Record) → fields r ≡ kind_byte (kind r) ∷ first r ∷ second r ∷ []
fields_of_parts (Joins g a b) = refl
fields_of_parts (Triggers t d) = refl

-- a record is made again of its parts
pub record_of_parts : (r : Record) → record_of (kind r) (first r) (second r) ≡ r
record_of_parts (Joins g a b) = refl
record_of_parts (Triggers t d) = refl
