-- The terms of gates, and which records can be added. A list of records has the latest first.
-- Assumes nothing.
use Rattle.std.specs.Prelude.{ℕ, ◌+◌, Bool, cond, ◌&&◌, ◌||◌, List, [], ◌∷◌, length, Some, None, Option, ◌==◌, nat_lt}
use Rattle.algebra.specs.Terms.{Term, leaf, node}
use Rattle.algebra.specs.Texts.{text_of}
use Rattle.algebra.specs.declared.Operator.TheVariants.{Or as or, And as and, Before as before, Inclusive as inclusive}
use Rattle.trees.specs.declared.record.Gate.{Gate}
use Rattle.trees.specs.declared.record.Gate.TheVariants.{Or, And, Pand, Before}
use Rattle.trees.specs.declared.record.Record.{Record}
use Rattle.trees.specs.declared.record.Record.TheVariants.{Joins, Triggers}
use Rattle.trees.specs.declared.refusal.TreeRefusal.{TreeRefusal}
use Rattle.trees.specs.declared.refusal.TreeRefusal.TheVariants.{Input, Dependent, TooLong}
use Rattle.trees.specs.Records.{first, second}
use Rattle.trees.specs.Triggers.{with_trigger, misplaced}

-- the term of a gate from the terms of its inputs
abbrev pub gate_term : Gate → Term ℕ → Term ℕ → Term ℕ
gate_term Or p q = node or p q
gate_term And p q = node and p q
gate_term Pand p q = node and q (node inclusive p q)
gate_term Before p q = node before p q

-- the term of an input after the records: an event below 64, and 64 + k the gate of record k
abbrev pub term_at : List Record → ℕ → Term ℕ
term_at [] i = leaf i
term_at (Joins g a b ∷ rs) i = cond (i == 64 + length rs) (gate_term g (term_at rs a) (term_at rs b)) (term_at rs i)
term_at (Triggers t d ∷ rs) i = cond (i == d) (with_trigger (term_at rs d) (term_at rs t)) (term_at rs i)

-- the input is one of E events, or the gate of one of the records
abbrev pub known : ℕ → List Record → ℕ → Bool
known E [] i = nat_lt i E
known E (Joins g a b ∷ rs) i = i == 64 + length rs || known E rs i
known E (Triggers t d ∷ rs) i = known E rs i

-- the term that a record makes after others
abbrev pub new_term : List Record → Record → Term ℕ
new_term rs (Joins g a b) = gate_term g (term_at rs a) (term_at rs b)
new_term rs (Triggers t d) = with_trigger (term_at rs d) (term_at rs t)

-- why a record cannot come after others
abbrev pub fault : ℕ → List Record → Record → Option TreeRefusal
fault E rs r =
    cond (known E rs (first r) && known E rs (second r))
    (cond (misplaced rs r) (Some Dependent) (cond (nat_lt 511 (length (text_of (new_term rs r)))) (Some TooLong) None))
    (Some Input)
