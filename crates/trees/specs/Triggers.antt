-- What triggers mean. A list of records has the latest first.
-- Assumes nothing.
use Rattle.std.specs.Prelude.{ℕ, Bool, false, cond, ◌||◌, List, [], ◌∷◌, ◌==◌, nat_le}
use Rattle.algebra.specs.Terms.{Term, leaf, node}
use Rattle.algebra.specs.declared.Operator.TheVariants.{Or}
use Rattle.trees.specs.declared.record.Record.{Record}
use Rattle.trees.specs.declared.record.Record.TheVariants.{Joins, Triggers}

-- an event's term with one more trigger
abbrev pub with_trigger : Term ℕ → Term ℕ → Term ℕ
with_trigger event trigger = node Or event trigger

-- the input is one of a gate, or a trigger
abbrev pub read : List Record → ℕ → Bool
read [] i = false
read (Joins g a b ∷ rs) i = i == a || (i == b || read rs i)
read (Triggers t d ∷ rs) i = i == t || read rs i

-- the dependent of a record after others is no event, its own trigger, or was read before
abbrev pub misplaced : List Record → Record → Bool
misplaced rs (Joins g a b) = false
misplaced rs (Triggers t d) = nat_le 64 d || (t == d || read rs d)

-- An event's term, where each input i has the term v i: the letter, with its triggers in the order of the records.
abbrev pub triggered : (ℕ → Term ℕ) → List Record → ℕ → Term ℕ
triggered v [] e = leaf e
triggered v (Joins g a b ∷ rs) e = triggered v rs e
triggered v (Triggers t d ∷ rs) e = cond (e == d) (with_trigger (triggered v rs e) (v t)) (triggered v rs e)
