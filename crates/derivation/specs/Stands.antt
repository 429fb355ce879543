-- The state that a bench holds, and what is true of it after any calls.
-- Assumes nothing.
use Rattle.std.specs.Prelude.{◌≤◌, true, List, Some, None, Option}
use Rattle.algebra.specs.Steps.{Derived}
use Rattle.trees.specs.Means.{Source}
use Rattle.derivation.specs.Law.{Known, Run}
use Rattle.derivation.specs.Model.{State, fresh}
use Rattle.derivation.specs.declared.bench.Derivation.{Derivation}

abbrev pub state_of : Option Derivation → State
state_of None = fresh
state_of (Some d) = record { opened = true; events = d.tree.events; source = d.tree.source; present = d.present }

-- both texts are texts of the tree's events, rules lead from the source text to the present one, and calls on a new bench lead here
pub record Stands (s : State) : Type 0 where
  pub few : s.events ≤ 24
  pub source : Source s.events s.source
  pub present : Source s.events s.present
  pub reached : Derived s.source s.present
  pub calls : List Known
  pub run : Run calls s
