-- The open tree of a bench.
-- Assumes nothing.
use Rattle.trees.specs.declared.reader.Tree.{Tree}
use Rattle.derivation.specs.Model.{State}

abbrev pub open_tree : State → Tree
open_tree s = record { events = s.events; source = s.source }
