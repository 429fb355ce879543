-- A file of step records beside what its steps say.
-- Assumes nothing.
use Rattle.std.specs.Prelude.{◌≡◌, ℕ, List, [], ◌∷◌}
use Rattle.steps.specs.Files.{Begins}
use Rattle.steps.specs.Records.{Request, Says}

-- the records of the file say these requests, in order, for a tree with so many events
pub data StepFile (events : ℕ) : List Request → List ℕ → Type 0 where
  ended : StepFile events [] []
  more : (q : Request) (qs : List Request) (file bs rest : List ℕ) → Begins file bs rest → Says events bs q → StepFile events qs rest → StepFile events (q ∷ qs) file

-- the file says one list of requests only
abbrev pub OneList : ℕ → List ℕ → Type 0
OneList events file = (ps qs : List Request) → StepFile events ps file → StepFile events qs file → ps ≡ qs
