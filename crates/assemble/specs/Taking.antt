-- What a job holds, and what a line makes of it.
-- Assumes nothing.
use Rattle.std.specs.Prelude.{◌≡◌, ℕ, Bool, true, false, ◌⊎◌, List, [], ◌∷◌, ◌++◌, codes}
use Rattle.trees.specs.declared.record.Record.{Record}
use Rattle.steps.specs.Records.{Request}
use Rattle.assembly.specs.StepFiles.{StepFile}
use Rattle.notation.specs.Numbers.{Number}
use Rattle.notation.specs.Records.{RecordWords}
use Rattle.notation.specs.Steps.{StepWords}

-- whether the events were named, how many there are, the records in order, and the file of the steps
pub record Held : Type 0 where
  pub named : Bool
  pub events : ℕ
  pub records : List Record
  pub steps : List ℕ

-- the events are named, once and before anything else
pub record EventsTaken (digits : List ℕ) (s s' : Held) : Type 0 where
  pub first : s.named ≡ false
  pub named : s'.named ≡ true
  pub number : Number digits s'.events
  pub records : s'.records ≡ []
  pub steps : s'.steps ≡ []

-- a record comes after the others, and before any step
pub record RecordTaken (x : Record) (s s' : Held) : Type 0 where
  pub before : s.named ≡ true
  pub early : s.steps ≡ []
  pub named : s'.named ≡ true
  pub events : s'.events ≡ s.events
  pub records : s'.records ≡ s.records ++ (x ∷ [])
  pub steps : s'.steps ≡ s.steps

-- a step comes after the others
pub record StepTaken (q : Request) (s s' : Held) : Type 0 where
  pub before : s.named ≡ true
  pub named : s'.named ≡ true
  pub events : s'.events ≡ s.events
  pub records : s'.records ≡ s.records
  pub steps : (qs : List Request) → StepFile s.events qs s.steps → StepFile s.events (qs ++ (q ∷ [])) s'.steps

pub record Events (ws : List (List ℕ)) (s s' : Held) : Type 0 where
  pub digits : List ℕ
  pub is : ws ≡ codes "events" ∷ digits ∷ []
  pub taken : EventsTaken digits s s'

pub record OneRecord (ws : List (List ℕ)) (s s' : Held) : Type 0 where
  pub one : Record
  pub words : RecordWords one ws
  pub taken : RecordTaken one s s'

pub record OneStep (ws : List (List ℕ)) (s s' : Held) : Type 0 where
  pub asked : Request
  pub words : StepWords asked ws
  pub taken : StepTaken asked s s'

-- the words of a line were taken: there are none, or they name the events, say a record, or say a step
abbrev pub Taken : List (List ℕ) → Held → Held → Type 0
Taken ws s s' = ((ws ≡ []) × (s' ≡ s)) ⊎ (Events ws s s' ⊎ (OneRecord ws s s' ⊎ OneStep ws s s'))
