-- A bench as its callers know it, and what each call does.
-- Assumes nothing.
use Rattle.std.specs.Prelude.{◌≡◌, ℕ, ◌<◌, ◌≤◌, Bool, true, false, List, length, Ok, Err, Result}
use Rattle.algebra.specs.Refusals.{Refused, Granted}
use Rattle.algebra.specs.Terms.{never}
use Rattle.algebra.specs.Texts.{text_of}
use Rattle.trees.specs.Reading.{Outcome, gives, refuses}
use Rattle.trees.specs.Refusals.{tree_code}
use Rattle.trees.specs.declared.refusal.TreeRefusal.{TreeRefusal}
use Rattle.sequences.specs.Closing.{CloseAsks}
use Rattle.sequences.specs.Codes.{close_code}
use Rattle.sequences.specs.Tables.{Holds}
use Rattle.sequences.specs.declared.refusals.CloseRefusal.{CloseRefusal}
use Rattle.sequences.specs.declared.refusals.CloseRefusal.TheVariants as close
use Rattle.sequences.specs.declared.row.Row.{Row}
use Rattle.steps.specs.Records.{Request, Says}
use Rattle.steps.specs.Refusals.{step_code}
use Rattle.steps.specs.Stepping.{SuppliesLacked, Fits, StepAsks, StepMakes}
use Rattle.steps.specs.declared.refusal.StepRefusal.{StepRefusal}

-- whether a tree is open, its number of events, its source text, and the present text
pub record State : Type 0 where
  pub opened : Bool
  pub events : ℕ
  pub source : List ℕ
  pub present : List ℕ

-- a new bench has no tree, and N as both texts
abbrev pub fresh : State
fresh = record { opened = false; events = 0; source = text_of never; present = text_of never }

abbrev pub Answer : Type 0 → Type 0
Answer E = Result (Unit {0}) E

-- OPENING

-- a granted opening makes the tree's text both texts; a refused one changes nothing
abbrev pub Opened : State → List ℕ → Answer TreeRefusal → State → Type 0
Opened s bs (Ok u) s' = Outcome bs (gives s'.events s'.source) × (s'.present ≡ s'.source) × (s'.opened ≡ true)
Opened s bs (Err e) s' = Outcome bs (refuses (tree_code e)) × (s' ≡ s)

-- STEPS

-- what a step asks for, by the refusal where it is missing: an open tree, and then what a step on the present text asks for
abbrev pub BenchAsks : State → List ℕ → StepRefusal → Type 0
BenchAsks s bs e = StepAsks (s.opened ≡ true) s.present s.events bs e

-- a tree is open, the step record is well-formed and supplies just what its rule lacks, its place lies within the text,
-- the rule fits there, and the new text has at most 511 bytes
pub record Grantable (s : State) (bs : List ℕ) : Type 0 where
  pub tree : s.opened ≡ true
  pub request : Request
  pub form : Says s.events bs request
  pub supplied : SuppliesLacked request
  pub place : request.place < length s.present
  pub new : List ℕ
  pub fits : Fits s.present request new
  pub short : length new ≤ 511

-- the state with a new present text
abbrev pub moved : State → List ℕ → State
moved s new = record { opened = s.opened; events = s.events; source = s.source; present = new }

-- a granted step puts the new text in the place of the present one; a refused one changes nothing
abbrev pub Stepped : State → List ℕ → Answer StepRefusal → State → Type 0
Stepped s bs (Ok u) s' = Granted (BenchAsks s bs) × StepMakes s.present s.events bs s'.present × (s' ≡ moved s s'.present)
Stepped s bs (Err e) s' = Refused step_code (BenchAsks s bs) e × (s' ≡ s)

-- CLOSING

-- what a closing asks for, by the refusal where it is missing: an open tree, and then what closing the present text asks for
abbrev pub ClosingAsks : State → CloseRefusal → Type 0
ClosingAsks s close.NoTree = s.opened ≡ true
ClosingAsks s close.NoSum = CloseAsks s.present close.NoSum
ClosingAsks s close.TooMany = CloseAsks s.present close.TooMany
ClosingAsks s close.ImpossibleSequence = CloseAsks s.present close.ImpossibleSequence

-- a granted closing replaces the table's rows by those of the present text; a refused one leaves them
abbrev pub Closed : State → List Row → Answer CloseRefusal → List Row → Type 0
Closed s old (Ok u) new = Granted (ClosingAsks s) × Holds s.present new
Closed s old (Err e) new = Refused close_code (ClosingAsks s) e × (new ≡ old)
