-- A whole job: a tree is opened, the steps of a file are made in order, and the bench is closed.
-- Assumes nothing.
use Rattle.std.specs.Prelude.{◌≡◌, ℕ, ◌+◌, List, [], ◌∷◌, Ok, Err, Result}
use Rattle.sequences.specs.declared.row.Row.{Row}
use Rattle.steps.specs.Files.{Begins, CutOff, fault_at}
use Rattle.steps.specs.declared.file.StepFault.{StepFault}
use Rattle.steps.specs.declared.refusal.StepRefusal.{StepRefusal}
use Rattle.steps.specs.declared.refusal.StepRefusal.TheVariants.{Form}
use Rattle.derivation.specs.Law.{Known, opening, stepping, Run, going, closing, Lawful}
use Rattle.derivation.specs.Model.{State, Answer}
use Rattle.derivation.specs.declared.job.JobFault.{JobFault}
use Rattle.derivation.specs.declared.job.JobFault.TheVariants.{Tree, Step, Close}

-- A bench that has known the calls h makes the steps of a file, the first of which has the number n: each record in
-- order, until the file's end, or until one is refused or cut off by the end; and then it has known the last calls.
pub data Walked : ℕ → List ℕ → List Known → Answer StepFault → List Known → Type 0 where
  ended : (n : ℕ) (file : List ℕ) (h : List Known) → file ≡ [] → Walked n file h (Ok tt) h
  cut : (n : ℕ) (file : List ℕ) (h : List Known) → CutOff file → Walked n file h (Err (fault_at n Form)) h
  stopped : (n : ℕ) (file : List ℕ) (h : List Known) (bs rest : List ℕ) (e : StepRefusal) → Begins file bs rest → Walked n file h (Err (fault_at n e)) (stepping bs (Err e) ∷ h)
  went : (n : ℕ) (file : List ℕ) (h : List Known) (bs rest : List ℕ) (r : Answer StepFault) (h' : List Known) → Begins file bs rest → Walked (n + 1) rest (stepping bs (Ok tt) ∷ h) r h' → Walked n file h r h'

-- the bench after the steps of a file
pub record Made (h : List Known) (file : List ℕ) (r : Answer StepFault) (s : State) : Type 0 where
  pub calls : List Known
  pub walked : Walked 1 file h r calls
  pub run : Run calls s

-- the steps of the file after the tree, up to this answer, and the bench then
pub record Worked (tree file : List ℕ) (r : Answer StepFault) (P : List Known → State → Type 0) : Type 0 where
  pub calls : List Known
  pub state : State
  pub walked : Walked 1 file (opening tree (Ok tt) ∷ []) r calls
  pub then : P calls state

-- What comes of a job: the law of its run, up to the call that was refused. Only a granted closing changes the table.
abbrev pub Job : List ℕ → List ℕ → List Row → Result (Unit {0}) JobFault → List Row → Type 0
Job tree file old (Ok u) new = Worked tree file (Ok tt) (λ h s. Lawful h s (closing old (Ok tt) new))
Job tree file old (Err (Tree e)) new = ((s : State) × Lawful (opening tree (Err e) ∷ []) s going) × (new ≡ old)
Job tree file old (Err (Step f)) new = Worked tree file (Err f) (λ h s. Lawful h s going) × (new ≡ old)
Job tree file old (Err (Close e)) new = Worked tree file (Ok tt) (λ h s. Lawful h s (closing old (Err e) new)) × (new ≡ old)
