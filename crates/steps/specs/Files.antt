-- A file of steps: each record with its length before it, in 2 bytes, the high byte first.
-- Assumes nothing.
use Rattle.std.specs.Prelude.{◌≡◌, ℕ, ◌+◌, ◌*◌, List, [], ◌∷◌, ◌++◌, length, Some, None, Ok, Err, Option, Result}
use Rattle.std.specs.Borrow.{Bor}
use Rattle.steps.specs.Stepping.{StepAnswer}
use Rattle.steps.specs.declared.file.StepFault.{StepFault}
use Rattle.steps.specs.declared.records.Records.{Records}
use Rattle.steps.specs.declared.refusal.StepRefusal.{StepRefusal}
use Rattle.steps.specs.declared.refusal.StepRefusal.TheVariants.{Form}

-- the file begins with the record bs, and rest stands after it
pub record Begins (file bs rest : List ℕ) : Type 0 where
  pub high : ℕ
  pub low : ℕ
  pub bytes : file ≡ high ∷ (low ∷ (bs ++ rest))
  pub size : length bs ≡ 256 * high + low

-- the file has bytes left, and ends before its first record does
pub record CutOff (file : List ℕ) : Type 0 where
  pub some : file ≡ [] → ⊥
  pub none : (bs rest : List ℕ) → Begins file bs rest → ⊥

-- the first record of the file and what stands after it, or none at its end
abbrev pub NextRecord : List ℕ → Result (Option (Bor (List ℕ) × Bor (List ℕ))) StepRefusal → Type 0
NextRecord file (Ok None) = file ≡ []
NextRecord file (Ok (Some p)) = Begins file p.0.now p.1.now
NextRecord file (Err e) = (e ≡ Form) × CutOff file

-- a file begins with one record only
abbrev pub OneRecord : List ℕ → Type 0
OneRecord file = (bs rest cs more : List ℕ) → Begins file bs rest → Begins file cs more → (bs ≡ cs) × (rest ≡ more)

-- the fault that names the step and its refusal
abbrev pub fault_at : ℕ → StepRefusal → StepFault
fault_at n e = record { step = n; refusal = e }

-- an answer to the step of a number
abbrev pub answer_at : {A : Type 0} → ℕ → Result A StepRefusal → Result A StepFault
answer_at n (Ok x) = Ok x
answer_at n (Err e) = Err (fault_at n e)

-- The next of the records that are left comes with its number, and those after it are left; at their end comes
-- nothing. A record that is cut off comes as a fault, and nothing is left after it.
abbrev pub NextOf : Records → Option (Result (ℕ × Bor (List ℕ)) StepFault) → Records → Type 0
NextOf old None new = (old.left.now ≡ []) × (new.left.now ≡ [])
NextOf old (Some (Ok p)) new = (p.0 ≡ old.step) × Begins old.left.now p.1.now new.left.now × (new.step ≡ old.step + 1)
NextOf old (Some (Err f)) new = (f ≡ fault_at old.step Form) × CutOff old.left.now × (new.left.now ≡ [])

-- the steps of a file are applied in order, from the text old on; the first has the number n, and a refused one ends them
pub data Runs (events : ℕ) : ℕ → List ℕ → List ℕ → Result (List ℕ) StepFault → Type 0 where
  ended : (n : ℕ) (old file : List ℕ) (r : Result (List ℕ) StepFault) → file ≡ [] → r ≡ Ok old → Runs events n old file r
  went : (n : ℕ) (old file : List ℕ) (r : Result (List ℕ) StepFault) (bs rest new : List ℕ) → Begins file bs rest → StepAnswer old events bs (Ok new) → Runs events (n + 1) new rest r → Runs events n old file r
  refused : (n : ℕ) (old file : List ℕ) (r : Result (List ℕ) StepFault) (bs rest : List ℕ) (e : StepRefusal) → Begins file bs rest → StepAnswer old events bs (Err e) → r ≡ Err (fault_at n e) → Runs events n old file r
  cut : (n : ℕ) (old file : List ℕ) (r : Result (List ℕ) StepFault) → CutOff file → r ≡ Err (fault_at n Form) → Runs events n old file r

-- a file of steps has one outcome only
abbrev pub OneRun : ℕ → List ℕ → List ℕ → Type 0
OneRun events old file = (r s : Result (List ℕ) StepFault) → Runs events 1 old file r → Runs events 1 old file s → r ≡ s
