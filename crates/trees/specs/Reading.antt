-- How a tree is read from the front.
-- Assumes nothing.
use Rattle.std.specs.Prelude.{◌≡◌, ℕ, ◌+◌, ◌<◌, ◌≤◌, ◌⊎◌, List, [], ◌∷◌, length, Some, None, Ok, Err, Option, Result, ◌≢◌}
use Rattle.algebra.specs.Texts.{text_of}
use Rattle.texts.specs.declared.text.Text.{Text}
use Rattle.trees.specs.declared.record.Record.{Record}
use Rattle.trees.specs.declared.refusal.TreeRefusal.{TreeRefusal}
use Rattle.trees.specs.declared.refusal.TreeRefusal.TheVariants.{Form, Counts, NoSource}
use Rattle.trees.specs.declared.reader.Tree.{Tree}
use Rattle.trees.specs.Refusals.{tree_code}
use Rattle.trees.specs.Records.{Front, NoRecord, LastIsGate}
use Rattle.trees.specs.Gates.{fault, term_at}

-- the records, the latest first, stand one after another at the front of bs, each can come there, and rest is left
abbrev pub Along : ℕ → List ℕ → List Record → List ℕ → Type 0
Along E bs [] rest = bs ≡ rest
Along E bs (r ∷ rs) rest = (fault E rs r ≡ None) × ((mid : List ℕ) × (Along E bs rs mid × Front mid r rest))

-- an answer in numbers: how many events and which text, or which refusal
pub data Answer : Type 0 where
  gives : ℕ → List ℕ → Answer
  refuses : ℕ → Answer

abbrev pub answer : Result Tree TreeRefusal → Answer
answer (Ok t) = gives t.events t.source
answer (Err e) = refuses (tree_code e)

-- why the reading of n records stops after the records rs, and what comes of it
pub data Stop (E n : ℕ) (rs : List Record) (rest : List ℕ) : Answer → Type 0 where
  unread : length rs < n → NoRecord rest → Stop E n rs rest (refuses (tree_code Form))
  faulty : length rs < n → (r : Record) (after : List ℕ) → Front rest r after → (e : TreeRefusal) → fault E rs r ≡ Some e → Stop E n rs rest (refuses (tree_code e))
  left_over : length rs ≡ n → (rest ≢ []) → Stop E n rs rest (refuses (tree_code Form))
  no_source : length rs ≡ n → rest ≡ [] → (LastIsGate rs → ⊥) → Stop E n rs rest (refuses (tree_code NoSource))
  granted : length rs ≡ n → rest ≡ [] → LastIsGate rs → Stop E n rs rest (gives E (text_of (term_at rs (63 + n))))

-- what comes of the bytes of n records of a tree with E events
pub record Ending (E n : ℕ) (bs : List ℕ) (a : Answer) : Type 0 where
  pub records : List Record
  pub rest : List ℕ
  pub along : Along E bs records rest
  pub stop : Stop E n records rest a

-- a tree has 1 to 24 events and 1 to 32 records
abbrev pub InRange : ℕ → ℕ → Type 0
InRange E n = (1 ≤ E) × (E ≤ 24) × (1 ≤ n) × (n ≤ 32)

-- what comes of the bytes of a tree
abbrev pub Outcome : List ℕ → Answer → Type 0
Outcome [] a = a ≡ refuses (tree_code Form)
Outcome (E ∷ []) a = a ≡ refuses (tree_code Form)
Outcome (E ∷ n ∷ body) a = (InRange E n × Ending E n body a) ⊎ ((InRange E n → ⊥) × (a ≡ refuses (tree_code Counts)))

-- what comes of the bytes after the last record, and of its text
abbrev pub Ended : List ℕ → Option Text → Result Text TreeRefusal → Type 0
Ended rest last (Ok x) = (length rest ≡ 0) × (last ≡ Some x)
Ended rest last (Err e) = ((0 < length rest) × (e ≡ Form)) ⊎ ((length rest ≡ 0) × (last ≡ None) × (e ≡ NoSource))
