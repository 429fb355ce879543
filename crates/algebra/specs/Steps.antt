-- Steps by rules of the sheet, and what is reached by them.
-- Assumes nothing.
use Rattle.std.specs.Prelude.{◌≡◌, ℕ, ◌<◌, ◌≤◌, List, ◌++◌, length, take, drop}
use Rattle.algebra.specs.Kinds.{Kind, Same}
use Rattle.algebra.specs.Terms.{Term, date, dating_of, inst}
use Rattle.algebra.specs.Texts.{text_of, text_date}
use Rattle.algebra.specs.Replacing.{Replaced}
use Rattle.algebra.specs.Rules.{Rule, numbered, old_side, new_side}
use Rattle.algebra.specs.declared.Variable.{Variable}
use Rattle.algebra.specs.declared.Way.{Way}

-- the rule keeps dates: whatever terms stand for its letters, and under every dating, its two sides have the same date
abbrev pub Keeps : {D : Type 0} → Kind D → Rule → Type 0
Keeps {D} K r = (d : ℕ → D) (σ : Variable → Term ℕ) → Same K (date K d (inst σ r.left)) (date K d (inst σ r.right))

-- Each rule of the sheet keeps dates.
abbrev pub SheetKeeps : {D : Type 0} → Kind D → Type 0
SheetKeeps K = (n : ℕ) → 1 ≤ n → n ≤ 42 → Keeps K (numbered n)

-- one step: at one place of t stands the old side of a rule, with a term for each letter, and u has the new side there
pub record Step (t u : Term ℕ) : Type 0 where
  pub number : ℕ
  pub low : 1 ≤ number
  pub high : number ≤ 42
  pub way : Way
  pub choice : Variable → Term ℕ
  pub replaced : Replaced (inst choice (old_side way (numbered number))) (inst choice (new_side way (numbered number))) t u

-- t is reached from s by steps
pub data Reached (s : Term ℕ) : Term ℕ → Type 0 where
  start : Reached s s
  next : {t u : Term ℕ} → Reached s t → Step t u → Reached s u

-- What is reached has the date of where it began.
abbrev pub ReachedKeeps : {D : Type 0} → Kind D → Type 0
ReachedKeeps {D} K = (d : ℕ → D) (s t : Term ℕ) → Reached s t → Same K (date K d s) (date K d t)

-- Putting q for p at one place keeps the date, where p and q have the same.
abbrev pub ReplacingKeeps : {D : Type 0} → Kind D → Type 0
ReplacingKeeps {D} K = (d : ℕ → D) (p q t u : Term ℕ) → Replaced p q t u → Same K (date K d p) (date K d q) → Same K (date K d t) (date K d u)

-- the text cs is reached from the text bs by rules of the sheet
pub record Derived (bs cs : List ℕ) : Type 0 where
  pub from : Term ℕ
  pub to : Term ℕ
  pub begins : bs ≡ text_of from
  pub ends : cs ≡ text_of to
  pub steps : Reached from to

-- What is derived has the date of what it is derived from.
abbrev pub DerivedKeeps : {D : Type 0} → Kind D → Type 0
DerivedKeeps {D} K = (d : ℕ → D) (bs cs : List ℕ) → Derived bs cs → Same K (text_date K d bs) (text_date K d cs)

-- the same under the dates ds of the events
abbrev pub DerivedKeepsUnder : {D : Type 0} → Kind D → List D → Type 0
DerivedKeepsUnder K ds = (bs cs : List ℕ) → Derived bs cs → Same K (text_date K (dating_of K ds) bs) (text_date K (dating_of K ds) cs)

-- A derived text that has the old side's instance at a place is derived on with the new side's there.
abbrev pub StepsDerive : Type 0
StepsDerive =
    (bs cs : List ℕ) → Derived bs cs → (n : ℕ) → 1 ≤ n → n ≤ 42 → (way : Way) (σ : Variable → Term ℕ) (place : ℕ) (rest : List ℕ)
    → place < length cs → drop place cs ≡ text_of (inst σ (old_side way (numbered n))) ++ rest
    → Derived bs (take place cs ++ (text_of (inst σ (new_side way (numbered n))) ++ rest))
