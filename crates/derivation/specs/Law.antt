-- The law of the bench, over every run of its calls.
-- Assumes nothing.
use Rattle.std.specs.Prelude.{◌≡◌, ℕ, ◌≤◌, ◌↔◌, List, [], ◌∷◌, ◌++◌, map, length, Ok, Err, All}
use Rattle.algebra.specs.Kinds.{Kind, Same}
use Rattle.algebra.specs.Terms.{never}
use Rattle.algebra.specs.Texts.{text_of, text_date}
use Rattle.trees.specs.Reading.{Outcome, gives}
use Rattle.trees.specs.declared.refusal.TreeRefusal.{TreeRefusal}
use Rattle.sequences.specs.Closing.{SomeNever}
use Rattle.sequences.specs.Dates.{HappensByTicks, table_date}
use Rattle.sequences.specs.Sequences.{TextCloses, rows_with}
use Rattle.sequences.specs.declared.refusals.CloseRefusal.{CloseRefusal}
use Rattle.sequences.specs.declared.refusals.CloseRefusal.TheVariants.{ImpossibleSequence}
use Rattle.sequences.specs.declared.row.Factor.{Factor}
use Rattle.sequences.specs.declared.row.Row.{Row}
use Rattle.steps.specs.declared.refusal.StepRefusal.{StepRefusal}
use Rattle.derivation.specs.Model.{State, fresh, Answer, Opened, Stepped, Grantable, Closed}

-- a call that a bench has known, with its answer
pub data Known : Type 0 where
  opening : List ℕ → Answer TreeRefusal → Known
  stepping : List ℕ → Answer StepRefusal → Known

-- what was asked, without the answer
pub data Call : Type 0 where
  tree_bytes : List ℕ → Call
  step_bytes : List ℕ → Call

abbrev pub asked : Known → Call
asked (opening bs r) = tree_bytes bs
asked (stepping bs r) = step_bytes bs

-- the state before a call, and after it
abbrev pub Happened : State → Known → State → Type 0
Happened s (opening bs r) s' = Opened s bs r s'
Happened s (stepping bs r) s' = Stepped s bs r s'

-- A new bench that has known these calls, the newest first, stands so:
-- each was carried out or refused as defined, upon the result of those before.
pub data Run : List Known → State → Type 0 where
  begun : Run [] fresh
  then : {h : List Known} {s s' : State} (c : Known) → Run h s → Happened s c s' → Run (c ∷ h) s'

-- the source text of the tree last opened with a grant; no tree is dated never
abbrev pub TreeText : List Known → List ℕ → Type 0
TreeText [] text = text ≡ text_of never
TreeText (opening bs (Ok u) ∷ h) text = (events : ℕ) × Outcome bs (gives events text)
TreeText (opening bs (Err e) ∷ h) text = TreeText h text
TreeText (stepping bs r ∷ h) text = TreeText h text

-- a bench is not closed yet, or was closed with this answer: the rows that the table held before, and those that it holds after
pub data Ending : Type 0 where
  going : Ending
  closing : List Row → Answer CloseRefusal → List Row → Ending

abbrev pub AtClosing : Ending → (List Row → Answer CloseRefusal → List Row → Type 0) → Type 0
AtClosing going P = Unit {0}
AtClosing (closing old r new) P = P old r new

-- the text is a sum of at most 64 sequences, and one of them happens under no dating by ticks
pub record OneNever (text : List ℕ) : Type 0 where
  pub sequences : List (List Factor)
  pub closes : TextCloses text sequences
  pub few : length sequences ≤ 64
  pub never : SomeNever (rows_with sequences)

-- The law: of a bench that has known the calls h, stands at s, and was perhaps closed then.
pub record Lawful (h : List Known) (s : State) (e : Ending) : Type 0 where
  -- Each call was carried out or refused exactly as defined, upon the result of those before;
  -- the same calls can have no other answers, and lead to no other state.
  pub calls : Run h s
  pub only : (h' : List Known) (s' : State) → map asked h' ≡ map asked h → Run h' s' → (h' ≡ h) × (s' ≡ s)
  pub close : AtClosing e (λ old r new. Closed s old r new)
  pub close_only : AtClosing e (λ old r new. (r' : Answer CloseRefusal) (new' : List Row) → Closed s old r' new' → (r' ≡ r) × (new' ≡ new))
  -- (a) The source text is that of the tree last opened; it, the present text and, after a granted closing, the table
  -- have the same date, under every dating.
  pub tree : TreeText h s.source
  pub text_dates : (text : List ℕ) → TreeText h text → (K : Kind ℕ) (d : ℕ → ℕ) → Same K (text_date K d text) (text_date K d s.present)
  pub table_dates : AtClosing e (λ old r new. r ≡ Ok tt → (text : List ℕ) → TreeText h text → (K : Kind ℕ) (d : ℕ → ℕ) → Same K (text_date K d text) (table_date K d new))
  -- (b) A step was granted exactly when a tree was open, the record well-formed, and so on, upon the result of the calls before it.
  pub steps : (later before : List Known) (bs : List ℕ) (r : Answer StepRefusal) (s₀ : State) → h ≡ later ++ (stepping bs r ∷ before) → Run before s₀ → (r ≡ Ok tt) ↔ Grantable s₀ bs
  -- (c) Every sequence of the table happens under some dating by ticks; the answer is "impossible" exactly when
  -- the text is a sum of at most 64 sequences and one of them happens under none.
  pub happens : AtClosing e (λ old r new. r ≡ Ok tt → All HappensByTicks new)
  pub impossible : AtClosing e (λ old r new. (r ≡ Err ImpossibleSequence) ↔ OneNever s.present)
