-- The answers of the questions that a bench is asked: the date of a text, and the term at a place.
-- Assumes nothing.
use Rattle.std.specs.Prelude.{◌≡◌, ℕ, ◌<◌, ◌≤◌, true, List, ◌++◌, length, drop, Ok, Err, Result}
use Rattle.std.specs.Borrow.{Bor}
use Rattle.algebra.specs.Kinds.{Kind, Same}
use Rattle.algebra.specs.Refusals.{Answers}
use Rattle.algebra.specs.Terms.{Term, dating_of}
use Rattle.algebra.specs.Texts.{text_of, text_date}
use Rattle.texts.specs.Evaluation.{evaluation_code}
use Rattle.texts.specs.declared.evaluation.EvaluationRefusal.{EvaluationRefusal}
use Rattle.texts.specs.declared.evaluation.EvaluationRefusal.TheVariants.{NoText, NoDating, SmallWork}
use Rattle.sequences.specs.Dates.{table_date}
use Rattle.sequences.specs.declared.row.Row.{Row}
use Rattle.steps.specs.Refusals.{step_code}
use Rattle.steps.specs.declared.refusal.StepRefusal.{StepRefusal}
use Rattle.steps.specs.declared.refusal.StepRefusal.TheVariants.{NoTree, Form, Supplies, Place, NoFit, TooLong}
use Rattle.derivation.specs.Model.{State}

-- what the date of a bench's text asks for; its texts are always texts
abbrev pub DatingAsks : {D : Type 0} → List D → ℕ → EvaluationRefusal → Type 0
DatingAsks ds room NoText = Unit {0}
DatingAsks ds room NoDating = length ds ≡ 24
DatingAsks ds room SmallWork = 256 ≤ room

-- the answer to the date of a text under the dating ds, with a work table of so many dates
abbrev pub TextDated : {D : Type 0} → Kind D → List D → ℕ → List ℕ → Result D EvaluationRefusal → Type 0
TextDated K ds room text r = Answers evaluation_code (DatingAsks ds room) (λ p. p ≡ text_date K (dating_of K ds) text) r

-- a date that is answered is the same as that of the text
abbrev pub DatedAs : {D E : Type 0} → Kind D → List D → List ℕ → Result D E → Type 0
DatedAs K ds text (Ok p) = Same K (text_date K (dating_of K ds) text) p
DatedAs K ds text (Err e) = Unit {0}

-- a text and a table that have the same date over every kind whose dates are numbers have it under the dates ds, of whatever kind
abbrev pub TablesSpeak : {D : Type 0} → Kind D → List D → Type 0
TablesSpeak K ds =
    (text : List ℕ) (rows : List Row) → ((L : Kind ℕ) (d : ℕ → ℕ) → Same L (text_date L d text) (table_date L d rows))
    → Same K (text_date K (dating_of K ds) text) (table_date K (dating_of K ds) rows)

-- what handing out a term asks for: an open tree, and a place within the present text
abbrev pub TermAsks : State → ℕ → StepRefusal → Type 0
TermAsks s place NoTree = s.opened ≡ true
TermAsks s place Form = Unit {0}
TermAsks s place Supplies = Unit {0}
TermAsks s place Place = place < length s.present
TermAsks s place NoFit = Unit {0}
TermAsks s place TooLong = Unit {0}

-- the bytes are those of the term that stands at the place of the present text
pub record TermAt (s : State) (place : ℕ) (part : Bor (List ℕ)) : Type 0 where
  pub term : Term ℕ
  pub rest : List ℕ
  pub bytes : part.now ≡ text_of term
  pub here : drop place s.present ≡ part.now ++ rest

abbrev pub HandedOut : State → ℕ → Result (Bor (List ℕ)) StepRefusal → Type 0
HandedOut s place r = Answers step_code (TermAsks s place) (TermAt s place) r
