-- The answers to the questions that a bench is asked.
-- Assumes nothing.
use Rattle.std.proofs.Common.{◌≡◌, ℕ, ◌<◌, ◌≤◌, true, List, ◌++◌, length, drop, Ok, Err, Result, sym, ◌∙◌, subst, arith}
use Rattle.algebra.specs.Kinds.{Kind, Same}
use Rattle.algebra.specs.Refusals.{Refused, Granted}
use Rattle.algebra.specs.Terms.{Term, leaf, never, node, Among, dating_of}
use Rattle.algebra.specs.Texts.{text_of, text_date, Whole, IsText}
use Rattle.algebra.proofs.Bytes.{every_place}
use Rattle.algebra.proofs.Derived.{text_date_lem}
use Rattle.texts.specs.Evaluation.{EvaluationAsks, Evaluated}
use Rattle.texts.specs.Spans.{Spans}
use Rattle.texts.specs.declared.evaluation.EvaluationRefusal.{EvaluationRefusal}
use Rattle.texts.specs.declared.evaluation.EvaluationRefusal.TheVariants.{NoText, NoDating, SmallWork}
use Rattle.texts.proofs.Rows.{some_bytes}
use Rattle.steps.specs.Refusals.{step_code}
use Rattle.steps.specs.declared.refusal.StepRefusal.{StepRefusal}
use Rattle.steps.specs.declared.refusal.StepRefusal.TheVariants.{NoTree, Form, Supplies, Place, NoFit, TooLong}
use Rattle.derivation.specs.Dating.{DatingAsks, TextDated, DatedAs, TermAsks}
use Rattle.derivation.specs.Model.{State}

-- DATES

among_more : (m n : ℕ) (t : Term ℕ) → m ≤ n → Among m t → Among n t
among_more m n (leaf v) h a = omega arith
among_more m n never h a = tt
among_more m n (node o l r) h a = (among_more m n l h a.0, among_more m n r h a.1)

-- the texts of a bench are texts
pub is_text : (n : ℕ) (bs : List ℕ) → n ≤ 24 → length bs ≤ 511 → Whole n bs → IsText bs
is_text n bs few short w = record { whole = record { term = w.term; written = w.written; letters = among_more n 24 w.term few w.letters }; short = short }

module _ {D : Type 0} (K : Kind D) (text : List ℕ) (ds : List D) (room : ℕ) (is : IsText text) where
  dating_asks : (e : EvaluationRefusal) → EvaluationAsks text ds room e → DatingAsks ds room e
  dating_asks NoText w = tt
  dating_asks NoDating w = w
  dating_asks SmallWork w = w

  pub text_dated : (r : Result D EvaluationRefusal) → Evaluated K text ds room r → TextDated K ds room text r
  text_dated (Ok p) o =
      let w = (o.0 NoText).whole in
      (λ e. dating_asks e (o.0 e), o.1 w.term w.written ∙ sym (text_date_lem K (dating_of K ds) text w.term w.written))
  text_dated (Err NoText) o = absurd (o.fails is)
  text_dated (Err NoDating) o = record { fails = o.fails; lower = λ f k. dating_asks f (o.lower f k) }
  text_dated (Err SmallWork) o = record { fails = o.fails; lower = λ f k. dating_asks f (o.lower f k) }

-- an answered date is the same as that of every text with which this one shares its date
pub dated_as : {D : Type 0} (K : Kind D) (ds : List D) (room : ℕ) (text tree : List ℕ) → Same K (text_date K (dating_of K ds) tree) (text_date K (dating_of K ds) text) → (r : Result D EvaluationRefusal) → TextDated K ds room text r → DatedAs K ds tree r
dated_as K ds room text tree same (Ok p) o = subst (Same K (text_date K (dating_of K ds) tree)) (sym o.1) same
dated_as K ds room text tree same (Err e) o = tt

-- TERMS

module _ (s : State) (place : ℕ) (o : s.opened ≡ true) where
  pub term_asked : place < length s.present → Granted (TermAsks s place)
  term_asked h NoTree = o
  term_asked h Form = tt
  term_asked h Supplies = tt
  term_asked h Place = h
  term_asked h NoFit = tt
  term_asked h TooLong = tt

  pub no_place : (place < length s.present → ⊥) → Refused step_code (TermAsks s place) Place
  no_place h = record { fails = h; lower = lower }
    where
      lower : (f : StepRefusal) → step_code f < 14 → TermAsks s place f
      lower NoTree l = o
      lower Form l = tt
      lower Supplies l = tt
      lower Place l = absurd (omega arith)
      lower NoFit l = tt
      lower TooLong l = tt

-- a place where no term stands lies past the text's end
pub past_end : (n : ℕ) (bs : List ℕ) (place : ℕ) → Whole n bs → ((t : Term ℕ) (rest : List ℕ) → drop place bs ≡ text_of t ++ rest → ⊥) → place < length bs → ⊥
past_end n bs place w none h =
    let at = every_place w.term place (subst (λ (x : List ℕ). place < length x) w.written h) in
    none at.term at.rest (subst (λ (x : List ℕ). drop place x ≡ text_of at.term ++ at.rest) (sym w.written) at.here)

pub spans_inside : (bs : List ℕ) (place : ℕ) (t : Term ℕ) (end : ℕ) → Spans bs place t end → place < length bs
spans_inside bs place t end w = omega (arith, some_bytes t, w.counted, w.within)
