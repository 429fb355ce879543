-- What an evaluation answers.
-- Assumes nothing.
use Rattle.std.specs.Prelude.{◌≡◌, ℕ, ◌≤◌, List, length, Result}
use Rattle.std.proofs.Common.{refl, arith}
use Rattle.algebra.specs.Kinds.{Kind}
use Rattle.algebra.specs.Refusals.{Answers}
use Rattle.algebra.specs.Terms.{Term, date, dating_of}
use Rattle.algebra.specs.Texts.{IsText, text_of}
use Rattle.texts.specs.declared.evaluation.EvaluationRefusal.{EvaluationRefusal}
use Rattle.texts.specs.declared.evaluation.EvaluationRefusal.TheVariants.{NoText, NoDating, SmallWork}

-- the number of each refusal
abbrev pub evaluation_code : EvaluationRefusal → ℕ
evaluation_code NoText = 51
evaluation_code NoDating = 52
evaluation_code SmallWork = 53

-- no two refusals have one number
pub evaluation_codes_differ : (e f : EvaluationRefusal) → evaluation_code e ≡ evaluation_code f → e ≡ f
evaluation_codes_differ NoText NoText h = refl
evaluation_codes_differ NoText NoDating h = absurd (omega arith)
evaluation_codes_differ NoText SmallWork h = absurd (omega arith)
evaluation_codes_differ NoDating NoText h = absurd (omega arith)
evaluation_codes_differ NoDating NoDating h = refl
evaluation_codes_differ NoDating SmallWork h = absurd (omega arith)
evaluation_codes_differ SmallWork NoText h = absurd (omega arith)
evaluation_codes_differ SmallWork NoDating h = absurd (omega arith)
evaluation_codes_differ SmallWork SmallWork h = refl

-- what an evaluation asks for, by the refusal that it else gives: a text, a dating of exactly 24 dates, and a work table of at least 256 dates
abbrev pub EvaluationAsks : {D : Type 0} → List ℕ → List D → ℕ → EvaluationRefusal → Type 0
EvaluationAsks text ds room NoText = IsText text
EvaluationAsks text ds room NoDating = length ds ≡ 24
EvaluationAsks text ds room SmallWork = 256 ≤ room

-- p is the date of the term that the text writes, under the dating ds
abbrev pub DateOf : {D : Type 0} → Kind D → List D → List ℕ → D → Type 0
DateOf K ds text p = (t : Term ℕ) → text ≡ text_of t → p ≡ date K (dating_of K ds) t

-- the answer to an evaluation with a work table of so many dates
abbrev pub Evaluated : {D : Type 0} → Kind D → List ℕ → List D → ℕ → Result D EvaluationRefusal → Type 0
Evaluated K text ds room r = Answers evaluation_code (EvaluationAsks text ds room) (DateOf K ds text) r
