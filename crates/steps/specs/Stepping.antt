-- What a step does to a text: when it is granted, what it makes, and when it is refused.
-- Assumes nothing.
use Rattle.std.specs.Prelude.{◌≡◌, ℕ, ◌<◌, ◌≤◌, List, ◌++◌, length, take, drop, is_some, Some, None, Option, Result}
use Rattle.algebra.specs.Refusals.{Answers}
use Rattle.algebra.specs.Steps.{Step}
use Rattle.algebra.specs.Terms.{Term, inst}
use Rattle.algebra.specs.Texts.{text_of}
use Rattle.algebra.specs.Rules.{Rule, numbered, old_side, new_side, lacks}
use Rattle.algebra.specs.declared.Variable.{Variable}
use Rattle.steps.specs.Records.{Request, Says, supplied_for}
use Rattle.steps.specs.Refusals.{step_code}
use Rattle.steps.specs.declared.refusal.StepRefusal.{StepRefusal}
use Rattle.steps.specs.declared.refusal.StepRefusal.TheVariants.{NoTree, Form, Supplies, Place, NoFit, TooLong}

-- the rule that is asked for, the side that the step finds, and the one that it puts there
abbrev pub rule_of : Request → Rule
rule_of q = numbered q.rule

abbrev pub old_of : Request → Term Variable
old_of q = old_side q.way (rule_of q)

abbrev pub new_of : Request → Term Variable
new_of q = new_side q.way (rule_of q)

-- exactly the terms of the letters that the rule lacks are supplied
abbrev pub SuppliesLacked : Request → Type 0
SuppliesLacked q = (v : Variable) → is_some (supplied_for q v) ≡ lacks q.way (rule_of q) v

-- the bytes, if there are any, are those of the term
abbrev pub Spells : Option (List ℕ) → Term ℕ → Type 0
Spells None t = Unit {0}
Spells (Some w) t = w ≡ text_of t

-- the rule fits: its old side stands at the place, with one term for each letter, and the supplied terms are those of
-- their letters; the new text has the new side there, and else the old text
pub record Fits (old : List ℕ) (q : Request) (new : List ℕ) : Type 0 where
  pub choice : Variable → Term ℕ
  pub supplies : (v : Variable) → Spells (supplied_for q v) (choice v)
  pub rest : List ℕ
  pub here : drop q.place old ≡ text_of (inst choice (old_of q)) ++ rest
  pub made : new ≡ take q.place old ++ (text_of (inst choice (new_of q)) ++ rest)

-- what a step on the text old asks for, by the refusal where it is missing; Tree says that a tree is open
abbrev pub StepAsks : Type 0 → List ℕ → ℕ → List ℕ → StepRefusal → Type 0
StepAsks Tree old events bs NoTree = Tree
StepAsks Tree old events bs Form = (q : Request) × Says events bs q
StepAsks Tree old events bs Supplies = (q : Request) × Says events bs q × SuppliesLacked q
StepAsks Tree old events bs Place = (q : Request) × Says events bs q × (q.place < length old)
StepAsks Tree old events bs NoFit = (q : Request) × Says events bs q × ((new : List ℕ) × Fits old q new)
StepAsks Tree old events bs TooLong = (q : Request) × Says events bs q × ((new : List ℕ) × (Fits old q new × (length new ≤ 511)))

-- the text that a granted step makes
abbrev pub StepMakes : List ℕ → ℕ → List ℕ → List ℕ → Type 0
StepMakes old events bs new = (q : Request) × Says events bs q × Fits old q new

-- the answer to a step on a text, which needs no tree: the new text, or the refusal with the lowest code
abbrev pub StepAnswer : List ℕ → ℕ → List ℕ → Result (List ℕ) StepRefusal → Type 0
StepAnswer old events bs r = Answers step_code (StepAsks (Unit {0}) old events bs) (StepMakes old events bs) r

-- only one answer is possible
abbrev pub OneAnswer : List ℕ → ℕ → List ℕ → Type 0
OneAnswer old events bs = (r s : Result (List ℕ) StepRefusal) → StepAnswer old events bs r → StepAnswer old events bs s → r ≡ s

-- one step of the sheet leads from the term of the old text to that of the new
abbrev pub StepsOn : List ℕ → List ℕ → Type 0
StepsOn old new = (t : Term ℕ) → old ≡ text_of t → (u : Term ℕ) × (new ≡ text_of u) × Step t u
