-- The worked examples of steps hold.
-- Assumes nothing.
use Rattle.std.proofs.Common.{ℕ, [], ◌∷◌, None, codes, refl, lit<, lit≤}
use Rattle.algebra.specs.Rules.{lines, sheet}
use Rattle.algebra.specs.Terms.{Term, leaf, node}
use Rattle.algebra.specs.declared.Operator.TheVariants.{Before, Simultaneous}
use Rattle.algebra.specs.declared.Variable.{Variable}
use Rattle.algebra.specs.declared.Variable.TheVariants.{X, Y, Z}
use Rattle.algebra.specs.declared.Way.TheVariants.{Forward}
use Rattle.steps.specs.Records.{Request, Says, WholeTerm, the_rule, the_place, supplied_for}
use Rattle.steps.specs.Stepping.{Fits, Spells, SuppliesLacked}
use Rattle.steps.proofs.Answering.{granted}
use Rattle.examples.specs.Steps.{StepExamples}

-- a rule forward at a place, and no terms
abbrev asked : ℕ → ℕ → Request
asked n p = record { rule = n; way = Forward; place = p; x = None; y = None; z = None }

abbrev terms : Term ℕ → Term ℕ → Term ℕ → Variable → Term ℕ
terms x y z X = x
terms x y z Y = y
terms x y z Z = z

no_terms : (n p : ℕ) (v : Variable) → WholeTerm 2 (supplied_for (asked n p) v)
no_terms n p X = tt
no_terms n p Y = tt
no_terms n p Z = tt

no_spelling : (n p : ℕ) (σ : Variable → Term ℕ) (v : Variable) → Spells (supplied_for (asked n p) v) (σ v)
no_spelling n p σ X = tt
no_spelling n p σ Y = tt
no_spelling n p σ Z = tt

says_12 : Says 2 (5 ∷ 12 ∷ 0 ∷ 2 ∷ []) (asked 12 2)
says_12 = record {
  map = 5;
  fields = 12 ∷ 0 ∷ 2 ∷ [];
  begins = refl;
  low = lit< tt;
  first = refl;
  said = (
    asked 12 0,
    0 ∷ 2 ∷ [],
    (the_rule 12, (refl, refl), refl),
    (
      asked 12 0,
      0 ∷ 2 ∷ [],
      (refl, refl),
      (
        asked 12 2,
        [],
        (the_place 2, (refl, (0, 2, refl, refl)), refl),
        (asked 12 2, [], (refl, refl), (asked 12 2, [], (refl, refl), (asked 12 2, [], (refl, refl), (refl, refl)))),
      ),
    ),
  );
  number = (lit≤ tt, lit≤ tt);
  terms = no_terms 12 2;
}

says_9 : Says 2 (1 ∷ 9 ∷ []) (asked 9 0)
says_9 = record {
  map = 1;
  fields = 9 ∷ [];
  begins = refl;
  low = lit< tt;
  first = refl;
  said = (
    asked 9 0,
    [],
    (the_rule 9, (refl, refl), refl),
    (asked 9 0, [], (refl, refl), (asked 9 0, [], (refl, refl), (asked 9 0, [], (refl, refl), (asked 9 0, [], (refl, refl), (asked 9 0, [], (refl, refl), (refl, refl)))))),
  );
  number = (lit≤ tt, lit≤ tt);
  terms = no_terms 9 0;
}

lacks_12 : SuppliesLacked (asked 12 2)
unfolding sheet lines
lacks_12 X = refl
lacks_12 Y = refl
lacks_12 Z = refl

lacks_9 : SuppliesLacked (asked 9 0)
unfolding sheet lines
lacks_9 X = refl
lacks_9 Y = refl
lacks_9 Z = refl

fits_12 : Fits (codes "*b[ab") (asked 12 2) (codes "*b+<ab=ab")
unfolding sheet lines
fits_12 = record {
  choice = terms (leaf 0) (leaf 1) (leaf 1);
  supplies = no_spelling 12 2 (terms (leaf 0) (leaf 1) (leaf 1));
  rest = [];
  here = refl;
  made = refl;
}

abbrev parts : Variable → Term ℕ
parts = terms (leaf 1) (node Before (leaf 0) (leaf 1)) (node Simultaneous (leaf 0) (leaf 1))

fits_9 : Fits (codes "*b+<ab=ab") (asked 9 0) (codes "+*b<ab*b=ab")
unfolding sheet lines
fits_9 = record { choice = parts; supplies = no_spelling 9 0 parts; rest = []; here = refl; made = refl }

pub step_examples : StepExamples
step_examples = record {
  inclusive = granted (codes "*b[ab") 2 (5 ∷ 12 ∷ 0 ∷ 2 ∷ []) (asked 12 2) says_12 lacks_12 (lit< tt) (codes "*b+<ab=ab") fits_12 (lit≤ tt);
  distributed = granted (codes "*b+<ab=ab") 2 (1 ∷ 9 ∷ []) (asked 9 0) says_9 lacks_9 (lit< tt) (codes "+*b<ab*b=ab") fits_9 (lit≤ tt);
}
