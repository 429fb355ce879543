-- Worked examples of steps, computed from the definitions, as one proposition.
-- Assumes nothing.
use Rattle.std.specs.Prelude.{[], ◌∷◌, Ok, codes}
use Rattle.steps.specs.Stepping.{StepAnswer}

pub record StepExamples : Type 0 where
  -- rule 12 at the place 2
  pub inclusive : StepAnswer (codes "*b[ab") 2 (5 ∷ 12 ∷ 0 ∷ 2 ∷ []) (Ok (codes "*b+<ab=ab"))
  -- then rule 9 at the place 0
  pub distributed : StepAnswer (codes "*b+<ab=ab") 2 (1 ∷ 9 ∷ []) (Ok (codes "+*b<ab*b=ab"))
