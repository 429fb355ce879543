-- The number of each refusal of a step, which tells it from the others.
-- Assumes nothing.
use Rattle.std.specs.Prelude.{◌≡◌, ℕ, cond, ◌==◌}
use Rattle.std.proofs.Common.{sym, refl, ap, ◌∙◌}
use Rattle.steps.specs.declared.refusal.StepRefusal.{StepRefusal}
use Rattle.steps.specs.declared.refusal.StepRefusal.TheVariants.{NoTree, Form, Supplies, Place, NoFit, TooLong}

abbrev pub step_code : StepRefusal → ℕ
step_code NoTree = 11
step_code Form = 12
step_code Supplies = 13
step_code Place = 14
step_code NoFit = 15
step_code TooLong = 16

-- the refusal of a number
of_code : ℕ → StepRefusal
of_code n = cond (n == 11) NoTree (cond (n == 12) Form (cond (n == 13) Supplies (cond (n == 14) Place (cond (n == 15) NoFit TooLong))))

code_back : (e : StepRefusal) → of_code (step_code e) ≡ e
unfolding of_code
code_back NoTree = refl
code_back Form = refl
code_back Supplies = refl
code_back Place = refl
code_back NoFit = refl
code_back TooLong = refl

pub step_codes_differ : (e f : StepRefusal) → step_code e ≡ step_code f → e ≡ f
step_codes_differ e f h = sym (code_back e) ∙ ap of_code h ∙ code_back f
