-- An evaluation can go one way only.
-- Assumes nothing.
use Rattle.std.proofs.Common.{◌≡◌, ℕ, List, Result, sym, ◌∙◌}
use Rattle.algebra.specs.Kinds.{Kind}
use Rattle.algebra.proofs.Refusals.{one_answer}
use Rattle.texts.specs.Evaluation.{evaluation_code, evaluation_codes_differ, EvaluationAsks, DateOf, Evaluated}
use Rattle.texts.specs.declared.evaluation.EvaluationRefusal.{EvaluationRefusal}
use Rattle.texts.specs.declared.evaluation.EvaluationRefusal.TheVariants.{NoText}

pub one_date : {D : Type 0} (text : List ℕ) (ds : List D) (room : ℕ) (K : Kind D) (r s : Result D EvaluationRefusal) → Evaluated K text ds room r → Evaluated K text ds room s → s ≡ r
one_date text ds room K r s a b =
    one_answer evaluation_code (EvaluationAsks text ds room) (DateOf K ds text) evaluation_codes_differ
    (λ all x y p q. let w = (all NoText).whole in p w.term w.written ∙ sym (q w.term w.written)) s r b a
