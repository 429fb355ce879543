-- That a job's file of steps stays one.
-- Assumes nothing.
use Rattle.std.proofs.Common.{◌≡◌, ◌∙◌, ℕ, List, [], ◌∷◌, ◌++◌, length, Some, Option, Ok, Err, Result, MatchResult, OnErr, unwrap_or, vec_items, sym, ap, subst, arith}
use mathlib.Core.Logic.{∥∥₁_map}
use Rattle.steps.specs.Records.{Request}
use Rattle.assemble.specs.Views.{IsJob}
use Rattle.assemble.specs.declared.job.Job.TheInside.{Inside}
use Rattle.assembly.specs.StepFiles.{StepFile, ended}

-- the file says some requests
abbrev pub Filed : ℕ → List ℕ → Type 0
Filed events file = ∥ ((qs : List Request) × StepFile events qs file) ∥₁

pub no_step : (events : ℕ) (file : List ℕ) → file ≡ [] → Filed events file
no_step events file e = ∣ ([], subst (StepFile events []) (sym e) ended) ∣₁

pub same_file : (events : ℕ) (file other : List ℕ) → other ≡ file → Filed events file → Filed events other
same_file events file other e f = ∥∥₁_map f (λ s. (s.0, subst (StepFile events s.0) (sym e) s.1))

-- a step was added, or nothing was
pub still_filed : {E : Type 0} (events : ℕ) (q : Request) (old new : List ℕ) (P : E → Type 0) (r : Result (Unit {0}) E) → MatchResult r (λ _. (qs : List Request) → StepFile events qs old → StepFile events (qs ++ (q ∷ [])) new) P → OnErr r (new ≡ old) → Filed events old → Filed events new
still_filed events q old new P (Ok u) a l f = ∥∥₁_map f (λ s. (s.0 ++ (q ∷ []), a s.0 s.1))
still_filed events q old new P (Err e) a l f = same_file events old new l f

-- a step was added to what stands, or nothing was
pub with_step : {E : Type 0} (j k : Inside) (n : ℕ) (q : Request) (P : E → Type 0) (r : Result (Unit {0}) E) → k.events ≡ j.events → vec_items k.records ≡ vec_items j.records → j.events ≡ Some n → MatchResult r (λ _. (qs : List Request) → StepFile n qs (vec_items j.steps) → StepFile n (qs ++ (q ∷ [])) (vec_items k.steps)) P → OnErr r (vec_items k.steps ≡ vec_items j.steps) → IsJob j → IsJob k
with_step j k n q P r e f some a l i =
    let events : unwrap_or j.events 0 ≡ n = ap (λ (o : Option ℕ). unwrap_or o 0) some in
    record {
      filed = subst (λ (m : ℕ). Filed m (vec_items k.steps)) (sym (ap (λ (o : Option ℕ). unwrap_or o 0) e ∙ events)) (still_filed n q (vec_items j.steps) (vec_items k.steps) P r a l (subst (λ (m : ℕ). Filed m (vec_items j.steps)) events i.filed));
      counted = omega (arith, ap length f, i.counted);
      bare = λ h. absurd (cc (e, some, h));
    }
