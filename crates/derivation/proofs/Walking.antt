-- The steps of a file, one more at a time.
-- Assumes nothing.
use Rattle.std.proofs.Common.{◌≡◌, ℕ, ◌+◌, List, [], ◌∷◌, Ok, Err, sym, subst, arith}
use Rattle.steps.specs.Files.{Begins, CutOff, answer_at, fault_at}
use Rattle.steps.specs.declared.file.StepFault.{StepFault}
use Rattle.steps.specs.declared.refusal.StepRefusal.{StepRefusal}
use Rattle.steps.specs.declared.refusal.StepRefusal.TheVariants.{Form}
use Rattle.derivation.specs.Jobs.{Walked, ended, cut, stopped, went, Made}
use Rattle.derivation.specs.Law.{Known, stepping, Run, then}
use Rattle.derivation.specs.Model.{State, Answer, Stepped}

-- where the bench stands before the record of the number n, of which left remains
pub record Underway (h : List Known) (file : List ℕ) (n : ℕ) (left : List ℕ) (s : State) : Type 0 where
  pub calls : List Known
  pub run : Run calls s
  pub on : (r : Answer StepFault) (h' : List Known) → Walked n left calls r h' → Walked 1 file h r h'

module _ (h : List Known) (file : List ℕ) (n : ℕ) (left : List ℕ) (s : State) (u : Underway h file n left s) where
  pub made_cut : (f : StepFault) → f ≡ fault_at n Form → CutOff left → Made h file (Err f) s
  made_cut f is end = record {
    calls = u.calls;
    walked = u.on (Err f) u.calls (subst (λ (y : StepFault). Walked n left u.calls (Err y) u.calls) (sym is) (cut n left u.calls end));
    run = u.run;
  }

  pub made_stopped : (bs rest : List ℕ) (a : Answer StepRefusal) (s' : State) (f : StepFault) → Begins left bs rest → Stepped s bs a s' → answer_at n a ≡ Err f → Made h file (Err f) s'
  made_stopped bs rest (Ok v) s' f b o e = let z : ◌≡◌ {A = ℕ} 0 1 = cc in absurd (omega arith)
  made_stopped bs rest (Err x) s' f b o e =
      let is : fault_at n x ≡ f = cc in
      let calls = stepping bs (Err x) ∷ u.calls in
      record {
        calls = calls;
        walked = u.on (Err f) calls (subst (λ (y : StepFault). Walked n left u.calls (Err y) calls) is (stopped n left u.calls bs rest x b));
        run = then (stepping bs (Err x)) u.run o;
      }

  pub made_ended : left ≡ [] → Made h file (Ok tt) s
  made_ended end = record { calls = u.calls; walked = u.on (Ok tt) u.calls (ended n left u.calls end); run = u.run }

  pub underway_more : (bs rest : List ℕ) (a : Answer StepRefusal) (s' : State) → Begins left bs rest → Stepped s bs a s' → answer_at n a ≡ Ok tt → Underway h file (n + 1) rest s'
  underway_more bs rest (Ok v) s' b o e = record {
    calls = stepping bs (Ok tt) ∷ u.calls;
    run = then (stepping bs (Ok tt)) u.run o;
    on = λ r h' w. u.on r h' (went n left u.calls bs rest r h' b w);
  }
  underway_more bs rest (Err x) s' b o e = let z : ◌≡◌ {A = ℕ} 0 1 = cc in absurd (omega arith)
