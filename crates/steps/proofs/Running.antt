-- The steps of a file, one after the other.
-- Assumes nothing.
use Rattle.std.proofs.Common.{◌≡◌, ℕ, ◌+◌, ◌*◌, ◌<◌, List, [], ◌∷◌, ◌++◌, length, take, drop, IfOk, Ok, Err, Result, sym, refl, ap, ◌∙◌, subst, arith}
use Rattle.std.proofs.lemmas.List.{take_at, drop_at, length-append, take-append-drop}
use Rattle.std.specs.List.{IsSplitAt}
use Rattle.algebra.specs.Steps.{Derived}
use Rattle.algebra.specs.Texts.{Whole}
use Rattle.steps.specs.Files.{Begins, CutOff, OneRecord, OneRun, Runs, ended, went, refused, cut, fault_at, answer_at}
use Rattle.steps.specs.Stepping.{StepAnswer}
use Rattle.steps.specs.declared.file.StepFault.{StepFault}
use Rattle.steps.specs.declared.refusal.StepRefusal.{StepRefusal}
use Rattle.steps.specs.declared.refusal.StepRefusal.TheVariants.{Form}
use Rattle.steps.proofs.Answering.{step_one}

pub one_record : (file : List ℕ) → OneRecord file
one_record file bs rest cs more a b =
    let x = a.bytes in
    let y = b.bytes in
    let high : a.high ≡ b.high = cc in
    let low : a.low ≡ b.low = cc in
    let both : bs ++ rest ≡ cs ++ more = cc in
    let size : length bs ≡ length cs = omega (arith, a.size, b.size) in (
      sym (take_at bs rest (length cs) size) ∙ ap (take (length cs)) both ∙ take_at cs more (length cs) refl,
      sym (drop_at bs rest (length cs) size) ∙ ap (drop (length cs)) both ∙ drop_at cs more (length cs) refl,
    )

-- a record was read
pub begins : (file : List ℕ) (high low n : ℕ) (tail front back : List ℕ) → file ≡ high ∷ (low ∷ tail) → n ≡ 256 * high + low → IsSplitAt tail n front back → Begins file front back
begins file high low n tail front back e is (fits, first, second, size, rest) = record {
  high = high;
  low = low;
  bytes = e ∙ ap (λ (l : List ℕ). high ∷ (low ∷ l)) (sym (take-append-drop n tail)) ∙ (λ k. high ∷ (low ∷ (sym first k ++ sym second k)));
  size = size ∙ is;
}

runs_one : (events n : ℕ) (old file : List ℕ) (r s : Result (List ℕ) StepFault) → Runs events n old file r → Runs events n old file s → r ≡ s
runs_one events n old file r s (ended _ _ _ _ e f) (ended _ _ _ _ g h) = f ∙ sym h
runs_one events n old file r s (ended _ _ _ _ e f) (went _ _ _ _ bs rest new b a w) = let x = b.bytes in let z : ◌≡◌ {A = ℕ} 0 1 = cc in absurd (omega arith)
runs_one events n old file r s (ended _ _ _ _ e f) (refused _ _ _ _ bs rest d b a w) = let x = b.bytes in let z : ◌≡◌ {A = ℕ} 0 1 = cc in absurd (omega arith)
runs_one events n old file r s (ended _ _ _ _ e f) (cut _ _ _ _ c w) = absurd (c.some e)
runs_one events n old file r s (went _ _ _ _ bs rest new b a w) (ended _ _ _ _ e f) = let x = b.bytes in let z : ◌≡◌ {A = ℕ} 0 1 = cc in absurd (omega arith)
runs_one events n old file r s (went _ _ _ _ bs rest new b a w) (went _ _ _ _ cs more new' b' a' w') =
    let o = one_record file cs more bs rest b' b in
    let both = step_one old events bs (Ok new') (Ok new) (subst (λ (l : List ℕ). StepAnswer old events l (Ok new')) o.0 a') a in
    let same : new' ≡ new = cc in
    runs_one events (n + 1) new rest r s w (subst (λ (l : List ℕ). Runs events (n + 1) new l s) o.1 (subst (λ (l : List ℕ). Runs events (n + 1) l more s) same w'))
runs_one events n old file r s (went _ _ _ _ bs rest new b a w) (refused _ _ _ _ cs more d b' a' w') =
    let o = one_record file cs more bs rest b' b in
    let both = step_one old events bs (Err d) (Ok new) (subst (λ (l : List ℕ). StepAnswer old events l (Err d)) o.0 a') a in
    let z : ◌≡◌ {A = ℕ} 0 1 = cc in absurd (omega arith)
runs_one events n old file r s (went _ _ _ _ bs rest new b a w) (cut _ _ _ _ c f) = absurd (c.none bs rest b)
runs_one events n old file r s (refused _ _ _ _ bs rest e b a w) (ended _ _ _ _ g h) = let x = b.bytes in let z : ◌≡◌ {A = ℕ} 0 1 = cc in absurd (omega arith)
runs_one events n old file r s (refused _ _ _ _ bs rest e b a w) (went _ _ _ _ cs more new b' a' w') =
    let o = one_record file cs more bs rest b' b in
    let both = step_one old events bs (Ok new) (Err e) (subst (λ (l : List ℕ). StepAnswer old events l (Ok new)) o.0 a') a in
    let z : ◌≡◌ {A = ℕ} 0 1 = cc in absurd (omega arith)
runs_one events n old file r s (refused _ _ _ _ bs rest e b a w) (refused _ _ _ _ cs more d b' a' w') =
    let o = one_record file cs more bs rest b' b in
    let both = step_one old events bs (Err d) (Err e) (subst (λ (l : List ℕ). StepAnswer old events l (Err d)) o.0 a') a in
    let same : d ≡ e = cc in
    w ∙ ap (λ (x : StepRefusal). Err (fault_at n x)) (sym same) ∙ sym w'
runs_one events n old file r s (refused _ _ _ _ bs rest e b a w) (cut _ _ _ _ c f) = absurd (c.none bs rest b)
runs_one events n old file r s (cut _ _ _ _ c f) (ended _ _ _ _ e h) = absurd (c.some e)
runs_one events n old file r s (cut _ _ _ _ c f) (went _ _ _ _ bs rest new b a w) = absurd (c.none bs rest b)
runs_one events n old file r s (cut _ _ _ _ c f) (refused _ _ _ _ bs rest d b a w) = absurd (c.none bs rest b)
runs_one events n old file r s (cut _ _ _ _ c f) (cut _ _ _ _ d g) = f ∙ sym g

pub one_run : (events : ℕ) (old file : List ℕ) → OneRun events old file
one_run events old file r s a b = runs_one events 1 old file r s a b

-- so far steps led from the text first to the text present, and this is left of the file
pub record Running (events : ℕ) (first : List ℕ) (file : List ℕ) (n : ℕ) (present : List ℕ) (left : List ℕ) : Type 0 where
  pub on : (r : Result (List ℕ) StepFault) → Runs events n present left r → Runs events 1 first file r
  pub whole : Whole events first → Whole events present
  pub derived : (bs : List ℕ) → Derived bs first → Derived bs present

pub running_more : (events : ℕ) (first : List ℕ) (file : List ℕ) (n : ℕ) (present : List ℕ) (left : List ℕ) → Running events first file n present left → (bs rest : List ℕ) (new : List ℕ) → Begins left bs rest → StepAnswer present events bs (Ok new) → (Whole events present → Whole events new) → ((cs : List ℕ) → Derived cs present → Derived cs new) → Running events first file (n + 1) new rest
running_more events first file n present left inv bs rest new b a whole derived = record {
  on = λ r w. inv.on r (went n present left r bs rest new b a w);
  whole = λ w. whole (inv.whole w);
  derived = λ cs d. derived cs (inv.derived cs d);
}

-- what an answer with a number was without it

answer_err : {A : Type 0} (n : ℕ) (a : Result A StepRefusal) (f : StepFault) → answer_at n a ≡ Err f → (e : StepRefusal) × (a ≡ Err e) × (f ≡ fault_at n e)
answer_err n (Ok x) f h = let z : ◌≡◌ {A = ℕ} 0 1 = cc in absurd (omega arith)
answer_err n (Err e) f h = let same : fault_at n e ≡ f = cc in (e, refl, sym same)

answer_ok : {A : Type 0} (n : ℕ) (a : Result A StepRefusal) (x : A) → answer_at n a ≡ Ok x → a ≡ Ok x
answer_ok n (Ok y) x h = let same : y ≡ x = cc in ap Ok same
answer_ok n (Err e) x h = let z : ◌≡◌ {A = ℕ} 0 1 = cc in absurd (omega arith)

-- the ways out of the loop, and round it
module _ (events : ℕ) (first : List ℕ) (file : List ℕ) (n : ℕ) (present : List ℕ) (left : List ℕ) (inv : Running events first file n present left) where
  pub run_cut : (f : StepFault) → f ≡ fault_at n Form → CutOff left → Runs events 1 first file (Err f)
  run_cut f is end = inv.on (Err f) (cut n present left (Err f) end (ap Err is))

  pub run_refused : (bs rest : List ℕ) (a : Result (List ℕ) StepRefusal) (f : StepFault) → Begins left bs rest → StepAnswer present events bs a → answer_at n a ≡ Err f → Runs events 1 first file (Err f)
  run_refused bs rest a f b answer h =
      let e = answer_err n a f h in
      let why = subst (λ (x : Result (List ℕ) StepRefusal). StepAnswer present events bs x) e.1 answer in
      inv.on (Err f) (refused n present left (Err f) bs rest e.0 b why (ap Err e.2))

  pub run_ended : left ≡ [] → Runs events 1 first file (Ok present)
  run_ended end = inv.on (Ok present) (ended n present left (Ok present) end refl)

  pub run_more : (bs rest : List ℕ) (a : Result (List ℕ) StepRefusal) (new : List ℕ) → Begins left bs rest → StepAnswer present events bs a → IfOk a (λ x. Whole events present → Whole events x) → IfOk a (λ x. (cs : List ℕ) → Derived cs present → Derived cs x) → answer_at n a ≡ Ok new → Running events first file (n + 1) new rest
  run_more bs rest a new b answer whole derived h =
      let e = answer_ok n a new h in
      running_more events first file n present left inv bs rest new b
      (subst (λ (x : Result (List ℕ) StepRefusal). StepAnswer present events bs x) e answer)
      (subst (λ (x : Result (List ℕ) StepRefusal). IfOk x (λ y. Whole events present → Whole events y)) e whole)
      (subst (λ (x : Result (List ℕ) StepRefusal). IfOk x (λ y. (cs : List ℕ) → Derived cs present → Derived cs y)) e derived)

pub shorter : (file bs rest : List ℕ) → Begins file bs rest → length rest < length file
shorter file bs rest b = omega (arith, ap length b.bytes, length-append bs rest)
