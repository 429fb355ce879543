-- Each call has one outcome, and so the same calls have the same answers and lead to the same state.
-- Assumes nothing.
use Rattle.std.proofs.Common.{◌≡◌, ℕ, ◌<◌, true, List, [], ◌∷◌, ◌++◌, map, length, Ok, Err, sym, refl, ap, ◌∙◌, subst, arith}
use Rattle.algebra.specs.Refusals.{Granted}
use Rattle.trees.specs.Reading.{gives, refuses}
use Rattle.trees.specs.Refusals.{tree_code, tree_codes_differ}
use Rattle.trees.specs.declared.refusal.TreeRefusal.{TreeRefusal}
use Rattle.trees.proofs.One.{one_outcome}
use Rattle.steps.specs.Records.{Request}
use Rattle.steps.specs.Stepping.{SuppliesLacked}
use Rattle.steps.specs.declared.refusal.StepRefusal.{StepRefusal}
use Rattle.steps.specs.declared.refusal.StepRefusal.TheVariants.{NoTree, Form, Supplies, Place, NoFit, TooLong}
use Rattle.steps.proofs.Answering.{one_step_answer}
use Rattle.steps.proofs.Fields.{says_one}
use Rattle.derivation.specs.Model.{State, Answer, Opened, BenchAsks, Grantable, moved, Stepped}
use Rattle.derivation.specs.Law.{Known, opening, stepping, asked, Happened, Run, begun, then}

-- OPENING

open_answer : (s : State) (bs : List ℕ) (q r : Answer TreeRefusal) (a b : State) → Opened s bs q a → Opened s bs r b → q ≡ r
open_answer s bs (Ok u) (Ok v) a b x y = refl
open_answer s bs (Ok u) (Err f) a b x y = let e = one_outcome bs _ _ x.0 y.0 in let z : ◌≡◌ {A = ℕ} 0 1 = cc in absurd (omega arith)
open_answer s bs (Err e) (Ok v) a b x y = let e = one_outcome bs _ _ x.0 y.0 in let z : ◌≡◌ {A = ℕ} 0 1 = cc in absurd (omega arith)
open_answer s bs (Err e) (Err f) a b x y =
    let both = one_outcome bs (refuses (tree_code e)) (refuses (tree_code f)) x.0 y.0 in
    let codes : tree_code e ≡ tree_code f = cc in
    ap Err (tree_codes_differ e f codes)

-- with the answer known, the state after a call is determined
opened_one : (s : State) (bs : List ℕ) (r : Answer TreeRefusal) (a b : State) → Opened s bs r a → Opened s bs r b → a ≡ b
opened_one s bs (Ok u) a b x y =
    let both = one_outcome bs (gives a.events a.source) (gives b.events b.source) x.0 y.0 in
    let es : a.events ≡ b.events = cc in
    let ts : a.source ≡ b.source = cc in
    let ps : a.present ≡ b.present = x.1 ∙ ts ∙ sym y.1 in
    let os : a.opened ≡ b.opened = x.2 ∙ sym y.2 in
    λ i. record { opened = os i; events = es i; source = ts i; present = ps i }
opened_one s bs (Err e) a b x y = x.1 ∙ sym y.1

-- STEPS

step_answer : (s : State) (bs : List ℕ) (q r : Answer StepRefusal) (a b : State) → Stepped s bs q a → Stepped s bs r b → q ≡ r
step_answer s bs (Ok u) (Ok v) a b x y = refl
step_answer s bs (Ok u) (Err f) a b x y = absurd (y.0.fails (x.0 f))
step_answer s bs (Err e) (Ok v) a b x y = absurd (x.0.fails (y.0 e))
step_answer s bs (Err e) (Err f) a b x y =
    let both = one_step_answer (s.opened ≡ true) s.present s.events bs (Err e) (Err f) x.0 y.0 in
    let same : e ≡ f = cc in
    ap Err same

stepped_one : (s : State) (bs : List ℕ) (r : Answer StepRefusal) (a b : State) → Stepped s bs r a → Stepped s bs r b → a ≡ b
stepped_one s bs (Ok u) a b x y =
    let both = one_step_answer (s.opened ≡ true) s.present s.events bs (Ok a.present) (Ok b.present) (x.0, x.1) (y.0, y.1) in
    let same : a.present ≡ b.present = cc in
    x.2 ∙ ap (moved s) same ∙ sym y.2
stepped_one s bs (Err e) a b x y = x.1 ∙ sym y.1

-- every condition holds, of one and the same request
pub grantable : (s : State) (bs : List ℕ) → Granted (BenchAsks s bs) → Grantable s bs
grantable s bs all =
    let room = all TooLong in
    let q = room.0 in
    let sup = all Supplies in
    let at = all Place in
    record {
      tree = all NoTree;
      request = q;
      form = room.1;
      supplied = subst SuppliesLacked (says_one s.events bs sup.0 q sup.1 room.1) sup.2;
      place = subst (λ (p : Request). p.place < length s.present) (says_one s.events bs at.0 q at.1 room.1) at.2;
      new = room.2.0;
      fits = room.2.1.0;
      short = room.2.1.1;
    }

has_all : (s : State) (bs : List ℕ) → Grantable s bs → Granted (BenchAsks s bs)
has_all s bs g NoTree = g.tree
has_all s bs g Form = (g.request, g.form)
has_all s bs g Supplies = (g.request, g.form, g.supplied)
has_all s bs g Place = (g.request, g.form, g.place)
has_all s bs g NoFit = (g.request, g.form, (g.new, g.fits))
has_all s bs g TooLong = (g.request, g.form, (g.new, (g.fits, g.short)))

granted_step : (s s' : State) (bs : List ℕ) (r : Answer StepRefusal) → Stepped s bs r s' → (r ≡ Ok tt → Grantable s bs) × (Grantable s bs → r ≡ Ok tt)
granted_step s s' bs (Ok u) o = (λ e. grantable s bs o.0, λ g. refl)
granted_step s s' bs (Err e) o = (λ q. let z : ◌≡◌ {A = ℕ} 0 1 = cc in absurd (omega arith), λ g. absurd (o.0.fails (has_all s bs g e)))

-- RUNS

happened_one : (s : State) (c : Known) (a b : State) → Happened s c a → Happened s c b → a ≡ b
happened_one s (opening bs r) a b x y = opened_one s bs r a b x y
happened_one s (stepping bs r) a b x y = stepped_one s bs r a b x y

-- a run is of one state
pub run_one : (h : List Known) (a b : State) → Run h a → Run h b → a ≡ b
run_one [] a b begun begun = refl
run_one (c ∷ h) a b (then {s = s} _ x o) (then {s = t} _ y p) =
    happened_one s c a b o (subst (λ (u : State). Happened u c b) (run_one h t s y x) p)

-- the step of a run
run_step : (later before : List Known) (bs : List ℕ) (r : Answer StepRefusal) (s s₀ : State) → Run (later ++ (stepping bs r ∷ before)) s → Run before s₀ → (s₁ : State) × Stepped s₀ bs r s₁
run_step [] before bs r s s₀ (then {s = t} _ x o) y = (s, subst (λ (u : State). Stepped u bs r s) (run_one before t s₀ x y) o)
run_step (c ∷ later) before bs r s s₀ (then {s = t} _ x o) y = run_step later before bs r t s₀ x y

-- a step of a run was granted exactly when it could be
pub steps_granted : (h : List Known) (s : State) → Run h s → (later before : List Known) (bs : List ℕ) (r : Answer StepRefusal) (s₀ : State) → h ≡ later ++ (stepping bs r ∷ before) → Run before s₀ → (r ≡ Ok tt → Grantable s₀ bs) × (Grantable s₀ bs → r ≡ Ok tt)
steps_granted h s run later before bs r s₀ e begin =
    let o = run_step later before bs r s s₀ (subst (λ (l : List Known). Run l s) e run) begin in
    granted_step s₀ o.0 bs r o.1

known_one : (s : State) (c d : Known) (a b : State) → asked c ≡ asked d → Happened s c a → Happened s d b → c ≡ d
known_one s (opening bs q) (opening cs r) a b e x y =
    let same : bs ≡ cs = cc in
    let y' : Opened s bs r b = subst (λ (l : List ℕ). Opened s l r b) (sym same) y in
    λ i. opening (same i) (open_answer s bs q r a b x y' i)
known_one s (opening bs q) (stepping cs r) a b e x y = let z : ◌≡◌ {A = ℕ} 0 1 = cc in absurd (omega arith)
known_one s (stepping bs q) (opening cs r) a b e x y = let z : ◌≡◌ {A = ℕ} 0 1 = cc in absurd (omega arith)
known_one s (stepping bs q) (stepping cs r) a b e x y =
    let same : bs ≡ cs = cc in
    let y' : Stepped s bs r b = subst (λ (l : List ℕ). Stepped s l r b) (sym same) y in
    λ i. stepping (same i) (step_answer s bs q r a b x y' i)

-- the same calls have the same answers, and lead to the same state
pub history_one : (h g : List Known) (a b : State) → map asked h ≡ map asked g → Run h a → Run g b → (h ≡ g) × (a ≡ b)
history_one [] [] a b e x y = (refl, run_one [] a b x y)
history_one [] (d ∷ g) a b e x y = let z : ◌≡◌ {A = ℕ} 0 1 = cc in absurd (omega arith)
history_one (c ∷ h) [] a b e x y = let z : ◌≡◌ {A = ℕ} 0 1 = cc in absurd (omega arith)
history_one (c ∷ h) (d ∷ g) a b e (then {s = s} _ x o) (then {s = t} _ y p) =
    let tails : map asked h ≡ map asked g = cc in
    let heads : asked c ≡ asked d = cc in
    let rest = history_one h g s t tails x y in
    let p' : Happened s d b = subst (λ (u : State). Happened u d b) (sym rest.1) p in
    let one : c ≡ d = known_one s c d a b heads o p' in
    ((λ i. one i ∷ rest.0 i), happened_one s d a b (subst (λ (k : Known). Happened s k a) one o) p')
