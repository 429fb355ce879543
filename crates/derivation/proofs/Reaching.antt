-- A run derives its present text from the text of the tree last opened.
-- Assumes nothing.
use Rattle.std.proofs.Common.{◌≡◌, ℕ, ◌+◌, ◌<◌, List, [], ◌∷◌, length, Ok, Err, sym, refl, ap, ◌∙◌, subst, inl, inr}
use Rattle.algebra.specs.Kinds.{Kind, Same}
use Rattle.algebra.specs.Steps.{Derived, start}
use Rattle.algebra.specs.Terms.{Term, never}
use Rattle.algebra.specs.Texts.{text_of, text_date}
use Rattle.algebra.proofs.Derived.{derived_keeps}
use Rattle.algebra.proofs.Links.{same_itself}
use Rattle.trees.specs.Gates.{term_at}
use Rattle.trees.specs.Reading.{Answer, gives, refuses, Stop, unread, faulty, left_over, no_source, granted, Outcome}
use Rattle.trees.specs.declared.record.Record.{Record}
use Rattle.trees.proofs.One.{one_outcome}
use Rattle.steps.specs.Records.{Request}
use Rattle.steps.specs.declared.refusal.StepRefusal.TheVariants.{Place}
use Rattle.steps.proofs.Fields.{says_one}
use Rattle.steps.proofs.Fitting.{derives_on}
use Rattle.derivation.specs.Model.{State}
use Rattle.derivation.specs.Law.{Known, opening, stepping, Run, begun, then, TreeText}

-- a granted tree's text is that of a term
abbrev Spelled : Answer → Type 0
Spelled (gives events text) = (t : Term ℕ) × (text ≡ text_of t)
Spelled (refuses code) = Unit {0}

stop_spelled : (E n : ℕ) (rs : List Record) (rest : List ℕ) {a : Answer} → Stop E n rs rest a → Spelled a
stop_spelled E n rs rest (unread m u) = tt
stop_spelled E n rs rest (faulty m r after f e h) = tt
stop_spelled E n rs rest (left_over m h) = tt
stop_spelled E n rs rest (no_source m z h) = tt
stop_spelled E n rs rest (granted m z g) = (term_at rs (63 + n), refl)

outcome_spelled : (bs : List ℕ) (a : Answer) → Outcome bs a → Spelled a
outcome_spelled [] a o = subst Spelled (sym o) tt
outcome_spelled (E ∷ []) a o = subst Spelled (sym o) tt
outcome_spelled (E ∷ n ∷ body) a (inl o) = stop_spelled E n o.1.records o.1.rest o.1.stop
outcome_spelled (E ∷ n ∷ body) a (inr o) = subst Spelled (sym o.1) tt

-- the source text is that of the tree last opened
pub tree_text : (h : List Known) (s : State) → Run h s → TreeText h s.source
tree_text [] s begun = refl
tree_text (opening bs (Ok u) ∷ h) s (then _ x o) = (s.events, o.0)
tree_text (opening bs (Err e) ∷ h) s (then {s = t} _ x o) = subst (λ (u : State). TreeText h u.source) (sym o.1) (tree_text h t x)
tree_text (stepping bs (Ok u) ∷ h) s (then {s = t} _ x o) = subst (λ (u : State). TreeText h u.source) (sym o.2) (tree_text h t x)
tree_text (stepping bs (Err e) ∷ h) s (then {s = t} _ x o) = subst (λ (u : State). TreeText h u.source) (sym o.1) (tree_text h t x)

-- and there is no other
pub tree_one : (h : List Known) (a b : List ℕ) → TreeText h a → TreeText h b → a ≡ b
tree_one [] a b x y = x ∙ sym y
tree_one (opening bs (Ok u) ∷ h) a b x y =
    let both = one_outcome bs (gives x.0 a) (gives y.0 b) x.1 y.1 in
    cc
tree_one (opening bs (Err e) ∷ h) a b x y = tree_one h a b x y
tree_one (stepping bs r ∷ h) a b x y = tree_one h a b x y

-- the present text is derived from the source text
pub derived : (h : List Known) (s : State) → Run h s → Derived s.source s.present
derived [] s begun = record { from = never; to = never; begins = refl; ends = refl; steps = start }
derived (opening bs (Ok u) ∷ h) s (then _ x o) =
    let t = outcome_spelled bs (gives s.events s.source) o.0 in
    record { from = t.0; to = t.0; begins = t.1; ends = o.1 ∙ t.1; steps = start }
derived (opening bs (Err e) ∷ h) s (then {s = t} _ x o) = subst (λ (u : State). Derived u.source u.present) (sym o.1) (derived h t x)
derived (stepping bs (Ok u) ∷ h) s (then {s = t} _ x o) =
    let q = o.1.0 in
    let at = o.0 Place in
    let inside : q.place < length t.present =
    subst (λ (p : Request). p.place < length t.present) (says_one t.events bs at.0 q at.1 o.1.1) at.2 in
    let on = derives_on t.present q s.present o.1.1.number inside o.1.2 t.source (derived h t x) in
    subst (λ (x : List ℕ). Derived x s.present) (sym (ap (λ (u : State). u.source) o.2)) on
derived (stepping bs (Err e) ∷ h) s (then {s = t} _ x o) = subst (λ (u : State). Derived u.source u.present) (sym o.1) (derived h t x)

-- the tree last opened and the present text have the same date
pub text_dates_lem : {D : Type 0} (K : Kind D) (d : ℕ → D) (h : List Known) (s : State) → Run h s → (tree : List ℕ) → TreeText h tree → Same K (text_date K d tree) (text_date K d s.present)
text_dates_lem K d h s run tree is =
    subst (λ (x : List ℕ). Same K (text_date K d x) (text_date K d s.present)) (tree_one h s.source tree (tree_text h s run) is)
    (derived_keeps K d s.source s.present (derived h s run))

-- and so do the tree last opened and the source text, which is its text
pub source_dates : {D : Type 0} (K : Kind D) (d : ℕ → D) (h : List Known) (s : State) → Run h s → (tree : List ℕ) → TreeText h tree → Same K (text_date K d tree) (text_date K d s.source)
source_dates K d h s run tree is =
    subst (λ (x : List ℕ). Same K (text_date K d x) (text_date K d s.source)) (tree_one h s.source tree (tree_text h s run) is) (same_itself K (text_date K d s.source))
