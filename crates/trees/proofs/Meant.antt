-- The text of a granted tree means what its records say.
-- Assumes nothing.
use Rattle.std.proofs.Common.{◌≡◌, ℕ, ◌+◌, ◌≤◌, List, [], ◌∷◌, ◌++◌, IfOk, Ok, Err, Result, sym, refl, ap, ◌∙◌, subst, inl, inr, append-nil, arith}
use Rattle.algebra.specs.Texts.{text_of}
use Rattle.trees.specs.declared.record.Record.{Record}
use Rattle.trees.specs.declared.refusal.TreeRefusal.{TreeRefusal}
use Rattle.trees.specs.declared.reader.Tree.{Tree}
use Rattle.trees.specs.Gates.{term_at}
use Rattle.trees.specs.Means.{InputsKnown, Means, SameTree, Source}
use Rattle.trees.specs.Reading.{Answer, gives, refuses, answer, Along, Stop, unread, faulty, left_over, no_source, granted, Outcome}
use Rattle.trees.proofs.Letters.{is_source}
use Rattle.trees.proofs.One.{spelt}
use Rattle.trees.proofs.Sole.{one_tree}
use Rattle.trees.proofs.Settled.{Fine, sound, last_short, gates_join, events_sum}

fine : (E : ℕ) (bs : List ℕ) (rs : List Record) (rest : List ℕ) → Along E bs rs rest → Fine E rs
fine E bs [] rest a = tt
fine E bs (r ∷ rs) rest a = (sound E rs r a.0, fine E bs rs a.1.0 a.1.1.0)

inputs_known : (E : ℕ) (rs : List Record) → Fine E rs → InputsKnown E rs
inputs_known E [] f = tt
inputs_known E (r ∷ rs) f = (f.0.one, f.0.two, inputs_known E rs f.1)

abbrev Meant : List ℕ → Answer → Type 0
Meant bs (gives E w) = (s : Tree) → s.events ≡ E → s.source ≡ w → Means bs s × Source s.events s.source
Meant bs (refuses c) = Unit {0}

meant_here : (E n : ℕ) (body : List ℕ) (rs : List Record) (rest : List ℕ) → E ≤ 24 → Along E body rs rest → {a : Answer} → Stop E n rs rest a → Meant (E ∷ n ∷ body) a
meant_here E n body rs rest e a (unread m u) = tt
meant_here E n body rs rest e a (faulty m r after f x h) = tt
meant_here E n body rs rest e a (left_over m h) = tt
meant_here E n body rs rest e a (no_source m z h) = tt
meant_here E n body rs rest e a (granted m z g) = λ s i t.
    let p = spelt E body rs rest a in
    let f = fine E body rs rest a in (
      record {
        records = rs;
        body = p.0;
        bytes = λ k. sym i k ∷ sym m k ∷ (p.1.1 ∙ ap (λ (l : List ℕ). p.0 ++ l) z ∙ append-nil p.0) k;
        spelt = p.1.0;
        inputs = subst (λ (x : ℕ). InputsKnown x rs) (sym i) (inputs_known E rs f);
        last = g;
        term = term_at rs;
        gates = gates_join E rs e f;
        events = λ x h. events_sum E rs x e (omega arith) f;
        source = t ∙ ap (λ (k : ℕ). text_of (term_at rs (63 + k))) (sym m);
      },
      subst (λ (x : ℕ). Source x s.source) (sym i) (is_source E n rs s.source e (inputs_known E rs f) m g (last_short E n rs m g f) t),
    )

outcome_meant : (bs : List ℕ) (a : Answer) → Outcome bs a → Meant bs a
outcome_meant [] a o = subst (Meant []) (sym o) tt
outcome_meant (E ∷ []) a o = subst (Meant (E ∷ [])) (sym o) tt
outcome_meant (E ∷ n ∷ body) a (inl o) = meant_here E n body o.1.records o.1.rest o.0.1 o.1.along o.1.stop
outcome_meant (E ∷ n ∷ body) a (inr o) = subst (Meant (E ∷ n ∷ body)) (sym o.1) tt

pub meant : (bs : List ℕ) (r : Result Tree TreeRefusal) → Outcome bs (answer r) → IfOk r (λ s. Means bs s)
meant bs (Ok s) o = (outcome_meant bs (answer (Ok s)) o s refl refl).0
meant bs (Err e) o = tt

pub sole : (bs : List ℕ) (r : Result Tree TreeRefusal) → Outcome bs (answer r) → IfOk r (λ t. (s : Tree) → Means bs s → SameTree s t)
sole bs (Ok t) o = λ s m. one_tree bs s t m (meant bs (Ok t) o)
sole bs (Err e) o = tt

pub sourced : (bs : List ℕ) (r : Result Tree TreeRefusal) → Outcome bs (answer r) → IfOk r (λ s. Source s.events s.source)
sourced bs (Ok s) o = (outcome_meant bs (answer (Ok s)) o s refl refl).1
sourced bs (Err e) o = tt
