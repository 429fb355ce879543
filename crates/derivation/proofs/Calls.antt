-- What each call makes of a bench.
-- Assumes nothing.
use Rattle.std.proofs.Common.{◌≡◌, ℕ, ◌≤◌, true, List, [], ◌∷◌, length, Some, None, Ok, Err, Option, Result, refl, ap, sym, ◌∙◌, subst, inl, inr, arith}
use Rattle.std.specs.Option.{ok_or}
use Rattle.algebra.specs.Steps.{Derived, start}
use Rattle.algebra.specs.Terms.{never}
use Rattle.algebra.specs.Texts.{text_of, Whole}
use Rattle.trees.specs.Means.{Source}
use Rattle.trees.specs.Reading.{Answer, gives, refuses, Stop, unread, faulty, left_over, no_source, granted, Outcome}
use Rattle.trees.specs.declared.reader.Tree.{Tree}
use Rattle.trees.specs.declared.record.Record.{Record}
use Rattle.steps.specs.declared.refusal.StepRefusal.TheVariants.{TooLong}
use Rattle.steps.proofs.Answering.{one_step_answer}
use Rattle.derivation.specs.Law.{stepping, opening, then, begun}
use Rattle.derivation.specs.Model.{State, fresh, Stepped, moved}
use Rattle.derivation.specs.Stands.{Stands, state_of}
use Rattle.derivation.specs.declared.bench.Derivation.{Derivation}
use Rattle.derivation.proofs.Questions.{is_text}

-- the state of a bench whose derivation is known
pub at_once : {o d : Option Derivation} {s : State} → state_of o ≡ s → o ≡ d → s ≡ state_of d
at_once v e = sym v ∙ ap state_of e

-- the refusal that is passed on where there is no value
pub passed_on : {T U E : Type 0} {e f : E} (o : Option T) → ◌≡◌ {A = Result T E} (Err f) (ok_or o e) → o ≡ None → ◌≡◌ {A = Result U E} (Err f) (Err e)
passed_on {T} {U} {E} {e} {f} o value none =
    let same : ◌≡◌ {A = Result T E} (Err f) (Err e) = value ∙ ap (λ x. ok_or x e) none in
    let inner : f ≡ e = cc in
    ap Err inner

-- NEW

never_source : Source 0 (text_of never)
never_source =
    let whole : Whole 0 (text_of never) = record { term = never; written = refl; letters = tt } in
    record { whole = whole; text = is_text 0 (text_of never) (omega arith) (omega arith) whole }

pub fresh_stands : Stands fresh
fresh_stands = record {
  few = omega arith;
  source = never_source;
  present = never_source;
  reached = record { from = never; to = never; begins = refl; ends = refl; steps = start };
  calls = [];
  run = begun;
}

-- OPENING

abbrev Few : Answer → Type 0
Few (gives events text) = events ≤ 24
Few (refuses code) = Unit {0}

stop_few : (E n : ℕ) (rs : List Record) (rest : List ℕ) {a : Answer} → E ≤ 24 → Stop E n rs rest a → Few a
stop_few E n rs rest h (unread m u) = tt
stop_few E n rs rest h (faulty m r after f e x) = tt
stop_few E n rs rest h (left_over m x) = tt
stop_few E n rs rest h (no_source m z x) = tt
stop_few E n rs rest h (granted m z g) = h

-- a granted tree has at most 24 events
pub outcome_few : (bs : List ℕ) (a : Answer) → Outcome bs a → Few a
outcome_few [] a o = subst Few (sym o) tt
outcome_few (E ∷ []) a o = subst Few (sym o) tt
outcome_few (E ∷ n ∷ body) a (inl o) = stop_few E n o.1.records o.1.rest o.0.1 o.1.stop
outcome_few (E ∷ n ∷ body) a (inr o) = subst Few (sym o.1) tt

pub opened_stands : (s : State) (bs : List ℕ) (t : Tree) → Stands s → Outcome bs (gives t.events t.source) → Source t.events t.source → Stands (state_of (Some (record { tree = t; present = t.source })))
opened_stands s bs t is outcome source = record {
  few = outcome_few bs _ outcome;
  source = source;
  present = source;
  reached = record { from = source.whole.term; to = source.whole.term; begins = source.whole.written; ends = source.whole.written; steps = start };
  calls = opening bs (Ok tt) ∷ is.calls;
  run = then (opening bs (Ok tt)) is.run (outcome, refl, refl);
}

-- STEPS

-- a granted step makes a text of at most 511 bytes
granted_short : (s s' : State) (bs : List ℕ) → Stepped s bs (Ok tt) s' → length s'.present ≤ 511
granted_short s s' bs o =
    let room = o.0 TooLong in
    let both = one_step_answer (s.opened ≡ true) s.present s.events bs (Ok room.2.0) (Ok s'.present) (o.0, (room.0, room.1, room.2.1.0)) (o.0, o.1) in
    let same : room.2.0 ≡ s'.present = cc in
    subst (λ (x : List ℕ). length x ≤ 511) same room.2.1.1

pub stepped_stands : (s : State) (bs text : List ℕ) → Stands s → Stepped s bs (Ok tt) (moved s text) → Whole s.events text → Derived s.source text → Stands (moved s text)
stepped_stands s bs text is o whole reached = record {
  few = is.few;
  source = is.source;
  present = record { whole = whole; text = is_text s.events text is.few (granted_short s _ bs o) whole };
  reached = reached;
  calls = stepping bs (Ok tt) ∷ is.calls;
  run = then (stepping bs (Ok tt)) is.run o;
}
