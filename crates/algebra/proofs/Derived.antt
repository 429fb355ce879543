-- What is derived keeps the date, and a step derives on.
-- Assumes nothing.
use Rattle.std.proofs.Common.{◌≡◌, ℕ, ◌<◌, List, ◌++◌, length, take, drop, sym, ap, ◌∙◌, subst, subst₂}
use Rattle.algebra.specs.Kinds.{Kind, Same}
use Rattle.algebra.specs.Terms.{Term, date, dating_of, inst}
use Rattle.algebra.specs.Texts.{text_of, text_date, single, event_byte, event_token}
use Rattle.algebra.specs.Rules.{numbered, old_side, new_side}
use Rattle.algebra.specs.Steps.{DerivedKeeps, DerivedKeepsUnder, StepsDerive, next}
use Rattle.algebra.proofs.Texts.{read_text}
use Rattle.algebra.proofs.Bytes.{event_spelling, puts_terms}
use Rattle.algebra.proofs.Steps.{reached_keeps}

module _ {D : Type 0} (K : Kind D) where
  -- the date of a text is that of its term
  pub text_date_lem : (d : ℕ → D) (bs : List ℕ) (t : Term ℕ) → bs ≡ text_of t → text_date K d bs ≡ date K d t
  text_date_lem d bs t e = ap (text_date K d) e ∙ ap (λ s. date K d (single s)) (read_text event_byte event_token event_spelling t)

  pub derived_keeps : DerivedKeeps K
  derived_keeps d bs cs w =
      subst₂ (Same K) (sym (text_date_lem d bs w.from w.begins)) (sym (text_date_lem d cs w.to w.ends)) (reached_keeps K d w.from w.to w.steps)

  pub derived_keeps_under : (ds : List D) → DerivedKeepsUnder K ds
  derived_keeps_under ds bs cs w = derived_keeps (dating_of K ds) bs cs w

pub steps_derive : StepsDerive
steps_derive bs cs w n low high way σ place rest h e =
    let p = inst σ (old_side way (numbered n)) in
    let q = inst σ (new_side way (numbered n)) in
    let put =
    puts_terms w.to p q place rest (subst (λ (x : List ℕ). place < length x) w.ends h)
    (subst (λ (x : List ℕ). drop place x ≡ text_of p ++ rest) w.ends e) in
    record {
      from = w.from;
      to = put.new;
      begins = w.begins;
      ends = ap (λ (x : List ℕ). take place x ++ (text_of q ++ rest)) w.ends ∙ put.written;
      steps = next w.steps (record { number = n; low = low; high = high; way = way; choice = σ; replaced = put.replaced });
    }
