-- Once an input is a gate or is read, no later record changes its term.
-- Assumes nothing.
use Rattle.std.proofs.Common.{◌≡◌, ℕ, ◌+◌, ◌<◌, ◌≤◌, Bool, true, false, cond, ◌&&◌, eqb, ltb, ◌⊎◌, List, [], ◌∷◌, length, Some, None, Option, sym, refl, ap, ◌∙◌, inl, inr, ⊎_elim, arith}
use Rattle.std.proofs.lemmas.Bool.{ne_eqb, eq-eqb, or_left, or_right, or_parts, both_ways, leb-false, ltb-false, cond-true, cond-false, cases_lt, cases_Bool, eqb-true}
use Rattle.std.proofs.lemmas.Option.{none-some}
use Rattle.algebra.specs.Terms.{Term}
use Rattle.algebra.specs.Texts.{text_of}
use Rattle.trees.specs.declared.record.Gate.{Gate}
use Rattle.trees.specs.declared.record.Record.{Record}
use Rattle.trees.specs.declared.record.Record.TheVariants.{Joins, Triggers}
use Rattle.trees.specs.declared.refusal.TreeRefusal.{TreeRefusal}
use Rattle.trees.specs.declared.refusal.TreeRefusal.TheVariants.{Input, Dependent, TooLong}
use Rattle.trees.specs.Records.{first, LastIsGate, second}
use Rattle.trees.specs.Triggers.{read, misplaced, triggered, with_trigger}
use Rattle.trees.specs.Gates.{known, term_at, fault, new_term, gate_term}
use Rattle.trees.specs.Means.{GatesJoin}
use Rattle.trees.proofs.Slots.{past}

-- what a record without a fault has
pub record Sound (E : ℕ) (rs : List Record) (r : Record) : Type 0 where
  pub one : known E rs (first r) ≡ true
  pub two : known E rs (second r) ≡ true
  pub placed : misplaced rs r ≡ false
  pub short : ltb 511 (length (text_of (new_term rs r))) ≡ false

sound_from : (E : ℕ) (rs : List Record) (r : Record) (k l m n : Bool) → known E rs (first r) ≡ k → known E rs (second r) ≡ l → misplaced rs r ≡ m → ltb 511 (length (text_of (new_term rs r))) ≡ n → cond {A = Option TreeRefusal} (k && l) (cond m (Some Dependent) (cond n (Some TooLong) None)) (Some Input) ≡ None → Sound E rs r
sound_from E rs r true true true n p q s t h = absurd (none-some _ (sym h))
sound_from E rs r true true false true p q s t h = absurd (none-some _ (sym h))
sound_from E rs r true true false false p q s t h = record { one = p; two = q; placed = s; short = t }
sound_from E rs r true false m n p q s t h = absurd (none-some _ (sym h))
sound_from E rs r false l m n p q s t h = absurd (none-some _ (sym h))

pub sound : (E : ℕ) (rs : List Record) (r : Record) → fault E rs r ≡ None → Sound E rs r
sound E rs r h = sound_from E rs r (known E rs (first r)) (known E rs (second r)) (misplaced rs r) (ltb 511 (length (text_of (new_term rs r)))) refl refl refl refl h

abbrev pub Fine : ℕ → List Record → Type 0
Fine E [] = Unit {0}
Fine E (r ∷ rs) = Sound E rs r × Fine E rs

-- the text of the last record's gate is not too long
pub last_short : (E n : ℕ) (rs : List Record) → length rs ≡ n → LastIsGate rs → Fine E rs → length (text_of (term_at rs (63 + n))) ≤ 511
last_short E n [] m l f = absurd l
last_short E n (Joins g a b ∷ rs) m l f =
    let here = cond-true (eqb (63 + n) (64 + length rs)) (gate_term g (term_at rs a) (term_at rs b)) (term_at rs (63 + n)) (eq-eqb (63 + n) (64 + length rs) (omega arith)) in
    omega (arith, ltb-false 511 _ f.0.short, ap (λ t. length (text_of t)) here)
last_short E n (Triggers t d ∷ rs) m l f = absurd l

pub record Settled (E : ℕ) (rs : List Record) (i : ℕ) : Type 0 where
  pub there : known E rs i ≡ true
  pub fixed : (64 ≤ i) ⊎ (read rs i ≡ true)

below : (E : ℕ) (rs : List Record) (i : ℕ) → E ≤ 24 → known E rs i ≡ true → i < 64 + length rs
below E rs i e k = ⊎_elim (λ l. l) (λ g. absurd (both_ways _ (past E rs i (omega arith) g) k)) (cases_lt i (64 + length rs))

settled_more : (E : ℕ) (rs : List Record) (r : Record) (i : ℕ) → Settled E rs i → Settled E (r ∷ rs) i
settled_more E rs (Joins g a b) i s = record { there = or_right _ _ s.there; fixed = ⊎_elim (λ h. inl h) (λ h. inr (or_right (eqb i a) _ (or_right (eqb i b) _ h))) s.fixed }
settled_more E rs (Triggers t d) i s = record { there = s.there; fixed = ⊎_elim (λ h. inl h) (λ h. inr (or_right (eqb i t) _ h)) s.fixed }

-- a later record changes only what is not settled
pub stable : (E : ℕ) (rs : List Record) (r : Record) → E ≤ 24 → Sound E rs r → (i : ℕ) → Settled E rs i → term_at (r ∷ rs) i ≡ term_at rs i
stable E rs (Joins g a b) e f i s = cond-false _ _ _ (ne_eqb i (64 + length rs) (λ z. omega (arith, below E rs i e s.there)))
stable E rs (Triggers t d) e f i s =
    let parts = or_parts _ _ f.placed in
    let low : d < 64 = leb-false 64 d parts.0 in
    let unread : read rs d ≡ false = (or_parts (eqb t d) (read rs d) parts.1).1 in
    cond-false _ _ _ (ne_eqb i d (λ z. ⊎_elim (λ h. omega arith) (λ h. both_ways _ unread (ap (λ (k : ℕ). read rs k) (sym z) ∙ h)) s.fixed))

-- a gate's own input, and what it reads
own : (E : ℕ) (rs : List Record) (g : Gate) (a b : ℕ) → Settled E (Joins g a b ∷ rs) (64 + length rs)
own E rs g a b = record { there = or_left _ _ (eq-eqb (64 + length rs) (64 + length rs) refl); fixed = inl (omega arith) }

one_read : (E : ℕ) (rs : List Record) (r : Record) → Sound E rs r → Settled E (r ∷ rs) (first r)
one_read E rs (Joins g a b) f = record { there = or_right _ _ f.one; fixed = inr (or_left _ _ (eq-eqb a a refl)) }
one_read E rs (Triggers t d) f = record { there = f.one; fixed = inr (or_left _ _ (eq-eqb t t refl)) }

two_read : (E : ℕ) (rs : List Record) (g : Gate) (a b : ℕ) → Sound E rs (Joins g a b) → Settled E (Joins g a b ∷ rs) b
two_read E rs g a b f = record { there = or_right _ _ f.two; fixed = inr (or_right _ _ (or_left _ _ (eq-eqb b b refl))) }

abbrev Agree : ℕ → List Record → (ℕ → Term ℕ) → (ℕ → Term ℕ) → Type 0
Agree E rs v w = (i : ℕ) → Settled E rs i → w i ≡ v i

gates_same : (E : ℕ) (v w : ℕ → Term ℕ) (rs : List Record) → Fine E rs → Agree E rs v w → GatesJoin v rs → GatesJoin w rs
gates_same E v w [] f same g = tt
gates_same E v w (Joins k a b ∷ rs) f same g = (
  same (64 + length rs) (own E rs k a b) ∙ g.0 ∙ (λ z. gate_term k (sym (same a (one_read E rs (Joins k a b) f.0)) z) (sym (same b (two_read E rs k a b f.0)) z)),
  gates_same E v w rs f.1 (λ i s. same i (settled_more E rs (Joins k a b) i s)) g.1,
)
gates_same E v w (Triggers t d ∷ rs) f same g = gates_same E v w rs f.1 (λ i s. same i (settled_more E rs (Triggers t d) i s)) g

triggers_same : (E : ℕ) (v w : ℕ → Term ℕ) (rs : List Record) (e : ℕ) → Fine E rs → Agree E rs v w → triggered w rs e ≡ triggered v rs e
triggers_same E v w [] e f same = refl
triggers_same E v w (Joins k a b ∷ rs) e f same = triggers_same E v w rs e f.1 (λ i s. same i (settled_more E rs (Joins k a b) i s))
triggers_same E v w (Triggers t d ∷ rs) e f same =
    let rest = triggers_same E v w rs e f.1 (λ i s. same i (settled_more E rs (Triggers t d) i s)) in
    let here = same t (one_read E rs (Triggers t d) f.0) in
    λ z. cond (eqb e d) (with_trigger (rest z) (here z)) (rest z)

-- every gate's term is the operator over its inputs' terms
pub gates_join : (E : ℕ) (rs : List Record) → E ≤ 24 → Fine E rs → GatesJoin (term_at rs) rs
gates_join E [] e f = tt
gates_join E (Joins k a b ∷ rs) e f =
    let here : (i : ℕ) → known E rs i ≡ true → term_at (Joins k a b ∷ rs) i ≡ term_at rs i = λ i h. cond-false _ _ _ (ne_eqb i (64 + length rs) (λ z. omega (arith, below E rs i e h))) in (
      cond-true _ _ _ (eq-eqb (64 + length rs) (64 + length rs) refl) ∙ (λ z. gate_term k (sym (here a f.0.one) z) (sym (here b f.0.two) z)),
      gates_same E (term_at rs) (term_at (Joins k a b ∷ rs)) rs f.1 (λ i s. stable E rs (Joins k a b) e f.0 i s) (gates_join E rs e f.1),
    )
gates_join E (Triggers t d ∷ rs) e f = gates_same E (term_at rs) (term_at (Triggers t d ∷ rs)) rs f.1 (λ i s. stable E rs (Triggers t d) e f.0 i s) (gates_join E rs e f.1)

-- every event's term is its leaf and its triggers' terms
pub events_sum : (E : ℕ) (rs : List Record) (i : ℕ) → E ≤ 24 → i < 64 → Fine E rs → term_at rs i ≡ triggered (term_at rs) rs i
events_sum E [] i e l f = refl
events_sum E (Joins k a b ∷ rs) i e l f =
    cond-false _ _ _ (ne_eqb i (64 + length rs) (λ z. omega arith)) ∙ events_sum E rs i e l f.1 ∙ sym (triggers_same E (term_at rs) (term_at (Joins k a b ∷ rs)) rs i f.1 (λ j s. stable E rs (Joins k a b) e f.0 j s))
events_sum E (Triggers t d ∷ rs) i e l f =
    let new = term_at (Triggers t d ∷ rs) in
    let before = events_sum E rs i e l f.1 ∙ sym (triggers_same E (term_at rs) new rs i f.1 (λ j s. stable E rs (Triggers t d) e f.0 j s)) in
    let apart : eqb t d ≡ false = (or_parts _ _ (or_parts _ _ f.0.placed).1).0 in
    let kept : term_at rs t ≡ new t = sym (cond-false _ _ _ apart) in
    let same : eqb i d ≡ true → term_at rs d ≡ term_at rs i = λ h. ap (term_at rs) (sym (eqb-true i d h)) in
    ⊎_elim
    (λ h. cond-true _ _ _ h ∙ (λ z. with_trigger ((same h ∙ before) z) (kept z)) ∙ sym (cond-true _ _ _ h))
    (λ h. cond-false _ _ _ h ∙ before ∙ sym (cond-false _ _ _ h))
    (cases_Bool (eqb i d))
