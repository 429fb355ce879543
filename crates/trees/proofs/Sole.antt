-- Bytes mean one tree at most.
-- Assumes nothing.
use Rattle.std.proofs.Common.{◌≡◌, ℕ, zero, suc, ◌+◌, ◌<◌, ◌≤◌, true, eqb, ◌⊎◌, List, [], ◌∷◌, length, sym, refl, ap, ◌∙◌, subst, ap₂, inl, inr, ⊎_elim, append-nil, arith}
use Rattle.std.proofs.lemmas.Bool.{cond-true, cond-false, cases_Bool, or_cases, or_right, eqb-true, ltb-true}
use Rattle.algebra.specs.Terms.{Term, leaf, never, node}
use Rattle.algebra.specs.Texts.{text_of}
use Rattle.trees.specs.declared.record.Gate.{Gate}
use Rattle.trees.specs.declared.record.Gate.TheVariants.{Or, And, Pand, Before}
use Rattle.trees.specs.declared.record.Record.{Record}
use Rattle.trees.specs.declared.record.Record.TheVariants.{Joins, Triggers}
use Rattle.trees.specs.declared.reader.Tree.{Tree}
use Rattle.trees.specs.Triggers.{triggered, with_trigger}
use Rattle.trees.specs.Gates.{gate_term, known}
use Rattle.trees.specs.Means.{GatesJoin, InputsKnown, Means, SameTree}
use Rattle.trees.proofs.Progress.{last_there}
use Rattle.trees.proofs.One.{spelt_one}

-- how many letters and operators a term has
abbrev size : Term ℕ → ℕ
size (leaf v) = 1
size never = 1
size (node o l r) = 1 + (size l + size r)

some_size : (t : Term ℕ) → 1 ≤ size t
some_size (leaf v) = omega arith
some_size never = omega arith
some_size (node o l r) = omega arith

gate_size : (g : Gate) (p q : Term ℕ) → (size p < size (gate_term g p q)) × (size q < size (gate_term g p q))
gate_size Or p q = (omega arith, omega arith)
gate_size And p q = (omega arith, omega arith)
gate_size Pand p q = (omega arith, omega arith)
gate_size Before p q = (omega arith, omega arith)

known_more : (E : ℕ) (r : Record) (rs : List Record) (i : ℕ) → known E rs i ≡ true → known E (r ∷ rs) i ≡ true
known_more E (Joins g a b) rs i k = or_right _ _ k
known_more E (Triggers t d) rs i k = k

-- the input is a gate, and the inputs of it are known
record Gated (E : ℕ) (rs : List Record) (i : ℕ) : Type 0 where
  gate : Gate
  one : ℕ
  two : ℕ
  one_known : known E rs one ≡ true
  two_known : known E rs two ≡ true
  joins : (v : ℕ → Term ℕ) → GatesJoin v rs → v i ≡ gate_term gate (v one) (v two)

gated_more : (E : ℕ) (r : Record) (rs : List Record) (i : ℕ) → ((v : ℕ → Term ℕ) → GatesJoin v (r ∷ rs) → GatesJoin v rs) → (i < E) ⊎ Gated E rs i → (i < E) ⊎ Gated E (r ∷ rs) i
gated_more E r rs i f (inl h) = inl h
gated_more E r rs i f (inr g) = inr (record {
  gate = g.gate;
  one = g.one;
  two = g.two;
  one_known = known_more E r rs g.one g.one_known;
  two_known = known_more E r rs g.two g.two_known;
  joins = λ v h. g.joins v (f v h);
})

-- a known input is an event or a gate
event_or_gate : (E : ℕ) (rs : List Record) (i : ℕ) → InputsKnown E rs → known E rs i ≡ true → (i < E) ⊎ Gated E rs i
event_or_gate E [] i f k = inl (ltb-true i E k)
event_or_gate E (Joins g a b ∷ rs) i f k =
    ⊎_elim
    (λ h. inr (record {
      gate = g;
      one = a;
      two = b;
      one_known = known_more E (Joins g a b) rs a f.0;
      two_known = known_more E (Joins g a b) rs b f.1;
      joins = λ v j. ap v (eqb-true i (64 + length rs) h) ∙ j.0;
    }))
    (λ h. gated_more E (Joins g a b) rs i (λ v j. j.1) (event_or_gate E rs i f.2 h))
    (or_cases _ _ k)
event_or_gate E (Triggers t d ∷ rs) i f k = gated_more E (Triggers t d) rs i (λ v j. j) (event_or_gate E rs i f.2 k)

-- two ways to give terms agree on an event where they agree on its triggers, whose terms are smaller
triggered_same : (E : ℕ) (v w : ℕ → Term ℕ) (rs : List Record) (e n : ℕ) → InputsKnown E rs → size (triggered v rs e) ≤ suc n → ((i : ℕ) → size (v i) ≤ n → known E rs i ≡ true → v i ≡ w i) → triggered v rs e ≡ triggered w rs e
triggered_same E v w [] e n f s same = refl
triggered_same E v w (Joins g a b ∷ rs) e n f s same =
    triggered_same E v w rs e n f.2 s (λ i h k. same i h (known_more E (Joins g a b) rs i k))
triggered_same E v w (Triggers t d ∷ rs) e n f s same =
    let before : size (triggered v rs e) ≤ suc n → triggered v rs e ≡ triggered w rs e = λ h. triggered_same E v w rs e n f.2 h same in
    let x = with_trigger (triggered v rs e) (v t) in
    let y = triggered v rs e in
    ⊎_elim
    (λ h.
    let all = ap size (cond-true (eqb e d) x y h) in
    cond-true (eqb e d) x y h ∙ ap₂ with_trigger (before (omega arith)) (same t (omega (arith, some_size y)) f.0) ∙ sym (cond-true _ _ _ h))
    (λ h.
    let all = ap size (cond-false (eqb e d) x y h) in
    cond-false (eqb e d) x y h ∙ before (omega arith) ∙ sym (cond-false _ _ _ h))
    (cases_Bool (eqb e d))

module _ (E : ℕ) (rs : List Record) (f : InputsKnown E rs) (v w : ℕ → Term ℕ) (vg : GatesJoin v rs) (wg : GatesJoin w rs) (ve : (e : ℕ) → e < E → v e ≡ triggered v rs e) (we : (e : ℕ) → e < E → w e ≡ triggered w rs e) where
  same_term : (n i : ℕ) → size (v i) ≤ n → known E rs i ≡ true → v i ≡ w i
  same_term zero i s k = absurd (omega (arith, some_size (v i)))
  same_term (suc n) i s k =
      ⊎_elim
      (λ l. ve i l ∙ triggered_same E v w rs i n f (omega (arith, ap size (ve i l))) (same_term n) ∙ sym (we i l))
      (λ g.
      let a = g.one in
      let b = g.two in
      let now = g.joins v vg in
      let less = gate_size g.gate (v a) (v b) in
      now ∙ ap₂ (gate_term g.gate) (same_term n a (omega (arith, ap size now, less.0)) g.one_known) (same_term n b (omega (arith, ap size now, less.1)) g.two_known) ∙ sym (g.joins w wg))
      (event_or_gate E rs i f k)

pub one_tree : (bs : List ℕ) (s t : Tree) → Means bs s → Means bs t → SameTree s t
one_tree bs s t m n =
    let both : s.events ∷ (length m.records ∷ m.body) ≡ t.events ∷ (length n.records ∷ n.body) = sym m.bytes ∙ n.bytes in
    let number : s.events ≡ t.events = cc in
    let count : length m.records ≡ length n.records = cc in
    let body : m.body ≡ n.body = cc in
    let rs : m.records ≡ n.records = (spelt_one m.body [] [] count m.spelt n.spelt (sym (append-nil m.body)) (body ∙ sym (append-nil n.body))).0 in
    let i = 63 + length m.records in
    let same = same_term s.events m.records m.inputs m.term n.term m.gates (subst (GatesJoin n.term) (sym rs) n.gates) m.events
    (λ e l. n.events e (subst (λ (x : ℕ). e < x) number l) ∙ ap (λ (qs : List Record). triggered n.term qs e) (sym rs)) (size (m.term i)) i (omega arith)
    (last_there s.events m.records (length m.records) refl m.last) in
    record { events = number; source = m.source ∙ ap text_of same ∙ ap (λ (k : ℕ). text_of (n.term (63 + k))) count ∙ sym n.source }
