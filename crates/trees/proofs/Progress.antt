-- What a reader of records has done.
-- Assumes nothing.
use Rattle.std.proofs.Common.{◌≡◌, ℕ, ◌+◌, ◌<◌, ◌≤◌, true, ◌⊎◌, List, [], ◌∷◌, length, Some, None, Option, sym, ap, ◌∙◌, subst, inl, inr, arith}
use Rattle.std.proofs.lemmas.List.{nil_from_length}
use Rattle.std.proofs.lemmas.Bool.{eq-eqb, or_left, both_ways}
use Rattle.texts.specs.declared.text.Text.{Text}
use Rattle.trees.specs.declared.record.Record.{Record}
use Rattle.trees.specs.declared.record.Record.TheVariants.{Joins, Triggers}
use Rattle.trees.specs.declared.inputs.Inputs.{Inputs}
use Rattle.trees.specs.Records.{Front, LastIsGate}
use Rattle.trees.specs.Gates.{known, fault}
use Rattle.trees.specs.Held.{Holds, input_at, text_in}
use Rattle.trees.specs.Reading.{Along, Answer, gives, refuses, Stop, left_over, no_source, granted, Ending}
use Rattle.trees.specs.Refusals.{tree_code}
use Rattle.trees.specs.declared.refusal.TreeRefusal.{TreeRefusal}
use Rattle.trees.specs.declared.refusal.TreeRefusal.TheVariants.{Form, NoSource}
use Rattle.trees.proofs.Slots.{held, unheld, past}

-- k records are read, and the inputs hold the texts after them
pub record Progress (E : ℕ) (bs : List ℕ) (k : ℕ) (s : Inputs) (rest : List ℕ) : Type 0 where
  pub records : List Record
  pub many : length records ≡ k
  pub along : Along E bs records rest
  pub holds : Holds E records s

pub ending : {E k : ℕ} {bs rest : List ℕ} {s : Inputs} (g : Progress E bs k s rest) {n : ℕ} {r : Answer} → Stop E n g.records rest r → Ending E n bs r
ending {rest = rest} g h = record { records = g.records; rest = rest; along = g.along; stop = h }

pub step : {E k : ℕ} {bs rest : List ℕ} {s : Inputs} (g : Progress E bs k s rest) (r : Record) {s' : Inputs} {after : List ℕ} → Front rest r after → (fault E g.records r ≡ None) × Holds E (r ∷ g.records) s' → Progress E bs (k + 1) s' after
step {rest = rest} g r f h = record {
  records = r ∷ g.records;
  many = omega (arith, g.many);
  along = (h.0, (rest, (g.along, f)));
  holds = h.1;
}

-- the gate of the last record is there exactly where that is a gate
last_known : (E : ℕ) (rs : List Record) (n : ℕ) → E ≤ 24 → length rs ≡ n → 1 ≤ n → known E rs (63 + n) ≡ true → LastIsGate rs
last_known E [] n e m h k = absurd (omega arith)
last_known E (Joins g a b ∷ rs) n e m h k = tt
last_known E (Triggers t d ∷ rs) n e m h k = both_ways _ (past E rs (63 + n) (omega arith) (omega arith)) k

pub last_there : (E : ℕ) (rs : List Record) (n : ℕ) → length rs ≡ n → LastIsGate rs → known E rs (63 + n) ≡ true
last_there E [] n m l = absurd l
last_there E (Joins g a b ∷ rs) n m l = or_left _ _ (eq-eqb (63 + n) (64 + length rs) (omega arith))
last_there E (Triggers t d ∷ rs) n m l = absurd l

-- the end of a reading
module _ {E k : ℕ} {bs rest : List ℕ} {s : Inputs} (g : Progress E bs k s rest) (n : ℕ) (last : Option Text) (many : length g.records ≡ n) (is : last ≡ text_in (input_at s (63 + n))) where
  pub end_granted : (x : Text) → 1 ≤ n → (length rest ≡ 0) × (last ≡ Some x) → Ending E n bs (gives E x)
  end_granted x h o =
      let there = held g.holds (63 + n) x (sym o.1 ∙ is) in
      let gate = last_known E g.records n g.holds.events many h there.0 in
      ending g (subst (λ (w : List ℕ). Stop E n g.records rest (gives E w)) (sym there.1) (granted many (nil_from_length rest o.0) gate))

  pub end_refused : (e : TreeRefusal) → ((0 < length rest) × (e ≡ Form)) ⊎ ((length rest ≡ 0) × (last ≡ None) × (e ≡ NoSource)) → Ending E n bs (refuses (tree_code e))
  end_refused e (inl o) =
      subst (λ (f : TreeRefusal). Ending E n bs (refuses (tree_code f))) (sym o.1) (ending g (left_over many (λ z. omega (arith, ap length z))))
  end_refused e (inr o) =
      let none = unheld g.holds (63 + n) (sym o.1 ∙ is) in
      subst (λ (f : TreeRefusal). Ending E n bs (refuses (tree_code f))) (sym o.2)
      (ending g (no_source many (nil_from_length rest o.0) (λ l. both_ways _ none (last_there E g.records n many l))))
