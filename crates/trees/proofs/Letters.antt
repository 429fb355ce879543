-- The letters of every term are those of the tree's events.
-- Assumes nothing.
use Rattle.std.proofs.Common.{◌≡◌, ℕ, ◌+◌, ◌≤◌, true, eqb, List, [], ◌∷◌, length, ap, ⊎_elim, arith}
use Rattle.std.proofs.lemmas.Bool.{cond_both, both_ways, or_cases, ltb-true}
use Rattle.algebra.specs.Terms.{Term, leaf, never, node, Among}
use Rattle.algebra.specs.Texts.{text_of}
use Rattle.texts.specs.declared.text.Text.{Text}
use Rattle.trees.specs.declared.record.Gate.{Gate}
use Rattle.trees.specs.declared.record.Gate.TheVariants.{Or, And, Pand, Before}
use Rattle.trees.specs.declared.record.Record.{Record}
use Rattle.trees.specs.declared.record.Record.TheVariants.{Joins, Triggers}
use Rattle.trees.specs.Records.{LastIsGate}
use Rattle.trees.specs.Gates.{gate_term, known, term_at}
use Rattle.trees.specs.Triggers.{with_trigger}
use Rattle.trees.specs.Means.{InputsKnown, Source}
use Rattle.trees.proofs.Progress.{last_there}

gate_letters : (E : ℕ) (g : Gate) (p q : Term ℕ) → Among E p → Among E q → Among E (gate_term g p q)
gate_letters E Or p q a b = (a, b)
gate_letters E And p q a b = (a, b)
gate_letters E Pand p q a b = (b, (a, b))
gate_letters E Before p q a b = (a, b)

pub letters : (E : ℕ) (rs : List Record) → InputsKnown E rs → (i : ℕ) → known E rs i ≡ true → Among E (term_at rs i)
letters E [] f i k = ltb-true i E k
letters E (Joins g a b ∷ rs) f i k =
    let all = letters E rs f.2 in
    cond_both (eqb i (64 + length rs)) (gate_term g (term_at rs a) (term_at rs b)) (term_at rs i) (Among E)
    (λ h. gate_letters E g (term_at rs a) (term_at rs b) (all a f.0) (all b f.1))
    (λ h. all i (⊎_elim (λ z. absurd (both_ways _ h z)) (λ z. z) (or_cases _ _ k)))
letters E (Triggers t d ∷ rs) f i k =
    let all = letters E rs f.2 in
    cond_both (eqb i d) (with_trigger (term_at rs d) (term_at rs t)) (term_at rs i) (Among E)
    (λ h. (all d f.1, all t f.0))
    (λ h. all i k)

more_letters : (E n : ℕ) (t : Term ℕ) → E ≤ n → Among E t → Among n t
more_letters E n (leaf v) h a = omega arith
more_letters E n never h a = tt
more_letters E n (node o l r) h a = (more_letters E n l h a.0, more_letters E n r h a.1)

-- the source of a tree is a text
pub is_source : (E n : ℕ) (rs : List Record) (x : Text) → E ≤ 24 → InputsKnown E rs → length rs ≡ n → LastIsGate rs → length (text_of (term_at rs (63 + n))) ≤ 511 → x ≡ text_of (term_at rs (63 + n)) → Source E x
is_source E n rs x e f m l s w =
    let a = letters E rs f (63 + n) (last_there E rs n m l) in
    record {
      whole = record { term = term_at rs (63 + n); written = w; letters = a };
      text = record {
        whole = record { term = term_at rs (63 + n); written = w; letters = more_letters E 24 (term_at rs (63 + n)) e a };
        short = omega (arith, ap length w);
      };
    }
