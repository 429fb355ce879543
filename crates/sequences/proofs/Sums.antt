-- A term has rows exactly where it closes to sequences.
-- Assumes nothing.
use Rattle.std.proofs.Common.{◌≡◌, ℕ, ◌<◌, List, [], ◌∷◌, ◌++◌, sym, refl, ap, ◌∙◌, subst, ap₂}
use mathlib.Core.Option.{Option, none, some}
use Rattle.std.proofs.lemmas.List.{map-append}
use Rattle.std.proofs.lemmas.Bool.{cond-true, cond-false, lt-ltb, ne_eqb}
use Rattle.algebra.specs.Terms.{Term, leaf, never, node, Among}
use Rattle.algebra.specs.declared.Operator.TheVariants.{Or, And, Before, Simultaneous, Inclusive}
use Rattle.sequences.specs.Rows.{blank, entered, entered_all, row_with}
use Rattle.sequences.specs.Sequences.{letter_of, pair_of, single, factor_of, enter_of, onto, row_of, alone, both_of, sum_of, rows_of, Factored, letter, less, tie, Sequenced, factor, both, Summed, sequence, plus, ClosesTo, nothing, sum, rows_with, RowsAre, RowsMatch}
use Rattle.sequences.specs.declared.row.Row.{Row}
use Rattle.sequences.specs.declared.row.Factor.{Factor}
use Rattle.sequences.specs.declared.row.Sign.TheVariants.{Precedes, Ties}
use Rattle.sequences.specs.declared.row.Factor.TheVariants.{Letter, Pair}
use Rattle.sequences.proofs.Tables.{some_same, none_some, letter_of_lem, pair_of_lem}

-- from the relations to the definitions
letter_is : (v : ℕ) → v < 24 → letter_of (leaf v) ≡ some v
letter_is v h = cond-true _ _ _ (lt-ltb v 24 h)

pair_is : (mk : ℕ → ℕ → Factor) (v w : ℕ) → v < 24 → w < 24 → (v ≡ w → ⊥) → pair_of mk (letter_of (leaf v)) (letter_of (leaf w)) ≡ some (mk v w)
pair_is mk v w h k n = ap₂ (pair_of mk) (letter_is v h) (letter_is w k) ∙ cond-false _ _ _ (ne_eqb v w n)

factor_row : {t : Term ℕ} {f : Factor} → Factored t f → (r : Row) → row_of t r ≡ some (entered f r)
factor_row (letter {v = v} h) r = ap (λ (o : Option ℕ). enter_of (single o) r) (letter_is v h)
factor_row (less {v = v} {w = w} h k n) r = ap (λ (o : Option Factor). enter_of o r) (pair_is (Pair Precedes) v w h k n)
factor_row (tie {v = v} {w = w} h k n) r = ap (λ (o : Option Factor). enter_of o r) (pair_is (Pair Ties) v w h k n)

all_append : (fs gs : List Factor) (r : Row) → entered_all (fs ++ gs) r ≡ entered_all gs (entered_all fs r)
all_append [] gs r = refl
all_append (f ∷ fs) gs r = all_append fs gs (entered f r)

pub sequence_row : {t : Term ℕ} {fs : List Factor} → Sequenced t fs → (r : Row) → row_of t r ≡ some (entered_all fs r)
sequence_row (factor h) r = factor_row h r
sequence_row (both {a = a} {b = b} {fs = fs} {gs = gs} h k) r =
    ap (λ (o : Option Row). onto o (row_of b)) (sequence_row h r) ∙ sequence_row k (entered_all fs r) ∙ ap some (sym (all_append fs gs r))

-- a sequence is no '+'
factor_alone : {t : Term ℕ} {f : Factor} → Factored t f → sum_of t ≡ alone (row_of t blank)
factor_alone (letter h) = refl
factor_alone (less h k n) = refl
factor_alone (tie h k n) = refl

alone_sum : {t : Term ℕ} {fs : List Factor} → Sequenced t fs → sum_of t ≡ alone (row_of t blank)
alone_sum (factor h) = factor_alone h
alone_sum (both h k) = refl

pub sum_rows : {t : Term ℕ} {x : List (List Factor)} → Summed t x → sum_of t ≡ some (rows_with x)
sum_rows (sequence h) = alone_sum h ∙ ap alone (sequence_row h blank)
sum_rows (plus {x = x} {y = y} h k) = ap₂ both_of (sum_rows h) (sum_rows k) ∙ ap some (sym (map-append row_with x y))

pub sum_all : (t : Term ℕ) (rs : List Row) → sum_of t ≡ some rs → rows_of t ≡ some rs
sum_all (leaf v) rs e = e
sum_all never rs e = absurd (none_some rs e)
sum_all (node o a b) rs e = e

pub closes_rows : {t : Term ℕ} {x : List (List Factor)} → ClosesTo t x → rows_of t ≡ some (rows_with x)
closes_rows nothing = refl
closes_rows (sum {t = t} {x = x} h) = sum_all t (rows_with x) (sum_rows h)

-- and back
record SequenceIs (t : Term ℕ) (r q : Row) : Type 0 where
  pub factors : List Factor
  pub sequenced : Sequenced t factors
  pub row : q ≡ entered_all factors r

one_factor : (t : Term ℕ) (f : Factor) (r q : Row) → Factored t f → entered f r ≡ q → SequenceIs t r q
one_factor t f r q h e = record { factors = f ∷ []; sequenced = factor h; row = sym e }

leaf_is : (u : ℕ) (r q : Row) → enter_of (factor_of (leaf u)) r ≡ some q → SequenceIs (leaf u) r q
leaf_is u r q e = go (letter_of (leaf u)) refl e
  where
    go : (o : Option ℕ) → letter_of (leaf u) ≡ o → enter_of (single o) r ≡ some q → SequenceIs (leaf u) r q
    go none a e = absurd (none_some q e)
    go (some v) a e =
        let i = letter_of_lem (leaf u) v a in
        subst (λ (t : Term ℕ). SequenceIs t r q) (sym i.is) (one_factor (leaf v) (Letter v) r q (letter i.low) (some_same (entered (Letter v) r) q e))

pairs_are : (t : Term ℕ → Term ℕ → Term ℕ) (mk : ℕ → ℕ → Factor)
    → ((v w : ℕ) → v < 24 → w < 24 → (v ≡ w → ⊥) → Factored (t (leaf v) (leaf w)) (mk v w))
    → (l m : Term ℕ) (r q : Row) → enter_of (pair_of mk (letter_of l) (letter_of m)) r ≡ some q → SequenceIs (t l m) r q
pairs_are t mk made l m r q e = go (pair_of mk (letter_of l) (letter_of m)) refl e
  where
    go : (o : Option Factor) → pair_of mk (letter_of l) (letter_of m) ≡ o → enter_of o r ≡ some q → SequenceIs (t l m) r q
    go none a e = absurd (none_some q e)
    go (some f) a e =
        one_factor (t l m) f r q
        (pair_of_lem (λ (g : Factor). Factored (t l m) g) mk l m
        (λ v w i j n.
        subst (λ (x : Term ℕ). Factored (t x m) (mk v w)) (sym i.is)
        (subst (λ (x : Term ℕ). Factored (t (leaf v) x) (mk v w)) (sym j.is) (made v w i.low j.low n)))
        f a)
        (some_same (entered f r) q e)

sequence_is : (t : Term ℕ) (r q : Row) → row_of t r ≡ some q → SequenceIs t r q
sequence_is (leaf v) r q e = leaf_is v r q e
sequence_is never r q e = absurd (none_some q e)
sequence_is (node Or a b) r q e = absurd (none_some q e)
sequence_is (node And a b) r q e = go (row_of a r) (λ x k. sequence_is a r x k) (λ x k. sequence_is b x q k) refl e
  where
    go : (o : Option Row) → ((x : Row) → row_of a r ≡ some x → SequenceIs a r x) → ((x : Row) → row_of b x ≡ some q → SequenceIs b x q)
        → row_of a r ≡ o → onto o (row_of b) ≡ some q → SequenceIs (node And a b) r q
    go none f g k e = absurd (none_some q e)
    go (some x) f g k e =
        let i = f x k in
        let j = g x e in
        record {
          factors = i.factors ++ j.factors;
          sequenced = both i.sequenced j.sequenced;
          row = j.row ∙ ap (entered_all j.factors) i.row ∙ sym (all_append i.factors j.factors r);
        }
sequence_is (node Before a b) r q e = pairs_are (node Before) (Pair Precedes) (λ v w h k n. less h k n) a b r q e
sequence_is (node Simultaneous a b) r q e = pairs_are (node Simultaneous) (Pair Ties) (λ v w h k n. tie h k n) a b r q e
sequence_is (node Inclusive a b) r q e = absurd (none_some q e)

record SumIs (t : Term ℕ) (rs : List Row) : Type 0 where
  pub sequences : List (List Factor)
  pub summed : Summed t sequences
  pub rows : rs ≡ rows_with sequences

alone_is : (t : Term ℕ) (rs : List Row) → alone (row_of t blank) ≡ some rs → SumIs t rs
alone_is t rs e = go (row_of t blank) refl e
  where
    go : (o : Option Row) → row_of t blank ≡ o → alone o ≡ some rs → SumIs t rs
    go none a e = absurd (none_some rs e)
    go (some r) a e =
        let i = sequence_is t blank r a in
        record {
          sequences = i.factors ∷ [];
          summed = sequence i.sequenced;
          rows = sym (some_same (r ∷ []) rs e) ∙ ap (λ (q : Row). q ∷ []) i.row;
        }

sum_is : (t : Term ℕ) (rs : List Row) → sum_of t ≡ some rs → SumIs t rs
sum_is (leaf v) rs e = alone_is (leaf v) rs e
sum_is never rs e = absurd (none_some rs e)
sum_is (node Or a b) rs e = go (sum_of a) (sum_of b) (λ x k. sum_is a x k) (λ x k. sum_is b x k) refl refl e
  where
    go : (o p : Option (List Row)) → ((x : List Row) → sum_of a ≡ some x → SumIs a x) → ((x : List Row) → sum_of b ≡ some x → SumIs b x)
        → sum_of a ≡ o → sum_of b ≡ p → both_of o p ≡ some rs → SumIs (node Or a b) rs
    go none p f g k l e = absurd (none_some rs e)
    go (some x) none f g k l e = absurd (none_some rs e)
    go (some x) (some y) f g k l e =
        let i = f x k in
        let j = g y l in
        record {
          sequences = i.sequences ++ j.sequences;
          summed = plus i.summed j.summed;
          rows = sym (some_same (x ++ y) rs e) ∙ ap₂ ◌++◌ i.rows j.rows ∙ sym (map-append row_with i.sequences j.sequences);
        }
sum_is (node And a b) rs e = alone_is (node And a b) rs e
sum_is (node Before a b) rs e = alone_is (node Before a b) rs e
sum_is (node Simultaneous a b) rs e = alone_is (node Simultaneous a b) rs e
sum_is (node Inclusive a b) rs e = absurd (none_some rs e)

pub sum_closes : (t : Term ℕ) (rs : List Row) → sum_of t ≡ some rs → RowsAre t rs
sum_closes t rs e = let i = sum_is t rs e in record { sequences = i.sequences; closes = sum i.summed; rows = i.rows }

rows_are : (t : Term ℕ) (rs : List Row) → rows_of t ≡ some rs → RowsAre t rs
rows_are (leaf v) rs e = sum_closes (leaf v) rs e
rows_are never rs e = record { sequences = []; closes = nothing; rows = sym (some_same [] rs e) }
rows_are (node o a b) rs e = sum_closes (node o a b) rs e

pub rows_match : RowsMatch
rows_match t rs = (rows_are t rs, λ a. closes_rows a.closes ∙ ap some (sym a.rows))

-- what closes to sequences has letters among the 24 only
factor_among : {t : Term ℕ} {f : Factor} → Factored t f → Among 24 t
factor_among (letter h) = h
factor_among (less h k n) = (h, k)
factor_among (tie h k n) = (h, k)

sequence_among : {t : Term ℕ} {fs : List Factor} → Sequenced t fs → Among 24 t
sequence_among (factor h) = factor_among h
sequence_among (both h k) = (sequence_among h, sequence_among k)

sum_among : {t : Term ℕ} {x : List (List Factor)} → Summed t x → Among 24 t
sum_among (sequence h) = sequence_among h
sum_among (plus h k) = (sum_among h, sum_among k)

pub closes_among : {t : Term ℕ} {x : List (List Factor)} → ClosesTo t x → Among 24 t
closes_among nothing = tt
closes_among (sum h) = sum_among h
