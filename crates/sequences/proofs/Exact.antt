-- The dates of rows and tables are what the relations say.
-- Assumes nothing.
use Rattle.std.proofs.Common.{◌≡◌, ℕ, zero, suc, ◌<◌, Bool, false, T, List, [], ◌∷◌, length, get_or, Some, None, Option, sym, refl, subst, inl, inr, arith}
use Rattle.std.proofs.lemmas.Bool.{cond_both, not-true, not-false}
use Rattle.algebra.specs.Kinds.{Kind, before}
use Rattle.sequences.specs.Dates.{counts, Counted, later, latest, meets, or_never, row_date, table_date, PairsMet, LatestOf, RowDated, met, unmet, EarliestOf, RowsDated, none, some, DatesOfRows}
use Rattle.sequences.specs.Rows.{absent}
use Rattle.sequences.specs.Walks.{Sound}
use Rattle.sequences.specs.declared.row.Row.{Row}
use Rattle.sequences.proofs.Dated.{NoLater, Sooner, le_lt, le_refl, lt_le}
use Rattle.sequences.proofs.RowDates.{counts_why, less_out, meets_in, same_out, why_low}
use Rattle.sequences.proofs.Tests.{below_suc, is_T, T_not_false}

module _ {D : Type 0} (K : Kind D) (d : ℕ → D) where
  -- the latest of the letters below n that pass
  record Best (p : ℕ → Bool) (n : ℕ) (x : D) : Type 0 where
    pub at : ℕ
    pub low : at < n
    pub passes : T (p at)
    pub is : x ≡ d at
    pub latest : (v : ℕ) → v < n → T (p v) → NoLater K (d v) x
    pub first : (v : ℕ) → v < at → T (p v) → Sooner K (d v) x

  abbrev Found : (ℕ → Bool) → ℕ → Option D → Type 0
  Found p n None = (v : ℕ) → v < n → T (p v) → ⊥
  Found p n (Some x) = Best p n x

  module _ (p : ℕ → Bool) (n : ℕ) where
    first_found : T (p n) → ((v : ℕ) → v < n → T (p v) → ⊥) → Best p (suc n) (d n)
    first_found t f = record {
      at = n;
      low = omega arith;
      passes = t;
      is = refl;
      latest = λ v h s. elim (below_suc v n h) [ inl e ↦ subst (λ (m : ℕ). NoLater K (d m) (d n)) (sym e) (le_refl K (d n)) | inr l ↦ absurd (f v l s) ];
      first = λ v h s. absurd (f v h s);
    }

    later_found : T (p n) → (x : D) → Best p n x → Sooner K x (d n) → Best p (suc n) (d n)
    later_found t x b h = record {
      at = n;
      low = omega arith;
      passes = t;
      is = refl;
      latest = λ v l s.
          elim (below_suc v n l) [
            | inl e ↦ subst (λ (m : ℕ). NoLater K (d m) (d n)) (sym e) (le_refl K (d n))
            | inr k ↦ lt_le K (d v) (d n) (le_lt K (d v) x (d n) (b.latest v k s) h)
          ];
      first = λ v l s. le_lt K (d v) x (d n) (b.latest v l s) h;
    }

    kept_found : (x : D) → Best p n x → NoLater K (d n) x → Best p (suc n) x
    kept_found x b h = record {
      at = b.at;
      low = omega (arith, b.low);
      passes = b.passes;
      is = b.is;
      latest = λ v l s. elim (below_suc v n l) [ inl e ↦ subst (λ (m : ℕ). NoLater K (d m) x) (sym e) h | inr k ↦ b.latest v k s ];
      first = b.first;
    }

    passed_found : (o : Option D) → p n ≡ false → Found p n o → Found p (suc n) o
    passed_found None e f = λ v l s. elim (below_suc v n l) [ inl q ↦ T_not_false (p n) e (subst (λ (m : ℕ). T (p m)) q s) | inr k ↦ f v k s ]
    passed_found (Some x) e b = record {
      at = b.at;
      low = omega (arith, b.low);
      passes = b.passes;
      is = b.is;
      latest = λ v l s. elim (below_suc v n l) [ inl q ↦ absurd (T_not_false (p n) e (subst (λ (m : ℕ). T (p m)) q s)) | inr k ↦ b.latest v k s ];
      first = b.first;
    }

    next_found : T (p n) → (o : Option D) → Found p n o → Found p (suc n) (later K o (d n))
    next_found t None f = first_found t f
    next_found t (Some x) b =
        cond_both (before K x (d n)) (d n) x (Best p (suc n)) (λ e. later_found t x b (is_T _ e)) (λ e. kept_found x b (is_T _ (not-false _ e)))

  found : (p : ℕ → Bool) (n : ℕ) → Found p n (latest K d p n)
  unfolding latest
  found p zero = λ v h s. omega arith
  found p (suc n) =
      cond_both (p n) (later K (latest K d p n) (d n)) (latest K d p n) (Found p (suc n))
      (λ e. next_found p n (is_T _ e) (latest K d p n) (found p n)) (λ e. passed_found p n (latest K d p n) e (found p n))

  module _ (r : Row) (s : Sound r) (c : Counted r) where
    low_at : (v : ℕ) → T (counts r v) → v < 24
    low_at v t = why_low r s (counts_why r v t)

    latest_of : (o : Option D) → Found (counts r) 24 o → LatestOf K d r (or_never K o)
    latest_of None f = absurd (f c.at (low_at c.at c.counted) c.counted)
    latest_of (Some x) b = record {
      at = b.at;
      counted = b.passes;
      is = b.is;
      latest = λ v t. b.latest v (low_at v t) t;
      first = b.first;
    }

    pairs_met : T (meets K d r) → PairsMet K d r
    pairs_met t = record { less = less_out K d K.never r s t; same = same_out K d K.never r s t }

    met_pairs : PairsMet K d r → T (meets K d r)
    met_pairs m =
        meets_in K d K.never r s
        (record {
          less = m.less;
          same = m.same;
          listed = λ v t. K.top (d v);
          left = λ v w t. K.top (d v);
          tied = λ v w t. K.top (d v);
        })

    row_dated : RowDated K d r (row_date K d r)
    row_dated =
        cond_both (meets K d r) (or_never K (latest K d (counts r) 24)) K.never (RowDated K d r)
        (λ e. met (pairs_met (is_T _ e)) (latest_of (latest K d (counts r) 24) (found (counts r) 24)))
        (λ e. unmet (λ m. T_not_false _ e (met_pairs m)) refl)

  -- the earliest row
  abbrev dated : List Row → ℕ → D
  dated rs k = row_date K d (get_or rs k absent)

  alone : (r : Row) → EarliestOf K d (r ∷ []) (row_date K d r)
  alone r = record {
    at = 0;
    low = omega arith;
    is = refl;
    earliest = λ k h. only k h;
    first = λ k h. absurd (omega arith);
  }
    where
      only : (k : ℕ) → k < 1 → NoLater K (row_date K d r) (dated (r ∷ []) k)
      only zero h = le_refl K _
      only (suc k) h = absurd (omega arith)

  before_rest : (r : Row) (rs : List Row) (p : D) → EarliestOf K d rs p → NoLater K (row_date K d r) p → EarliestOf K d (r ∷ rs) (row_date K d r)
  before_rest r rs p e h = record {
    at = 0;
    low = omega arith;
    is = refl;
    earliest = each;
    first = λ k l. absurd (omega arith);
  }
    where
      each : (k : ℕ) → k < suc (length rs) → NoLater K (row_date K d r) (dated (r ∷ rs) k)
      each zero l = le_refl K _
      each (suc k) l = K.trans (row_date K d r) p (dated rs k) h (e.earliest k (omega arith))

  after_first : (r : Row) (rs : List Row) (p : D) → EarliestOf K d rs p → Sooner K p (row_date K d r) → EarliestOf K d (r ∷ rs) p
  after_first r rs p e h = record { at = suc e.at; low = omega (arith, e.low); is = e.is; earliest = each; first = sooner }
    where
      each : (k : ℕ) → k < suc (length rs) → NoLater K p (dated (r ∷ rs) k)
      each zero l = lt_le K p (row_date K d r) h
      each (suc k) l = e.earliest k (omega arith)

      sooner : (k : ℕ) → k < suc e.at → Sooner K p (dated (r ∷ rs) k)
      sooner zero l = h
      sooner (suc k) l = e.first k (omega arith)

  earliest_of : (r : Row) (rs : List Row) → EarliestOf K d (r ∷ rs) (table_date K d (r ∷ rs))
  earliest_of r [] =
      cond_both (before K K.never (row_date K d r)) K.never (row_date K d r) (EarliestOf K d (r ∷ []))
      (λ e. absurd (T_not_false _ (not-true _ e) (K.top (row_date K d r)))) (λ e. alone r)
  earliest_of r (q ∷ rs) =
      let t = earliest_of q rs in
      cond_both (before K (table_date K d (q ∷ rs)) (row_date K d r)) (table_date K d (q ∷ rs)) (row_date K d r) (EarliestOf K d (r ∷ q ∷ rs))
      (λ e. after_first r (q ∷ rs) (table_date K d (q ∷ rs)) t (is_T _ e))
      (λ e. before_rest r (q ∷ rs) (table_date K d (q ∷ rs)) t (is_T _ (not-false _ e)))

  pub rows_dated : (rs : List Row) → RowsDated K d rs (table_date K d rs)
  rows_dated [] = none refl refl
  rows_dated (r ∷ rs) = some (earliest_of r rs)

pub dates_of_rows : {D : Type 0} (K : Kind D) → DatesOfRows K
dates_of_rows K r s c d = row_dated K d r s c
