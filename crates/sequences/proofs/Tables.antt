-- The table's date is the term's.
-- Assumes nothing.
use Rattle.std.proofs.Common.{◌≡◌, ℕ, ◌<◌, Bool, true, false, cond, eqb, ltb, ◌⊎◌, List, [], ◌∷◌, ◌++◌, length, sym, refl, ap, subst, inl, inr, arith, ltb→lt, T_not}
use mathlib.Core.Option.{Option, none, some}
use Rattle.algebra.specs.Kinds.{Kind, Same}
use Rattle.algebra.specs.Terms.{Term, leaf, never, node, date}
use Rattle.algebra.specs.declared.Operator.TheVariants.{Or, And, Before, Simultaneous, Inclusive}
use Rattle.sequences.specs.Rows.{Fitting, entered, blank}
use Rattle.sequences.specs.Walks.{Sound}
use Rattle.sequences.specs.Dates.{Counted, row_date, table_date}
use Rattle.sequences.specs.Sequences.{letter_of, pair_of, single, factor_of, enter_of, onto, row_of, alone, both_of, sum_of, rows_of, TableKeeps}
use Rattle.sequences.specs.declared.row.Row.{Row}
use Rattle.sequences.specs.declared.row.Factor.{Factor}
use Rattle.sequences.specs.declared.row.Sign.TheVariants.{Precedes, Ties}
use Rattle.sequences.specs.declared.row.Factor.TheVariants.{Letter, Pair}
use Rattle.std.proofs.lemmas.Bool.{eqb-false}
use Rattle.sequences.proofs.Tests.{is_T}
use Rattle.sequences.proofs.Dated.{NoLater, Sooner, Real, and_below, and_parts, or_left, or_right, or_cases, before_below, before_parts, tie_below, tie_parts, same_by}
use Rattle.sequences.proofs.RowDates.{Meets, row_below, row_parts, counts_listed, counts_left, counts_tied}
use Rattle.sequences.proofs.Entered.{bit_kept, bit_own, bit_out, pair_kept, pair_own, pair_out, tie_kept, tie_there, tie_out, entered_sound, blank_sound, blank_listed, blank_precedes, blank_ties}

pub some_same : {A : Type 0} (a b : A) → some a ≡ some b → a ≡ b
some_same a b e = cc

pub none_some : {A : Type 0} (a : A) → ◌≡◌ {A = Option A} none (some a) → ⊥
none_some a e = let z : ◌≡◌ {A = ℕ} 0 1 = cc in omega arith

-- the letter v is the term
pub record IsLetter (t : Term ℕ) (v : ℕ) : Type 0 where
  pub is : t ≡ leaf v
  pub low : v < 24

pub letter_of_lem : (t : Term ℕ) (v : ℕ) → letter_of t ≡ some v → IsLetter t v
letter_of_lem (leaf u) v e = go (ltb u 24) refl e
  where
    go : (b : Bool) → ltb u 24 ≡ b → cond b (some u) none ≡ some v → IsLetter (leaf u) v
    go true q e = let i = some_same u v e in record { is = ap leaf i; low = subst (λ (n : ℕ). n < 24) i (ltb→lt u 24 (is_T _ q)) }
    go false q e = absurd (none_some v e)
letter_of_lem never v e = absurd (none_some v e)
letter_of_lem (node o l r) v e = absurd (none_some v e)

-- what the factor asks of a dating, to be no later than x
module _ {D : Type 0} (K : Kind D) (d : ℕ → D) (x : D) where
  abbrev pub Asks : Factor → Type 0
  Asks (Letter v) = NoLater K (d v) x
  Asks (Pair Precedes v w) = Sooner K (d v) (d w) × NoLater K (d v) x
  Asks (Pair Ties v w) = Same K (d v) (d w) × NoLater K (d v) x

-- the factor is the term
pub record IsFactor (t : Term ℕ) (f : Factor) : Type 1 where
  pub fits : Fitting f
  pub into : {D : Type 0} (K : Kind D) (d : ℕ → D) (x : D) → Asks K d x f → NoLater K (date K d t) x
  pub out : {D : Type 0} (K : Kind D) (d : ℕ → D) (x : D) → Real K x → NoLater K (date K d t) x → Asks K d x f

letter_factor : (t : Term ℕ) (v : ℕ) → IsLetter t v → IsFactor t (Letter v)
letter_factor t v i = record {
  fits = i.low;
  into = λ K d x h. subst (λ (u : Term ℕ). NoLater K (date K d u) x) (sym i.is) h;
  out = λ K d x real h. subst (λ (u : Term ℕ). NoLater K (date K d u) x) i.is h;
}

less_factor : (l r : Term ℕ) (v w : ℕ) → IsLetter l v → IsLetter r w → (v ≡ w → ⊥) → IsFactor (node Before l r) (Pair Precedes v w)
less_factor l r v w i j n =
    subst (λ (a : Term ℕ). IsFactor (node Before a r) (Pair Precedes v w)) (sym i.is)
    (subst (λ (b : Term ℕ). IsFactor (node Before (leaf v) b) (Pair Precedes v w)) (sym j.is)
    (record {
      fits = (i.low, j.low, n);
      into = λ K d x h. before_below K (d v) (d w) x h.0 h.1;
      out = λ K d x real h. before_parts K (d v) (d w) x real h;
    }))

tie_factor : (l r : Term ℕ) (v w : ℕ) → IsLetter l v → IsLetter r w → (v ≡ w → ⊥) → IsFactor (node Simultaneous l r) (Pair Ties v w)
tie_factor l r v w i j n =
    subst (λ (a : Term ℕ). IsFactor (node Simultaneous a r) (Pair Ties v w)) (sym i.is)
    (subst (λ (b : Term ℕ). IsFactor (node Simultaneous (leaf v) b) (Pair Ties v w)) (sym j.is)
    (record {
      fits = (i.low, j.low, n);
      into = λ K d x h. tie_below K (d v) (d w) x h.0 h.1;
      out = λ K d x real h. tie_parts K (d v) (d w) x real h;
    }))

-- a pair is of two letters
pub pair_of_lem {ℓ} : (P : Factor → Type ℓ) (mk : ℕ → ℕ → Factor) (l r : Term ℕ) → ((v w : ℕ) → IsLetter l v → IsLetter r w → (v ≡ w → ⊥) → P (mk v w))
    → (f : Factor) → pair_of mk (letter_of l) (letter_of r) ≡ some f → P f
pair_of_lem P mk l r k f e = go (letter_of l) (letter_of r) refl refl e
  where
    pick : (v w : ℕ) → letter_of l ≡ some v → letter_of r ≡ some w → (c : Bool) → eqb v w ≡ c → cond c none (some (mk v w)) ≡ some f → P f
    pick v w a b true q e = absurd (none_some f e)
    pick v w a b false q e = subst P (some_same (mk v w) f e) (k v w (letter_of_lem l v a) (letter_of_lem r w b) (eqb-false v w q))

    go : (o q : Option ℕ) → letter_of l ≡ o → letter_of r ≡ q → pair_of mk o q ≡ some f → P f
    go none q a b e = absurd (none_some f e)
    go (some v) none a b e = absurd (none_some f e)
    go (some v) (some w) a b e = pick v w a b (eqb v w) refl e

pub factor_of_lem : (t : Term ℕ) (f : Factor) → factor_of t ≡ some f → IsFactor t f
factor_of_lem (leaf u) f e = go (letter_of (leaf u)) refl e
  where
    go : (o : Option ℕ) → letter_of (leaf u) ≡ o → single o ≡ some f → IsFactor (leaf u) f
    go none a e = absurd (none_some f e)
    go (some v) a e = subst (IsFactor (leaf u)) (some_same (Letter v) f e) (letter_factor (leaf u) v (letter_of_lem (leaf u) v a))
factor_of_lem never f e = absurd (none_some f e)
factor_of_lem (node Or l r) f e = absurd (none_some f e)
factor_of_lem (node And l r) f e = absurd (none_some f e)
factor_of_lem (node Before l r) f e = pair_of_lem (IsFactor (node Before l r)) (Pair Precedes) l r (less_factor l r) f e
factor_of_lem (node Simultaneous l r) f e = pair_of_lem (IsFactor (node Simultaneous l r)) (Pair Ties) l r (tie_factor l r) f e
factor_of_lem (node Inclusive l r) f e = absurd (none_some f e)

-- the row r' is r with the sequence t
pub record Entering (t : Term ℕ) (r r' : Row) : Type 1 where
  pub sound : Sound r'
  pub counted : Counted r'
  pub into : {D : Type 0} (K : Kind D) (d : ℕ → D) (x : D) → Real K x → Meets K d x r → NoLater K (date K d t) x → Meets K d x r'
  pub out : {D : Type 0} (K : Kind D) (d : ℕ → D) (x : D) → Real K x → Meets K d x r' → Meets K d x r × NoLater K (date K d t) x

module _ (r : Row) (s : Sound r) where
  enter_counted : (f : Factor) → Fitting f → Counted (entered f r)
  enter_counted (Letter v) h = record { at = v; counted = counts_listed (entered (Letter v) r) v (bit_own r.letters v) }
  enter_counted (Pair Precedes v w) h = record {
    at = v;
    counted = counts_left (entered (Pair Precedes v w) r) v w h.1 (pair_own r.before.of v w (omega (arith, s.sizes.0)));
  }
  enter_counted (Pair Ties v w) h = record {
    at = v;
    counted = counts_tied (entered (Pair Ties v w) r) v w h.1 (tie_there r.ties.of v w (omega (arith, s.sizes.1)) (omega (arith, s.sizes.1)));
  }

  module _ {D : Type 0} (K : Kind D) (d : ℕ → D) (x : D) where
    le_at : (v u : ℕ) → u ≡ v → NoLater K (d v) x → NoLater K (d u) x
    le_at v u e h = subst (λ (n : ℕ). NoLater K (d n) x) (sym e) h

    lt_at : (v w a b : ℕ) → (a ≡ v) × (b ≡ w) → Sooner K (d v) (d w) → Sooner K (d a) (d b)
    lt_at v w a b e h = subst (λ (n : ℕ). Sooner K (d n) (d b)) (sym e.0) (subst (λ (n : ℕ). Sooner K (d v) (d n)) (sym e.1) h)

    same_at : (v w a b : ℕ) → (a ≡ v) × (b ≡ w) → Same K (d v) (d w) → Same K (d a) (d b)
    same_at v w a b e h = subst (λ (n : ℕ). Same K (d n) (d b)) (sym e.0) (subst (λ (n : ℕ). Same K (d v) (d n)) (sym e.1) h)

    enter_in : (f : Factor) → Fitting f → Meets K d x r → Asks K d x f → Meets K d x (entered f r)
    enter_in (Letter v) h m a = record {
      less = m.less;
      same = m.same;
      listed = λ u t. elim (bit_out r.letters v u t) [ inl b ↦ m.listed u b | inr e ↦ le_at v u e a ];
      left = m.left;
      tied = m.tied;
    }
    enter_in (Pair Precedes v w) h m a =
        let l : v < length r.before.of = omega (arith, s.sizes.0) in
        record {
          less = λ p q t. elim (pair_out r.before.of v w l p q t) [ inl b ↦ m.less p q b | inr e ↦ lt_at v w p q e a.0 ];
          same = m.same;
          listed = m.listed;
          left = λ p q t. elim (pair_out r.before.of v w l p q t) [ inl b ↦ m.left p q b | inr e ↦ le_at v p e.0 a.1 ];
          tied = m.tied;
        }
    enter_in (Pair Ties v w) h m a =
        let l : v < length r.ties.of = omega (arith, s.sizes.1) in
        let k : w < length r.ties.of = omega (arith, s.sizes.1) in
        let flipped : Same K (d w) (d v) = record { fore = a.0.back; back = a.0.fore } in
        let second : NoLater K (d w) x = K.trans (d w) (d v) x a.0.back a.1 in
        record {
          less = m.less;
          same = λ p q t. elim (tie_out r.ties.of v w l k p q t) [
            | inl b ↦ m.same p q b
            | inr o ↦ elim o [ inl e ↦ same_at v w p q e a.0 | inr e ↦ same_at w v p q e flipped ]
          ];
          listed = m.listed;
          left = m.left;
          tied = λ p q t. elim (tie_out r.ties.of v w l k p q t) [
            | inl b ↦ m.tied p q b
            | inr o ↦ elim o [ inl e ↦ le_at v p e.0 a.1 | inr e ↦ le_at w p e.0 second ]
          ];
        }

    enter_out : (f : Factor) → Fitting f → Meets K d x (entered f r) → Meets K d x r × Asks K d x f
    enter_out (Letter v) h m = (
      record { less = m.less; same = m.same; listed = λ u t. m.listed u (bit_kept r.letters v u t); left = m.left; tied = m.tied },
      m.listed v (bit_own r.letters v),
    )
    enter_out (Pair Precedes v w) h m =
        let l : v < length r.before.of = omega (arith, s.sizes.0) in
        let kept = pair_kept r.before.of v w l in
        let own = pair_own r.before.of v w l in (
          record { less = λ p q t. m.less p q (kept p q t); same = m.same; listed = m.listed; left = λ p q t. m.left p q (kept p q t); tied = m.tied },
          (m.less v w own, m.left v w own),
        )
    enter_out (Pair Ties v w) h m =
        let l : v < length r.ties.of = omega (arith, s.sizes.1) in
        let k : w < length r.ties.of = omega (arith, s.sizes.1) in
        let kept = tie_kept r.ties.of v w l k in
        let own = tie_there r.ties.of v w l k in (
          record { less = m.less; same = λ p q t. m.same p q (kept p q t); listed = m.listed; left = m.left; tied = λ p q t. m.tied p q (kept p q t) },
          (m.same v w own, m.tied v w own),
        )

  enter_factor : (t : Term ℕ) (f : Factor) → IsFactor t f → Entering t r (entered f r)
  enter_factor t f i = record {
    sound = entered_sound f r i.fits s;
    counted = enter_counted f i.fits;
    into = λ K d x real m h. enter_in K d x f i.fits m (i.out K d x real h);
    out = λ K d x real m. let k = enter_out K d x f i.fits m in (k.0, i.into K d x k.1);
  }

  enter_of_lem : (t : Term ℕ) (r' : Row) → enter_of (factor_of t) r ≡ some r' → Entering t r r'
  enter_of_lem t r' e = go (factor_of t) refl e
    where
      go : (o : Option Factor) → factor_of t ≡ o → enter_of o r ≡ some r' → Entering t r r'
      go none a e = absurd (none_some r' e)
      go (some f) a e = subst (Entering t r) (some_same (entered f r) r' e) (enter_factor t f (factor_of_lem t f a))

entering_both : (a b : Term ℕ) (r q r' : Row) → Entering a r q → Entering b q r' → Entering (node And a b) r r'
entering_both a b r q r' f g = record {
  sound = g.sound;
  counted = g.counted;
  into = λ K d x real m h.
      let k = and_parts K (date K d a) (date K d b) x h in g.into K d x real (f.into K d x real m k.0) k.1;
  out = λ K d x real m.
      let k = g.out K d x real m in
      let j = f.out K d x real k.0 in
      (j.0, and_below K (date K d a) (date K d b) x j.1 k.1);
}

pub row_of_lem : (t : Term ℕ) (r r' : Row) → Sound r → row_of t r ≡ some r' → Entering t r r'
row_of_lem (leaf v) r r' s e = enter_of_lem r s (leaf v) r' e
row_of_lem never r r' s e = absurd (none_some r' e)
row_of_lem (node Or a b) r r' s e = absurd (none_some r' e)
row_of_lem (node And a b) r r' s e = go (row_of a r) (λ q k. row_of_lem a r q s k) (λ q z k. row_of_lem b q r' z k) refl e
  where
    go : (o : Option Row) → ((q : Row) → row_of a r ≡ some q → Entering a r q) → ((q : Row) → Sound q → row_of b q ≡ some r' → Entering b q r')
        → row_of a r ≡ o → onto o (row_of b) ≡ some r' → Entering (node And a b) r r'
    go none f g k e = absurd (none_some r' e)
    go (some q) f g k e = entering_both a b r q r' (f q k) (g q (f q k).sound e)
row_of_lem (node Before a b) r r' s e = enter_of_lem r s (node Before a b) r' e
row_of_lem (node Simultaneous a b) r r' s e = enter_of_lem r s (node Simultaneous a b) r' e
row_of_lem (node Inclusive a b) r r' s e = absurd (none_some r' e)

-- the table has the term's date
pub record IsTable (t : Term ℕ) (rs : List Row) : Type 1 where
  pub into : {D : Type 0} (K : Kind D) (d : ℕ → D) (x : D) → Real K x → NoLater K (date K d t) x → NoLater K (table_date K d rs) x
  pub out : {D : Type 0} (K : Kind D) (d : ℕ → D) (x : D) → Real K x → NoLater K (table_date K d rs) x → NoLater K (date K d t) x

blank_meets : {D : Type 0} (K : Kind D) (d : ℕ → D) (x : D) → Meets K d x blank
blank_meets K d x = record {
  less = λ v w t. absurd (blank_precedes v w t);
  same = λ v w t. absurd (blank_ties v w t);
  listed = λ v t. absurd (blank_listed v t);
  left = λ v w t. absurd (blank_precedes v w t);
  tied = λ v w t. absurd (blank_ties v w t);
}

alone_table : (t : Term ℕ) (r : Row) → Entering t blank r → IsTable t (r ∷ [])
alone_table t r f = record {
  into = λ K d x real h.
      or_left K (row_date K d r) K.never x (row_below K d x r f.sound f.counted (f.into K d x real (blank_meets K d x) h));
  out = λ K d x real h.
      elim (or_cases K (row_date K d r) K.never x h) [
        | inl k ↦ (f.out K d x real (row_parts K d x r f.sound real k)).1
        | inr k ↦ absurd (T_not _ real k)
      ];
}

alone_of : (t : Term ℕ) (rs : List Row) → alone (row_of t blank) ≡ some rs → IsTable t rs
alone_of t rs e = go (row_of t blank) refl e
  where
    go : (o : Option Row) → row_of t blank ≡ o → alone o ≡ some rs → IsTable t rs
    go none a e = absurd (none_some rs e)
    go (some r) a e = subst (IsTable t) (some_same (r ∷ []) rs e) (alone_table t r (row_of_lem t blank r blank_sound a))

module _ {D : Type 0} (K : Kind D) (d : ℕ → D) (x : D) (rs : List Row) where
  join_left : (qs : List Row) → Real K x → NoLater K (table_date K d qs) x → NoLater K (table_date K d (qs ++ rs)) x
  join_left [] real h = absurd (T_not _ real h)
  join_left (q ∷ qs) real h =
      elim (or_cases K (row_date K d q) (table_date K d qs) x h) [
        | inl k ↦ or_left K (row_date K d q) (table_date K d (qs ++ rs)) x k
        | inr k ↦ or_right K (row_date K d q) (table_date K d (qs ++ rs)) x (join_left qs real k)
      ]

  join_right : (qs : List Row) → NoLater K (table_date K d rs) x → NoLater K (table_date K d (qs ++ rs)) x
  join_right [] h = h
  join_right (q ∷ qs) h = or_right K (row_date K d q) (table_date K d (qs ++ rs)) x (join_right qs h)

  join_cases : (qs : List Row) → NoLater K (table_date K d (qs ++ rs)) x → NoLater K (table_date K d qs) x ⊎ NoLater K (table_date K d rs) x
  join_cases [] h = inr h
  join_cases (q ∷ qs) h =
      elim (or_cases K (row_date K d q) (table_date K d (qs ++ rs)) x h) [
        | inl k ↦ inl (or_left K (row_date K d q) (table_date K d qs) x k)
        | inr k ↦ elim (join_cases qs k) [ inl j ↦ inl (or_right K (row_date K d q) (table_date K d qs) x j) | inr j ↦ inr j ]
      ]

both_table : (a b : Term ℕ) (qs rs : List Row) → IsTable a qs → IsTable b rs → IsTable (node Or a b) (qs ++ rs)
both_table a b qs rs f g = record {
  into = λ K d x real h.
      elim (or_cases K (date K d a) (date K d b) x h) [
        | inl k ↦ join_left K d x rs qs real (f.into K d x real k)
        | inr k ↦ join_right K d x rs qs (g.into K d x real k)
      ];
  out = λ K d x real h.
      elim (join_cases K d x rs qs h) [
        | inl k ↦ or_left K (date K d a) (date K d b) x (f.out K d x real k)
        | inr k ↦ or_right K (date K d a) (date K d b) x (g.out K d x real k)
      ];
}

sum_of_lem : (t : Term ℕ) (rs : List Row) → sum_of t ≡ some rs → IsTable t rs
sum_of_lem (leaf v) rs e = alone_of (leaf v) rs e
sum_of_lem never rs e = absurd (none_some rs e)
sum_of_lem (node Or a b) rs e = go (sum_of a) (sum_of b) (λ qs k. sum_of_lem a qs k) (λ qs k. sum_of_lem b qs k) refl refl e
  where
    go : (o p : Option (List Row)) → ((qs : List Row) → sum_of a ≡ some qs → IsTable a qs) → ((qs : List Row) → sum_of b ≡ some qs → IsTable b qs)
        → sum_of a ≡ o → sum_of b ≡ p → both_of o p ≡ some rs → IsTable (node Or a b) rs
    go none p f g k l e = absurd (none_some rs e)
    go (some qs) none f g k l e = absurd (none_some rs e)
    go (some qs) (some ps) f g k l e = subst (IsTable (node Or a b)) (some_same (qs ++ ps) rs e) (both_table a b qs ps (f qs k) (g ps l))
sum_of_lem (node And a b) rs e = alone_of (node And a b) rs e
sum_of_lem (node Before a b) rs e = alone_of (node Before a b) rs e
sum_of_lem (node Simultaneous a b) rs e = alone_of (node Simultaneous a b) rs e
sum_of_lem (node Inclusive a b) rs e = absurd (none_some rs e)

never_table : IsTable never []
never_table = record { into = λ K d x real h. h; out = λ K d x real h. h }

rows_of_lem : (t : Term ℕ) (rs : List Row) → rows_of t ≡ some rs → IsTable t rs
rows_of_lem (leaf v) rs e = sum_of_lem (leaf v) rs e
rows_of_lem never rs e = subst (IsTable never) (some_same [] rs e) never_table
rows_of_lem (node o a b) rs e = sum_of_lem (node o a b) rs e

pub table_keeps : {D : Type 0} (K : Kind D) → TableKeeps K
table_keeps K t rs e d =
    let f = rows_of_lem t rs e in
    same_by K (date K d t) (table_date K d rs) (λ x real h. f.into K d x real h) (λ x real h. f.out K d x real h)
