-- What the date of a row is no later than.
-- Assumes nothing.
use Rattle.std.proofs.Common.{ℕ, zero, suc, ◌<◌, Bool, true, ◌&&◌, T, Some, None, Option, sym, subst, inl, inr, arith, T_not}
use Rattle.algebra.specs.Kinds.{Kind, before, Same}
use Rattle.std.proofs.lemmas.Bool.{cond_both}
use Rattle.sequences.specs.Rows.{listed, precedes, ties}
use Rattle.sequences.specs.Walks.{any, all, Sound, Walk, stay, less, along, back}
use Rattle.sequences.specs.Dates.{counts, asked, meets, later, latest, or_never, row_date, Counted, NeverHappens}
use Rattle.sequences.specs.declared.row.Row.{Row}
use Rattle.sequences.proofs.Tests.{or_in_l, or_in_r, or_out, and_in, and_out, any_in, any_out, all_in, all_out, asked_in, asked_out, is_T, T_not_false, below_suc}
use Rattle.sequences.proofs.Turns.{left_low, tied_low}
use Rattle.sequences.proofs.Dated.{NoLater, Sooner, Real, le_refl, lt_le, lt_irr, le_lt, lt_le_lt, and_below, and_parts}

-- which letters count
module _ (r : Row) (v : ℕ) where
  pub counts_listed : T (listed r v) → T (counts r v)
  counts_listed t = or_in_l _ _ t

  pub counts_left : (w : ℕ) → w < 24 → T (precedes r v w) → T (counts r v)
  counts_left w h t = or_in_r (listed r v) _ (or_in_l _ _ (any_in 24 (λ w. precedes r v w) w h t))

  pub counts_tied : (w : ℕ) → w < 24 → T (ties r v w) → T (counts r v)
  counts_tied w h t = or_in_r (listed r v) _ (or_in_r (any 24 (λ w. precedes r v w)) _ (any_in 24 (λ w. ties r v w) w h t))

pub data Why (r : Row) (v : ℕ) : Type 0 where
  as_listed : T (listed r v) → Why r v
  as_left : (w : ℕ) → T (precedes r v w) → Why r v
  as_tied : (w : ℕ) → T (ties r v w) → Why r v

pub counts_why : (r : Row) (v : ℕ) → T (counts r v) → Why r v
counts_why r v t =
    elim (or_out (listed r v) _ t) [
      | inl a ↦ as_listed a
      | inr b ↦ elim (or_out (any 24 (λ w. precedes r v w)) _ b) [
        | inl a ↦ let k = any_out 24 (λ w. precedes r v w) a in as_left k.0 k.2
        | inr a ↦ let k = any_out 24 (λ w. ties r v w) a in as_tied k.0 k.2
      ]
    ]

pub why_low : (r : Row) → Sound r → {v : ℕ} → Why r v → v < 24
why_low r s {v} (as_listed t) = s.low v t
why_low r s {v} (as_left w t) = left_low r s v w t
why_low r s {v} (as_tied w t) = tied_low r s v w t

module _ {D : Type 0} (K : Kind D) (d : ℕ → D) (x : D) where
  -- every pair meets its test, and the letters that count are no later than x
  pub record Meets (r : Row) : Type 0 where
    pub less : (v w : ℕ) → T (precedes r v w) → Sooner K (d v) (d w)
    pub same : (v w : ℕ) → T (ties r v w) → Same K (d v) (d w)
    pub listed : (v : ℕ) → T (listed r v) → NoLater K (d v) x
    pub left : (v w : ℕ) → T (precedes r v w) → NoLater K (d v) x
    pub tied : (v w : ℕ) → T (ties r v w) → NoLater K (d v) x

  abbrev Upper : Option D → Type 0
  Upper None = Unit {0}
  Upper (Some y) = NoLater K y x

  abbrev Has : Option D → Type 0
  Has None = ⊥
  Has (Some y) = Unit {0}

  later_parts : (o : Option D) (q : D) → Upper (later K o q) → Upper o × NoLater K q x
  later_parts None q u = (tt, u)
  later_parts (Some p) q u = and_parts K p q x u

  later_in : (o : Option D) (q : D) → Upper o → NoLater K q x → Upper (later K o q)
  later_in None q u h = h
  later_in (Some p) q u h = and_below K p q x u h

  later_has : (o : Option D) (q : D) → Has (later K o q)
  later_has None q = tt
  later_has (Some p) q = tt

  module _ (p : ℕ → Bool) where
    upper_out : (n : ℕ) → Upper (latest K d p n) → (v : ℕ) → v < n → T (p v) → NoLater K (d v) x
    unfolding latest
    upper_out zero u v h t = absurd (omega arith)
    upper_out (suc n) u v h t =
        cond_both (p n) (later K (latest K d p n) (d n)) (latest K d p n) (λ o. Upper o → NoLater K (d v) x)
        (λ e u. let k = later_parts (latest K d p n) (d n) u in
        elim (below_suc v n h) [ inl q ↦ subst (λ (m : ℕ). NoLater K (d m) x) (sym q) k.1 | inr l ↦ upper_out n k.0 v l t ])
        (λ e u. elim (below_suc v n h) [ inl q ↦ absurd (T_not_false (p n) e (subst (λ (m : ℕ). T (p m)) q t)) | inr l ↦ upper_out n u v l t ])
        u

    upper_in : (n : ℕ) → ((v : ℕ) → v < n → T (p v) → NoLater K (d v) x) → Upper (latest K d p n)
    unfolding latest
    upper_in zero f = tt
    upper_in (suc n) f =
        let u = upper_in n (λ v h. f v (omega arith)) in
        cond_both (p n) (later K (latest K d p n) (d n)) (latest K d p n) Upper
        (λ e. later_in (latest K d p n) (d n) u (f n (omega arith) (is_T _ e))) (λ e. u)

    has_some : (n v : ℕ) → v < n → T (p v) → Has (latest K d p n)
    unfolding latest
    has_some zero v h t = absurd (omega arith)
    has_some (suc n) v h t =
        cond_both (p n) (later K (latest K d p n) (d n)) (latest K d p n) Has
        (λ e. later_has (latest K d p n) (d n))
        (λ e. elim (below_suc v n h) [ inl q ↦ absurd (T_not_false (p n) e (subst (λ (m : ℕ). T (p m)) q t)) | inr l ↦ has_some n v l t ])

  or_never_in : (o : Option D) → Has o → Upper o → NoLater K (or_never K o) x
  or_never_in None h u = absurd h
  or_never_in (Some y) h u = u

  or_never_out : Real K x → (o : Option D) → NoLater K (or_never K o) x → Upper o
  or_never_out real None u = tt
  or_never_out real (Some y) u = u

  module _ (r : Row) (s : Sound r) where
    abbrev pairs : ℕ → ℕ → Bool
    pairs v w = asked (precedes r v w) (before K (d v) (d w)) && asked (ties r v w) (K.no_later (d v) (d w) && K.no_later (d w) (d v))

    pub meets_in : Meets r → T (meets K d r)
    meets_in m =
        all_in 24 (λ v. all 24 (λ w. pairs v w)) (λ v h. all_in 24 (λ w. pairs v w) (λ w k.
        and_in _ _ (asked_in _ _ (m.less v w)) (asked_in _ _ (λ t. and_in _ _ (m.same v w t).fore (m.same v w t).back))))

    pairs_out : T (meets K d r) → (v w : ℕ) → v < 24 → w < 24 → T (pairs v w)
    pairs_out t v w h k = all_out 24 (λ w. pairs v w) (all_out 24 (λ v. all 24 (λ w. pairs v w)) t v h) w k

    pub less_out : T (meets K d r) → (v w : ℕ) → T (precedes r v w) → Sooner K (d v) (d w)
    less_out t v w p = asked_out _ _ (and_out _ _ (pairs_out t v w (left_low r s v w p) (s.right v w p))).0 p

    pub same_out : T (meets K d r) → (v w : ℕ) → T (ties r v w) → Same K (d v) (d w)
    same_out t v w p =
        let k = and_out (K.no_later (d v) (d w)) (K.no_later (d w) (d v))
        (asked_out _ _ (and_out _ _ (pairs_out t v w (tied_low r s v w p) (tied_low r s w v (s.both v w p)))).1 p) in
        record { fore = k.0; back = k.1 }

    why_below : Meets r → {v : ℕ} → Why r v → NoLater K (d v) x
    why_below m {v} (as_listed t) = m.listed v t
    why_below m {v} (as_left w t) = m.left v w t
    why_below m {v} (as_tied w t) = m.tied v w t

    pub row_below : Counted r → Meets r → NoLater K (row_date K d r) x
    row_below c m =
        cond_both (meets K d r) (or_never K (latest K d (counts r) 24)) K.never (λ y. NoLater K y x)
        (λ e. or_never_in (latest K d (counts r) 24)
        (has_some (counts r) 24 c.at (why_low r s (counts_why r c.at c.counted)) c.counted)
        (upper_in (counts r) 24 (λ v h t. why_below m (counts_why r v t))))
        (λ e. absurd (T_not_false _ e (meets_in m)))

    pub row_parts : Real K x → NoLater K (row_date K d r) x → Meets r
    row_parts real =
        cond_both (meets K d r) (or_never K (latest K d (counts r) 24)) K.never (λ y. NoLater K y x → Meets r)
        (λ e h. let u = upper_out (counts r) 24 (or_never_out real (latest K d (counts r) 24) h) in
        record {
          less = less_out (is_T _ e);
          same = same_out (is_T _ e);
          listed = λ v t. u v (s.low v t) (counts_listed r v t);
          left = λ v w t. u v (left_low r s v w t) (counts_left r v w (s.right v w t) t);
          tied = λ v w t. u v (tied_low r s v w t) (counts_tied r v w (tied_low r s w v (s.both v w t)) t);
        })
        (λ e h. absurd (T_not _ real h))

-- along a walk dates do not fall, and they rise where a '<' is used
module _ {D : Type 0} (K : Kind D) (d : ℕ → D) (x : D) (r : Row) (m : Meets K d x r) where
  walk_le : {b : Bool} {v w : ℕ} → Walk r b v w → NoLater K (d v) (d w)
  walk_le stay = le_refl K _
  walk_le (less {v = v} {w = w} {x = y} t k) = K.trans (d v) (d w) (d y) (lt_le K _ _ (m.less v w t)) (walk_le k)
  walk_le (along {v = v} {w = w} {x = y} t k) = K.trans (d v) (d w) (d y) (m.same v w t).fore (walk_le k)
  walk_le (back {v = v} {w = w} {x = y} t k) = K.trans (d v) (d w) (d y) (m.same w v t).back (walk_le k)

  pub walk_lt : {v w : ℕ} → Walk r true v w → Sooner K (d v) (d w)
  walk_lt (less {v = v} {w = w} {x = y} t k) = lt_le_lt K (d v) (d w) (d y) (m.less v w t) (walk_le k)
  walk_lt (along {v = v} {w = w} {x = y} t k) = le_lt K (d v) (d w) (d y) (m.same v w t).fore (walk_lt k)
  walk_lt (back {v = v} {w = w} {x = y} t k) = le_lt K (d v) (d w) (d y) (m.same w v t).back (walk_lt k)

pub never_happens : {D : Type 0} (K : Kind D) → NeverHappens K
never_happens K r s i d h =
    lt_irr K (d i.at) (walk_lt K d (row_date K d r) r (row_parts K d (row_date K d r) r s h (le_refl K _)) i.walk)
