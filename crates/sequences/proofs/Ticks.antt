-- A row that is not impossible happens under a dating by ticks: a letter's date is how many letters strictly precede it.
-- Assumes nothing.
use Rattle.std.proofs.Common.{ℕ, ◌<◌, ◌≤◌, Bool, not, ◌&&◌, ◌||◌, T, eqb, ◌⊎◌, refl, subst, inl, inr, arith, le→leb, eqb→eq, leb→le}
use lib.Dec.{not_T, eqb_refl}
use Rattle.dates.specs.Ticks.{tick_kind, tick_never}
use Rattle.dates.specs.declared.Tick.{Tick}
use Rattle.std.proofs.lemmas.Bool.{cases_Bool}
use Rattle.sequences.specs.Rows.{precedes, ties}
use Rattle.sequences.specs.Walks.{one, Closes, closure, any, Sound, Impossible}
use Rattle.sequences.specs.Dates.{Happens, HappensByTicks, Counted, row_date, ImpossibleByTicks}
use Rattle.sequences.specs.declared.row.Row.{Row}
use Rattle.sequences.proofs.Tests.{or_in_l, or_in_r, or_out, and_in, and_out, any_in, any_out, is_T}
use Rattle.sequences.proofs.Closure.{closes}
use Rattle.sequences.proofs.Tallies.{tally, tally_less, tally_most, tally_small}
use Rattle.sequences.proofs.Turns.{left_low}
use Rattle.sequences.proofs.Returns.{weak, weak_low, Gone, gone_on, closing, Over, round_impossible, found, none}
use Rattle.sequences.proofs.Dated.{NoLater, Sooner, le_lt}
use Rattle.sequences.proofs.RowDates.{Meets, row_below, never_happens}

module _ (r : Row) (s : Sound r) where
  reach : ℕ → ℕ → Bool
  reach = closure 24 (weak r)

  reach_closes : Closes (weak r) reach
  unfolding reach
  reach_closes = closes (weak r) (weak_low r s)

  gone : ℕ → ℕ → Bool
  gone v w = eqb v w || reach v w

  gone_in : (v w : ℕ) → Gone r v w → T (gone v w)
  unfolding gone
  gone_in v w (inl e) = or_in_l _ _ (subst (λ (y : ℕ). T (eqb v y)) e (eqb_refl v))
  gone_in v w (inr c) = or_in_r (eqb v w) _ ((reach_closes v w).1 c)

  gone_out : (v w : ℕ) → T (gone v w) → Gone r v w
  unfolding gone
  gone_out v w t = elim (or_out (eqb v w) _ t) [ inl a ↦ inl (eqb→eq v w a) | inr a ↦ inr ((reach_closes v w).0 a) ]

  -- there is a walk from v to w that uses a '<'
  over : ℕ → ℕ → Bool
  over v w = any 24 (λ a. any 24 (λ b. (gone v a && precedes r a b) && gone b w))

  over_in : (v w : ℕ) → Over r v w → T (over v w)
  unfolding over
  over_in v w o =
      any_in 24 (λ a. any 24 (λ b. (gone v a && precedes r a b) && gone b w)) o.left (left_low r s _ _ o.by)
      (any_in 24 (λ b. (gone v o.left && precedes r o.left b) && gone b w) o.right (s.right _ _ o.by)
      (and_in _ _ (and_in _ _ (gone_in _ _ o.to) o.by) (gone_in _ _ o.on)))

  over_out : (v w : ℕ) → T (over v w) → Over r v w
  unfolding over
  over_out v w t =
      let a = any_out 24 (λ a. any 24 (λ b. (gone v a && precedes r a b) && gone b w)) t in
      let b = any_out 24 (λ b. (gone v a.0 && precedes r a.0 b) && gone b w) a.2 in
      let k = and_out (gone v a.0 && precedes r a.0 b.0) _ b.2 in
      let l = and_out (gone v a.0) _ k.0 in
      record { left = a.0; right = b.0; to = gone_out _ _ l.0; by = l.1; on = gone_out _ _ k.1 }

  over_on : (u v w : ℕ) → T (weak r v w) → T (over u v) → T (over u w)
  over_on u v w l t =
      let o = over_out u v t in
      over_in u w (record { left = o.left; right = o.right; to = o.to; by = o.by; on = gone_on r o.on (inr (one l)) })

  over_one : (v w : ℕ) → T (precedes r v w) → T (over v w)
  over_one v w t = over_in v w (record { left = v; right = w; to = inl refl; by = t; on = inl refl })

  over_itself : (Impossible r → ⊥) → (v : ℕ) → T (over v v) → ⊥
  over_itself not v t =
      let o = over_out v v t in
      not (round_impossible r (record { left = o.left; right = o.right; by = o.by; back = closing r o.by (gone_on r o.on o.to) }))

  rank : ℕ → ℕ
  rank v = tally 24 (λ u. over u v)

  rank_small : (v : ℕ) → rank v ≤ 24
  unfolding rank
  rank_small v = tally_small (λ u. over u v) 24

  rank_less : (Impossible r → ⊥) → (v w : ℕ) → T (precedes r v w) → rank v < rank w
  unfolding rank
  rank_less not v w t =
      tally_less (λ u. over u w) (λ u. over u v) (λ u. over_on u v w (or_in_l _ _ t)) 24 v (left_low r s v w t) (over_itself not v) (over_one v w t)

  rank_tied : (v w : ℕ) → T (ties r v w) → rank v ≤ rank w
  unfolding rank
  rank_tied v w t = tally_most (λ u. over u w) (λ u. over u v) 24 (λ u h. over_on u v w (or_in_r (precedes r v w) _ t))

  ticks : ℕ → Tick
  ticks v = record { value = rank v }

  abbrev last : Tick
  last = record { value = 24 }

  tick_le : (a b : ℕ) → a ≤ b → NoLater tick_kind (record { value = a }) (record { value = b })
  tick_le a b h = le→leb _ _ (omega arith)

  tick_lt : (a b : ℕ) → a < b → b ≤ 24 → Sooner tick_kind (record { value = a }) (record { value = b })
  tick_lt a b h k = not_T _ (λ t. let l = leb→le _ _ t in omega arith)

  ticks_meet : (Impossible r → ⊥) → Meets tick_kind ticks last r
  unfolding ticks
  ticks_meet not = record {
    less = λ v w t. tick_lt (rank v) (rank w) (rank_less not v w t) (rank_small w);
    same = λ v w t. record { fore = tick_le _ _ (rank_tied v w t); back = tick_le _ _ (rank_tied w v (s.both v w t)) };
    listed = λ v t. tick_le (rank v) 24 (rank_small v);
    left = λ v w t. tick_le (rank v) 24 (rank_small v);
    tied = λ v w t. tick_le (rank v) 24 (rank_small v);
  }

  ticks_happen : Counted r → (Impossible r → ⊥) → Happens tick_kind ticks r
  ticks_happen c not =
      le_lt tick_kind (row_date tick_kind ticks r) last tick_never (row_below tick_kind ticks last r s c (ticks_meet not)) tt

  abbrev test : Bool
  test = any 24 (λ v. any 24 (λ w. precedes r v w && reach w v))

  pub decided : Impossible r ⊎ (Impossible r → ⊥)
  decided =
      elim (cases_Bool test) [
        | inl e ↦ let k = any_out 24 (λ v. any 24 (λ w. precedes r v w && reach w v)) (is_T _ e) in inl (found r reach s reach_closes k.0 k.2)
        | inr e ↦ inr (none r reach s reach_closes e)
      ]

pub impossible_by_ticks : ImpossibleByTicks
impossible_by_ticks r s c = (
  λ i. never_happens tick_kind r s i,
  λ f. elim (decided r s) [ inl i ↦ i | inr n ↦ absurd (f (ticks r s) (ticks_happen r s c n)) ],
)

pub happens_by_ticks : (r : Row) → Sound r → Counted r → (Impossible r → ⊥) → HappensByTicks r
happens_by_ticks r s c n = record { dating = ticks r s; happens = ticks_happen r s c n }
