-- What a row has after a factor was entered.
-- Assumes nothing.
use Rattle.std.proofs.Common.{◌≡◌, ℕ, ◌^◌, ◌<◌, false, T, ◌⊎◌, List, length, get_or, replicate, sym, refl, ap, ◌∙◌, subst, inl, inr, arith, eqb→eq, length-set}
use lib.Bits.{bit_or}
use lib.Dec.{eqb_refl}
use lib.ListN.{get_or-replicate}
use Rattle.std.proofs.lemmas.Bool.{cases_eq, cases_lt}
use Rattle.sequences.specs.Masks.{has, linked, added}
use Rattle.sequences.specs.Rows.{Fitting, entered, blank, listed, precedes, ties}
use Rattle.sequences.specs.Walks.{Sound}
use Rattle.sequences.specs.declared.row.Row.{Row}
use Rattle.sequences.specs.declared.row.Factor.{Factor}
use Rattle.sequences.specs.declared.row.Sign.TheVariants.{Precedes, Ties}
use Rattle.sequences.specs.declared.row.Factor.TheVariants.{Letter, Pair}
use Rattle.sequences.proofs.Tests.{or_in_l, or_in_r, or_out, T_not_false}
use Rattle.sequences.proofs.Bits.{has_or, has_one, has_none}
use Rattle.sequences.proofs.Turns.{linked_same, linked_other, linked_past}

module _ (m k : ℕ) where
  pub bit_kept : (v : ℕ) → T (has m v) → T (has (bit_or m (2 ^ k)) v)
  bit_kept v t = subst T (sym (has_or m (2 ^ k) v)) (or_in_l _ _ t)

  pub bit_own : T (has (bit_or m (2 ^ k)) k)
  bit_own = subst T (sym (has_or m (2 ^ k) k)) (or_in_r (has m k) _ (subst T (sym (has_one k k)) (eqb_refl k)))

  pub bit_out : (v : ℕ) → T (has (bit_or m (2 ^ k)) v) → T (has m v) ⊎ (v ≡ k)
  bit_out v t =
      elim (or_out (has m v) _ (subst T (has_or m (2 ^ k) v) t)) [ inl a ↦ inl a | inr a ↦ inr (eqb→eq v k (subst T (has_one k v) a)) ]

module _ (ms : List ℕ) (v w : ℕ) (h : v < length ms) where
  abbrev more : ℕ
  more = bit_or (get_or ms v 0) (2 ^ w)

  pub pair_kept : (x y : ℕ) → T (linked ms x y) → T (linked (added v w ms) x y)
  pair_kept x y t =
      elim (cases_eq x v) [
        | inl e ↦ subst (λ (z : ℕ). T (linked (added v w ms) z y)) (sym e)
            (subst T (sym (linked_same ms v more y h)) (bit_kept (get_or ms v 0) w y (subst (λ (z : ℕ). T (linked ms z y)) e t)))
        | inr n ↦ subst T (sym (linked_other ms v more x y n)) t
      ]

  pub pair_own : T (linked (added v w ms) v w)
  pair_own = subst T (sym (linked_same ms v more w h)) (bit_own (get_or ms v 0) w)

  pub pair_out : (x y : ℕ) → T (linked (added v w ms) x y) → T (linked ms x y) ⊎ ((x ≡ v) × (y ≡ w))
  pair_out x y t =
      elim (cases_eq x v) [
        | inl e ↦ elim (bit_out (get_or ms v 0) w y (subst T (linked_same ms v more y h) (subst (λ (z : ℕ). T (linked (added v w ms) z y)) e t))) [
          | inl a ↦ inl (subst (λ (z : ℕ). T (linked ms z y)) (sym e) a)
          | inr a ↦ inr (e, a)
        ]
        | inr n ↦ inl (subst T (linked_other ms v more x y n) t)
      ]

-- a tie, at both its letters
module _ (ms : List ℕ) (v w : ℕ) (h : v < length ms) (k : w < length ms) where
  abbrev pub tied_both : List ℕ
  tied_both = added w v (added v w ms)

  second : w < length (added v w ms)
  second = omega (arith, length-set ms v (bit_or (get_or ms v 0) (2 ^ w)))

  pub tie_kept : (x y : ℕ) → T (linked ms x y) → T (linked tied_both x y)
  tie_kept x y t = pair_kept (added v w ms) w v second x y (pair_kept ms v w h x y t)

  pub tie_there : T (linked tied_both v w)
  tie_there = pair_kept (added v w ms) w v second v w (pair_own ms v w h)

  pub tie_back : T (linked tied_both w v)
  tie_back = pair_own (added v w ms) w v second

  pub tie_out : (x y : ℕ) → T (linked tied_both x y) → T (linked ms x y) ⊎ (((x ≡ v) × (y ≡ w)) ⊎ ((x ≡ w) × (y ≡ v)))
  tie_out x y t =
      elim (pair_out (added v w ms) w v second x y t) [
        | inl a ↦ elim (pair_out ms v w h x y a) [ inl b ↦ inl b | inr b ↦ inr (inl b) ]
        | inr b ↦ inr (inr b)
      ]

  pub tie_both : ((x y : ℕ) → T (linked ms x y) → T (linked ms y x)) → (x y : ℕ) → T (linked tied_both x y) → T (linked tied_both y x)
  tie_both f x y t =
      elim (tie_out x y t) [
        | inl a ↦ tie_kept y x (f x y a)
        | inr o ↦ elim o [
          | inl e ↦ subst (λ (z : ℕ). T (linked tied_both z x)) (sym e.1) (subst (λ (z : ℕ). T (linked tied_both w z)) (sym e.0) tie_back)
          | inr e ↦ subst (λ (z : ℕ). T (linked tied_both z x)) (sym e.1) (subst (λ (z : ℕ). T (linked tied_both v z)) (sym e.0) tie_there)
        ]
      ]

pub entered_sound : (f : Factor) (r : Row) → Fitting f → Sound r → Sound (entered f r)
entered_sound (Letter v) r h s = record {
  sizes = s.sizes;
  low = λ x t. elim (bit_out r.letters v x t) [ inl a ↦ s.low x a | inr e ↦ omega arith ];
  right = s.right;
  both = s.both;
  apart = s.apart;
}
entered_sound (Pair Precedes v w) r h s = record {
  sizes = (length-set _ _ _ ∙ s.sizes.0, s.sizes.1);
  low = s.low;
  right = λ x y t. elim (pair_out r.before.of v w (omega (arith, s.sizes.0)) x y t) [ inl a ↦ s.right x y a | inr e ↦ omega (arith, e.1) ];
  both = s.both;
  apart = s.apart;
}
entered_sound (Pair Ties v w) r h s = record {
  sizes = (s.sizes.0, length-set _ _ _ ∙ length-set _ _ _ ∙ s.sizes.1);
  low = s.low;
  right = s.right;
  both = tie_both r.ties.of v w (omega (arith, s.sizes.1)) (omega (arith, s.sizes.1)) s.both;
  apart = λ x t.
      elim (tie_out r.ties.of v w (omega (arith, s.sizes.1)) (omega (arith, s.sizes.1)) x x t) [
        | inl a ↦ s.apart x a
        | inr o ↦ elim o [ inl e ↦ h.2 (sym e.0 ∙ e.1) | inr e ↦ h.2 (sym e.1 ∙ e.0) ]
      ];
}

none_linked : (v w : ℕ) → linked (replicate 24 0) v w ≡ false
none_linked v w =
    elim (cases_lt v 24) [
      | inl h ↦ ap (λ (m : ℕ). has m w) (get_or-replicate 24 v 0 0 h) ∙ has_none w
      | inr h ↦ linked_past (replicate 24 0) v w h
    ]

pub blank_listed : (v : ℕ) → T (listed blank v) → ⊥
blank_listed v t = T_not_false _ (has_none v) t

pub blank_precedes : (v w : ℕ) → T (precedes blank v w) → ⊥
blank_precedes v w t = T_not_false _ (none_linked v w) t

pub blank_ties : (v w : ℕ) → T (ties blank v w) → ⊥
blank_ties v w t = T_not_false _ (none_linked v w) t

pub blank_sound : Sound blank
blank_sound = record {
  sizes = (refl, refl);
  low = λ v t. absurd (blank_listed v t);
  right = λ v w t. absurd (blank_precedes v w t);
  both = λ v w t. absurd (blank_ties v w t);
  apart = λ v t. blank_ties v v t;
}
