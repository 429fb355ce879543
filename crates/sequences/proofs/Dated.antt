-- What a date is no later than: of the dates that the operators make.
-- Assumes nothing.
use Rattle.std.proofs.Common.{◌≡◌, false, ◌&&◌, T, ◌⊎◌, inl, inr, T_not}
use lib.Dec.{not_T}
use Rattle.algebra.specs.Kinds.{Kind, before, Same}
use Rattle.algebra.specs.Terms.{joined}
use Rattle.algebra.specs.declared.Operator.TheVariants.{Or, And, Before, Simultaneous}
use Rattle.std.proofs.lemmas.Bool.{not-true, not-false, cond_both, cases_Bool}
use Rattle.sequences.proofs.Tests.{is_T, T_not_false, and_in, and_out}

module _ {D : Type 0} (K : Kind D) where
  abbrev pub NoLater : D → D → Type 0
  NoLater p q = T (K.no_later p q)

  abbrev pub Sooner : D → D → Type 0
  Sooner p q = T (before K p q)

  -- a date that is before never
  abbrev pub Real : D → Type 0
  Real x = Sooner x K.never

  pub le_refl : (p : D) → NoLater p p
  le_refl p = elim (K.total p p) [ inl h ↦ h | inr h ↦ h ]

  pub flip : (p q : D) → K.no_later p q ≡ false → NoLater q p
  flip p q e = elim (K.total p q) [ inl h ↦ absurd (T_not_false _ e h) | inr h ↦ h ]

  pub lt_le : (p q : D) → Sooner p q → NoLater p q
  lt_le p q h = elim (K.total p q) [ inl k ↦ k | inr k ↦ absurd (T_not _ h k) ]

  pub lt_by : (p q : D) → (NoLater q p → ⊥) → Sooner p q
  lt_by p q = not_T (K.no_later q p)

  pub lt_irr : (p : D) → Sooner p p → ⊥
  lt_irr p h = T_not _ h (le_refl p)

  pub le_lt : (p q r : D) → NoLater p q → Sooner q r → Sooner p r
  le_lt p q r h k = lt_by p r (λ m. T_not _ k (K.trans r p q m h))

  pub lt_le_lt : (p q r : D) → Sooner p q → NoLater q r → Sooner p r
  lt_le_lt p q r h k = lt_by p r (λ m. T_not _ h (K.trans q r p k m))

  module _ (p q x : D) where
    pub and_below : NoLater p x → NoLater q x → NoLater (joined K And p q) x
    and_below h k = cond_both (before K p q) q p (λ y. NoLater y x) (λ e. k) (λ e. h)

    pub and_parts : NoLater (joined K And p q) x → NoLater p x × NoLater q x
    and_parts =
        cond_both (before K p q) q p (λ y. NoLater y x → NoLater p x × NoLater q x)
        (λ e h. (K.trans p q x (flip q p (not-true _ e)) h, h))
        (λ e h. (h, K.trans q p x (is_T _ (not-false _ e)) h))

    pub or_left : NoLater p x → NoLater (joined K Or p q) x
    or_left h = cond_both (before K q p) q p (λ y. NoLater y x) (λ e. K.trans q p x (flip p q (not-true _ e)) h) (λ e. h)

    pub or_right : NoLater q x → NoLater (joined K Or p q) x
    or_right h = cond_both (before K q p) q p (λ y. NoLater y x) (λ e. h) (λ e. K.trans p q x (is_T _ (not-false _ e)) h)

    pub or_cases : NoLater (joined K Or p q) x → NoLater p x ⊎ NoLater q x
    or_cases = cond_both (before K q p) q p (λ y. NoLater y x → NoLater p x ⊎ NoLater q x) (λ e h. inr h) (λ e h. inl h)

    pub before_below : Sooner p q → NoLater p x → NoLater (joined K Before p q) x
    before_below h k = cond_both (before K p q) p K.never (λ y. NoLater y x) (λ e. k) (λ e. absurd (T_not_false _ e h))

    pub before_parts : Real x → NoLater (joined K Before p q) x → Sooner p q × NoLater p x
    before_parts real =
        cond_both (before K p q) p K.never (λ y. NoLater y x → Sooner p q × NoLater p x) (λ e h. (is_T _ e, h)) (λ e h. absurd (T_not _ real h))

    pub tie_below : Same K p q → NoLater p x → NoLater (joined K Simultaneous p q) x
    tie_below h k =
        cond_both (K.no_later p q && K.no_later q p) p K.never (λ y. NoLater y x) (λ e. k)
        (λ e. absurd (T_not_false _ e (and_in _ _ h.fore h.back)))

    pub tie_parts : Real x → NoLater (joined K Simultaneous p q) x → Same K p q × NoLater p x
    tie_parts real =
        cond_both (K.no_later p q && K.no_later q p) p K.never (λ y. NoLater y x → Same K p q × NoLater p x)
        (λ e h. let k = and_out (K.no_later p q) (K.no_later q p) (is_T _ e) in (record { fore = k.0; back = k.1 }, h))
        (λ e h. absurd (T_not _ real h))

  below : (p q : D) → ((x : D) → Real x → NoLater q x → NoLater p x) → NoLater p q
  below p q g =
      elim (cases_Bool (K.no_later K.never q)) [
        | inl e ↦ K.trans p K.never q (K.top p) (is_T _ e)
        | inr e ↦ g q (lt_by q K.never (T_not_false _ e)) (le_refl q)
      ]

  -- two dates are the same if they are no later than the same dates before never
  pub same_by : (p q : D) → ((x : D) → Real x → NoLater p x → NoLater q x) → ((x : D) → Real x → NoLater q x → NoLater p x) → Same K p q
  same_by p q f g = record { fore = below p q g; back = below q p f }
