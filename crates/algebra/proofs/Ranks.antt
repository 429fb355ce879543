-- The dates of a list, counted down from never: the rank of a date is how many dates of the list it is before.
-- Assumes nothing.
use Rattle.std.proofs.Common.{◌≡◌, ℕ, ◌+◌, ◌<◌, ◌≤◌, Bool, true, false, not, T, leb, List, [], ◌∷◌, length, sym, refl, ◌∙◌, ap₂, inl, inr, arith, le→leb, leb→le, T_not}
use Rattle.algebra.specs.Kinds.{Kind}
use Rattle.algebra.specs.Links.{Link}
use Rattle.algebra.specs.Ranks.{ranks}
use Rattle.algebra.specs.Sizes.{yes_or_no}
use Rattle.algebra.proofs.Links.{no_later_itself}
use Rattle.algebra.proofs.Tests.{bool_ext}

-- one for a date that is later
abbrev one : Bool → ℕ
one true = 0
one false = 1

one_mono : (a b : Bool) → (T a → T b) → one b ≤ one a
one_mono true true f = omega arith
one_mono true false f = absurd (f tt)
one_mono false true f = omega arith
one_mono false false f = omega arith

one_small : (a : Bool) → one a ≤ 1
one_small true = omega arith
one_small false = omega arith

one_true : (a : Bool) → T a → one a ≡ 0
one_true true t = refl
one_true false t = absurd t

one_false : (a : Bool) → T (not a) → one a ≡ 1
one_false true t = absurd t
one_false false t = refl

module _ {D : Type 0} (K : Kind D) where
  abbrev pub rank : List D → D → ℕ
  rank [] p = 0
  rank (x ∷ xs) p = one (K.no_later x p) + rank xs p

  rank_mono : (xs : List D) (p q : D) → T (K.no_later p q) → rank xs q ≤ rank xs p
  rank_mono [] p q h = omega arith
  rank_mono (x ∷ xs) p q h =
      omega (arith, one_mono (K.no_later x p) (K.no_later x q) (λ t. K.trans x p q t h), rank_mono xs p q h)

  rank_small : (xs : List D) (p : D) → rank xs p ≤ length xs
  rank_small [] p = omega arith
  rank_small (x ∷ xs) p = omega (arith, one_small (K.no_later x p), rank_small xs p)

  pub rank_never : (xs : List D) → rank xs K.never ≡ 0
  rank_never [] = refl
  rank_never (x ∷ xs) = omega (arith, one_true _ (K.top x), rank_never xs)

  not_later : (p q : D) → T (not (K.no_later p q)) → T (K.no_later q p)
  not_later p q n = elim (K.total p q) [ inl t ↦ absurd (T_not _ n t) | inr t ↦ t ]

  -- p is one of the dates
  pub record Placed (xs : List D) (p : D) : Type 0 where
    pub above : (q : D) → T (not (K.no_later p q)) → rank xs p < rank xs q
    pub small : rank xs p < length xs

  pub here : (p : D) (xs : List D) → Placed (p ∷ xs) p
  here p xs = record {
    above = λ q n.
        omega (arith, one_true _ (no_later_itself K p), one_false _ n, rank_mono xs q p (not_later p q n));
    small = omega (arith, one_true _ (no_later_itself K p), rank_small xs p);
  }

  pub there : (x p : D) (xs : List D) → Placed xs p → Placed (x ∷ xs) p
  there x p xs h = record {
    above = λ q n.
        omega (arith, h.above q n, one_mono (K.no_later x q) (K.no_later x p) (λ t. K.trans x q p t (not_later p q n)));
    small = omega (arith, h.small, one_small (K.no_later x p));
  }

  pub record Ranked (xs : List D) (p : D) (n : ℕ) : Type 0 where
    pub is : n ≡ rank xs p
    pub placed : Placed xs p

  order_ranked : (xs : List D) (p q : D) → Placed xs p → K.no_later p q ≡ leb (rank xs q) (rank xs p)
  order_ranked xs p q h =
      bool_ext _ _
      (λ t. le→leb _ _ (rank_mono xs p q t))
      (λ t. elim (yes_or_no (K.no_later p q)) [ inl u ↦ u | inr n ↦ absurd (let l : rank xs q ≤ rank xs p = leb→le _ _ t in let m = h.above q n in omega arith) ])

  pub ranks_link : (xs : List D) → Placed xs K.never → Link K ranks (Ranked xs)
  ranks_link xs h = record {
    nevers = record { is = sym (rank_never xs); placed = h };
    orders = λ p m q n a b. order_ranked xs p q a.placed ∙ ap₂ leb (sym b.is) (sym a.is);
  }
