-- Going by way of one letter after the other gives the links closed under going on.
-- Assumes nothing.
use Rattle.std.proofs.Common.{◌≡◌, ℕ, zero, suc, ◌+◌, ◌<◌, Bool, ◌&&◌, ◌||◌, T, sym, ap, ◌∙◌, subst, ap₂, inl, inr, add-one, arith}
use Rattle.sequences.specs.Walks.{Chain, one, more, Low, via, closure, Closes}
use Rattle.sequences.proofs.Tests.{or_in_l, or_in_r, or_out, and_in, and_out, below_suc}

pub joined : {f : ℕ → ℕ → Bool} {v w x : ℕ} → Chain f v w → Chain f w x → Chain f v x
joined (one t) d = more t d
joined (more t c) d = more t (joined c d)

module _ (f : ℕ → ℕ → Bool) where
  sound : (n v w : ℕ) → T (closure n f v w) → Chain f v w
  unfolding closure
  sound zero v w t = one t
  sound (suc n) v w t =
      elim (or_out _ _ t) [
        | inl s ↦ sound n v w s
        | inr s ↦ let p = and_out _ _ s in joined (sound n v n p.0) (sound n n w p.1)
      ]

  covers : (n v w : ℕ) → T (f v w) → T (closure n f v w)
  unfolding closure
  covers zero v w t = t
  covers (suc n) v w t = or_in_l _ _ (covers n v w t)

-- going on at k is had already
abbrev At : (ℕ → ℕ → Bool) → ℕ → Type 0
At g k = (v w : ℕ) → T (g v k) → T (g k w) → T (g v w)

module _ (g : ℕ → ℕ → Bool) (n : ℕ) where
  abbrev h : ℕ → ℕ → Bool
  h = via n g

  by : (v w : ℕ) → T (g v n) → T (g n w) → T (h v w)
  by v w s t = or_in_r (g v w) _ (and_in _ _ s t)

  into : (v : ℕ) → T (h v n) → T (g v n)
  into v s = elim (or_out _ _ s) [ inl a ↦ a | inr a ↦ (and_out _ _ a).0 ]

  out : (w : ℕ) → T (h n w) → T (g n w)
  out w s = elim (or_out _ _ s) [ inl a ↦ a | inr a ↦ (and_out _ _ a).1 ]

  at_own : At h n
  at_own v w s t = by v w (into v s) (out w t)

  at_kept : (k : ℕ) → At g k → At h k
  at_kept k a v w s t =
      elim (or_out _ _ s) [
        | inl p ↦ elim (or_out _ _ t) [
          | inl q ↦ or_in_l _ _ (a v w p q)
          | inr q ↦ let y = and_out _ _ q in by v w (a v n p y.0) y.1
        ]
        | inr p ↦ let x = and_out _ _ p in elim (or_out _ _ t) [
          | inl q ↦ by v w x.0 (a n w x.1 q)
          | inr q ↦ by v w x.0 (and_out _ _ q).1
        ]
      ]

module _ (f : ℕ → ℕ → Bool) where
  through : (n k : ℕ) → k < n → At (closure n f) k
  unfolding closure
  through zero k l = absurd (omega arith)
  through (suc n) k l = elim (below_suc k n l) [ inl e ↦ subst (At (closure (suc n) f)) (sym e) (at_own (closure n f) n) | inr m ↦ at_kept (closure n f) n k (through n k m) ]

  whole : Low f → {v w : ℕ} → Chain f v w → T (closure 24 f v w)
  whole low (one t) = covers f 24 _ _ t
  whole low (more {v} {w} {x} t c) = through 24 w (low v w t) v x (covers f 24 v w t) (whole low c)

  pub closes : Low f → Closes f (closure 24 f)
  closes low v w = (sound f 24 v w, whole low)

via_by : (k : ℕ) (g h : ℕ → ℕ → Bool) → ((v w : ℕ) → g v w ≡ h v w) → (v w : ℕ) → via k g v w ≡ via k h v w
via_by k g h e v w = ap₂ ◌||◌ (e v w) (ap₂ ◌&&◌ (e v k) (e k w))

pub closure_next : (f g h : ℕ → ℕ → Bool) (k : ℕ) → ((v w : ℕ) → g v w ≡ closure k f v w) → ((v w : ℕ) → h v w ≡ via k g v w) → (v w : ℕ) → h v w ≡ closure (k + 1) f v w
unfolding closure
closure_next f g h k e d v w =
    subst (λ (n : ℕ). h v w ≡ closure n f v w) (sym (add-one k)) (d v w ∙ via_by k g (closure k f) e v w)

pub closes_by : (f g : ℕ → ℕ → Bool) (k : ℕ) → k ≡ 24 → Low f → ((v w : ℕ) → g v w ≡ closure k f v w) → Closes f g
closes_by f g k e low h v w =
    let q : g v w ≡ closure 24 f v w = h v w ∙ ap (λ (n : ℕ). closure n f v w) e in
    (λ t. (closes f low v w).0 (subst T q t), λ c. subst T (sym q) ((closes f low v w).1 c))

chain_by : {f g : ℕ → ℕ → Bool} → ((v w : ℕ) → f v w ≡ g v w) → {v w : ℕ} → Chain f v w → Chain g v w
chain_by e (one {v} {w} t) = one (subst T (e v w) t)
chain_by e (more {v} {w} {x} t c) = more (subst T (e v w) t) (chain_by e c)

pub closes_like : (f g h : ℕ → ℕ → Bool) → ((v w : ℕ) → f v w ≡ g v w) → Closes f h → Closes g h
closes_like f g h e c v w = (λ t. chain_by e ((c v w).0 t), λ k. (c v w).1 (chain_by (λ x y. sym (e x y)) k))
