-- A row is impossible where a letter precedes one from which one comes back to it.
-- Assumes nothing.
use Rattle.std.proofs.Common.{◌≡◌, ℕ, Bool, true, false, ◌&&◌, ◌||◌, T, ◌⊎◌, Decides, sym, refl, ◌∙◌, subst, inl, inr}
use Rattle.sequences.specs.Rows.{precedes, ties}
use Rattle.sequences.specs.Walks.{Walk, stay, less, along, back, Impossible, Sound, Chain, one, more, any, Closes, Low}
use Rattle.sequences.specs.declared.row.Row.{Row}
use Rattle.sequences.proofs.Turns.{left_low, tied_low}
use Rattle.sequences.proofs.Closure.{joined}
use Rattle.sequences.proofs.Tests.{or_in_l, or_in_r, or_out, and_in, and_out, any_in, any_out, is_T, T_not_false}
use Rattle.std.proofs.lemmas.Bool.{cases_Bool}

module _ (r : Row) where
  -- any pair as a link
  abbrev pub weak : ℕ → ℕ → Bool
  weak v w = precedes r v w || ties r v w

  pub weak_low : Sound r → Low weak
  weak_low s v w t = elim (or_out _ _ t) [ inl a ↦ s.right v w a | inr a ↦ tied_low r s w v (s.both v w a) ]

  abbrev Some : ℕ → ℕ → Type 0
  Some v w = (b : Bool) × Walk r b v w

  chain_walk : {v w : ℕ} → Chain weak v w → Some v w
  chain_walk (one t) = elim (or_out _ _ t) [ inl a ↦ (true, less a stay) | inr a ↦ (false, along a stay) ]
  chain_walk (more t c) =
      let k = chain_walk c in
      elim (or_out _ _ t) [ inl a ↦ (true, less a k.1) | inr a ↦ (k.0, along a k.1) ]

  -- a walk goes nowhere, or along a chain
  abbrev pub Gone : ℕ → ℕ → Type 0
  Gone v w = (v ≡ w) ⊎ Chain weak v w

  first : {v w x : ℕ} → T (weak v w) → Gone w x → Chain weak v x
  first {v} t (inl e) = subst (λ (y : ℕ). Chain weak v y) e (one t)
  first t (inr c) = more t c

  walk_gone : Sound r → {b : Bool} {v w : ℕ} → Walk r b v w → Gone v w
  walk_gone s stay = inl refl
  walk_gone s (less {v = v} {w = w} t k) = inr (first (or_in_l _ _ t) (walk_gone s k))
  walk_gone s (along {v = v} {w = w} t k) = inr (first (or_in_r (precedes r v w) _ t) (walk_gone s k))
  walk_gone s (back {v = v} {w = w} t k) = inr (first (or_in_r (precedes r v w) _ (s.both w v t)) (walk_gone s k))

  -- a walk with a '<': up to it, over it, and on
  pub record Over (v x : ℕ) : Type 0 where
    pub left : ℕ
    pub right : ℕ
    pub to : Gone v left
    pub by : T (precedes r left right)
    pub on : Gone right x

  after : {v w x : ℕ} → T (weak v w) → Over w x → Over v x
  after t o = record { left = o.left; right = o.right; to = inr (first t o.to); by = o.by; on = o.on }

  over : Sound r → {v w : ℕ} → Walk r true v w → Over v w
  over s (less {v = v} {w = w} t k) = record { left = v; right = w; to = inl refl; by = t; on = walk_gone s k }
  over s (along {v = v} {w = w} t k) = after (or_in_r (precedes r v w) _ t) (over s k)
  over s (back {v = v} {w = w} t k) = after (or_in_r (precedes r v w) _ (s.both w v t)) (over s k)

  pub gone_on : {v w x : ℕ} → Gone v w → Gone w x → Gone v x
  gone_on {x = x} (inl e) h = subst (λ (y : ℕ). Gone y x) (sym e) h
  gone_on {v} (inr c) (inl e) = inr (subst (λ (y : ℕ). Chain weak v y) e c)
  gone_on (inr c) (inr d) = inr (joined c d)

  -- a letter, one that it precedes, and the way back
  pub record Round : Type 0 where
    pub left : ℕ
    pub right : ℕ
    pub by : T (precedes r left right)
    pub back : Chain weak right left

  pub round_impossible : Round → Impossible r
  round_impossible o = record { at = o.left; walk = less o.by (chain_walk o.back).1 }

  pub closing : {v w : ℕ} → T (precedes r v w) → Gone w v → Chain weak w v
  closing {v} {w} t (inl e) = one (or_in_l (precedes r w v) _ (subst (λ (y : ℕ). T (precedes r w y)) e (subst (λ (y : ℕ). T (precedes r y w)) (sym e) t)))
  closing t (inr c) = c

  pub impossible_round : Sound r → Impossible r → Round
  impossible_round s i =
      let o = over s i.walk in
      record { left = o.left; right = o.right; by = o.by; back = closing o.by (gone_on o.on o.to) }

-- the same, by tests over closed links
module _ (r : Row) (g : ℕ → ℕ → Bool) (s : Sound r) (closes : Closes (weak r) g) where
  pub found : (v : ℕ) → T (any 24 (λ w. precedes r v w && g w v)) → Impossible r
  found v t =
      let k = any_out 24 (λ w. precedes r v w && g w v) t in
      let p = and_out _ _ k.2 in
      round_impossible r (record { left = v; right = k.0; by = p.0; back = (closes k.0 v).0 p.1 })

  pub none : any 24 (λ v. any 24 (λ w. precedes r v w && g w v)) ≡ false → Impossible r → ⊥
  none e i =
      let o = impossible_round r s i in
      T_not_false _ e
      (any_in 24 (λ v. any 24 (λ w. precedes r v w && g w v)) o.left (left_low r s _ _ o.by)
      (any_in 24 (λ w. precedes r o.left w && g w o.left) o.right (s.right _ _ o.by) (and_in _ _ o.by ((closes o.right o.left).1 o.back))))

  -- an answer that is those tests tells whether the row is impossible
  pub decides : (b : Bool) → b ≡ any 24 (λ v. any 24 (λ w. precedes r v w && g w v)) → Decides b (Impossible r)
  decides b e = (
    λ t. let k = any_out 24 (λ v. any 24 (λ w. precedes r v w && g w v)) (is_T _ (sym e ∙ t)) in found k.0 k.2,
    λ i. elim (cases_Bool b) [ inl h ↦ h | inr h ↦ absurd (none (sym e ∙ h) i) ],
  )
