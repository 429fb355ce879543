-- One turn of each loop over masks.
-- Assumes nothing.
use Rattle.std.proofs.Common.{◌≡◌, ℕ, ◌+◌, ◌<◌, ◌≤◌, Bool, true, false, ◌&&◌, ◌||◌, T, ◌⊎◌, List, length, get_or, set, sym, ap, ◌∙◌, subst, ap₂, inl, inr, add-one, arith, length-set, get_or-set_other, get_or-set_same}
use mathlib.Core.Bool.{or-false}
use lib.Bits.{bit_or}
use lib.ListN.{get_or-eq_default}
use Rattle.sequences.specs.Masks.{has, linked}
use Rattle.sequences.specs.Rows.{precedes, ties}
use Rattle.sequences.specs.Walks.{via, Sound}
use Rattle.sequences.specs.declared.row.Row.{Row}
use Rattle.sequences.proofs.Tests.{below_suc, T_not_false}
use Rattle.sequences.proofs.Bits.{has_or, has_none}
use Rattle.std.proofs.lemmas.Bool.{cases_lt}

pub below_next : (k n : ℕ) → k < n + 1 → (k ≡ n) ⊎ (k < n)
below_next k n h = below_suc k n (subst (λ (m : ℕ). k < m) (add-one n) h)

-- nothing is linked past the end
pub linked_past : (ms : List ℕ) (v w : ℕ) → length ms ≤ v → linked ms v w ≡ false
linked_past ms v w h = ap (λ (m : ℕ). has m w) (get_or-eq_default ms 0 h) ∙ has_none w

pub linked_left : (ms : List ℕ) (n v w : ℕ) → length ms ≡ n → T (linked ms v w) → v < n
linked_left ms n v w e t =
    elim (cases_lt v n) [ inl l ↦ l | inr l ↦ absurd (T_not_false _ (linked_past ms v w (omega arith)) t) ]

pub linked_same : (ms : List ℕ) (i m w : ℕ) → i < length ms → linked (set ms i m) i w ≡ has m w
linked_same ms i m w h = ap (λ (n : ℕ). has n w) (get_or-set_same ms i m 0 h)

pub linked_other : (ms : List ℕ) (i m v w : ℕ) → (v ≡ i → ⊥) → linked (set ms i m) v w ≡ linked ms v w
linked_other ms i m v w h = ap (λ (n : ℕ). has n w) (get_or-set_other ms i v m 0 h)

-- the sets of the letters below i are what they should be
pub fill_turn : (f : ℕ → ℕ → Bool) (out : List ℕ) (i m : ℕ) → i < length out
    → ((v w : ℕ) → v < i → linked out v w ≡ f v w) → ((w : ℕ) → has m w ≡ f i w)
    → (v w : ℕ) → v < i + 1 → linked (set out i m) v w ≡ f v w
fill_turn f out i m l inv here v w h =
    elim (below_next v i h) [
      | inl e ↦ subst (λ (n : ℕ). linked (set out i m) n w ≡ f n w) (sym e) (linked_same out i m w l ∙ here w)
      | inr k ↦ linked_other out i m v w (λ e. omega arith) ∙ inv v w k
    ]

via_with : (ms : List ℕ) (k i w : ℕ) → linked ms i k ≡ true → via k (linked ms) i w ≡ (linked ms i w || linked ms k w)
via_with ms k i w e = ap (λ (b : Bool). linked ms i w || (b && linked ms k w)) e

via_without : (ms : List ℕ) (k i w : ℕ) → linked ms i k ≡ false → via k (linked ms) i w ≡ linked ms i w
via_without ms k i w e = ap (λ (b : Bool). linked ms i w || (b && linked ms k w)) e ∙ or-false (linked ms i w)

with_k : (ms : List ℕ) (o k i w : ℕ) → o ≡ get_or ms i 0 → linked ms i k ≡ true → has (bit_or o (get_or ms k 0)) w ≡ via k (linked ms) i w
with_k ms o k i w q e = has_or o (get_or ms k 0) w ∙ ap (λ (n : ℕ). has n w || linked ms k w) q ∙ sym (via_with ms k i w e)

-- what is so of the letters below the end is so of all, where nothing is past it
pub to_all : (f : ℕ → ℕ → Bool) (out : List ℕ) (i : ℕ) → 24 ≤ i → length out ≡ 24 → ((v w : ℕ) → 24 ≤ v → f v w ≡ false)
    → ((v w : ℕ) → v < i → linked out v w ≡ f v w) → (v w : ℕ) → linked out v w ≡ f v w
to_all f out i l e past inv v w =
    elim (cases_lt v i) [
      | inl h ↦ inv v w h
      | inr h ↦ linked_past out v w (omega arith) ∙ sym (past v w (omega arith))
    ]

pub via_past : (ms : List ℕ) (k v w : ℕ) → length ms ≡ 24 → 24 ≤ v → via k (linked ms) v w ≡ false
via_past ms k v w e h =
    let l : length ms ≤ v = omega arith in
    ap₂ (λ (a b : Bool). a || (b && linked ms k w)) (linked_past ms v w l) (linked_past ms v k l)

-- the sets of the letters below i also have what k has, where they have k, and the others are as they were
abbrev pub Passed : List ℕ → ℕ → List ℕ → ℕ → Type 0
Passed ms k out i =
    ((v w : ℕ) → v < i → linked out v w ≡ via k (linked ms) v w) × ((v : ℕ) → i ≤ v → get_or out v 0 ≡ get_or ms v 0) × (length out ≡ 24)

module _ (ms out : List ℕ) (k i : ℕ) (h : i < 24) (p : Passed ms k out i) where
  passed_to : (m : ℕ) → ((w : ℕ) → has m w ≡ via k (linked ms) i w) → Passed ms k (set out i m) (i + 1)
  passed_to m here = (
    fill_turn (via k (linked ms)) out i m (omega (arith, p.2)) p.0 here,
    λ v l. get_or-set_other out i v m 0 (λ e. omega arith) ∙ p.1 v (omega arith),
    length-set _ _ _ ∙ p.2,
  )

  same : get_or out i 0 ≡ get_or ms i 0
  same = p.1 i (omega arith)

  as_before : (b : Bool) → has (get_or out i 0) k ≡ b → linked ms i k ≡ b
  as_before b e = subst (λ (n : ℕ). has n k ≡ b) same e

  pub passed_with : (j : ℕ) → j ≡ k → has (get_or out i 0) k ≡ true → Passed ms k (set out i (bit_or (get_or out i 0) (get_or ms j 0))) (i + 1)
  passed_with j q e =
      passed_to _ (λ w. ap (λ (n : ℕ). has (bit_or (get_or out i 0) (get_or ms n 0)) w) q ∙ with_k ms (get_or out i 0) k i w same (as_before true e))

  pub passed_without : has (get_or out i 0) k ≡ false → Passed ms k (set out i (get_or out i 0)) (i + 1)
  passed_without e = passed_to _ (λ w. ap (λ (n : ℕ). has n w) same ∙ sym (via_without ms k i w (as_before false e)))

module _ (r : Row) (s : Sound r) where
  pub left_low : (v w : ℕ) → T (precedes r v w) → v < 24
  left_low v w = linked_left r.before.of 24 v w s.sizes.0

  pub tied_low : (v w : ℕ) → T (ties r v w) → v < 24
  tied_low v w = linked_left r.ties.of 24 v w s.sizes.1
