-- A log that is held, tried and lifted is as it was.
-- Assumes nothing.
use Rattle.std.proofs.Common.{◌≡◌, ℕ, ◌+◌, true, List, is_err, Ok, Err, Result, refl, ap, ◌∙◌, arith}
use Rattle.dates.specs.declared.Date.{Ghosts}
use Rattle.failure_log.specs.Model.{State, HeldBy, Dropped, Lifted}
use Rattle.failure_log.specs.declared.store.LogRefusal.{LogRefusal}
use Rattle.failure_log.specs.declared.store.LogRefusal.TheVariants.{Held}
use Rattle.failure_log.specs.declared.store.Slip.{Slip}

module _ {D : Type 0} (G : Ghosts D) where
  -- while a hold stands, a drop is refused and leaves the log
  pub not_dropped : (s t : State D) (bytes : List ℕ) (r : Result (Unit {0}) LogRefusal) (n : ℕ) → s.holds ≡ n + 1 → Dropped G s bytes r t → (is_err r ≡ true) × (t ≡ s)
  not_dropped s t bytes (Ok u) n h d = absurd (omega (arith, d.answer.0 Held))
  not_dropped s t bytes (Err e) n h d = (refl, d.left e refl)

  pub held_again : (s t u v : State D) (custodian : ℕ) (slip : Slip) (bytes : List ℕ) (r : Result (Unit {0}) LogRefusal) (holder : ℕ)
      → HeldBy s custodian (Ok slip) t → Dropped G t bytes r u → Lifted u slip (Ok holder) v
      → (is_err r ≡ true) × (holder ≡ custodian) × (v ≡ s)
  held_again s t u v custodian slip bytes r holder held dropped lifted =
      let h = held.answer.1 in
      let d = not_dropped t u bytes r s.holds h.more dropped in
      let l = lifted.outcome.answer.1 in
      let holds : v.holds ≡ s.holds = omega (arith, l.fewer, ap (λ (x : State D). x.holds) d.1, h.more) in
      let number : v.number ≡ s.number = l.same.number ∙ ap (λ (x : State D). x.number) d.1 ∙ h.same.number in
      let kept : v.kept ≡ s.kept = l.same.kept ∙ ap (λ (x : State D). x.kept) d.1 ∙ h.same.kept in
      let behind : v.behind ≡ s.behind = l.same.behind ∙ ap (λ (x : State D). x.behind) d.1 ∙ h.same.behind in (
        d.0,
        l.custodian_is ∙ ap (λ (x : Slip). x.custodian) h.slip_is,
        λ i. record { number = number i; kept = kept i; behind = behind i; holds = holds i },
      )
