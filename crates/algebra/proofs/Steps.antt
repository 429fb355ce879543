-- A step keeps the date, and so do all steps together, over every kind.
-- Assumes nothing.
use Rattle.std.proofs.Common.{ℕ}
use Rattle.algebra.specs.Kinds.{Kind, Same}
use Rattle.algebra.specs.Terms.{Term, date, inst}
use Rattle.algebra.specs.Replacing.{Replaced, here, left, right}
use Rattle.algebra.specs.Rules.{Rule, numbered, old_side, new_side}
use Rattle.algebra.specs.Steps.{Keeps, Step, Reached, start, next, ReachedKeeps, ReplacingKeeps}
use Rattle.algebra.specs.declared.Variable.{Variable}
use Rattle.algebra.specs.declared.Way.{Way}
use Rattle.algebra.specs.declared.Way.TheVariants.{Forward, Backward}
use Rattle.algebra.proofs.Links.{joined_linked, same_link, same_itself, same_back, same_trans}
use Rattle.algebra.proofs.Sheet.{sheet_keeps}

module _ {D : Type 0} (K : Kind D) where
  pub replaced_same : {V : Type 0} (d : V → D) {p q t u : Term V} → Replaced p q t u → Same K (date K d p) (date K d q) → Same K (date K d t) (date K d u)
  replaced_same d here h = h
  replaced_same d (left {o = o} s) h = joined_linked K K (Same K) (same_link K) o _ _ _ _ (replaced_same d s h) (same_itself K _)
  replaced_same d (right {o = o} s) h = joined_linked K K (Same K) (same_link K) o _ _ _ _ (same_itself K _) (replaced_same d s h)

  pub replacing_keeps : ReplacingKeeps K
  replacing_keeps d p q t u r h = replaced_same d r h

  either_way : (r : Rule) → Keeps K r → (w : Way) (d : ℕ → D) (σ : Variable → Term ℕ) → Same K (date K d (inst σ (old_side w r))) (date K d (inst σ (new_side w r)))
  either_way r keeps Forward d σ = keeps d σ
  either_way r keeps Backward d σ = same_back K _ _ (keeps d σ)

  step_same : (d : ℕ → D) {t u : Term ℕ} → Step t u → Same K (date K d t) (date K d u)
  step_same d s = replaced_same d s.replaced (either_way (numbered s.number) (sheet_keeps K s.number s.low s.high) s.way d s.choice)

  reached_same : (d : ℕ → D) {s t : Term ℕ} → Reached s t → Same K (date K d s) (date K d t)
  reached_same d start = same_itself K _
  reached_same d (next r w) = same_trans K _ _ _ (reached_same d r) (step_same d w)

  pub reached_keeps : ReachedKeeps K
  reached_keeps d s t r = reached_same d r
