-- What a closing makes of a table.
-- Assumes nothing.
use Rattle.std.proofs.Common.{◌≡◌, ℕ, ◌<◌, true, false, IfOk, IfErr, Ok, Err, All, List, arith}
use borrow.Author.Tests.{both_ways}
use Rattle.algebra.specs.Refusals.{Refused}
use Rattle.sequences.specs.Closing as texts
use Rattle.sequences.specs.Closing.{CloseAsks}
use Rattle.sequences.specs.Codes.{close_code}
use Rattle.sequences.specs.Dates.{HappensByTicks}
use Rattle.sequences.specs.Tables.{Holds}
use Rattle.sequences.specs.declared.refusals.CloseRefusal.{CloseRefusal}
use Rattle.sequences.specs.declared.refusals.CloseRefusal.TheVariants.{NoTree, NoSum, TooMany, ImpossibleSequence}
use Rattle.sequences.specs.declared.row.Row.{Row}
use Rattle.derivation.specs.Model.{State, Answer, ClosingAsks, Closed}

pub no_tree : (s : State) → s.opened ≡ false → Refused close_code (ClosingAsks s) NoTree
no_tree s h = record { fails = λ o. both_ways s.opened h o; lower = λ f k. absurd (none f k) }
  where
    none : (f : CloseRefusal) → close_code f < 21 → ⊥
    none NoTree k = omega arith
    none NoSum k = omega arith
    none TooMany k = omega arith
    none ImpossibleSequence k = omega arith

module _ (s : State) (o : s.opened ≡ true) (t t' : List Row) where
  asks : (e : CloseRefusal) → CloseAsks s.present e → ClosingAsks s e
  asks NoTree w = o
  asks NoSum w = w
  asks TooMany w = w
  asks ImpossibleSequence w = w

  fails : (e : CloseRefusal) → (CloseAsks s.present e → ⊥) → ClosingAsks s e → ⊥
  fails NoTree f w = f tt
  fails NoSum f w = f w
  fails TooMany f w = f w
  fails ImpossibleSequence f w = f w

  -- what closing the present text does, a closing of the bench does
  pub closed_by : (r : Answer CloseRefusal) → texts.Closed s.present (λ _. Holds s.present t') r → IfErr r (λ _. t' ≡ t) → Closed s t r t'
  closed_by (Ok u) c left = (λ e. asks e (c.0 e), c.1)
  closed_by (Err e) c left = (record { fails = fails e c.fails; lower = λ f k. asks f (c.lower f k) }, left)

pub happens_at : (t' : List Row) (r : Answer CloseRefusal) → IfOk r (λ _. All HappensByTicks t') → r ≡ Ok tt → All HappensByTicks t'
happens_at t' (Ok u) h e = h
happens_at t' (Err x) h e = let z : ◌≡◌ {A = ℕ} 0 1 = cc in absurd (omega arith)
