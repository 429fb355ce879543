-- Worked examples of dates, computed from the definitions, as one proposition.
-- Assumes nothing.
use Rattle.std.specs.Prelude.{◌≡◌, ℕ, List, [], ◌∷◌, codes}
use Prim.Native.String.{String}
use Rattle.algebra.specs.Kinds.{Kind}
use Rattle.algebra.specs.Terms.{dating_of}
use Rattle.algebra.specs.Texts.{text_date}
use Rattle.dates.specs.Ticks.{tick_kind, tick_never}
use Rattle.dates.specs.ShiftTicks.{shift_tick_kind, at}
use Rattle.dates.specs.Causes.{cause_kind, cause_never, cause}
use Rattle.dates.specs.declared.Tick.{Tick}

-- the date of a text where a, b and so on have these dates, and all other events are dated never
abbrev pub date_under : {D : Type 0} → Kind D → List D → String → D
date_under K ds s = text_date K (dating_of K ds) (codes s)

abbrev tick : ℕ → Tick
tick n = record { value = n }

pub record DateExamples : Type 0 where
  -- a priority AND counts a tie, and wants no event too early
  pub pand_tie : date_under tick_kind (tick 5 ∷ tick 5 ∷ []) "*b[ab" ≡ tick 5
  pub pand_late : date_under tick_kind (tick 7 ∷ tick 5 ∷ []) "*b[ab" ≡ tick_never
  pub pand_early : date_under tick_kind (tick 3 ∷ tick 5 ∷ []) "*b[ab" ≡ tick 5
  -- BEFORE counts no tie, and everything that happens is before never
  pub before_tie : date_under tick_kind (tick 5 ∷ tick 5 ∷ []) "<ab" ≡ tick_never
  pub before_never : date_under tick_kind (tick 4 ∷ []) "<aN" ≡ tick 4
  -- the last tick of a shift is before the first of the next
  pub shifts : date_under shift_tick_kind (at 2 28799 ∷ at 3 0 ∷ []) "<ab" ≡ at 2 28799
  -- of two causes that are the same, OR takes that of its first side, and neither is before the other
  pub cause_or : date_under cause_kind (cause 77 ∷ cause 83 ∷ []) "+ba" ≡ cause 83
  pub cause_tie : date_under cause_kind (cause 77 ∷ cause 83 ∷ []) "<ab" ≡ cause_never
