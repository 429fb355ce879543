-- Shift and tick: two numbers of two bytes each, kept as the one number shift × 28800 + tick, ordered by it.
-- Assumes nothing.
use Rattle.std.specs.Prelude.{ℕ, ◌+◌, ◌*◌, cond, List, [], ◌∷◌, Some, None, Option, nat_lt}
use Rattle.algebra.specs.Kinds.{Kind}
use Rattle.algebra.specs.Keyed.{keyed_kind}
use Rattle.dates.specs.declared.ShiftTick.{ShiftTick}

abbrev pub at : ℕ → ℕ → ShiftTick
at shift tick = record { value = shift * 28800 + tick }

abbrev pub shift_tick_never : ShiftTick
shift_tick_never = at 65535 28799

abbrev pub shift_tick_kind : Kind ShiftTick
shift_tick_kind = keyed_kind (λ p. p.value) shift_tick_never

-- a shift has 28800 ticks, from 0 on
abbrev pub within : ℕ → ℕ → Option ShiftTick
within shift tick = cond (nat_lt tick 28800) (Some (at shift tick)) None

-- the shift and tick that four bytes are, and no other bytes
abbrev pub shift_tick_of : List ℕ → Option ShiftTick
shift_tick_of [] = None
shift_tick_of (a ∷ []) = None
shift_tick_of (a ∷ b ∷ []) = None
shift_tick_of (a ∷ b ∷ c ∷ []) = None
shift_tick_of (a ∷ b ∷ c ∷ d ∷ []) = within (a * 0x100 + b) (c * 0x100 + d)
shift_tick_of (a ∷ b ∷ c ∷ d ∷ e ∷ more) = None
