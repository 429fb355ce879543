-- Ticks: a whole number in four bytes, the high byte first, ordered by size.
-- Assumes nothing.
use Rattle.std.specs.Prelude.{ℕ, ◌+◌, ◌*◌, List, [], ◌∷◌, Some, None, Option}
use Rattle.algebra.specs.Kinds.{Kind}
use Rattle.algebra.specs.Keyed.{keyed_kind}
use Rattle.dates.specs.declared.Tick.{Tick}

abbrev pub tick_never : Tick
tick_never = record { value = 0xffff_ffff }

abbrev pub tick_kind : Kind Tick
tick_kind = keyed_kind (λ p. p.value) tick_never

-- the tick that four bytes are, and no other bytes
abbrev pub tick_of : List ℕ → Option Tick
tick_of [] = None
tick_of (a ∷ []) = None
tick_of (a ∷ b ∷ []) = None
tick_of (a ∷ b ∷ c ∷ []) = None
tick_of (a ∷ b ∷ c ∷ d ∷ []) = Some (record { value = a * 0x100_0000 + b * 0x1_0000 + c * 0x100 + d })
tick_of (a ∷ b ∷ c ∷ d ∷ e ∷ more) = None
