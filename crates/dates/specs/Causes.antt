-- Causes: one letter for each date, ordered by rank.
-- Assumes nothing.
use Rattle.std.specs.Prelude.{ℕ, cond, List, [], ◌∷◌, Some, None, Option, ◌==◌}
use Rattle.std.specs.Option.{unwrap_or}
use Rattle.algebra.specs.Kinds.{Kind}
use Rattle.algebra.specs.Keyed.{keyed_kind}
use Rattle.dates.specs.declared.Cause.{Cause}

-- P 0, L 1, C 2, M 3, S 3, W 4, and - 5; no other letter has a rank
abbrev pub rank_of : ℕ → Option ℕ
rank_of c =
    cond (c == 80) (Some 0)
    (cond (c == 76) (Some 1)
    (cond (c == 67) (Some 2)
    (cond (c == 77) (Some 3)
    (cond (c == 83) (Some 3)
    (cond (c == 87) (Some 4)
    (cond (c == 45) (Some 5) None))))))

abbrev pub cause : ℕ → Cause
cause c = record { letter = c }

-- the letter -
abbrev pub cause_never : Cause
cause_never = cause 45

-- a letter with no rank is the same as never; no date that is read has one
abbrev pub cause_kind : Kind Cause
cause_kind = keyed_kind (λ p. unwrap_or (rank_of p.letter) 5) cause_never

abbrev pub cause_at : ℕ → Option ℕ → Option Cause
cause_at c (Some rank) = Some (cause c)
cause_at c None = None

-- the cause that one byte is
abbrev pub cause_of : List ℕ → Option Cause
cause_of [] = None
cause_of (c ∷ []) = cause_at c (rank_of c)
cause_of (c ∷ d ∷ more) = None
