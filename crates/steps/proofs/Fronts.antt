-- The front of a list, as slice patterns with a rest give it.
-- Assumes nothing.
use Rattle.std.proofs.Common.{◌≡◌, ℕ, ◌-◌, ◌<◌, List, [], ◌∷◌, length, get_or, take, drop, sym, ap, arith}
use Rattle.std.proofs.lemmas.List.{take_rest}

pub two_front : (bs : List ℕ) → 1 < length bs → bs ≡ get_or bs 0 0 ∷ (get_or bs 1 0 ∷ take (length bs - 2) (drop 2 bs))
two_front [] h = absurd (omega arith)
two_front (a ∷ []) h = absurd (omega arith)
two_front (a ∷ b ∷ bs) h = ap (λ (l : List ℕ). a ∷ b ∷ l) (sym (take_rest (a ∷ b ∷ bs) 2))
