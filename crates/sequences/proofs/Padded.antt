-- The first rows of a list, and blank ones after them.
-- Assumes nothing.
use Rattle.std.proofs.Common.{◌≡◌, ℕ, zero, suc, ◌<◌, ◌≤◌, List, [], ◌∷◌, ◌++◌, length, get_or, take, set, replicate, refl, ap, arith}
use Rattle.sequences.specs.Rows.{blank, padded}
use Rattle.sequences.specs.declared.row.Row.{Row}

pub padded_none : (n : ℕ) → padded n [] ≡ replicate n blank
unfolding padded
padded_none zero = refl
padded_none (suc n) = ap (λ (l : List Row). blank ∷ l) (padded_none n)

-- a blank row at the end is there already
pub padded_blank : (n : ℕ) (rs : List Row) → padded n (rs ++ (blank ∷ [])) ≡ padded n rs
unfolding padded
padded_blank zero rs = refl
padded_blank (suc n) [] = refl
padded_blank (suc n) (r ∷ rs) = ap (λ (l : List Row). r ∷ l) (padded_blank n rs)

-- what is past the end is left out
pub padded_past : (n : ℕ) (rs : List Row) (q : Row) → n ≤ length rs → padded n (rs ++ (q ∷ [])) ≡ padded n rs
unfolding padded
padded_past zero rs q h = refl
padded_past (suc n) [] q h = absurd (omega arith)
padded_past (suc n) (r ∷ rs) q h = ap (λ (l : List Row). r ∷ l) (padded_past n rs q (omega arith))

pub padded_set : (n : ℕ) (rs : List Row) (q x : Row) → length rs < n → set (padded n (rs ++ (q ∷ []))) (length rs) x ≡ padded n (rs ++ (x ∷ []))
unfolding padded
padded_set zero rs q x h = absurd (omega arith)
padded_set (suc n) [] q x h = refl
padded_set (suc n) (r ∷ rs) q x h = ap (λ (l : List Row). r ∷ l) (padded_set n rs q x (omega arith))

pub padded_last : (n : ℕ) (rs : List Row) (q d : Row) → length rs < n → get_or (padded n (rs ++ (q ∷ []))) (length rs) d ≡ q
unfolding padded
padded_last zero rs q d h = absurd (omega arith)
padded_last (suc n) [] q d h = refl
padded_last (suc n) (r ∷ rs) q d h = padded_last n rs q d (omega arith)

pub padded_front : (n : ℕ) (rs : List Row) → length rs ≤ n → take (length rs) (padded n rs) ≡ rs
unfolding padded
padded_front n [] h = refl
padded_front zero (r ∷ rs) h = absurd (omega arith)
padded_front (suc n) (r ∷ rs) h = ap (λ (l : List Row). r ∷ l) (padded_front n rs (omega arith))
