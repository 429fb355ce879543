-- The bytes of a text, read from its end.
-- Assumes nothing.
use Rattle.std.proofs.Common.{◌≡◌, ℕ, suc, ◌+◌, ◌-◌, ◌<◌, List, ◌∷◌, length, get_or, drop, reverse, sym, ap, ◌∙◌, arith, drop-cons}
use Rattle.std.proofs.lemmas.List.{get_or-reverse, length-reverse}

-- the last n bytes
abbrev pub last : ℕ → List ℕ → List ℕ
last n bs = drop (length bs - n) bs

pub last_all : (bs : List ℕ) (n : ℕ) → n ≡ length bs → last n bs ≡ bs
last_all bs n h = let none : length bs - n ≡ 0 = omega arith in ap (λ (k : ℕ). drop k bs) none

-- the byte b stands in front of the last n bytes
pub record StandsBefore (bs : List ℕ) (n : ℕ) (b : ℕ) : Type 0 where
  pub within : n < length bs
  pub here : last (n + 1) bs ≡ b ∷ last n bs

pub reversed_turn : (bs : List ℕ) (n b : ℕ) → (n < length (reverse bs)) × (b ≡ get_or (reverse bs) n b) → StandsBefore bs n b
reversed_turn bs n b h =
    let within : n < length bs = omega (arith, h.0, length-reverse bs) in
    let place = length bs - (n + 1) in
    let byte : b ≡ get_or bs place b = h.1 ∙ get_or-reverse bs n b within ∙ ap (λ (i : ℕ). get_or bs i b) (omega arith) in
    let behind : suc place ≡ length bs - n = omega arith in
    record {
      within = within;
      here =
          drop-cons bs place b (omega arith)
          ∙ ap (λ (x : ℕ). x ∷ drop (suc place) bs) (sym byte)
          ∙ ap (λ (k : ℕ). b ∷ drop k bs) behind;
    }
