-- What a text holds, and the text that holds given bytes.
-- Assumes nothing.
use Rattle.std.specs.Prelude.{◌≡◌, ℕ, ◌-◌, ◌≤◌, List, ◌++◌, length, take, drop, replicate}
use Rattle.std.proofs.Common.{sym, ap, ◌∙◌, ap₂, arith}
use Rattle.std.proofs.lemmas.List.{take-append-drop, length-take-le}
use Rattle.algebra.specs.Texts.{never_byte}
use Rattle.texts.specs.declared.text.Text.TheInside.{Inside}

-- the bytes in the used places
abbrev pub used : Inside → List ℕ
used x = take x.len x.bytes

-- a text has at most 511 bytes, and each of its unused places holds N
pub record Filled (x : Inside) : Type 0 where
  pub sized : length x.bytes ≡ 511
  pub short : x.len ≤ 511
  pub filled : drop x.len x.bytes ≡ replicate (511 - x.len) never_byte

-- the text that has these bytes in its places, and so many of them used
abbrev places : List ℕ → ℕ → Inside
places bs n = record { bytes = bs; len = n }

-- the places of a text that holds these bytes
abbrev pub filled_with : List ℕ → Inside
filled_with bs = places (bs ++ replicate (511 - length bs) never_byte) (length bs)

-- so many bytes as are used
pub length-used : (x : Inside) → Filled x → length (used x) ≡ x.len
length-used x f = length-take-le x.len x.bytes (omega (arith, f.sized, f.short))

-- the places of a text come back from its bytes
pub used_back : (x : Inside) → Filled x → filled_with (used x) ≡ x
used_back x f =
    ap₂ places
    (ap (λ (k : ℕ). used x ++ replicate (511 - k) never_byte) (length-used x f) ∙ ap (λ (r : List ℕ). used x ++ r) (sym f.filled)
    ∙ take-append-drop x.len x.bytes)
    (length-used x f)
