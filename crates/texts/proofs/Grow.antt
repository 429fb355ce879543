-- Bytes that are added to a text stand behind those that were there.
-- Assumes nothing.
use Rattle.std.proofs.Common.{◌≡◌, ℕ, ◌+◌, ◌-◌, ◌≤◌, List, ◌++◌, length, drop, replicate, sym, ap, ◌∙◌, arith}
use Rattle.std.proofs.lemmas.List.{length-take, length-drop, length-append, drop-replicate, drop-drop, length-replicate}
use Rattle.std.proofs.lemmas.Slice.{take-put_mid, drop-put_mid}
use borrow.Rule.Slice.PartMut.{put_mid}
use Rattle.algebra.specs.Texts.{never_byte}
use Rattle.texts.specs.Text.{used, Filled, length-used}
use Rattle.texts.specs.declared.text.Text.TheInside.{Inside}

-- bytes are written into the first unused places
module _ (x : Inside) (f : Filled x) (more ys : List ℕ) (e : ys ≡ more) (fits : x.len + length more ≤ 511) where
  abbrev pub grown : Inside
  grown = record { bytes = put_mid x.len (x.len + length more - x.len) x.bytes ys; len = x.len + length more }

  grown_used : used grown ≡ used x ++ more
  grown_used =
      take-put_mid x.len (x.len + length more - x.len) x.bytes ys (x.len + length more) (omega (arith, ap length e)) (omega (arith, f.sized, f.short))
      ∙ ap (λ (z : List ℕ). used x ++ z) e

  front : length (used grown) ≡ x.len + length more
  front = ap length grown_used ∙ length-append (used x) more ∙ ap (λ (n : ℕ). n + length more) (length-used x f)

  pub grown_filled : Filled grown
  grown_filled =
      let behind : drop grown.len grown.bytes ≡ replicate (511 - grown.len) never_byte =
      drop-put_mid x.len (x.len + length more - x.len) x.bytes ys (x.len + length more) (omega arith) (omega (arith, f.sized, f.short)) (omega (arith, ap length e))
      ∙ sym (drop-drop (length more) x.len x.bytes)
      ∙ ap (λ (l : List ℕ). drop (length more) l) f.filled
      ∙ drop-replicate (length more) (511 - x.len) never_byte
      ∙ ap (λ (n : ℕ). replicate n never_byte) (omega arith) in
      record {
        sized = omega (arith, front, length-take grown.len grown.bytes, ap length behind, length-drop grown.len grown.bytes, length-replicate (511 - grown.len) never_byte);
        short = fits;
        filled = behind;
      }
