-- A text made, or too long.
-- Assumes nothing.
use Rattle.std.specs.Prelude.{◌≡◌, ℕ, ◌<◌, ◌≤◌, List, length, Ok, Err, Result}
use Rattle.texts.specs.declared.text.Text.{Text}
use Rattle.trees.specs.declared.refusal.TreeRefusal.{TreeRefusal}
use Rattle.trees.specs.declared.refusal.TreeRefusal.TheVariants.{TooLong}

abbrev pub Fit : Result Text TreeRefusal → List ℕ → Type 0
Fit (Ok x) w = (x ≡ w) × (length w ≤ 511)
Fit (Err e) w = (e ≡ TooLong) × (511 < length w)
