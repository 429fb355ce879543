-- The sheet in code is the sheet: by one test over both tables, which antt computes.
-- Assumes nothing.
use Rattle.std.proofs.Common.{◌≡◌, ℕ, ◌-◌, ◌<◌, ◌≤◌, List, [], map, length, get_or, sym, ap, ◌∙◌, arith}
use Rattle.std.proofs.lemmas.List.{get_or-map}
use Rattle.algebra.specs.Rules as algebra
use Rattle.algebra.specs.Rules.{lines, sheet, no_rule, numbered}
use Rattle.steps.specs.Sides.{side_text}
use Rattle.steps.specs.declared.rules.Rule.{Rule}

-- a side of a rule in a table
pub left_of : (rs : List Rule) (n : ℕ) (d : Rule) → n < length rs → (get_or rs n d).left.now ≡ get_or (map (λ (r : Rule). r.left.now) rs) n []
left_of rs n d h = sym (get_or-map (λ (r : Rule). r.left.now) rs n d [] h)

pub right_of : (rs : List Rule) (n : ℕ) (d : Rule) → n < length rs → (get_or rs n d).right.now ≡ get_or (map (λ (r : Rule). r.right.now) rs) n []
right_of rs n d h = sym (get_or-map (λ (r : Rule). r.right.now) rs n d [] h)

pub sheet_left : (n : ℕ) → n < 42 → get_or (map (λ (r : algebra.Rule). side_text r.left) sheet) n [] ≡ side_text (get_or sheet n no_rule).left
unfolding sheet lines
sheet_left n h = get_or-map (λ (r : algebra.Rule). side_text r.left) sheet n no_rule [] h

pub sheet_right : (n : ℕ) → n < 42 → get_or (map (λ (r : algebra.Rule). side_text r.right) sheet) n [] ≡ side_text (get_or sheet n no_rule).right
unfolding sheet lines
sheet_right n h = get_or-map (λ (r : algebra.Rule). side_text r.right) sheet n no_rule [] h

-- the sides of a rule, by a number that is that of the rule
module _ (n m : ℕ) (is : n ≡ m) (one : (1 ≤ m) × (m ≤ 42)) where
  pub left_at : get_or (map (λ (r : algebra.Rule). side_text r.left) sheet) (n - 1) [] ≡ side_text (numbered m).left
  left_at = sheet_left (n - 1) (omega arith) ∙ ap (λ (k : ℕ). side_text (get_or sheet (k - 1) no_rule).left) is

  pub right_at : get_or (map (λ (r : algebra.Rule). side_text r.right) sheet) (n - 1) [] ≡ side_text (numbered m).right
  right_at = sheet_right (n - 1) (omega arith) ∙ ap (λ (k : ℕ). side_text (get_or sheet (k - 1) no_rule).right) is
