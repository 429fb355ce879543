-- The rule sheet, as it is written: two texts in prefix form for each rule, over the letters X, Y and Z.
-- Assumes nothing.
use Rattle.std.specs.Prelude.{◌≡◌, ℕ, ◌-◌, Bool, true, false, cond, not, ◌&&◌, ◌||◌, List, [], ◌∷◌, map, length, codes, ◌==◌, slice_index_or}
use Prim.Native.String.{String}
use Rattle.algebra.specs.Terms.{Term, leaf, never, node}
use Rattle.algebra.specs.Texts.{token, terms, single, Read, end, bad, on}
use Rattle.algebra.specs.declared.Token.{Token}
use Rattle.algebra.specs.declared.Token.TheVariants.{Letter, Unknown}
use Rattle.algebra.specs.declared.Variable.{Variable}
use Rattle.algebra.specs.declared.Variable.TheVariants.{X, Y, Z}
use Rattle.algebra.specs.declared.Way.{Way}
use Rattle.algebra.specs.declared.Way.TheVariants.{Forward, Backward}

abbrev pub variable_byte : Variable → ℕ
variable_byte X = 88
variable_byte Y = 89
variable_byte Z = 90

abbrev pub variable_letter : ℕ → Token Variable
variable_letter b = cond (b == 88) (Letter X) (cond (b == 89) (Letter Y) (cond (b == 90) (Letter Z) Unknown))

abbrev pub read_side : String → Read Variable
read_side s = terms (token variable_letter) (codes s)

-- a rule as the sheet has it
pub record Line : Type 0 where
  pub left : String
  pub right : String

abbrev pub line : String → String → Line
line l r = record { left = l; right = r }

unfoldable pub lines : List Line
lines =
    line "+XY" "+YX" ∷ line "++XYZ" "+X+YZ" ∷
    line "+XX" "X" ∷ line "+XN" "X" ∷
    line "*XY" "*YX" ∷ line "**XYZ" "*X*YZ" ∷
    line "*XX" "X" ∷ line "*XN" "N" ∷
    line "*X+YZ" "+*XY*XZ" ∷ line "+X*XY" "X" ∷
    line "+X*YZ" "*+XY+XZ" ∷ line "[XY" "+<XY=XY" ∷
    line "=XY" "=YX" ∷ line "<XX" "N" ∷
    line "=XX" "X" ∷ line "<NX" "N" ∷
    line "<XN" "X" ∷ line "=XN" "N" ∷
    line "<+XYZ" "+<XZ<YZ" ∷ line "<*XYZ" "*<XZ<YZ" ∷
    line "<X+YZ" "*<XY<XZ" ∷ line "<X*YZ" "+<XY<XZ" ∷
    line "=X+YZ" "+*=XY[YZ*=XZ[ZY" ∷
    line "=X*YZ" "+*=XY[ZY*=XZ[YZ" ∷
    line "*XY" "++*Y<XY*X<YX=XY" ∷
    line "*<XY<YX" "N" ∷ line "*<XY=XY" "N" ∷
    line "*=XY=YZ" "*=XY=XZ" ∷ line "*<XY<YZ" "**<XY<YZ<XZ" ∷
    line "*<XY=XZ" "*=XZ<ZY" ∷ line "*<YX=XZ" "*<YZ=XZ" ∷
    line "<<XYZ" "*<XY<XZ" ∷ line "<X<YZ" "+<XY*X[ZY" ∷
    line "=<XYZ" "*<XY=XZ" ∷ line "==XYZ" "*=XY=XZ" ∷
    line "<=XYZ" "*=XY<XZ" ∷ line "<X=YZ" "+<XY+*X<YZ*X<ZY" ∷
    line "*X<XY" "<XY" ∷ line "+X<XY" "X" ∷
    line "*X=XY" "=XY" ∷ line "+X=XY" "X" ∷
    line "X" "++<XY=XY*X<YX" ∷ []

-- a rule as it is read: two terms over X, Y and Z
pub record Rule : Type 0 where
  pub left : Term Variable
  pub right : Term Variable

abbrev pub ruled : Line → Rule
ruled l = record { left = single (read_side l.left); right = single (read_side l.right) }

unfoldable pub sheet : List Rule
unfolding lines
sheet = map ruled lines

-- what stands for a rule where the sheet has none
abbrev pub no_rule : Rule
no_rule = record { left = never; right = never }

-- the rule of a number, counted from 1
abbrev pub numbered : ℕ → Rule
numbered n = slice_index_or sheet (n - 1) no_rule

-- the side that a step finds, and the side that it puts there
abbrev pub old_side : Way → Rule → Term Variable
old_side Forward r = r.left
old_side Backward r = r.right

abbrev pub new_side : Way → Rule → Term Variable
new_side Forward r = r.right
new_side Backward r = r.left

-- the letter stands in the side
abbrev pub has : Variable → Term Variable → Bool
has v (leaf u) = variable_byte v == variable_byte u
has v never = false
has v (node o l r) = has v l || has v r

-- a rule lacks the letters that its new side has and its old side has not
abbrev pub lacks : Way → Rule → Variable → Bool
lacks w r v = has v (new_side w r) && not (has v (old_side w r))

-- the bytes were read as one term and no more
abbrev pub one_term : {V : Type 0} → Read V → Bool
one_term end = false
one_term bad = false
one_term (on t end) = true
one_term (on t bad) = false
one_term (on t (on u s)) = false

abbrev pub all_read : List Line → Bool
all_read [] = true
all_read (l ∷ ls) = one_term (read_side l.left) && (one_term (read_side l.right) && all_read ls)

-- The sheet has 42 rules, and each side of each is one whole term.
pub record SheetStands : Type 0 where
  pub count : length sheet ≡ 42
  pub read : sheet ≡ map ruled lines
  pub whole : all_read lines ≡ true
