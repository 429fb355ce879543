-- The number of each refusal of a tree.
-- Assumes nothing.
use Rattle.std.specs.Prelude.{◌≡◌, ℕ, cond, ◌==◌}
use Rattle.std.proofs.Common.{sym, refl, ap, ◌∙◌}
use Rattle.trees.specs.declared.refusal.TreeRefusal.{TreeRefusal}
use Rattle.trees.specs.declared.refusal.TreeRefusal.TheVariants.{Form, Counts, Input, Dependent, TooLong, NoSource}

abbrev pub tree_code : TreeRefusal → ℕ
tree_code Form = 1
tree_code Counts = 2
tree_code Input = 3
tree_code Dependent = 4
tree_code TooLong = 5
tree_code NoSource = 6

-- the refusal of a number
abbrev refusal_of : ℕ → TreeRefusal
refusal_of n =
    cond (n == 1) Form (cond (n == 2) Counts (cond (n == 3) Input (cond (n == 4) Dependent (cond (n == 5) TooLong NoSource))))

given_back : (e : TreeRefusal) → refusal_of (tree_code e) ≡ e
given_back Form = refl
given_back Counts = refl
given_back Input = refl
given_back Dependent = refl
given_back TooLong = refl
given_back NoSource = refl

-- no two refusals have one number
pub tree_codes_differ : (e f : TreeRefusal) → tree_code e ≡ tree_code f → e ≡ f
tree_codes_differ e f h = sym (given_back e) ∙ ap refusal_of h ∙ given_back f
