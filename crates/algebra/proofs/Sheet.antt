-- Ranks decide, and so each rule of the sheet keeps dates: by one test over the sheet, which antt computes.
-- Assumes nothing.
use Rattle.std.proofs.Common.{ℕ, zero, suc, ◌-◌, ◌<◌, Bool, true, false, ◌&&◌, T, eqb, List, [], ◌∷◌, get_or, sym, refl, subst, arith, le→leb, eqb→eq}
use Rattle.algebra.specs.Kinds.{Kind, Same}
use Rattle.algebra.specs.Links.{Link}
use Rattle.algebra.specs.Ranks.{ranks, given, SameByRanks, RanksDecide}
use Rattle.algebra.specs.Terms.{Term, date, inst}
use Rattle.algebra.specs.Rules.{Rule, no_rule, sheet, lines, numbered, SheetStands}
use Rattle.algebra.specs.Steps.{Keeps, SheetKeeps}
use Rattle.algebra.specs.declared.Variable.{Variable}
use Rattle.algebra.specs.declared.Variable.TheVariants.{X, Y, Z}
use Rattle.algebra.proofs.Links.{linked, date_inst}
use Rattle.algebra.proofs.Ranks.{rank, Placed, here, there, Ranked, ranks_link}

-- the ranks of three dates, among themselves and never
module _ {D : Type 0} (K : Kind D) (d : Variable → D) where
  abbrev pool : List D
  pool = K.never ∷ d X ∷ d Y ∷ d Z ∷ []

  abbrev ranked : Variable → ℕ
  ranked = given (rank K pool (d X)) (rank K pool (d Y)) (rank K pool (d Z))

  placed : (v : Variable) → Placed K pool (d v)
  placed X = there K _ _ _ (here K _ _)
  placed Y = there K _ _ _ (there K _ _ _ (here K _ _))
  placed Z = there K _ _ _ (there K _ _ _ (there K _ _ _ (here K _ _)))

  each : (v : Variable) → Ranked K pool (d v) (ranked v)
  each X = record { is = refl; placed = placed X }
  each Y = record { is = refl; placed = placed Y }
  each Z = record { is = refl; placed = placed Z }

  pool_link : Link K ranks (Ranked K pool)
  pool_link = ranks_link K pool (here K _ _)

  same_by_ranks : (s t : Term Variable) → SameByRanks s t → Same K (date K d s) (date K d t)
  same_by_ranks s t same =
      let a = linked K ranks (Ranked K pool) pool_link d ranked each s in
      let b = linked K ranks (Ranked K pool) pool_link d ranked each t in
      let e = same (rank K pool (d X)) (rank K pool (d Y)) (rank K pool (d Z)) (placed X).small (placed Y).small (placed Z).small in
      record {
        fore = subst T (sym (pool_link.orders _ _ _ _ a b)) (le→leb _ _ (omega arith));
        back = subst T (sym (pool_link.orders _ _ _ _ b a)) (le→leb _ _ (omega arith));
      }

pub ranks_decide : {D : Type 0} (K : Kind D) → RanksDecide K
ranks_decide K s t same d = same_by_ranks K d s t same

-- the test
and_left : (a b : Bool) → T (a && b) → T a
and_left true b t = tt
and_left false b t = t

and_right : (a b : Bool) → T (a && b) → T b
and_right true b t = t
and_right false b t = absurd t

-- a test passes at each of the four ranks
abbrev four : (ℕ → Bool) → Bool
four f = f 0 && (f 1 && (f 2 && f 3))

four_at : (f : ℕ → Bool) → T (four f) → (n : ℕ) → n < 4 → T (f n)
four_at f t zero h = and_left (f 0) _ t
four_at f t (suc zero) h = and_left (f 1) (f 2 && f 3) (and_right (f 0) _ t)
four_at f t (suc (suc zero)) h = and_left (f 2) (f 3) (and_right (f 1) _ (and_right (f 0) _ t))
four_at f t (suc (suc (suc zero))) h = and_right (f 2) _ (and_right (f 1) _ (and_right (f 0) _ t))
four_at f t (suc (suc (suc (suc n)))) h = absurd (omega arith)

abbrev agree : Rule → ℕ → ℕ → ℕ → Bool
agree r a b c = eqb (date ranks (given a b c) r.left) (date ranks (given a b c) r.right)

abbrev pub passes : Rule → Bool
passes r = four (λ a. four (λ b. four (agree r a b)))

pub passes_same : (r : Rule) → T (passes r) → SameByRanks r.left r.right
passes_same r t a b c i j k =
    eqb→eq _ _ (four_at (agree r a b) (four_at (λ y. four (agree r a y)) (four_at (λ x. four (λ y. four (agree r x y))) t a i) b j) c k)

abbrev every : List Rule → Bool
every [] = true
every (r ∷ rs) = passes r && every rs

every_at : (rs : List Rule) → T (every rs) → (k : ℕ) → T (passes (get_or rs k no_rule))
every_at [] t k = tt
every_at (r ∷ rs) t zero = and_left _ _ t
every_at (r ∷ rs) t (suc k) = every_at rs (and_right _ _ t) k

sheet_passes : T (every sheet)
unfolding sheet
sheet_passes = tt

-- a rule that passes the test keeps dates
pub passes_keeps : {D : Type 0} (K : Kind D) (r : Rule) → T (passes r) → Keeps K r
passes_keeps K r t d σ =
    let same = ranks_decide K r.left r.right (passes_same r t) (λ v. date K d (σ v)) in
    subst (λ p. Same K p (date K d (inst σ r.right))) (sym (date_inst K d σ r.left))
    (subst (λ p. Same K (date K (λ v. date K d (σ v)) r.left) p) (sym (date_inst K d σ r.right)) same)

pub sheet_keeps : {D : Type 0} (K : Kind D) → SheetKeeps K
sheet_keeps K n low high = passes_keeps K (numbered n) (every_at sheet sheet_passes (n - 1))

pub sheet_stands : SheetStands
unfolding sheet lines
sheet_stands = record { count = refl; read = refl; whole = refl }
