-- The dates of a list, as numbers: kinds whose dates are numbers speak for every kind.
-- Assumes nothing.
use Rattle.std.proofs.Common.{ℕ, zero, suc, T, List, [], ◌∷◌, ◌++◌, sym, refl, subst}
use Rattle.algebra.specs.Kinds.{Kind}
use Rattle.algebra.specs.Links.{Link, NumbersSpeak}
use Rattle.algebra.specs.Ranks.{ranks}
use Rattle.algebra.specs.Terms.{dating_of}
use Rattle.algebra.specs.Texts.{term_of}
use Rattle.algebra.proofs.Links.{linked}
use Rattle.algebra.proofs.Ranks.{rank, Placed, here, there, Ranked, ranks_link}

module _ {D : Type 0} (K : Kind D) where
  abbrev pub pool : List D → List D
  pool ds = ds ++ (K.never ∷ [])

  placed : (ds : List D) (v : ℕ) → Placed K (pool ds) (dating_of K ds v)
  placed [] v = here K K.never []
  placed (x ∷ ds) zero = here K x (pool ds)
  placed (x ∷ ds) (suc v) = there K x _ (pool ds) (placed ds v)

  last : (ds : List D) → Placed K (pool ds) K.never
  last [] = here K K.never []
  last (x ∷ ds) = there K x _ (pool ds) (last ds)

  -- each date of the dating is linked to its rank
  pub pool_link : (ds : List D) → Link K ranks (Ranked K (pool ds))
  pool_link ds = ranks_link K (pool ds) (last ds)

  pub ranked : (ds : List D) (v : ℕ) → Ranked K (pool ds) (dating_of K ds v) (rank K (pool ds) (dating_of K ds v))
  ranked ds v = record { is = refl; placed = placed ds v }

  pub numbers_speak : (ds : List D) → NumbersSpeak K ds
  numbers_speak ds s t same =
      let link = pool_link ds in
      let d = dating_of K ds in
      let e : ℕ → ℕ = λ v. rank K (pool ds) (d v) in
      let a = linked K ranks (Ranked K (pool ds)) link d e (ranked ds) (term_of s) in
      let b = linked K ranks (Ranked K (pool ds)) link d e (ranked ds) (term_of t) in
      let h = same ranks e in
      record {
        fore = subst T (sym (link.orders _ _ _ _ a b)) h.fore;
        back = subst T (sym (link.orders _ _ _ _ b a)) h.back;
      }
