-- Where the dates of the letters are linked, so are those of rows and tables; and so numbers speak for tables too.
-- Assumes nothing.
use Rattle.std.proofs.Common.{◌≡◌, ℕ, zero, suc, Bool, true, false, cond, not, ◌&&◌, T, List, [], ◌∷◌, Some, None, Option, sym, subst}
use Rattle.algebra.specs.Kinds.{Kind}
use Rattle.algebra.specs.Links.{Link}
use Rattle.algebra.specs.Ranks.{ranks}
use Rattle.algebra.specs.Terms.{dating_of}
use Rattle.algebra.specs.Texts.{term_of}
use Rattle.algebra.specs.declared.Operator.TheVariants.{Or, And}
use Rattle.algebra.proofs.Links.{joined_linked, linked, either}
use Rattle.algebra.proofs.Numbers.{pool, ranked, pool_link}
use Rattle.algebra.proofs.Ranks.{rank, Ranked}
use Rattle.sequences.specs.Dates.{asked, meets, later, latest, or_never, counts, row_date, table_date}
use Rattle.sequences.specs.Rows.{precedes, ties}
use Rattle.sequences.specs.Walks.{all}
use Rattle.sequences.specs.declared.row.Row.{Row}
use Rattle.derivation.specs.Dating.{TablesSpeak}

module _ {D E : Type 0} (K : Kind D) (L : Kind E) (R : D → E → Type 0) (link : Link K L R) (d : ℕ → D) (e : ℕ → E) (each : (v : ℕ) → R (d v) (e v)) where
  same_order : (v w : ℕ) → K.no_later (d v) (d w) ≡ L.no_later (e v) (e w)
  same_order v w = link.orders (d v) (e v) (d w) (e w) (each v) (each w)

  same_meets : (r : Row) → meets K d r ≡ meets L e r
  same_meets r i = all 24 (λ v. all 24 (λ w. asked (precedes r v w) (not (same_order w v i)) && asked (ties r v w) (same_order v w i && same_order w v i)))

  abbrev Both : Option D → Option E → Type 0
  Both None None = Unit {0}
  Both None (Some q) = ⊥
  Both (Some p) None = ⊥
  Both (Some p) (Some q) = R p q

  both_later : (a : Option D) (b : Option E) → Both a b → (v : ℕ) → Both (later K a (d v)) (later L b (e v))
  both_later None None h v = each v
  both_later None (Some q) h v = absurd h
  both_later (Some p) None h v = absurd h
  both_later (Some p) (Some q) h v = joined_linked K L R link And p q (d v) (e v) h (each v)

  both_cond : (b : Bool) (x y : Option D) (x' y' : Option E) → Both x x' → Both y y' → Both (cond b x y) (cond b x' y')
  both_cond true x y x' y' h k = h
  both_cond false x y x' y' h k = k

  both_latest : (p : ℕ → Bool) (n : ℕ) → Both (latest K d p n) (latest L e p n)
  unfolding latest
  both_latest p zero = tt
  both_latest p (suc n) =
      let a = latest K d p n in
      let b = latest L e p n in
      both_cond (p n) (later K a (d n)) a (later L b (e n)) b (both_later a b (both_latest p n) n) (both_latest p n)

  both_never : (a : Option D) (b : Option E) → Both a b → R (or_never K a) (or_never L b)
  both_never None None h = link.nevers
  both_never None (Some q) h = absurd h
  both_never (Some p) None h = absurd h
  both_never (Some p) (Some q) h = h

  row_linked : (r : Row) → R (row_date K d r) (row_date L e r)
  row_linked r = either R (meets K d r) (meets L e r) (same_meets r) _ _ _ _ (both_never (latest K d (counts r) 24) (latest L e (counts r) 24) (both_latest (counts r) 24)) link.nevers

  pub table_linked : (rows : List Row) → R (table_date K d rows) (table_date L e rows)
  table_linked [] = link.nevers
  table_linked (r ∷ rows) = joined_linked K L R link Or _ _ _ _ (row_linked r) (table_linked rows)

pub tables_speak : {D : Type 0} (K : Kind D) (ds : List D) → TablesSpeak K ds
tables_speak K ds text rows same =
    let link = pool_link K ds in
    let d = dating_of K ds in
    let e : ℕ → ℕ = λ v. rank K (pool K ds) (d v) in
    let a = linked K ranks (Ranked K (pool K ds)) link d e (ranked K ds) (term_of text) in
    let b = table_linked K ranks (Ranked K (pool K ds)) link d e (ranked K ds) rows in
    let h = same ranks e in
    record {
      fore = subst T (sym (link.orders _ _ _ _ a b)) h.fore;
      back = subst T (sym (link.orders _ _ _ _ b a)) h.back;
    }
