-- Whether a set has a letter, the latest date, and the date at a place.
-- Assumes nothing.
use Rattle.std.proofs.Common.{◌≡◌, ℕ, zero, suc, ◌+◌, ◌-◌, ◌/◌, ◌%◌, ◌^◌, ◌<◌, ◌≤◌, Bool, true, false, cond, not, T, eqb, List, [], ◌∷◌, ◌++◌, map, Some, Option, bit_and, sym, refl, ap, ◌∙◌, subst, inl, inr, add-one, zero-add, arith, eqb→eq, T_not}
use mathlib.Core.List.{map-id, map-append, append-nil}
use native.Mathlib.Nat.{div-eq_of_lt}
use Rattle.std.specs.List.{filter, range_with_len, reduce}
use Rattle.std.proofs.Math.Pow.{mod-mod-pow}
use Rattle.std.proofs.lemmas.Nat.{and_mask, field_of, pow_below}
use Rattle.std.proofs.lemmas.List.FromFn.{filter_of_map_range_with_len_more}
use Rattle.std.proofs.lemmas.List.Sums.{fold-append}
use lib.Dec.{not_T}
use Rattle.std.proofs.lemmas.Bool.{cases_Bool, cases_lt, ne_eqb}
use Rattle.algebra.specs.Kinds.{Kind}
use Rattle.algebra.specs.Terms.{joined}
use Rattle.algebra.specs.declared.Operator.TheVariants.{And}
use Rattle.algebra.proofs.Tests.{bool_ext}
use Rattle.sequences.specs.Dates.{later, latest}
use Rattle.sequences.specs.Masks.{has}
use Rattle.sequences.specs.Walks.{any}
use Rattle.sequences.proofs.Bits.{has_none}
use Rattle.sequences.proofs.Tell.{has_ext}
use Rattle.sequences.proofs.Tests.{any_in, any_out, is_T, not_T_is, T_not_false}

-- the bits of the 24 letters alone
abbrev low : ℕ → ℕ
low m = bit_and m 16777215

low_mod : (m : ℕ) → low m ≡ m % 2 ^ 24
low_mod m = and_mask m 24

low_has : (m w : ℕ) → w < 24 → has (low m) w ≡ has m w
unfolding has
low_has m w h =
    let j : ℕ = 23 - w in
    let e : 24 ≡ (j + 1) + w = omega arith in
    ap (λ (n : ℕ). eqb (n / 2 ^ w % 2) 1) (low_mod m ∙ ap (λ (k : ℕ). m % 2 ^ k) e)
    ∙ ap (λ (n : ℕ). eqb (n % 2) 1) (field_of m (j + 1) w) ∙ ap (λ (n : ℕ). eqb n 1) (mod-mod-pow (m / 2 ^ w) j 1)

pow_grows : (w : ℕ) → 24 ≤ w → 2 ^ 24 ≤ 2 ^ w
pow_grows w h =
    elim (cases_lt 24 w) [
      | inl l ↦ omega (arith, pow_below 24 w l)
      | inr g ↦ let e : w ≡ 24 = omega arith in subst (λ (n : ℕ). 2 ^ 24 ≤ 2 ^ n) (sym e) (omega arith)
    ]

low_past : (m w : ℕ) → T (has (low m) w) → w < 24
unfolding has
low_past m w t =
    elim (cases_lt w 24) [
      | inl h ↦ h
      | inr h ↦
          let small : low m < 2 ^ w = omega (arith, low_mod m, pow_grows w h) in
          let z : low m / 2 ^ w ≡ 0 = div-eq_of_lt small in
          absurd (T_not_false (eqb (low m / 2 ^ w % 2) 1) (ne_eqb _ 1 (λ q. omega arith)) t)
    ]

-- whether one of the 24 letters is in a set
pub set_some : (m : ℕ) → not (eqb (low m) 0) ≡ any 24 (λ w. has m w)
set_some m = bool_ext (not (eqb (low m) 0)) (any 24 (λ w. has m w)) fore back
  where
    fore : T (not (eqb (low m) 0)) → T (any 24 (λ w. has m w))
    fore n =
        elim (cases_Bool (any 24 (λ w. has m w))) [
          | inl e ↦ is_T _ e
          | inr e ↦
              let lacks : (w : ℕ) → has (low m) w ≡ has 0 w =
              λ w. not_T_is (has (low m) w)
              (λ t. let h = low_past m w t in T_not_false _ e (any_in 24 (λ w. has m w) w h (subst T (low_has m w h) t)))
              ∙ sym (has_none w) in
              let z : low m ≡ 0 = has_ext (low m) (low m) 0 (omega arith) (omega arith) lacks in
              absurd (T_not (eqb (low m) 0) n (subst (λ (k : ℕ). T (eqb k 0)) (sym z) tt))
        ]

    back : T (any 24 (λ w. has m w)) → T (not (eqb (low m) 0))
    back t =
        let k = any_out 24 (λ w. has m w) t in
        let there : T (has (low m) k.0) = subst T (sym (low_has m k.0 k.1)) k.2 in
        not_T (eqb (low m) 0) (λ q. T_not_false _ (has_none k.0) (subst (λ (n : ℕ). T (has n k.0)) (eqb→eq (low m) 0 q) there))

-- the latest date, as what `reduce` makes of the dates of the letters that p names
module _ {D : Type 0} (K : Kind D) (d : ℕ → D) (p : ℕ → Bool) where
  abbrev last : List D → Option D
  last = reduce (joined K And)

  abbrev dates : ℕ → List D
  dates n = map d (filter p (map (λ k. k) (range_with_len 0 n)))

  last_more : (xs : List D) (y : D) → last (xs ++ y ∷ []) ≡ later K (last xs) y
  last_more [] y = refl
  last_more (x ∷ xs) y = ap Some (fold-append (joined K And) x xs (y ∷ []))

  dates_more : (n : ℕ) → dates (suc n) ≡ dates n ++ map d (cond (p n) (n ∷ []) [])
  dates_more n =
      ap dates (sym (add-one n)) ∙ ap (map d) (filter_of_map_range_with_len_more p (λ k. k) 0 n n (zero-add n))
      ∙ map-append d (filter p (map (λ k. k) (range_with_len 0 n))) (cond (p n) (n ∷ []) [])

  latest_is : (n : ℕ) → last (dates n) ≡ latest K d p n
  unfolding latest
  latest_is zero = refl
  latest_is (suc n) =
      ap last (dates_more n)
      ∙ elim (p n) as (λ b. last (dates n ++ map d (cond b (n ∷ []) [])) ≡ cond b (later K (latest K d p n) (d n)) (latest K d p n)) [
        | true ↦ last_more (dates n) (d n) ∙ ap (λ (o : Option D). later K o (d n)) (latest_is n)
        | false ↦ ap last (append-nil (dates n)) ∙ latest_is n
      ]

  pub latest_by : (r : Option D) (n : ℕ) → r ≡ last (map d (filter p (range_with_len 0 n))) → r ≡ latest K d p n
  latest_by r n e = e ∙ ap (λ (l : List ℕ). last (map d (filter p l))) (sym (map-id (range_with_len 0 n))) ∙ latest_is n
