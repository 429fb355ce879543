-- Items written one after the other.
-- Assumes nothing.
use Rattle.std.proofs.Common.{◌≡◌, ℕ, zero, suc, ◌+◌, ◌≤◌, Bool, true, false, cond, ◌&&◌, ltb, List, [], ◌∷◌, ◌++◌, map, length, sym, refl, ap, ◌∙◌, inl, inr, append_assoc, add-one, arith, length-append}
use Rattle.std.proofs.lemmas.List.{map-append}
use Rattle.std.proofs.lemmas.Bool.{cases_lt}
use Rattle.sequences.specs.Rows.{listed, precedes, ties}
use Rattle.sequences.specs.declared.row.Row.{Row}
use Rattle.sequences.specs.declared.row.Factor.{Factor}
use Rattle.sequences.specs.declared.row.Factor.TheVariants.{Letter, Pair}
use Rattle.sequences.specs.declared.row.Sign.TheVariants.{Precedes, Ties}
use Rattle.sequences.specs.Lines.{gap, grown, spell, spelt, rest, line_of, sifted, paired, stands, line, items}

spelt_append : (acc : List ℕ) (fs gs : List Factor) → spelt acc (fs ++ gs) ≡ spelt (spelt acc fs) gs
spelt_append acc [] gs = refl
spelt_append acc (f ∷ fs) gs = spelt_append (grown acc f) fs gs

spelt_longer : (acc : List ℕ) (fs : List Factor) → length acc ≤ length (spelt acc fs)
spelt_longer acc [] = omega arith
spelt_longer acc (f ∷ fs) = omega (arith, spelt_longer (grown acc f) fs, length-append acc (gap acc ++ spell f))

-- one number more
sifted_next : (p : ℕ → Bool) (n : ℕ) (b : Bool) → p n ≡ b → sifted (n + 1) p ≡ sifted n p ++ cond b (n ∷ []) []
unfolding sifted
sifted_next p n b e = ap (λ (m : ℕ). sifted m p) (add-one n) ∙ ap (λ (c : Bool). sifted n p ++ cond c (n ∷ []) []) e

module _ (acc : List ℕ) (mk : ℕ → Factor) (p : ℕ → Bool) where
  -- the line with the items of the numbers below n that pass
  abbrev pub with_sifted : ℕ → List ℕ
  with_sifted n = spelt acc (map mk (sifted n p))

  pub sifted_none : acc ≡ with_sifted 0
  unfolding sifted
  sifted_none = refl

  next : (n : ℕ) (b : Bool) → p n ≡ b → with_sifted (n + 1) ≡ spelt (with_sifted n) (map mk (cond b (n ∷ []) []))
  next n b e =
      ap (λ (l : List ℕ). spelt acc (map mk l)) (sifted_next p n b e)
      ∙ ap (spelt acc) (map-append mk (sifted n p) (cond b (n ∷ []) []))
      ∙ spelt_append acc (map mk (sifted n p)) (map mk (cond b (n ∷ []) []))

  pub sifted_put : (n : ℕ) → p n ≡ true → with_sifted (n + 1) ≡ grown (with_sifted n) (mk n)
  sifted_put n e = next n true e

  pub sifted_pass : (n : ℕ) → p n ≡ false → with_sifted (n + 1) ≡ with_sifted n
  sifted_pass n e = next n false e

  pub sifted_longer : (k n : ℕ) → k ≤ n → length (with_sifted k) ≤ length (with_sifted n)
  sifted_longer k zero h = let e : k ≡ 0 = omega arith in omega (arith, ap (λ (m : ℕ). length (with_sifted m)) e)
  sifted_longer k (suc n) h =
      elim (cases_lt k (suc n)) [
        | inl l ↦ omega (arith, sifted_longer k n (omega arith), ap length (next n (p n) refl), ap (λ (m : ℕ). length (with_sifted m)) (add-one n), spelt_longer (with_sifted n) (map mk (cond (p n) (n ∷ []) [])))
        | inr l ↦ let e : k ≡ suc n = omega arith in omega (arith, ap (λ (m : ℕ). length (with_sifted m)) e)
      ]

module _ (acc : List ℕ) (mk : ℕ → ℕ → Factor) (p : ℕ → ℕ → Bool) where
  -- the line with the pairs whose first letter is below n
  abbrev pub with_paired : ℕ → List ℕ
  with_paired n = spelt acc (paired mk n p)

  pub paired_none : acc ≡ with_paired 0
  unfolding paired
  paired_none = refl

  pub paired_next : (n : ℕ) → with_paired (n + 1) ≡ with_sifted (with_paired n) (mk n) (p n) 24
  unfolding paired
  paired_next n =
      ap (λ (m : ℕ). spelt acc (paired mk m p)) (add-one n) ∙ spelt_append acc (paired mk n p) (map (mk n) (sifted 24 (p n)))

  pub paired_longer : (k n : ℕ) → k ≤ n → length (with_paired k) ≤ length (with_paired n)
  paired_longer k zero h = let e : k ≡ 0 = omega arith in omega (arith, ap (λ (m : ℕ). length (with_paired m)) e)
  paired_longer k (suc n) h =
      elim (cases_lt k (suc n)) [
        | inl l ↦ omega (arith, paired_longer k n (omega arith), ap length (paired_next n), ap (λ (m : ℕ). length (with_paired m)) (add-one n), spelt_longer (with_paired n) (map (mk n) (sifted 24 (p n))))
        | inr l ↦ let e : k ≡ suc n = omega arith in omega (arith, ap (λ (m : ℕ). length (with_paired m)) e)
      ]

-- the whole line
gap_some : (acc : List ℕ) → suc zero ≤ length acc → gap acc ≡ 32 ∷ []
gap_some [] h = absurd (omega arith)
gap_some (x ∷ acc) h = refl

rest_spelt : (acc : List ℕ) → suc zero ≤ length acc → (fs : List Factor) → spelt acc fs ++ (10 ∷ []) ≡ acc ++ rest fs
rest_spelt acc h [] = refl
rest_spelt acc h (f ∷ fs) =
    rest_spelt (grown acc f) (omega (arith, length-append acc (gap acc ++ spell f))) fs
    ∙ append_assoc acc (gap acc ++ spell f) (rest fs)
    ∙ ap (λ (t : List ℕ). acc ++ ((t ++ spell f) ++ rest fs)) (gap_some acc h)

spell_long : (f : Factor) → suc zero ≤ length (spell f)
spell_long (Letter v) = omega arith
spell_long (Pair Precedes v w) = omega arith
spell_long (Pair Ties v w) = omega arith

line_spelt : (fs : List Factor) → spelt [] fs ++ (10 ∷ []) ≡ line_of fs
line_spelt [] = refl
line_spelt (f ∷ fs) = rest_spelt (spell f) (spell_long f) fs

-- what is written of a row, step by step
module _ (r : Row) where
  abbrev with_letters : List ℕ → List ℕ
  with_letters acc = with_sifted acc Letter (λ v. listed r v) 24

  abbrev with_less : List ℕ → List ℕ
  with_less acc = with_paired acc (Pair Precedes) (λ v w. stands Precedes r v w) 24

  abbrev with_ties : List ℕ → List ℕ
  with_ties acc = with_paired acc (Pair Ties) (λ v w. stands Ties r v w) 24

  whole : with_ties (with_less (with_letters [])) ++ 10 ∷ [] ≡ line r
  whole =
      ap (λ (l : List ℕ). l ++ (10 ∷ []))
      (sym (spelt_append [] (map Letter (sifted 24 (λ v. listed r v))) (paired (Pair Precedes) 24 (λ v w. precedes r v w) ++ paired (Pair Ties) 24 (λ v w. ties r v w && ltb v w))
      ∙ spelt_append (with_letters []) (paired (Pair Precedes) 24 (λ v w. precedes r v w)) (paired (Pair Ties) 24 (λ v w. ties r v w && ltb v w))))
      ∙ line_spelt (items r)

  pub line_ends : (a b c d : List ℕ) → a ≡ [] → b ≡ with_letters a → c ≡ with_less b → d ≡ with_ties c → d ++ 10 ∷ [] ≡ line r
  line_ends a b c d e f g h =
      ap (λ (l : List ℕ). l ++ (10 ∷ [])) (h ∙ ap with_ties (g ∙ ap with_less (f ∙ ap with_letters e))) ∙ whole

  module _ (fits : length (line r) ≤ 512) where
    pub line_fits : (a b c d : List ℕ) → a ≡ [] → b ≡ with_letters a → c ≡ with_less b → d ≡ with_ties c → suc (length d) ≤ 512
    line_fits a b c d e f g h = omega (arith, ap length (line_ends a b c d e f g h), length-append d (10 ∷ []))

    pub ties_fit : (a b c : List ℕ) → a ≡ [] → b ≡ with_letters a → c ≡ with_less b → length (with_ties c) ≤ 512
    ties_fit a b c e f g = omega (arith, line_fits a b c (with_ties c) e f g refl)

    pub less_fit : (a b : List ℕ) → a ≡ [] → b ≡ with_letters a → length (with_less b) ≤ 512
    less_fit a b e f =
        omega (arith, ties_fit a b (with_less b) e f refl, spelt_longer (with_less b) (paired (Pair Ties) 24 (λ v w. stands Ties r v w)))

    pub letters_fit : (a : List ℕ) → a ≡ [] → length (with_letters a) ≤ 512
    letters_fit a e =
        omega (arith, less_fit a (with_letters a) e refl, spelt_longer (with_letters a) (paired (Pair Precedes) 24 (λ v w. stands Precedes r v w)))
