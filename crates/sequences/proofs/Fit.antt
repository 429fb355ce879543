-- The row of a sequence has a line that is at most one byte longer than the sequence's text.
-- Assumes nothing.
use Rattle.std.proofs.Common.{◌≡◌, ℕ, zero, suc, ◌+◌, ◌*◌, ◌<◌, ◌≤◌, Bool, true, false, cond, ◌&&◌, T, ltb, ◌⊎◌, List, [], ◌∷◌, ◌++◌, map, length, sym, refl, ap, ◌∙◌, subst, ap₂, inl, inr, mul-add, arith, ltb→lt, length-append}
use mathlib.Core.Option.{Option, none, some}
use Rattle.std.proofs.lemmas.List.{map-append}
use Rattle.std.proofs.lemmas.Bool.{cases_eq, cases_lt}
use Rattle.algebra.specs.Terms.{Term, leaf, never, node}
use Rattle.algebra.specs.declared.Operator.{Operator}
use Rattle.algebra.specs.declared.Operator.TheVariants.{Or, And, Before, Simultaneous, Inclusive}
use Rattle.algebra.specs.Texts.{text_of}
use Rattle.sequences.specs.Rows.{Fitting, entered, blank, listed, precedes, ties}
use Rattle.sequences.specs.Walks.{Sound}
use Rattle.sequences.specs.Sequences.{letter_of, single, factor_of, enter_of, onto, row_of}
use Rattle.sequences.specs.declared.row.Row.{Row}
use Rattle.sequences.specs.declared.row.Factor.{Factor}
use Rattle.sequences.specs.declared.row.Sign.TheVariants.{Precedes, Ties}
use Rattle.sequences.specs.declared.row.Factor.TheVariants.{Letter, Pair}
use Rattle.sequences.proofs.Tests.{and_in, and_out, not_T_is}
use Rattle.sequences.proofs.Entered.{bit_out, pair_out, tie_out, blank_sound, blank_listed, blank_precedes, blank_ties, entered_sound}
use Rattle.sequences.proofs.Tallies.{grid, one, one_mono, one_small, tally, tally_most}
use Rattle.sequences.proofs.Tables.{some_same, none_some, IsLetter, pair_of_lem, factor_of_lem}
use Rattle.sequences.specs.Lines.{sifted, paired, items, spell, rest, line_of, LinesFit}

or_else : {A B : Type 0} → A ⊎ B → (B → ⊥) → A
or_else (inl a) n = a
or_else (inr b) n = absurd (n b)

tally_step : (p q : ℕ → Bool) (j : ℕ) → ((k : ℕ) → T (q k) → T (p k) ⊎ (k ≡ j)) → (n : ℕ) → tally n q ≤ tally n p + 1
unfolding tally
tally_step p q j f zero = omega arith
tally_step p q j f (suc n) =
    elim (cases_eq n j) [
      | inl e ↦ omega (arith, tally_most p q n (λ k h t. or_else (f k t) (λ i. omega arith)), one_small (q n))
      | inr d ↦ omega (arith, tally_step p q j f n, one_mono (q n) (p n) (λ t. or_else (f n t) d))
    ]

grid_none : (p q : ℕ → ℕ → Bool) (n : ℕ) → ((v w : ℕ) → v < n → T (q v w) → T (p v w)) → grid n q ≤ grid n p
unfolding grid
grid_none p q zero f = omega arith
grid_none p q (suc n) f =
    omega (arith, grid_none p q n (λ v w h. f v w (omega arith)), tally_most (p n) (q n) 24 (λ w h. f n w (omega arith)))

grid_step : (p q : ℕ → ℕ → Bool) (i j : ℕ) → ((v w : ℕ) → T (q v w) → T (p v w) ⊎ ((v ≡ i) × (w ≡ j))) → (n : ℕ) → grid n q ≤ grid n p + 1
unfolding grid
grid_step p q i j f zero = omega arith
grid_step p q i j f (suc n) =
    elim (cases_eq n i) [
      | inl e ↦ omega (
        arith,
        grid_none p q n (λ v w h t. or_else (f v w t) (λ k. omega (arith, k.0))),
        tally_step (p n) (q n) j (λ w t. elim (f n w t) [ inl a ↦ inl a | inr k ↦ inr k.1 ]) 24,
      )
      | inr d ↦ omega (arith, grid_step p q i j f n, tally_most (p n) (q n) 24 (λ w h t. or_else (f n w t) (λ k. d k.0)))
    ]

-- the bytes of items, each with the byte after it
abbrev pub total : List Factor → ℕ
total [] = 0
total (f ∷ fs) = length (spell f) + 1 + total fs

total_append : (fs gs : List Factor) → total (fs ++ gs) ≡ total fs + total gs
total_append [] gs = omega arith
total_append (f ∷ fs) gs = omega (arith, total_append fs gs)

rest_length : (fs : List Factor) → length (rest fs) ≡ total fs + 1
rest_length [] = refl
rest_length (f ∷ fs) = omega (arith, length-append (spell f) (rest fs), rest_length fs)

line_length : (fs : List Factor) (n : ℕ) → total fs ≤ n + 1 → length (line_of fs) ≤ n + 1
line_length [] n h = omega arith
line_length (f ∷ fs) n h = omega (arith, length-append (spell f) (rest fs), rest_length fs)

total_one : (mk : ℕ → Factor) (c : ℕ) → ((v : ℕ) → length (spell (mk v)) + 1 ≡ c) → (b : Bool) (n : ℕ) → total (map mk (cond b (n ∷ []) [])) ≡ c * one b
total_one mk c e true n = omega (arith, e n)
total_one mk c e false n = omega arith

total_sifted : (mk : ℕ → Factor) (c : ℕ) → ((v : ℕ) → length (spell (mk v)) + 1 ≡ c) → (p : ℕ → Bool) (n : ℕ) → total (map mk (sifted n p)) ≡ c * tally n p
unfolding sifted tally
total_sifted mk c e p zero = omega arith
total_sifted mk c e p (suc n) =
    ap total (map-append mk (sifted n p) (cond (p n) (n ∷ []) [])) ∙ total_append (map mk (sifted n p)) _
    ∙ ap₂ ◌+◌ (total_sifted mk c e p n) (total_one mk c e (p n) n) ∙ sym (mul-add c (tally n p) (one (p n)))

total_paired : (mk : ℕ → ℕ → Factor) (c : ℕ) → ((v w : ℕ) → length (spell (mk v w)) + 1 ≡ c) → (p : ℕ → ℕ → Bool) (n : ℕ) → total (paired mk n p) ≡ c * grid n p
unfolding paired grid
total_paired mk c e p zero = omega arith
total_paired mk c e p (suc n) =
    total_append (paired mk n p) _ ∙ ap₂ ◌+◌ (total_paired mk c e p n) (total_sifted (mk n) c (e n) (p n) 24) ∙ sym (mul-add c (grid n p) (tally 24 (p n)))

abbrev lt_ties : Row → ℕ → ℕ → Bool
lt_ties r v w = ties r v w && ltb v w

unfoldable pub weight : Row → ℕ
weight r = 2 * tally 24 (λ v. listed r v) + (4 * grid 24 (λ v w. precedes r v w) + 4 * grid 24 (λ v w. lt_ties r v w))

pub items_weight : (r : Row) → total (items r) ≡ weight r
unfolding weight
items_weight r =
    total_append (map Letter (sifted 24 (λ v. listed r v))) _
    ∙ ap₂ ◌+◌ (total_sifted Letter 2 (λ v. refl) (λ v. listed r v) 24)
    (total_append (paired (Pair Precedes) 24 (λ v w. precedes r v w)) _
    ∙ ap₂ ◌+◌ (total_paired (Pair Precedes) 4 (λ v w. refl) (λ v w. precedes r v w) 24) (total_paired (Pair Ties) 4 (λ v w. refl) (λ v w. lt_ties r v w) 24))

-- one more tie, told at its smaller letter
tie_step : (r : Row) (v w : ℕ) → v < length r.ties.of → w < length r.ties.of
    → grid 24 (λ x y. lt_ties (entered (Pair Ties v w) r) x y) ≤ grid 24 (λ x y. lt_ties r x y) + 1
tie_step r v w h k =
    elim (cases_lt v w) [
      | inl l ↦ grid_step (λ x y. lt_ties r x y) (λ x y. lt_ties (entered (Pair Ties v w) r) x y) v w (λ x y t.
          let j = and_out (ties (entered (Pair Ties v w) r) x y) (ltb x y) t in
          let m = ltb→lt x y j.1 in
          elim (tie_out r.ties.of v w h k x y j.0) [
            | inl a ↦ inl (and_in _ _ a j.1)
            | inr o ↦ elim o [ inl e ↦ inr e | inr e ↦ absurd (omega (arith, e.0, e.1)) ]
          ]) 24
      | inr l ↦ grid_step (λ x y. lt_ties r x y) (λ x y. lt_ties (entered (Pair Ties v w) r) x y) w v (λ x y t.
          let j = and_out (ties (entered (Pair Ties v w) r) x y) (ltb x y) t in
          let m = ltb→lt x y j.1 in
          elim (tie_out r.ties.of v w h k x y j.0) [
            | inl a ↦ inl (and_in _ _ a j.1)
            | inr o ↦ elim o [ inl e ↦ absurd (omega (arith, e.0, e.1)) | inr e ↦ inr e ]
          ]) 24
    ]

enter_weight : (f : Factor) (r : Row) → Fitting f → Sound r → weight (entered f r) ≤ weight r + (length (spell f) + 1)
unfolding weight
enter_weight (Letter v) r h s =
    omega (arith, tally_step (λ x. listed r x) (λ x. listed (entered (Letter v) r) x) v (λ x t. bit_out r.letters v x t) 24)
enter_weight (Pair Precedes v w) r h s =
    omega (
      arith,
      grid_step (λ x y. precedes r x y) (λ x y. precedes (entered (Pair Precedes v w) r) x y) v w
          (λ x y t. pair_out r.before.of v w (omega (arith, s.sizes.0)) x y t) 24,
    )
enter_weight (Pair Ties v w) r h s =
    omega (arith, tie_step r v w (omega (arith, s.sizes.1)) (omega (arith, s.sizes.1)))

-- the factor has as many bytes as its text
pair_length : (o : Operator) (mk : ℕ → ℕ → Factor) → ((v w : ℕ) → length (spell (mk v w)) ≡ 3) → (l r : Term ℕ) (v w : ℕ) → IsLetter l v → IsLetter r w
    → length (text_of (node o l r)) ≡ length (spell (mk v w))
pair_length o mk e l r v w i j =
    ap₂ (λ (a b : Term ℕ). length (text_of (node o a b))) i.is j.is ∙ sym (e v w)

factor_length : (t : Term ℕ) (f : Factor) → factor_of t ≡ some f → length (text_of t) ≡ length (spell f)
factor_length (leaf u) f e = go (letter_of (leaf u)) e
  where
    go : (o : Option ℕ) → single o ≡ some f → 1 ≡ length (spell f)
    go none e = absurd (none_some f e)
    go (some v) e = subst (λ (g : Factor). 1 ≡ length (spell g)) (some_same (Letter v) f e) refl
factor_length never f e = absurd (none_some f e)
factor_length (node Or l r) f e = absurd (none_some f e)
factor_length (node And l r) f e = absurd (none_some f e)
factor_length (node Before l r) f e =
    pair_of_lem (λ (g : Factor). length (text_of (node Before l r)) ≡ length (spell g)) (Pair Precedes) l r (λ v w i j n. pair_length Before (Pair Precedes) (λ v w. refl) l r v w i j) f e
factor_length (node Simultaneous l r) f e =
    pair_of_lem (λ (g : Factor). length (text_of (node Simultaneous l r)) ≡ length (spell g)) (Pair Ties) l r (λ v w i j n. pair_length Simultaneous (Pair Ties) (λ v w. refl) l r v w i j) f e
factor_length (node Inclusive l r) f e = absurd (none_some f e)

-- the row with the sequence t: how much longer it is
record Grown (t : Term ℕ) (r r' : Row) : Type 0 where
  pub sound : Sound r'
  pub by : weight r' ≤ weight r + (length (text_of t) + 1)

enter_grown : (t : Term ℕ) (r r' : Row) → Sound r → enter_of (factor_of t) r ≡ some r' → Grown t r r'
enter_grown t r r' s e = go (factor_of t) refl e
  where
    go : (o : Option Factor) → factor_of t ≡ o → enter_of o r ≡ some r' → Grown t r r'
    go none a e = absurd (none_some r' e)
    go (some f) a e =
        let h : Fitting f = (factor_of_lem t f a).fits in
        subst (Grown t r) (some_same (entered f r) r' e)
        (record { sound = entered_sound f r h s; by = omega (arith, enter_weight f r h s, factor_length t f a) })

grown : (t : Term ℕ) (r r' : Row) → Sound r → row_of t r ≡ some r' → Grown t r r'
grown (leaf v) r r' s e = enter_grown (leaf v) r r' s e
grown never r r' s e = absurd (none_some r' e)
grown (node Or a b) r r' s e = absurd (none_some r' e)
grown (node And a b) r r' s e = go (row_of a r) (λ q k. grown a r q s k) (λ q z k. grown b q r' z k) refl e
  where
    go : (o : Option Row) → ((q : Row) → row_of a r ≡ some q → Grown a r q) → ((q : Row) → Sound q → row_of b q ≡ some r' → Grown b q r')
        → row_of a r ≡ o → onto o (row_of b) ≡ some r' → Grown (node And a b) r r'
    go none f g k e = absurd (none_some r' e)
    go (some q) f g k e =
        let j = g q (f q k).sound e in
        record { sound = j.sound; by = omega (arith, (f q k).by, j.by, length-append (text_of a) (text_of b)) }
grown (node Before a b) r r' s e = enter_grown (node Before a b) r r' s e
grown (node Simultaneous a b) r r' s e = enter_grown (node Simultaneous a b) r r' s e
grown (node Inclusive a b) r r' s e = absurd (none_some r' e)

tally_zero : (p : ℕ → Bool) → ((k : ℕ) → T (p k) → ⊥) → (n : ℕ) → tally n p ≡ 0
unfolding tally
tally_zero p f zero = refl
tally_zero p f (suc n) = omega (arith, tally_zero p f n, ap one (not_T_is (p n) (f n)))

grid_zero : (p : ℕ → ℕ → Bool) → ((v w : ℕ) → T (p v w) → ⊥) → (n : ℕ) → grid n p ≡ 0
unfolding grid
grid_zero p f zero = refl
grid_zero p f (suc n) = omega (arith, grid_zero p f n, tally_zero (p n) (f n) 24)

blank_weight : weight blank ≡ 0
unfolding weight
blank_weight =
    omega (
      arith,
      tally_zero (λ v. listed blank v) blank_listed 24,
      grid_zero (λ v w. precedes blank v w) blank_precedes 24,
      grid_zero (λ v w. lt_ties blank v w) (λ v w t. blank_ties v w (and_out _ _ t).0) 24,
    )

pub lines_fit : LinesFit
lines_fit t r e =
    line_length (items r) (length (text_of t)) (omega (arith, items_weight r, blank_weight, (grown t blank r blank_sound e).by))
