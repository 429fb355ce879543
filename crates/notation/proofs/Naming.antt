-- What words name inputs.
-- Assumes nothing.
use Rattle.std.proofs.Common.{◌≡◌, ℕ, ◌+◌, ◌-◌, ◌^◌, ◌<◌, ◌≤◌, ltb, List, [], ◌∷◌, length, get_or, take, drop, Some, None, decimal, Option, sym, refl, ap, ◌∙◌, subst, inl, inr, arith, MatchOption}
use Rattle.std.proofs.lemmas.Fmt.{decimal_is_IsNumeral}
use Rattle.std.proofs.lemmas.List.{take_rest}
use Rattle.std.proofs.lemmas.Bool.{cond_both, ltb-true, ltb-false}
use Rattle.notation.specs.Inputs.{Letter, Names, OneName, input_word}
use Rattle.notation.specs.Numbers.{Number}

-- digits write one number
pub one_number : (word : List ℕ) (m n : ℕ) → Number word m → Number word n → m ≡ n
one_number word m n a b = sym a.is ∙ b.is

tail_same : (w ds : List ℕ) (b : ℕ) → w ≡ b ∷ ds → drop 1 w ≡ ds
tail_same w ds b e = ap (λ (x : List ℕ). drop 1 x) e

head_same : (w ds : List ℕ) (b : ℕ) → w ≡ b ∷ ds → get_or w 0 0 ≡ b
head_same w ds b e = ap (λ (x : List ℕ). get_or x 0 0) e

pub one_name : (w : List ℕ) → OneName w
one_name w i j (inl a) (inl b) = omega (arith, head_same w _ _ a.is, head_same w _ _ b.is)
one_name w i j (inl a) (inr (inl b)) = absurd (omega (arith, ap length a.is, ap length b.is, b.number.some))
one_name w i j (inl a) (inr (inr b)) = absurd (omega (arith, ap length a.is, ap length b.is, b.number.some))
one_name w i j (inr (inl a)) (inl b) = absurd (omega (arith, ap length a.is, ap length b.is, a.number.some))
one_name w i j (inr (inl a)) (inr (inl b)) =
    one_number a.digits i j a.number (subst (λ (x : List ℕ). Number x j) (sym (tail_same w _ _ b.is) ∙ tail_same w _ _ a.is) b.number)
one_name w i j (inr (inl a)) (inr (inr b)) = absurd (omega (arith, head_same w _ _ a.is, head_same w _ _ b.is))
one_name w i j (inr (inr a)) (inl b) = absurd (omega (arith, ap length a.is, ap length b.is, a.number.some))
one_name w i j (inr (inr a)) (inr (inl b)) = absurd (omega (arith, head_same w _ _ a.is, head_same w _ _ b.is))
one_name w i j (inr (inr a)) (inr (inr b)) =
    let same = one_number a.digits a.place b.place a.number (subst (λ (x : List ℕ). Number x b.place) (sym (tail_same w _ _ b.is) ∙ tail_same w _ _ a.is) b.number) in
    omega (arith, a.input, b.input)

-- BY THE FORM OF THE WORD

abbrev Named : List ℕ → Option ℕ → Type 0
Named w r = MatchOption r ((i : ℕ) → Names w i → ⊥) (λ i. Names w i)

one_byte : (w : List ℕ) → length w ≡ 1 → w ≡ get_or w 0 0 ∷ []
one_byte [] h = absurd (omega arith)
one_byte (b ∷ []) h = refl
one_byte (b ∷ c ∷ w) h = absurd (omega arith)

front_rest : (w : List ℕ) → 1 ≤ length w → w ≡ get_or w 0 0 ∷ take (length w - 1) (drop 1 w)
front_rest [] h = absurd (omega arith)
front_rest (b ∷ w) h = ap (λ (x : List ℕ). b ∷ x) (sym (take_rest (b ∷ w) 1))

module _ (w : List ℕ) where
  pub named_letter : length w ≡ 1 → (r : Option ℕ) → MatchOption r ((i : ℕ) → i < 24 → get_or w 0 0 ≡ 97 + i → ⊥) (λ i. (i < 24) × (get_or w 0 0 ≡ 97 + i)) → Named w r
  named_letter h (Some i) c = inl (record { few = c.0; is = one_byte w h ∙ ap (λ (b : ℕ). b ∷ []) c.1 })
  named_letter h None c = λ i n. go i n
    where
      go : (i : ℕ) → Names w i → ⊥
      go i (inl a) = c i a.few (head_same w _ _ a.is)
      go i (inr (inl a)) = omega (arith, ap length a.is, a.number.some)
      go i (inr (inr a)) = omega (arith, ap length a.is, a.number.some)

  module _ (one : length w ≡ 1 → ⊥) (some : 1 ≤ length w) where
    not_letter : (i : ℕ) → Letter w i → ⊥
    not_letter i a = one (ap length a.is)

    abbrev after : List ℕ
    after = take (length w - 1) (drop 1 w)

    digits_after : (ds : List ℕ) (b n : ℕ) → w ≡ b ∷ ds → Number ds n → Number after n
    digits_after ds b n e d = subst (λ (x : List ℕ). Number x n) (sym (tail_same w ds b e) ∙ sym (take_rest w 1)) d

    pub named_event : get_or w 0 0 ≡ 101 → (r : Option ℕ) → MatchOption r ((n : ℕ) → n < 64 → Number after n → ⊥) (λ n. (n < 64) × Number after n) → Named w r
    named_event h (Some i) c = inr (inl (record { digits = after; few = c.0; number = c.1; is = front_rest w some ∙ ap (λ (b : ℕ). b ∷ after) h }))
    named_event h None c = λ i n. go i n
      where
        go : (i : ℕ) → Names w i → ⊥
        go i (inl a) = not_letter i a
        go i (inr (inl a)) = c i a.few (digits_after a.digits 101 i a.is a.number)
        go i (inr (inr a)) = omega (arith, h, head_same w _ _ a.is)

    pub named_gate : get_or w 0 0 ≡ 103 → (r : Option ℕ) → MatchOption r ((k : ℕ) → k < 192 → Number after k → ⊥) (λ i. (k : ℕ) × (k < 192) × Number after k × (i ≡ 64 + k)) → Named w r
    named_gate h (Some i) c = inr (inr (record { digits = after; place = c.0; few = c.1; number = c.2; is = front_rest w some ∙ ap (λ (b : ℕ). b ∷ after) h; input = c.3 }))
    named_gate h None c = λ i n. go i n
      where
        go : (i : ℕ) → Names w i → ⊥
        go i (inl a) = not_letter i a
        go i (inr (inl a)) = omega (arith, h, head_same w _ _ a.is)
        go i (inr (inr a)) = c a.place a.few (digits_after a.digits 103 a.place a.is a.number)

  pub not_named : (length w ≡ 1 → ⊥) → (get_or w 0 0 ≡ 101 → ⊥) → (get_or w 0 0 ≡ 103 → ⊥) → (i : ℕ) → Names w i → ⊥
  not_named one e g i (inl a) = one (ap length a.is)
  not_named one e g i (inr (inl a)) = e (head_same w _ _ a.is)
  not_named one e g i (inr (inr a)) = g (head_same w _ _ a.is)

  pub empty_named : length w < 1 → (i : ℕ) → Names w i → ⊥
  empty_named h i (inl a) = omega (arith, ap length a.is)
  empty_named h i (inr (inl a)) = omega (arith, ap length a.is)
  empty_named h i (inr (inr a)) = omega (arith, ap length a.is)

-- THE WORD THAT IS WRITTEN

decimal_number : (n : ℕ) → n < 256 → Number (decimal n) n
decimal_number n h =
    let small : n < 2 ^ 64 = omega arith in
    let r = decimal_is_IsNumeral n small in
    record { some = r.0.0; digits = r.0.1; is = r.1 }

pub word_names : (i : ℕ) → i < 256 → Names (input_word i) i
word_names i h =
    cond_both (ltb i 24) _ _ (λ w. Names w i)
    (λ a. inl (record { few = ltb-true i 24 a; is = refl }))
    (λ a. cond_both (ltb i 64) _ _ (λ w. Names w i)
    (λ b. inr (inl (record { digits = decimal i; few = ltb-true i 64 b; number = decimal_number i h; is = refl })))
    (λ b. inr (inr (record { digits = decimal (i - 64); place = i - 64; few = omega arith; number = decimal_number (i - 64) (omega arith); is = refl; input = omega (arith, ltb-false i 64 b) }))))

named_at : (w : List ℕ) (r : Option ℕ) → Named w r → (i : ℕ) → Names w i → r ≡ Some i
named_at w (Some j) n i m = ap Some (one_name w j i n m)
named_at w None n i m = absurd (n i m)

pub named_back : (w : List ℕ) (r : Option ℕ) → Named w r → (i : ℕ) → i < 256 → w ≡ input_word i → r ≡ Some i
named_back w r n i h e = named_at w r n i (subst (λ (x : List ℕ). Names x i) (sym e) (word_names i h))
