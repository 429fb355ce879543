-- The text of a sum is read to its end; that of no sum is refused.
-- Assumes nothing.
use Rattle.std.proofs.Common.{◌≡◌, ℕ, ◌+◌, ◌-◌, ◌<◌, ◌≤◌, Bool, true, false, cond, not, ◌&&◌, eqb, ltb, leb, List, [], ◌∷◌, ◌++◌, sym, refl, ap, ◌∙◌, ap₂, append_assoc, append-nil, arith}
use mathlib.Core.Option.{Option, none, some}
use Rattle.std.proofs.lemmas.Bool.{ne_eqb, eq-eqb, le-leb, lt-leb, and_from, and_left, and_right, cond-true, cond-false, eqb-true, ltb-false}
use Rattle.algebra.specs.Terms.{Term, leaf, never, node}
use Rattle.algebra.specs.declared.Operator.{Operator}
use Rattle.algebra.specs.declared.Operator.TheVariants.{Or, And, Before, Simultaneous, Inclusive}
use Rattle.algebra.specs.Texts.{text_of, operator_byte}
use Rattle.sequences.specs.Rows.{entered, blank}
use Rattle.sequences.specs.Sequences.{letter_of, single, pair_of, factor_of, enter_of, onto, row_of, alone, both_of, sum_of}
use Rattle.sequences.specs.declared.row.Row.{Row}
use Rattle.sequences.specs.declared.row.Factor.{Factor}
use Rattle.sequences.specs.declared.row.Factor.TheVariants.{Letter, Pair}
use Rattle.sequences.proofs.Tables.{some_same, none_some, IsLetter, letter_of_lem, pair_of_lem}
use Rattle.sequences.specs.Scans.{State, advanced, begun, completed, is_letter, moved, reading_at, run, start, step, step_of}
use Rattle.sequences.specs.declared.row.Sign.{Sign}
use Rattle.sequences.specs.declared.row.Sign.TheVariants.{Precedes, Ties}
use Rattle.sequences.specs.declared.scan.Reading.{Reading}
use Rattle.sequences.specs.declared.scan.Step.{Step}
use Rattle.sequences.specs.declared.scan.Wants.{Wants}
use Rattle.sequences.specs.declared.scan.Wants.TheVariants.{Sum, Part, First, Second, End, Nothing}

abbrev at : Wants → ℕ → ℕ → List Row → Row → State
at w p s rs r = record { reading = reading_at w p s; done = rs; row = r }

abbrev step_at : Wants → ℕ → ℕ → List Row → Row → ℕ → State
step_at w p s rs r b = advanced (step_of w p s b) p rs r

-- a sum is whole
abbrev closed : ℕ → List Row → State
closed s rs = cond (eqb s 0) (at End 0 0 rs blank) (at Sum 0 (s - 1) rs blank)

-- the part that was read makes the row r
abbrev finish : ℕ → ℕ → List Row → Row → State
finish p s rs r = cond (eqb p 0) (closed s (rs ++ (r ∷ []))) (at Part (p - 1) s rs r)

abbrev bad : ℕ → ℕ → List Row → Row → State
bad p s rs r = at Nothing p s rs r

-- a factor is entered, and its sequence is whole or not
abbrev after_test : Bool → Reading → List Row → Row → State
after_test b next rs q = cond b (record { reading = next; done = rs ++ (q ∷ []); row = blank }) (record { reading = next; done = rs; row = q })

enter_finish : (p s : ℕ) (rs : List Row) (r : Row) (f : Factor) → advanced (completed p s f) p rs r ≡ finish p s rs (entered f r)
enter_finish p s rs r f = go (eqb p 0) (eqb s 0)
  where
    go : (b c : Bool)
        → after_test b (cond b (cond c (reading_at End 0 0) (reading_at Sum 0 (s - 1))) (reading_at Part (p - 1) s)) rs (entered f r)
        ≡ cond b (cond c (at End 0 0 (rs ++ (entered f r ∷ [])) blank) (at Sum 0 (s - 1) (rs ++ (entered f r ∷ [])) blank)) (at Part (p - 1) s rs (entered f r))
    go true true = refl
    go true false = refl
    go false true = refl
    go false false = refl

letter_yes : (v : ℕ) → v < 24 → is_letter (97 + v) ≡ true
letter_yes v h = and_from _ _ (le-leb 97 (97 + v) (omega arith)) (le-leb (97 + v) 120 (omega arith))

letter_no : (v : ℕ) → 24 ≤ v → is_letter (97 + v) ≡ false
letter_no v h = and_right (leb 97 (97 + v)) _ (lt-leb (97 + v) 120 (omega arith))

index : (v : ℕ) → 97 + v - 97 ≡ v
index v = omega arith

not_sign : (v k : ℕ) → k < 97 → eqb (97 + v) k ≡ false
not_sign v k h = ne_eqb (97 + v) k (λ e. omega arith)

module _ (p s : ℕ) (rs : List Row) (r : Row) where
  -- the byte is none of the three signs of a part
  begun_other : (v : ℕ) → begun p s (97 + v) ≡ cond (is_letter (97 + v)) (completed p s (Letter (97 + v - 97))) (moved Nothing p s)
  begun_other v =
      cond-false _ _ _ (not_sign v 42 (omega arith)) ∙ cond-false _ _ _ (not_sign v 60 (omega arith)) ∙ cond-false _ _ _ (not_sign v 61 (omega arith))

  part_letter : (v : ℕ) → v < 24 → step_at Part p s rs r (97 + v) ≡ finish p s rs (entered (Letter v) r)
  part_letter v h =
      ap (λ (m : Step). advanced m p rs r)
      (begun_other v ∙ cond-true _ _ _ (letter_yes v h) ∙ ap (λ (n : ℕ). completed p s (Letter n)) (index v))
      ∙ enter_finish p s rs r (Letter v)

  part_high : (v : ℕ) → 24 ≤ v → step_at Part p s rs r (97 + v) ≡ bad p s rs r
  part_high v h = ap (λ (m : Step). advanced m p rs r) (begun_other v ∙ cond-false _ _ _ (letter_no v h))

  first_letter : (t : Sign) (v : ℕ) → v < 24 → step_at (First t) p s rs r (97 + v) ≡ at (Second t v) p s rs r
  first_letter t v h =
      ap (λ (m : Step). advanced m p rs r) (cond-true _ _ _ (letter_yes v h) ∙ ap (λ (n : ℕ). moved (Second t n) p s) (index v))

  second_letter : (t : Sign) (v w : ℕ) → w < 24 → (v ≡ w → ⊥) → step_at (Second t v) p s rs r (97 + w) ≡ finish p s rs (entered (Pair t v w) r)
  second_letter t v w h n =
      ap (λ (m : Step). advanced m p rs r)
      (ap (λ (i : ℕ). cond (is_letter (97 + w) && not (eqb v i)) (completed p s (Pair t v i)) (moved Nothing p s)) (index w)
      ∙ cond-true _ _ _ (and_from _ _ (letter_yes w h) (ap not (ne_eqb v w n))))
      ∙ enter_finish p s rs r (Pair t v w)

  finish_more : (q : Row) → finish (p + 1) s rs q ≡ at Part p s rs q
  finish_more q = cond-false _ _ _ (ne_eqb (p + 1) 0 (λ e. omega arith)) ∙ ap (λ (n : ℕ). at Part n s rs q) (omega arith)

closed_more : (s : ℕ) (rs : List Row) → closed (s + 1) rs ≡ at Sum 0 s rs blank
closed_more s rs = cond-false _ _ _ (ne_eqb (s + 1) 0 (λ e. omega arith)) ∙ ap (λ (n : ℕ). at Sum 0 n rs blank) (omega arith)

-- a part is read
pair_read : (t : Sign) (p s : ℕ) (rs : List Row) (r : Row) (l m : Term ℕ) (more : List ℕ) (v w : ℕ) → IsLetter l v → IsLetter m w → (v ≡ w → ⊥)
    → run (at (First t) p s rs r) ((text_of l ++ text_of m) ++ more) ≡ run (finish p s rs (entered (Pair t v w) r)) more
pair_read t p s rs r l m more v w i j n =
    ap₂ (λ (a b : Term ℕ). run (at (First t) p s rs r) ((text_of a ++ text_of b) ++ more)) i.is j.is
    ∙ ap (λ (st : State). run (step st (97 + w)) more) (first_letter p s rs r t v i.low)
    ∙ ap (λ (st : State). run st more) (second_letter p s rs r t v w j.low n)

abbrev Reads : Term ℕ → ℕ → ℕ → List Row → Row → Row → Type 0
Reads t p s rs r q = (more : List ℕ) → run (at Part p s rs r) (text_of t ++ more) ≡ run (finish p s rs q) more

leaf_reads : (u : ℕ) (p s : ℕ) (rs : List Row) (r q : Row) → enter_of (factor_of (leaf u)) r ≡ some q → Reads (leaf u) p s rs r q
leaf_reads u p s rs r q e = go (letter_of (leaf u)) refl e
  where
    go : (o : Option ℕ) → letter_of (leaf u) ≡ o → enter_of (single o) r ≡ some q → (more : List ℕ) → run (at Part p s rs r) (text_of (leaf u) ++ more) ≡ run (finish p s rs q) more
    go none a e more = absurd (none_some q e)
    go (some v) a e more =
        let i = letter_of_lem (leaf u) v a in
        ap (λ (t : Term ℕ). run (at Part p s rs r) (text_of t ++ more)) i.is
        ∙ ap (λ (st : State). run st more) (part_letter p s rs r v i.low ∙ ap (finish p s rs) (some_same (entered (Letter v) r) q e))

entered_by : (o : Option Factor) (r q : Row) → enter_of o r ≡ some q → (f : Factor) × (o ≡ some f) × (entered f r ≡ q)
entered_by none r q e = absurd (none_some q e)
entered_by (some f) r q e = (f, refl, some_same (entered f r) q e)

pair_reads : (t : Sign) (l m : Term ℕ) (p s : ℕ) (rs : List Row) (r q : Row) → enter_of (pair_of (Pair t) (letter_of l) (letter_of m)) r ≡ some q
    → (more : List ℕ) → run (at (First t) p s rs r) ((text_of l ++ text_of m) ++ more) ≡ run (finish p s rs q) more
pair_reads t l m p s rs r q e more =
    let k = entered_by (pair_of (Pair t) (letter_of l) (letter_of m)) r q e in
    pair_of_lem (λ (f : Factor). run (at (First t) p s rs r) ((text_of l ++ text_of m) ++ more) ≡ run (finish p s rs (entered f r)) more) (Pair t) l m
    (λ v w i j n. pair_read t p s rs r l m more v w i j n) k.0 k.1
    ∙ ap (λ (x : Row). run (finish p s rs x) more) k.2

reads : (t : Term ℕ) (p s : ℕ) (rs : List Row) (r q : Row) → row_of t r ≡ some q → Reads t p s rs r q
reads (leaf v) p s rs r q e more = leaf_reads v p s rs r q e more
reads never p s rs r q e more = absurd (none_some q e)
reads (node Or a b) p s rs r q e more = absurd (none_some q e)
reads (node And a b) p s rs r q e more = go (row_of a r) (λ x k. reads a (p + 1) s rs r x k) (λ x k. reads b p s rs x q k) refl e
  where
    go : (o : Option Row) → ((x : Row) → row_of a r ≡ some x → Reads a (p + 1) s rs r x) → ((x : Row) → row_of b x ≡ some q → Reads b p s rs x q)
        → row_of a r ≡ o → onto o (row_of b) ≡ some q → run (at Part (p + 1) s rs r) ((text_of a ++ text_of b) ++ more) ≡ run (finish p s rs q) more
    go none f g k e = absurd (none_some q e)
    go (some x) f g k e =
        ap (run (at Part (p + 1) s rs r)) (append_assoc (text_of a) (text_of b) more) ∙ f x k (text_of b ++ more)
        ∙ ap (λ (st : State). run st (text_of b ++ more)) (finish_more p s rs r x) ∙ g x e more
reads (node Before a b) p s rs r q e more = pair_reads Precedes a b p s rs r q e more
reads (node Simultaneous a b) p s rs r q e more = pair_reads Ties a b p s rs r q e more
reads (node Inclusive a b) p s rs r q e more = absurd (none_some q e)

-- a sum is read
abbrev SumReads : Term ℕ → ℕ → List Row → List Row → Type 0
SumReads t s qs rs = (more : List ℕ) → run (at Sum 0 s qs blank) (text_of t ++ more) ≡ run (closed s (qs ++ rs)) more

-- what begins no sum begins a part
alone_reads : (t : Term ℕ) (s : ℕ) (qs rs : List Row)
    → ((more : List ℕ) → run (at Sum 0 s qs blank) (text_of t ++ more) ≡ run (at Part 0 s qs blank) (text_of t ++ more))
    → alone (row_of t blank) ≡ some rs → SumReads t s qs rs
alone_reads t s qs rs same e more = same more ∙ go (row_of t blank) refl e
  where
    go : (o : Option Row) → row_of t blank ≡ o → alone o ≡ some rs → run (at Part 0 s qs blank) (text_of t ++ more) ≡ run (closed s (qs ++ rs)) more
    go none k e = absurd (none_some rs e)
    go (some r) k e = reads t 0 s qs blank r k more ∙ ap (λ (l : List Row). run (closed s (qs ++ l)) more) (some_same (r ∷ []) rs e)

leaf_part : (v : ℕ) (s : ℕ) (qs : List Row) (more : List ℕ) → run (at Sum 0 s qs blank) (text_of (leaf v) ++ more) ≡ run (at Part 0 s qs blank) (text_of (leaf v) ++ more)
leaf_part v s qs more = ap (λ (m : Step). run (advanced m 0 qs blank) more) (cond-false _ _ _ (not_sign v 43 (omega arith)))

sum_reads : (t : Term ℕ) (s : ℕ) (qs rs : List Row) → sum_of t ≡ some rs → SumReads t s qs rs
sum_reads (leaf v) s qs rs e more = alone_reads (leaf v) s qs rs (leaf_part v s qs) e more
sum_reads never s qs rs e more = absurd (none_some rs e)
sum_reads (node Or a b) s qs rs e more = go (sum_of a) (sum_of b) (λ x k. sum_reads a (s + 1) qs x k) (λ x y k. sum_reads b s (qs ++ x) y k) refl refl e
  where
    go : (o p : Option (List Row)) → ((x : List Row) → sum_of a ≡ some x → SumReads a (s + 1) qs x) → ((x y : List Row) → sum_of b ≡ some y → SumReads b s (qs ++ x) y)
        → sum_of a ≡ o → sum_of b ≡ p → both_of o p ≡ some rs → run (at Sum 0 (s + 1) qs blank) ((text_of a ++ text_of b) ++ more) ≡ run (closed s (qs ++ rs)) more
    go none p f g k l e = absurd (none_some rs e)
    go (some x) none f g k l e = absurd (none_some rs e)
    go (some x) (some y) f g k l e =
        ap (run (at Sum 0 (s + 1) qs blank)) (append_assoc (text_of a) (text_of b) more) ∙ f x k (text_of b ++ more)
        ∙ ap (λ (st : State). run st (text_of b ++ more)) (closed_more s (qs ++ x)) ∙ g x y l more
        ∙ ap (λ (z : List Row). run (closed s z) more) (append_assoc qs x y ∙ ap (λ (z : List Row). qs ++ z) (some_same (x ++ y) rs e))
sum_reads (node And a b) s qs rs e more = alone_reads (node And a b) s qs rs (λ m. refl) e more
sum_reads (node Before a b) s qs rs e more = alone_reads (node Before a b) s qs rs (λ m. refl) e more
sum_reads (node Simultaneous a b) s qs rs e more = alone_reads (node Simultaneous a b) s qs rs (λ m. refl) e more
sum_reads (node Inclusive a b) s qs rs e more = absurd (none_some rs e)

-- what was refused stays so
stays : (bs : List ℕ) (st : State) → st.reading.wants ≡ Nothing → (run st bs).reading.wants ≡ Nothing
stays [] st e = e
stays (b ∷ bs) st e = stays bs (step st b) (ap (λ (w : Wants). (step_at w st.reading.parts st.reading.sums st.done st.row b).reading.wants) e)

pub scans_sums : (t : Term ℕ) (rs : List Row) → sum_of t ≡ some rs → run start (text_of t) ≡ record { reading = reading_at End 0 0; done = rs; row = blank }
scans_sums t rs e = ap (run start) (sym (append-nil (text_of t))) ∙ sum_reads t 0 [] rs e []

some_none : {A : Type 0} (a : A) → ◌≡◌ {A = Option A} (some a) none → ⊥
some_none a e = none_some a (sym e)

abbrev Refused : State → List ℕ → Type 0
Refused st bs = (run st bs).reading.wants ≡ Nothing

refused_by : (st u : State) (more : List ℕ) → st ≡ u → u.reading.wants ≡ Nothing → Refused st more
refused_by st u more e f = stays more st (ap (λ (x : State). x.reading.wants) e ∙ f)

high : (v : ℕ) → letter_of (leaf v) ≡ none → 24 ≤ v
high v e = go (ltb v 24) refl e
  where
    go : (b : Bool) → ltb v 24 ≡ b → cond b (some v) none ≡ none → 24 ≤ v
    go true q e = absurd (some_none v e)
    go false q e = ltb-false v 24 q

operator_no : (o : Operator) → is_letter (operator_byte o) ≡ false
operator_no Or = refl
operator_no And = refl
operator_no Before = refl
operator_no Simultaneous = refl
operator_no Inclusive = refl

module _ (p s : ℕ) (rs : List Row) (r : Row) where
  first_no : (t : Sign) (l : Term ℕ) (more : List ℕ) → letter_of l ≡ none → Refused (at (First t) p s rs r) (text_of l ++ more)
  first_no t (leaf v) more e = refused_by _ (bad p s rs r) more (ap (λ (m : Step). advanced m p rs r) (cond-false _ _ _ (letter_no v (high v e)))) refl
  first_no t never more e = stays more (bad p s rs r) refl
  first_no t (node o a b) more e = refused_by _ (bad p s rs r) ((text_of a ++ text_of b) ++ more) (ap (λ (m : Step). advanced m p rs r) (cond-false _ _ _ (operator_no o))) refl

  second_no : (t : Sign) (v : ℕ) (l : Term ℕ) (more : List ℕ) → letter_of l ≡ none → Refused (at (Second t v) p s rs r) (text_of l ++ more)
  second_no t v (leaf w) more e = refused_by _ (bad p s rs r) more (ap (λ (m : Step). advanced m p rs r) (cond-false _ _ _ (and_left _ _ (letter_no w (high w e))))) refl
  second_no t v never more e = stays more (bad p s rs r) refl
  second_no t v (node o a b) more e = refused_by _ (bad p s rs r) ((text_of a ++ text_of b) ++ more) (ap (λ (m : Step). advanced m p rs r) (cond-false _ _ _ (and_left _ _ (operator_no o)))) refl

  same_no : (t : Sign) (v w : ℕ) (more : List ℕ) → v ≡ w → Refused (at (Second t v) p s rs r) ((97 + w) ∷ more)
  same_no t v w more e =
      refused_by _ (bad p s rs r) more (ap (λ (m : Step). advanced m p rs r) (cond-false _ _ _ (and_right (is_letter (97 + w)) _ (ap not (eq-eqb v (97 + w - 97) (e ∙ sym (index w))))))) refl

  pair_no : (t : Sign) (l m : Term ℕ) → enter_of (pair_of (Pair t) (letter_of l) (letter_of m)) r ≡ none → (more : List ℕ)
      → Refused (at (First t) p s rs r) ((text_of l ++ text_of m) ++ more)
  pair_no t l m e more =
      ap (λ (bs : List ℕ). (run (at (First t) p s rs r) bs).reading.wants) (append_assoc (text_of l) (text_of m) more) ∙ go (letter_of l) (letter_of m) refl refl e
    where
      pick : (v w : ℕ) → letter_of l ≡ some v → letter_of m ≡ some w → (b : Bool) → eqb v w ≡ b → enter_of (cond b none (some (Pair t v w))) r ≡ none
          → (run (at (First t) p s rs r) (text_of l ++ (text_of m ++ more))).reading.wants ≡ Nothing
      pick v w a b true q e =
          let i = letter_of_lem l v a in
          let j = letter_of_lem m w b in
          ap₂ (λ (x y : Term ℕ). (run (at (First t) p s rs r) (text_of x ++ (text_of y ++ more))).reading.wants) i.is j.is
          ∙ ap (λ (st : State). (run st ((97 + w) ∷ more)).reading.wants) (first_letter p s rs r t v i.low) ∙ same_no t v w more (eqb-true v w q)
      pick v w a b false q e = absurd (some_none (entered (Pair t v w) r) e)

      go : (o q : Option ℕ) → letter_of l ≡ o → letter_of m ≡ q → enter_of (pair_of (Pair t) o q) r ≡ none
          → (run (at (First t) p s rs r) (text_of l ++ (text_of m ++ more))).reading.wants ≡ Nothing
      go none q a b e = first_no t l (text_of m ++ more) a
      go (some v) none a b e =
          let i = letter_of_lem l v a in
          ap (λ (x : Term ℕ). (run (at (First t) p s rs r) (text_of x ++ (text_of m ++ more))).reading.wants) i.is
          ∙ ap (λ (st : State). (run st (text_of m ++ more)).reading.wants) (first_letter p s rs r t v i.low) ∙ second_no t v m more b
      go (some v) (some w) a b e = pick v w a b (eqb v w) refl e

refuses : (t : Term ℕ) (p s : ℕ) (rs : List Row) (r : Row) → row_of t r ≡ none → (more : List ℕ) → Refused (at Part p s rs r) (text_of t ++ more)
refuses (leaf v) p s rs r e more = go (letter_of (leaf v)) refl e
  where
    go : (o : Option ℕ) → letter_of (leaf v) ≡ o → enter_of (single o) r ≡ none → (run (at Part p s rs r) ((97 + v) ∷ more)).reading.wants ≡ Nothing
    go none a e = refused_by _ (bad p s rs r) more (part_high p s rs r v (high v a)) refl
    go (some u) a e = absurd (some_none (entered (Letter u) r) e)
refuses never p s rs r e more = stays more (bad p s rs r) refl
refuses (node Or a b) p s rs r e more = stays ((text_of a ++ text_of b) ++ more) (bad p s rs r) refl
refuses (node And a b) p s rs r e more = go (row_of a r) (λ k m. refuses a (p + 1) s rs r k m) (λ x k m. refuses b p s rs x k m) refl e
  where
    go : (o : Option Row) → (row_of a r ≡ none → (m : List ℕ) → Refused (at Part (p + 1) s rs r) (text_of a ++ m))
        → ((x : Row) → row_of b x ≡ none → (m : List ℕ) → Refused (at Part p s rs x) (text_of b ++ m))
        → row_of a r ≡ o → onto o (row_of b) ≡ none → (run (at Part (p + 1) s rs r) ((text_of a ++ text_of b) ++ more)).reading.wants ≡ Nothing
    go none f g k e = ap (λ (bs : List ℕ). (run (at Part (p + 1) s rs r) bs).reading.wants) (append_assoc (text_of a) (text_of b) more) ∙ f k (text_of b ++ more)
    go (some x) f g k e =
        ap (λ (bs : List ℕ). (run (at Part (p + 1) s rs r) bs).reading.wants) (append_assoc (text_of a) (text_of b) more)
        ∙ ap (λ (st : State). st.reading.wants) (reads a (p + 1) s rs r x k (text_of b ++ more) ∙ ap (λ (st : State). run st (text_of b ++ more)) (finish_more p s rs r x))
        ∙ g x e more
refuses (node Before a b) p s rs r e more = pair_no p s rs r Precedes a b e more
refuses (node Simultaneous a b) p s rs r e more = pair_no p s rs r Ties a b e more
refuses (node Inclusive a b) p s rs r e more = stays ((text_of a ++ text_of b) ++ more) (bad p s rs r) refl

alone_none : (o : Option Row) → alone o ≡ none → o ≡ none
alone_none none e = refl
alone_none (some r) e = absurd (some_none (r ∷ []) e)

sum_refuses : (t : Term ℕ) (s : ℕ) (qs : List Row) → sum_of t ≡ none → (more : List ℕ) → Refused (at Sum 0 s qs blank) (text_of t ++ more)
sum_refuses (leaf v) s qs e more = ap (λ (st : State). st.reading.wants) (leaf_part v s qs more) ∙ refuses (leaf v) 0 s qs blank (alone_none _ e) more
sum_refuses never s qs e more = stays more (bad 0 s qs blank) refl
sum_refuses (node Or a b) s qs e more = go (sum_of a) (sum_of b) (λ k m. sum_refuses a (s + 1) qs k m) (λ x k m. sum_refuses b s (qs ++ x) k m) refl refl e
  where
    go : (o p : Option (List Row)) → (sum_of a ≡ none → (m : List ℕ) → Refused (at Sum 0 (s + 1) qs blank) (text_of a ++ m))
        → ((x : List Row) → sum_of b ≡ none → (m : List ℕ) → Refused (at Sum 0 s (qs ++ x) blank) (text_of b ++ m))
        → sum_of a ≡ o → sum_of b ≡ p → both_of o p ≡ none → (run (at Sum 0 (s + 1) qs blank) ((text_of a ++ text_of b) ++ more)).reading.wants ≡ Nothing
    go none p f g k l e = ap (λ (bs : List ℕ). (run (at Sum 0 (s + 1) qs blank) bs).reading.wants) (append_assoc (text_of a) (text_of b) more) ∙ f k (text_of b ++ more)
    go (some x) none f g k l e =
        ap (λ (bs : List ℕ). (run (at Sum 0 (s + 1) qs blank) bs).reading.wants) (append_assoc (text_of a) (text_of b) more)
        ∙ ap (λ (st : State). st.reading.wants) (sum_reads a (s + 1) qs x k (text_of b ++ more) ∙ ap (λ (st : State). run st (text_of b ++ more)) (closed_more s (qs ++ x)))
        ∙ g x l more
    go (some x) (some y) f g k l e = absurd (some_none (x ++ y) e)
sum_refuses (node And a b) s qs e more = refuses (node And a b) 0 s qs blank (alone_none _ e) more
sum_refuses (node Before a b) s qs e more = refuses (node Before a b) 0 s qs blank (alone_none _ e) more
sum_refuses (node Simultaneous a b) s qs e more = refuses (node Simultaneous a b) 0 s qs blank (alone_none _ e) more
sum_refuses (node Inclusive a b) s qs e more = stays ((text_of a ++ text_of b) ++ more) (bad 0 s qs blank) refl

pub scans_none : (t : Term ℕ) → sum_of t ≡ none → (run start (text_of t)).reading.wants ≡ Nothing
scans_none t e = ap (λ (bs : List ℕ). (run start bs).reading.wants) (sym (append-nil (text_of t))) ∙ sum_refuses t 0 [] e []
