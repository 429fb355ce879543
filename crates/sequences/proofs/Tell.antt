-- Two rows have one line only where they are equal.
-- Assumes nothing.
use Rattle.std.proofs.Common.{◌≡◌, ℕ, zero, suc, ◌+◌, ◌/◌, ◌%◌, ◌^◌, ◌<◌, ◌≤◌, Bool, ◌&&◌, T, eqb, ltb, List, [], ◌∷◌, ◌++◌, map, length, get_or, sym, refl, ap, ◌∙◌, subst, ap₂, inl, inr, arith, lt→ltb, ext_get_or}
use mathlib.Core.List.Memᴰ
use mathlib.Core.List.{Memᴰ}
use Rattle.std.proofs.lemmas.Bool.{cases_order, cond_both}
use Rattle.std.proofs.lemmas.Bool.Decides.{nat_tests}
use Rattle.std.proofs.lemmas.Nat.{shr-shr}
use Rattle.algebra.proofs.Tests.{bool_ext}
use Rattle.sequences.specs.Masks.{has, linked}
use Rattle.sequences.specs.Rows.{listed, precedes, ties}
use Rattle.sequences.specs.Walks.{Sound}
use Rattle.sequences.specs.declared.row.Row.{Row}
use Rattle.sequences.specs.declared.row.Factor.{Factor}
use Rattle.sequences.specs.declared.row.Sign.TheVariants.{Precedes, Ties}
use Rattle.sequences.specs.declared.row.Factor.TheVariants.{Letter, Pair}
use Rattle.sequences.proofs.Tests.{and_in, and_out, is_T, T_not_false, below_suc}
use Rattle.sequences.proofs.Turns.{left_low, tied_low}
use Rattle.sequences.specs.Lines.{sifted, paired, items, spell, rest, line_of, LinesTell}

head_same : (a b : ℕ) (s t : List ℕ) → a ∷ s ≡ b ∷ t → a ≡ b
head_same a b s t e = cc

tail_same : (a b : ℕ) (s t : List ℕ) → a ∷ s ≡ b ∷ t → s ≡ t
tail_same a b s t e = cc

-- a space or the end comes first, and no sign of a pair
pub record Begins (s : List ℕ) : Type 0 where
  pub first : ℕ
  pub then : List ℕ
  pub is : s ≡ first ∷ then
  pub small : first < 60

rest_begins : (fs : List Factor) → Begins (rest fs)
rest_begins [] = record { first = 10; then = []; is = refl; small = omega arith }
rest_begins (f ∷ fs) = record { first = 32; then = spell f ++ rest fs; is = refl; small = omega arith }

clash : {G : Type 0} (s : List ℕ) → Begins s → (c : ℕ) (u : List ℕ) → 60 ≤ c → s ≡ c ∷ u → G
clash s b c u h e = absurd (let q = head_same b.first c b.then u (sym b.is ∙ e) in omega (arith, b.small))

pub record Both (f g : Factor) (s t : List ℕ) : Type 0 where
  pub item : f ≡ g
  pub on : s ≡ t

add_same : (v w : ℕ) → 97 + v ≡ 97 + w → v ≡ w
add_same v w e = omega arith

same_pair : (mk : ℕ → ℕ → Factor) (c v w x y : ℕ) (s t : List ℕ)
    → (97 + v) ∷ c ∷ (97 + w) ∷ s ≡ (97 + x) ∷ c ∷ (97 + y) ∷ t → Both (mk v w) (mk x y) s t
same_pair mk c v w x y s t e =
    let e₁ = tail_same _ _ _ _ e in
    let e₂ = tail_same c c _ _ e₁ in
    record { item = ap₂ mk (add_same v x (head_same _ _ _ _ e)) (add_same w y (head_same _ _ _ _ e₂)); on = tail_same _ _ _ _ e₂ }

signs : {G : Type 0} (a b c d : ℕ) (s t : List ℕ) → (c ≡ d → ⊥) → a ∷ c ∷ s ≡ b ∷ d ∷ t → G
signs a b c d s t n e = absurd (n (head_same c d s t (tail_same a b (c ∷ s) (d ∷ t) e)))

split : (f g : Factor) (s t : List ℕ) → Begins s → Begins t → spell f ++ s ≡ spell g ++ t → Both f g s t
split (Letter v) (Letter w) s t a b e = record { item = ap Letter (add_same v w (head_same _ _ _ _ e)); on = tail_same _ _ _ _ e }
split (Letter v) (Pair Precedes x y) s t a b e = clash s a 60 _ (omega arith) (tail_same _ _ _ _ e)
split (Letter v) (Pair Ties x y) s t a b e = clash s a 61 _ (omega arith) (tail_same _ _ _ _ e)
split (Pair Precedes v w) (Letter x) s t a b e = clash t b 60 _ (omega arith) (sym (tail_same _ _ _ _ e))
split (Pair Precedes v w) (Pair Precedes x y) s t a b e = same_pair (Pair Precedes) 60 v w x y s t e
split (Pair Precedes v w) (Pair Ties x y) s t a b e = signs _ _ 60 61 _ _ (λ q. omega arith) e
split (Pair Ties v w) (Letter x) s t a b e = clash t b 61 _ (omega arith) (sym (tail_same _ _ _ _ e))
split (Pair Ties v w) (Pair Precedes x y) s t a b e = signs _ _ 61 60 _ _ (λ q. omega arith) e
split (Pair Ties v w) (Pair Ties x y) s t a b e = same_pair (Pair Ties) 61 v w x y s t e

rest_same : (fs gs : List Factor) → rest fs ≡ rest gs → fs ≡ gs
rest_same [] [] e = refl
rest_same [] (g ∷ gs) e = absurd (let q = head_same 10 32 _ _ e in omega arith)
rest_same (f ∷ fs) [] e = absurd (let q = head_same 32 10 _ _ e in omega arith)
rest_same (f ∷ fs) (g ∷ gs) e =
    let b = split f g (rest fs) (rest gs) (rest_begins fs) (rest_begins gs) (tail_same 32 32 _ _ e) in
    ap₂ ◌∷◌ b.item (rest_same fs gs b.on)

no_item : {G : Type 0} (f : Factor) (s : List ℕ) → 10 ∷ [] ≡ spell f ++ s → G
no_item (Letter v) s e = absurd (let q = head_same 10 (97 + v) _ _ e in omega arith)
no_item (Pair Precedes v w) s e = absurd (let q = head_same 10 (97 + v) _ _ e in omega arith)
no_item (Pair Ties v w) s e = absurd (let q = head_same 10 (97 + v) _ _ e in omega arith)

line_same : (fs gs : List Factor) → line_of fs ≡ line_of gs → fs ≡ gs
line_same [] [] e = refl
line_same [] (g ∷ gs) e = no_item g (rest gs) e
line_same (f ∷ fs) [] e = no_item f (rest fs) (sym e)
line_same (f ∷ fs) (g ∷ gs) e =
    let b = split f g (rest fs) (rest gs) (rest_begins fs) (rest_begins gs) e in
    ap₂ ◌∷◌ b.item (rest_same fs gs b.on)

-- what stands in the lists
map_in : {A B : Type 0} (f : A → B) {a : A} {l : List A} → Memᴰ a l → Memᴰ (f a) (map f l)
map_in f (Memᴰ.head e) = Memᴰ.head (ap f e)
map_in f (Memᴰ.tail m) = Memᴰ.tail (map_in f m)

pub record From {A B : Type 0} (f : A → B) (b : B) (l : List A) : Type 0 where
  pub of : A
  pub lies : Memᴰ of l
  pub is : b ≡ f of

from_tail : {A B : Type 0} (f : A → B) (b : B) (x : A) (l : List A) → From f b l → From f b (x ∷ l)
from_tail f b x l k = record { of = k.of; lies = Memᴰ.tail k.lies; is = k.is }

map_out : {A B : Type 0} (f : A → B) (b : B) (l : List A) → Memᴰ b (map f l) → From f b l
map_out f b [] m = absurd (Memᴰ.not-nil m)
map_out f b (x ∷ l) (Memᴰ.head e) = record { of = x; lies = Memᴰ.head refl; is = e }
map_out f b (x ∷ l) (Memᴰ.tail m) = from_tail f b x l (map_out f b l m)

module _ (p : ℕ → Bool) where
  sifted_in : (n v : ℕ) → v < n → T (p v) → Memᴰ v (sifted n p)
  unfolding sifted
  sifted_in zero v h t = absurd (omega arith)
  sifted_in (suc n) v h t =
      elim (below_suc v n h) [
        | inl e ↦ Memᴰ.append_right (sifted n p)
            (cond_both (p n) (n ∷ []) [] (λ l. Memᴰ v l) (λ q. Memᴰ.head e) (λ q. absurd (T_not_false (p n) q (subst (λ (m : ℕ). T (p m)) e t))))
        | inr l ↦ Memᴰ.append_left _ (sifted_in n v l t)
      ]

  sifted_out : (n v : ℕ) → Memᴰ v (sifted n p) → T (p v)
  unfolding sifted
  sifted_out zero v m = absurd (Memᴰ.not-nil m)
  sifted_out (suc n) v m =
      elim (Memᴰ.append_cases (sifted n p) m) [
        | inl k ↦ sifted_out n v k
        | inr k ↦ cond_both (p n) (n ∷ []) [] (λ l. Memᴰ v l → T (p v))
            (λ q j. subst (λ (i : ℕ). T (p i)) (sym (Memᴰ.eq_of_singleton j)) (is_T _ q)) (λ q j. absurd (Memᴰ.not-nil j)) k
      ]

module _ (mk : ℕ → ℕ → Factor) (p : ℕ → ℕ → Bool) where
  paired_in : (n v w : ℕ) → v < n → w < 24 → T (p v w) → Memᴰ (mk v w) (paired mk n p)
  unfolding paired
  paired_in zero v w h k t = absurd (omega arith)
  paired_in (suc n) v w h k t =
      elim (below_suc v n h) [
        | inl e ↦ Memᴰ.append_right (paired mk n p)
            (subst (λ (i : ℕ). Memᴰ (mk v w) (map (mk i) (sifted 24 (p i)))) e (map_in (mk v) (sifted_in (p v) 24 w k t)))
        | inr l ↦ Memᴰ.append_left _ (paired_in n v w l k t)
      ]

  pub record Placed (f : Factor) : Type 0 where
    pub one : ℕ
    pub two : ℕ
    pub is : f ≡ mk one two
    pub stands : T (p one two)

  paired_out : (n : ℕ) (f : Factor) → Memᴰ f (paired mk n p) → Placed f
  unfolding paired
  paired_out zero f m = absurd (Memᴰ.not-nil m)
  paired_out (suc n) f m =
      elim (Memᴰ.append_cases (paired mk n p) m) [
        | inl k ↦ paired_out n f k
        | inr k ↦ let j = map_out (mk n) f (sifted 24 (p n)) k in
            record { one = n; two = j.of; is = j.is; stands = sifted_out (p n) 24 j.of j.lies }
      ]

-- the row has the item
abbrev Lists : Row → Factor → Type 0
Lists r (Letter v) = T (listed r v)
Lists r (Pair Precedes v w) = T (precedes r v w)
Lists r (Pair Ties v w) = T (ties r v w && ltb v w)

items_in : (r : Row) → Sound r → (f : Factor) → Lists r f → Memᴰ f (items r)
items_in r s (Letter v) t = Memᴰ.append_left _ (map_in Letter (sifted_in (λ v. listed r v) 24 v (s.low v t) t))
items_in r s (Pair Precedes v w) t =
    Memᴰ.append_right (map Letter (sifted 24 (λ v. listed r v)))
    (Memᴰ.append_left _ (paired_in (Pair Precedes) (λ v w. precedes r v w) 24 v w (left_low r s v w t) (s.right v w t) t))
items_in r s (Pair Ties v w) t =
    let k = (and_out (ties r v w) (ltb v w) t).0 in
    Memᴰ.append_right (map Letter (sifted 24 (λ v. listed r v)))
    (Memᴰ.append_right (paired (Pair Precedes) 24 (λ v w. precedes r v w))
    (paired_in (Pair Ties) (λ v w. ties r v w && ltb v w) 24 v w (tied_low r s v w k) (tied_low r s w v (s.both v w k)) t))

items_out : (r : Row) (f : Factor) → Memᴰ f (items r) → Lists r f
items_out r f m =
    elim (Memᴰ.append_cases (map Letter (sifted 24 (λ v. listed r v))) m) [
      | inl k ↦ let j = map_out Letter f (sifted 24 (λ v. listed r v)) k in
          subst (Lists r) (sym j.is) (sifted_out (λ v. listed r v) 24 j.of j.lies)
      | inr o ↦ elim (Memᴰ.append_cases (paired (Pair Precedes) 24 (λ v w. precedes r v w)) o) [
        | inl k ↦ let j = paired_out (Pair Precedes) (λ v w. precedes r v w) 24 f k in subst (Lists r) (sym j.is) j.stands
        | inr k ↦ let j = paired_out (Pair Ties) (λ v w. ties r v w && ltb v w) 24 f k in subst (Lists r) (sym j.is) j.stands
      ]
    ]

-- a set is told by its letters
bit_same : (a b : ℕ) → a < 2 → b < 2 → eqb a 1 ≡ eqb b 1 → a ≡ b
bit_same a b h k e = grind (arith, nat_tests)

has_half : (m v : ℕ) → has (m / 2) v ≡ has m (1 + v)
unfolding has
has_half m v = ap (λ (n : ℕ). eqb (n % 2) 1) (shr-shr m 1 v)

pub has_ext : (k m n : ℕ) → m ≤ k → n ≤ k → ((v : ℕ) → has m v ≡ has n v) → m ≡ n
unfolding has
has_ext zero m n h l e = omega arith
has_ext (suc k) m n h l e =
    let low : m % 2 ≡ n % 2 = bit_same (m % 2) (n % 2) (omega arith) (omega arith) (zeroth m n (e 0)) in
    let high : m / 2 ≡ n / 2 = has_ext k (m / 2) (n / 2) (omega arith) (omega arith) (λ v. has_half m v ∙ e (1 + v) ∙ sym (has_half n v)) in
    omega arith
  where
    zeroth : (m n : ℕ) → eqb (m / 2 ^ 0 % 2) 1 ≡ eqb (n / 2 ^ 0 % 2) 1 → eqb (m % 2) 1 ≡ eqb (n % 2) 1
    zeroth m n e = ap (λ (i : ℕ). eqb (i % 2) 1) (omega arith) ∙ e ∙ ap (λ (i : ℕ). eqb (i % 2) 1) (omega arith)

pub sets_same : (ms ns : List ℕ) → length ms ≡ length ns → ((v w : ℕ) → linked ms v w ≡ linked ns v w) → ms ≡ ns
sets_same ms ns l e =
    ext_get_or 0 ms ns l (λ v h. has_ext (get_or ms v 0 + get_or ns v 0) (get_or ms v 0) (get_or ns v 0) (omega arith) (omega arith) (e v))

abbrev row : ℕ → List ℕ → List ℕ → Row
row a b c = record { letters = a; before = record { of = b }; ties = record { of = c } }

row_same : (r q : Row) → r.letters ≡ q.letters → r.before.of ≡ q.before.of → r.ties.of ≡ q.ties.of → r ≡ q
row_same r q e f g =
    ap (λ (a : ℕ). row a r.before.of r.ties.of) e ∙ ap (λ (b : List ℕ). row q.letters b r.ties.of) f ∙ ap (λ (c : List ℕ). row q.letters q.before.of c) g

module _ (r q : Row) (s : Sound r) (z : Sound q) (e : items r ≡ items q) where
  over : (f : Factor) → Lists r f → Lists q f
  over f t = items_out q f (subst (λ (l : List Factor). Memᴰ f l) e (items_in r s f t))

  tie_over : (v w : ℕ) → T (ties r v w) → (v ≡ w → ⊥) → T (ties q v w)
  tie_over v w t n =
      elim (cases_order v w) [
        | inl i ↦ absurd (n i)
        | inr o ↦ elim o [
          | inl l ↦ (and_out _ _ (over (Pair Ties v w) (and_in _ _ t (lt→ltb v w l)))).0
          | inr l ↦ z.both w v (and_out _ _ (over (Pair Ties w v) (and_in _ _ (s.both v w t) (lt→ltb w v l)))).0
        ]
      ]

module _ (r q : Row) (s : Sound r) (z : Sound q) (e : items r ≡ items q) where
  letters_same : r.letters ≡ q.letters
  letters_same =
      has_ext (r.letters + q.letters) r.letters q.letters (omega arith) (omega arith)
      (λ v. bool_ext (listed r v) (listed q v) (over r q s z e (Letter v)) (over q r z s (sym e) (Letter v)))

  before_same : r.before.of ≡ q.before.of
  before_same =
      sets_same _ _ (s.sizes.0 ∙ sym z.sizes.0)
      (λ v w. bool_ext (precedes r v w) (precedes q v w) (over r q s z e (Pair Precedes v w)) (over q r z s (sym e) (Pair Precedes v w)))

  ties_same : r.ties.of ≡ q.ties.of
  ties_same =
      sets_same _ _ (s.sizes.1 ∙ sym z.sizes.1)
      (λ v w. bool_ext (ties r v w) (ties q v w)
      (λ t. tie_over r q s z e v w t (λ i. s.apart w (subst (λ (x : ℕ). T (ties r x w)) i t)))
      (λ t. tie_over q r z s (sym e) v w t (λ i. z.apart w (subst (λ (x : ℕ). T (ties q x w)) i t))))

pub lines_tell : LinesTell
lines_tell r q s z e =
    let i = line_same (items r) (items q) e in
    row_same r q (letters_same r q s z i) (before_same r q s z i) (ties_same r q s z i)
