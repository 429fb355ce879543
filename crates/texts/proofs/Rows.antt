-- Rows of terms, written one after the other, and how one byte more is read.
-- Assumes nothing.
use Rattle.std.proofs.Common.{◌≡◌, ℕ, ◌+◌, ◌-◌, ◌<◌, ◌≤◌, List, [], ◌∷◌, ◌++◌, length, get_or, take, drop, Some, None, sym, refl, ap, ◌∙◌, subst, append_assoc, append-nil, arith, length-append, length-drop}
use Rattle.std.proofs.lemmas.List.{drop_more, drop_all, take_at}
use Rattle.algebra.specs.declared.Operator.{Operator}
use Rattle.algebra.specs.declared.Token.{Token}
use Rattle.algebra.specs.declared.Token.TheVariants.{Letter, Never, Joins, Unknown}
use Rattle.algebra.specs.Terms.{Term, leaf, never, node}
use Rattle.algebra.specs.Texts.{operator_byte, never_byte, event_byte, event_token, text_of}
use Rattle.algebra.proofs.Bytes.{Means, event_token_means, event_spelling}
use Rattle.texts.specs.Spans.{Spans, still_to_come}

abbrev writes : List (Term ℕ) → List ℕ
writes [] = []
writes (t ∷ ts) = text_of t ++ writes ts

-- the bytes begin with k terms, and go on with rest
abbrev pub Row : ℕ → List ℕ → List ℕ → Type 0
Row k bs rest = (ts : List (Term ℕ)) × (length ts ≡ k) × (bs ≡ writes ts ++ rest)

-- k terms stand at bs exactly when k' terms stand at bs'
abbrev pub Alike : ℕ → List ℕ → ℕ → List ℕ → Type 0
Alike k bs k' bs' = (rest : List ℕ) → (Row k bs rest → Row k' bs' rest) × (Row k' bs' rest → Row k bs rest)

-- the byte is an operator's, or that of a term by itself
abbrev Joint : ℕ → Type 0
Joint b = (o : Operator) × (Joins o ≡ event_token b)

data Leaf (b : ℕ) : Type 0 where
  a_letter : (v : ℕ) → Letter v ≡ event_token b → Leaf b
  a_never : Never ≡ event_token b → Leaf b

meant : (k : Token ℕ) (b : ℕ) → k ≡ event_token b → Means event_byte k b
meant k b e = subst (λ (x : Token ℕ). Means event_byte x b) (sym e) (event_token_means b)

read_joint : (b : ℕ) (o : Operator) → b ≡ operator_byte o → event_token b ≡ Joins o
read_joint b o e = ap event_token e ∙ event_spelling.joints o

read_letter : (b v : ℕ) → b ≡ event_byte v → event_token b ≡ Letter v
read_letter b v e = ap event_token e ∙ event_spelling.letters v

read_never : (b : ℕ) → b ≡ never_byte → event_token b ≡ Never
read_never b e = ap event_token e

joint_in : (b k : ℕ) (bs rest : List ℕ) → 0 < k → Joint b → Row k (b ∷ bs) rest → Row (k + 1) bs rest
joint_in b k bs rest h (o, is) ([], len, e) = absurd (omega arith)
joint_in b k bs rest h (o, is) (leaf n ∷ ts, len, e) =
    let x : b ≡ event_byte n = cc in let r = read_letter b n x in absurd (cc)
joint_in b k bs rest h (o, is) (never ∷ ts, len, e) =
    let x : b ≡ never_byte = cc in let r = read_never b x in absurd (cc)
joint_in b k bs rest h (o, is) (node o' l r ∷ ts, len, e) =
    let tail : bs ≡ ((text_of l ++ text_of r) ++ writes ts) ++ rest = cc in
    (l ∷ r ∷ ts, omega arith, tail ∙ ap (λ (z : List ℕ). z ++ rest) (append_assoc (text_of l) (text_of r) (writes ts)))

joint_out : (b k : ℕ) (bs rest : List ℕ) → 0 < k → Joint b → Row (k + 1) bs rest → Row k (b ∷ bs) rest
joint_out b k bs rest h is ([], len, e) = absurd (omega arith)
joint_out b k bs rest h is (l ∷ [], len, e) = absurd (omega arith)
joint_out b k bs rest h (o, is) (l ∷ r ∷ ts, len, e) =
    let m : b ≡ operator_byte o = meant (Joins o) b is in
    let tail : bs ≡ ((text_of l ++ text_of r) ++ writes ts) ++ rest =
    e ∙ ap (λ (z : List ℕ). z ++ rest) (sym (append_assoc (text_of l) (text_of r) (writes ts))) in
    (node o l r ∷ ts, omega arith, cc)

leaf_node : (b : ℕ) (o : Operator) → Leaf b → b ≡ operator_byte o → ⊥
leaf_node b o (a_letter v is) e = let r = read_joint b o e in cc
leaf_node b o (a_never is) e = let r = read_joint b o e in cc

leaf_in : (b k : ℕ) (bs rest : List ℕ) → 0 < k → Leaf b → Row k (b ∷ bs) rest → Row (k - 1) bs rest
leaf_in b k bs rest h is ([], len, e) = absurd (omega arith)
leaf_in b k bs rest h is (leaf n ∷ ts, len, e) = (ts, omega arith, cc)
leaf_in b k bs rest h is (never ∷ ts, len, e) = (ts, omega arith, cc)
leaf_in b k bs rest h is (node o l r ∷ ts, len, e) = absurd (leaf_node b o is (cc))

leaf_out : (b k : ℕ) (bs rest : List ℕ) → 0 < k → Leaf b → Row (k - 1) bs rest → Row k (b ∷ bs) rest
leaf_out b k bs rest h (a_letter v is) (ts, len, e) = let m : b ≡ event_byte v = meant (Letter v) b is in (leaf v ∷ ts, omega arith, cc)
leaf_out b k bs rest h (a_never is) (ts, len, e) = let m : b ≡ never_byte = meant Never b is in (never ∷ ts, omega arith, cc)

unknown_none : (b k : ℕ) (bs rest : List ℕ) → 0 < k → Unknown ≡ event_token b → Row k (b ∷ bs) rest → ⊥
unknown_none b k bs rest h is ([], len, e) = omega arith
unknown_none b k bs rest h is (leaf n ∷ ts, len, e) =
    let x : b ≡ event_byte n = cc in let r = read_letter b n x in cc
unknown_none b k bs rest h is (never ∷ ts, len, e) =
    let x : b ≡ never_byte = cc in let r = read_never b x in cc
unknown_none b k bs rest h is (node o l r ∷ ts, len, e) =
    let x : b ≡ operator_byte o = cc in let r = read_joint b o x in cc

end_none : (k : ℕ) (rest : List ℕ) → 0 < k → Row k [] rest → ⊥
end_none k rest h ([], len, e) = omega arith
end_none k rest h (leaf n ∷ ts, len, e) = cc
end_none k rest h (never ∷ ts, len, e) = cc
end_none k rest h (node o l r ∷ ts, len, e) = cc

-- one byte more
module _ (k₀ : ℕ) (bs₀ : List ℕ) (text : List ℕ) (k i : ℕ) (some : 0 < k) (within : i < length text) (inv : Alike k₀ bs₀ k (drop i text)) where
  at_byte : (rest : List ℕ) → (Row k₀ bs₀ rest → Row k (get_or text i 0 ∷ drop (i + 1) text) rest) × (Row k (get_or text i 0 ∷ drop (i + 1) text) rest → Row k₀ bs₀ rest)
  at_byte rest =
      subst (λ (z : List ℕ). (Row k₀ bs₀ rest → Row k z rest) × (Row k z rest → Row k₀ bs₀ rest)) (drop_more text i 0 within) (inv rest)

  alike_joint : Joint (get_or text i 0) → Alike k₀ bs₀ (k + 1) (drop (i + 1) text)
  alike_joint is rest = (λ x. joint_in _ k _ rest some is ((at_byte rest).0 x), λ x. (at_byte rest).1 (joint_out _ k _ rest some is x))

  alike_leaf : Leaf (get_or text i 0) → Alike k₀ bs₀ (k - 1) (drop (i + 1) text)
  alike_leaf is rest = (λ x. leaf_in _ k _ rest some is ((at_byte rest).0 x), λ x. (at_byte rest).1 (leaf_out _ k _ rest some is x))

  -- so many terms are still to come after the byte
  pub alike_after : (t : Token ℕ) → t ≡ event_token (get_or text i 0) → (n : ℕ) → Some n ≡ still_to_come t k → Alike k₀ bs₀ n (drop (i + 1) text)
  alike_after (Letter v) is n e = let m : n ≡ k - 1 = cc in subst (λ (x : ℕ). Alike k₀ bs₀ x (drop (i + 1) text)) (sym m) (alike_leaf (a_letter v is))
  alike_after Never is n e = let m : n ≡ k - 1 = cc in subst (λ (x : ℕ). Alike k₀ bs₀ x (drop (i + 1) text)) (sym m) (alike_leaf (a_never is))
  alike_after (Joins o) is n e = let m : n ≡ k + 1 = cc in subst (λ (x : ℕ). Alike k₀ bs₀ x (drop (i + 1) text)) (sym m) (alike_joint (o, is))
  alike_after Unknown is n e = absurd (cc)

  -- no term stands where the byte is none
  pub stop_unknown : (t : Token ℕ) → t ≡ event_token (get_or text i 0) → None ≡ still_to_come t k → (rest : List ℕ) → Row k₀ bs₀ rest → ⊥
  stop_unknown (Letter v) is e rest x = cc
  stop_unknown Never is e rest x = cc
  stop_unknown (Joins o) is e rest x = cc
  stop_unknown Unknown is e rest x = unknown_none _ k _ rest some is ((at_byte rest).0 x)

pub after_small : (t : Token ℕ) (k n i : ℕ) → k ≤ i + 1 → Some n ≡ still_to_come t k → n ≤ i + 1 + 1
after_small (Letter v) k n i h e = let m : n ≡ k - 1 = cc in omega arith
after_small Never k n i h e = let m : n ≡ k - 1 = cc in omega arith
after_small (Joins o) k n i h e = let m : n ≡ k + 1 = cc in omega arith
after_small Unknown k n i h e = absurd (cc)

pub stop_end : (k₀ : ℕ) (bs₀ text : List ℕ) (k i : ℕ) → 0 < k → length text ≤ i → Alike k₀ bs₀ k (drop i text) → (rest : List ℕ) → Row k₀ bs₀ rest → ⊥
stop_end k₀ bs₀ text k i some past inv rest x = end_none k rest some (subst (λ (z : List ℕ). Row k z rest) (drop_all i text past) ((inv rest).0 x))

-- one term is a row of one
pub one : (t : Term ℕ) (bs rest : List ℕ) → bs ≡ text_of t ++ rest → Row 1 bs rest
one t bs rest e = (t ∷ [], refl, e ∙ ap (λ (z : List ℕ). z ++ rest) (sym (append-nil (text_of t))))

of_one : (bs rest : List ℕ) → Row 1 bs rest → (t : Term ℕ) × (bs ≡ text_of t ++ rest)
of_one bs rest ([], len, e) = absurd (omega arith)
of_one bs rest (t ∷ [], len, e) = (t, e ∙ ap (λ (z : List ℕ). z ++ rest) (append-nil (text_of t)))
of_one bs rest (t ∷ u ∷ ts, len, e) = absurd (omega arith)

pub done : (bs text : List ℕ) (i : ℕ) → Alike 1 bs 0 (drop i text) → (t : Term ℕ) × (bs ≡ text_of t ++ drop i text)
done bs text i inv = of_one bs (drop i text) ((inv (drop i text)).1 ([], refl, refl))

pub some_bytes : (t : Term ℕ) → 0 < length (text_of t)
some_bytes (leaf n) = omega arith
some_bytes never = omega arith
some_bytes (node o l r) = omega arith

pub spans : (bs : List ℕ) (place end : ℕ) (t : Term ℕ) → end ≤ length bs → drop place bs ≡ text_of t ++ drop end bs → Spans bs place t end
spans bs place end t h is = record {
  here = is;
  counted = omega (arith, some_bytes t, ap length is, length-append (text_of t) (drop end bs), length-drop place bs, length-drop end bs);
  within = h;
}

-- the bytes of the term that stands at a place
pub spans_part : (bs : List ℕ) (place : ℕ) (t : Term ℕ) (end : ℕ) → Spans bs place t end → take (end - place) (drop place bs) ≡ text_of t
spans_part bs place t end s = ap (take (end - place)) s.here ∙ take_at (text_of t) (drop end bs) (end - place) (omega (arith, s.counted))
