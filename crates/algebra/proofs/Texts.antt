-- Texts are read in one way only, and the term at a place can be put for another.
-- Assumes nothing.
use Rattle.std.proofs.Common.{◌≡◌, ℕ, zero, suc, ◌+◌, ◌-◌, ◌<◌, ◌≤◌, leb, List, [], ◌∷◌, ◌++◌, length, take, drop, sym, refl, ap, ◌∙◌, subst, ap₂, inl, inr, append_assoc, append-nil, arith, leb→le, length-append}
use mathlib.Core.List.{append_cancel_left}
use lib.Dec.{nleb→lt}
use lib.Seq.{take-append-le, drop-append-le, take-append-add, drop-append-add}
use Rattle.algebra.specs.Terms.{Term, leaf, never, node}
use Rattle.algebra.specs.declared.Operator.{Operator}
use Rattle.algebra.specs.declared.Token.{Token}
use Rattle.algebra.specs.declared.Token.TheVariants.{Letter, Never, Joins, Unknown}
use Rattle.algebra.specs.Texts.{operator_byte, never_byte, write, Read, end, bad, on, front, terms}
use Rattle.algebra.specs.Replacing.{Replaced, here, left, right, Put}
use Rattle.algebra.specs.Sizes.{yes_or_no}

-- bytes and what they are belong together
pub record Spelling {V : Type 0} (f : V → ℕ) (tok : ℕ → Token V) : Type 0 where
  pub letters : (v : V) → tok (f v) ≡ Letter v
  pub joints : (o : Operator) → tok (operator_byte o) ≡ Joins o
  pub nevers : tok never_byte ≡ Never
  pub letter_back : (b : ℕ) (v : V) → tok b ≡ Letter v → b ≡ f v
  pub joint_back : (b : ℕ) (o : Operator) → tok b ≡ Joins o → b ≡ operator_byte o
  pub never_back : (b : ℕ) → tok b ≡ Never → b ≡ never_byte

-- u stands in the text bs as far as s says
abbrev Shown : {V : Type 0} → (V → ℕ) → Read V → List ℕ → Type 0
Shown f end bs = bs ≡ []
Shown f bad bs = Unit {0}
Shown f (on t s) bs = (cs : List ℕ) × (bs ≡ write f t ++ cs) × Shown f s cs

-- the term at a place of a text, and what stands after it; any other can be put there
pub record Spot {V : Type 0} (f : V → ℕ) (t : Term V) (place : ℕ) : Type 0 where
  pub term : Term V
  pub rest : List ℕ
  pub at : drop place (write f t) ≡ write f term ++ rest
  pub put : Term V → Term V
  pub replaced : (q : Term V) → Replaced term q t (put q)
  pub written : (q : Term V) → write f (put q) ≡ take place (write f t) ++ (write f q ++ rest)

module _ {V : Type 0} (f : V → ℕ) where
  whole : (t : Term V) → Spot f t 0
  whole t = record { term = t; rest = []; at = sym (append-nil (write f t)); put = λ q. q; replaced = λ q. here; written = λ q. sym (append-nil (write f q)) }

  in_left : (o : Operator) (l r : Term V) (n : ℕ) → n ≤ length (write f l) → Spot f l n → Spot f (node o l r) (suc n)
  in_left o l r n h s = record {
    term = s.term;
    rest = s.rest ++ write f r;
    at =
        drop-append-le n (write f l) (write f r) h ∙ ap (λ (x : List ℕ). x ++ write f r) s.at
        ∙ append_assoc (write f s.term) s.rest (write f r);
    put = λ q. node o (s.put q) r;
    replaced = λ q. left (s.replaced q);
    written = λ q.
        ap (λ (x : List ℕ). operator_byte o ∷ x)
        (ap (λ (x : List ℕ). x ++ write f r) (s.written q)
        ∙ append_assoc (take n (write f l)) (write f q ++ s.rest) (write f r)
        ∙ ap₂ ◌++◌ (sym (take-append-le n (write f l) (write f r) h)) (append_assoc (write f q) s.rest (write f r)));
  }

  in_right : (o : Operator) (l r : Term V) (m : ℕ) → Spot f r m → Spot f (node o l r) (suc (length (write f l) + m))
  in_right o l r m s = record {
    term = s.term;
    rest = s.rest;
    at = drop-append-add (write f l) (write f r) m ∙ s.at;
    put = λ q. node o l (s.put q);
    replaced = λ q. right (s.replaced q);
    written = λ q.
        ap (λ (x : List ℕ). operator_byte o ∷ x)
        (ap (λ (x : List ℕ). write f l ++ x) (s.written q)
        ∙ sym (append_assoc (write f l) (take m (write f r)) (write f q ++ s.rest))
        ∙ ap (λ (x : List ℕ). x ++ (write f q ++ s.rest)) (sym (take-append-add (write f l) (write f r) m)));
  }

  node_spot : (o : Operator) (l r : Term V) → ((n : ℕ) → n < length (write f l) → Spot f l n) → ((n : ℕ) → n < length (write f r) → Spot f r n) → (n : ℕ) → n < length (write f (node o l r)) → Spot f (node o l r) n
  node_spot o l r goL goR zero h = whole (node o l r)
  node_spot o l r goL goR (suc n) h =
      let all = length-append (write f l) (write f r) in
      elim (yes_or_no (leb (suc n) (length (write f l)))) [
        | inl t ↦ let k : n < length (write f l) = leb→le _ _ t in in_left o l r n (omega arith) (goL n k)
        | inr t ↦
            let k : length (write f l) < suc n = nleb→lt _ _ t in
            let e : length (write f l) + (n - length (write f l)) ≡ n = omega arith in
            subst (λ (m : ℕ). Spot f (node o l r) (suc m)) e (in_right o l r (n - length (write f l)) (goR _ (omega arith)))
      ]

  pub spot_at : (t : Term V) (n : ℕ) → n < length (write f t) → Spot f t n
  spot_at (leaf v) zero h = whole (leaf v)
  spot_at (leaf v) (suc n) h = absurd (omega arith)
  spot_at never zero h = whole never
  spot_at never (suc n) h = absurd (omega arith)
  spot_at (node o l r) n h = node_spot o l r (spot_at l) (spot_at r) n h

module _ {V : Type 0} (f : V → ℕ) (tok : ℕ → Token V) (sp : Spelling f tok) where
  pub terms_write : (t : Term V) (bs : List ℕ) → terms tok (write f t ++ bs) ≡ on t (terms tok bs)
  terms_write (leaf v) bs = ap (λ k. front k (terms tok bs)) (sp.letters v)
  terms_write never bs = ap (λ k. front k (terms tok bs)) sp.nevers
  terms_write (node o l r) bs =
      ap₂ front (sp.joints o)
      (ap (terms tok) (append_assoc (write f l) (write f r) bs) ∙ terms_write l (write f r ++ bs) ∙ ap (on l) (terms_write r bs))

  -- a text is read in one way only
  pub one_reading : (t t' : Term V) (bs bs' : List ℕ) → write f t ++ bs ≡ write f t' ++ bs' → (t ≡ t') × (bs ≡ bs')
  one_reading t t' bs bs' e =
      let both : on t (terms tok bs) ≡ on t' (terms tok bs') = sym (terms_write t bs) ∙ ap (terms tok) e ∙ terms_write t' bs' in
      let same : t ≡ t' = cc in
      (same, append_cancel_left (write f t) bs bs' (e ∙ ap (λ (u : Term V). write f u ++ bs') (sym same)))

  shown_front : (k : Token V) (b : ℕ) (bs : List ℕ) → tok b ≡ k → (s : Read V) → Shown f s bs → Shown f (front k s) (b ∷ bs)
  shown_front (Letter v) b bs e s h = (bs, ap (λ (c : ℕ). c ∷ bs) (sp.letter_back b v e), h)
  shown_front Never b bs e s h = (bs, ap (λ (c : ℕ). c ∷ bs) (sp.never_back b e), h)
  shown_front Unknown b bs e s h = tt
  shown_front (Joins o) b bs e end h = tt
  shown_front (Joins o) b bs e bad h = tt
  shown_front (Joins o) b bs e (on l end) h = tt
  shown_front (Joins o) b bs e (on l bad) h = tt
  shown_front (Joins o) b bs e (on l (on r s)) h =
      let k = h.2 in
      (k.0, ap₂ ◌∷◌ (sp.joint_back b o e) (h.1 ∙ ap (λ (x : List ℕ). write f l ++ x) k.1 ∙ sym (append_assoc (write f l) (write f r) k.0)), k.2)

  shown : (bs : List ℕ) → Shown f (terms tok bs) bs
  shown [] = refl
  shown (b ∷ bs) = shown_front (tok b) b bs refl (terms tok bs) (shown bs)

  -- what is read as one term is its text, and nothing else is
  pub read_back : (bs : List ℕ) (t : Term V) → terms tok bs ≡ on t end → bs ≡ write f t
  read_back bs t e =
      let h : Shown f (on t end) bs = subst (λ (s : Read V). Shown f s bs) e (shown bs) in
      h.1 ∙ ap (λ (cs : List ℕ). write f t ++ cs) h.2 ∙ append-nil (write f t)

  pub read_text : (t : Term V) → terms tok (write f t) ≡ on t end
  read_text t = ap (terms tok) (sym (append-nil (write f t))) ∙ terms_write t []

  -- the term at a place put for another
  pub put_at : (t p q : Term V) (place : ℕ) (rest : List ℕ) → place < length (write f t) → drop place (write f t) ≡ write f p ++ rest → Put f t p q place rest
  put_at t p q place rest h e =
      let s = spot_at f t place h in
      let u = one_reading s.term p s.rest rest (sym s.at ∙ e) in
      record {
        new = s.put q;
        replaced = subst (λ (x : Term V). Replaced x q t (s.put q)) u.0 (s.replaced q);
        written = sym (s.written q ∙ ap (λ (x : List ℕ). take place (write f t) ++ (write f q ++ x)) u.1);
      }
