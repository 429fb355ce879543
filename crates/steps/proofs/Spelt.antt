-- A side written symbol by symbol.
-- Assumes nothing.
use Rattle.std.proofs.Common.{◌≡◌, ℕ, ◌+◌, ◌<◌, Bool, true, false, ◌||◌, eqb, List, [], ◌∷◌, ◌++◌, length, get_or, drop, is_some, Some, None, Option, sym, refl, ap, ◌∙◌, subst, inl, inr, append_assoc, append-nil, arith, length-append, Bor}
use Rattle.std.proofs.lemmas.Bool.{eq-eqb}
use Rattle.std.proofs.lemmas.List.{drop_more}
use Rattle.algebra.specs.Terms.{Term, leaf, never, node, inst}
use Rattle.algebra.specs.Texts.{operator_byte, text_of}
use Rattle.algebra.specs.Rules.{variable_byte, has}
use Rattle.algebra.specs.declared.Variable.{Variable}
use Rattle.steps.specs.Sides.{side_text, slot, Holds, Agrees}
use Rattle.steps.specs.Rewrites.{BoundSymbol, Piece}
use Rattle.steps.specs.declared.binding.Binding.{Binding}
use Rattle.steps.proofs.Taken.{prints, said, has_any, apart, not_never, same_letter, or_end, or_assoc}

some_of : {A : Type 0} (o : Option A) → is_some o ≡ true → (x : A) × (o ≡ Some x)
some_of None e = let z : ◌≡◌ {A = ℕ} 0 1 = cc in absurd (omega arith)
some_of (Some x) e = (x, refl)

pub or_left : (a c : Bool) → a ≡ true → (a || c) ≡ true
or_left a c e = ap (λ (t : Bool). t || c) e

pub or_right : (a c : Bool) → c ≡ true → (a || c) ≡ true
or_right true c e = refl
or_right false c e = e

-- a symbol that stands for bytes is no letter, or one that is bound
piece_bound : (b : Binding) (s : ℕ) (w : List ℕ) → Piece b s w → BoundSymbol b s
piece_bound b s w (inl p) v is =
    let same : p.letter ≡ v = same_letter p.letter v (sym p.is ∙ is) in
    ap is_some (ap (slot b) (sym same) ∙ p.there)
piece_bound b s w (inr p) v is = absurd (p.0 v is)

-- the next symbol of what is left of a side
record Next (b : Binding) (s : ℕ) (todo : List ℕ) (left : List (Term Variable)) : Type 0 where
  bytes : List ℕ
  piece : Piece b s bytes
  more : List (Term Variable)
  todo_is : todo ≡ prints more
  letters : (v : Variable) → has_any v more ≡ true → is_some (slot b v) ≡ true
  says : (σ : Variable → Term ℕ) → Agrees b σ → said σ left ≡ bytes ++ said σ more

next : (b : Binding) (s : ℕ) (todo : List ℕ) (left : List (Term Variable)) → s ∷ todo ≡ prints left → ((v : Variable) → has_any v left ≡ true → is_some (slot b v) ≡ true) → Next b s todo left
next b s todo [] e letters = let z : ◌≡◌ {A = ℕ} 0 1 = cc in absurd (omega arith)
next b s todo (leaf v ∷ ss) e letters =
    let first : s ≡ variable_byte v = cc in
    let there = some_of (slot b v) (letters v (or_left (eqb (variable_byte v) (variable_byte v)) (has_any v ss) (eq-eqb (variable_byte v) (variable_byte v) refl))) in
    record {
      bytes = there.0.now;
      piece = inl (record { letter = v; is = first; bytes = there.0; there = there.1; same = refl });
      more = ss;
      todo_is = cc;
      letters = λ u h. letters u (or_right (eqb (variable_byte u) (variable_byte v)) (has_any u ss) h);
      says = λ σ agrees.
          let is : there.0.now ≡ text_of (σ v) = subst (λ (o : Option (Bor (List ℕ))). Holds o (σ v)) there.1 (agrees v) in
          ap (λ (l : List ℕ). l ++ said σ ss) (sym is);
    }
next b s todo (never ∷ ss) e letters =
    let first : s ≡ 78 = cc in
    record {
      bytes = s ∷ [];
      piece = inr (λ v q. not_never v (sym q ∙ first), refl);
      more = ss;
      todo_is = cc;
      letters = letters;
      says = λ σ agrees. ap (λ (n : ℕ). n ∷ said σ ss) (sym first);
    }
next b s todo (node o x y ∷ ss) e letters =
    let first : s ≡ operator_byte o = cc in
    let tail : todo ≡ (side_text x ++ side_text y) ++ prints ss = cc in
    record {
      bytes = s ∷ [];
      piece = inr (λ v q. apart v o (sym q ∙ first), refl);
      more = x ∷ y ∷ ss;
      todo_is = tail ∙ append_assoc (side_text x) (side_text y) (prints ss);
      letters = λ u h. letters u (or_assoc (has u x) (has u y) (has_any u ss) ∙ h);
      says = λ σ agrees. λ k. sym first k ∷ append_assoc (text_of (inst σ x)) (text_of (inst σ y)) (said σ ss) k;
    }

-- old with the side's first symbols behind it is now
pub record Spelt (b : Binding) (S : Term Variable) (old new todo : List ℕ) : Type 0 where
  pub left : List (Term Variable)
  pub todo_is : todo ≡ prints left
  pub letters : (v : Variable) → has_any v left ≡ true → is_some (slot b v) ≡ true
  pub says : (σ : Variable → Term ℕ) → Agrees b σ → new ++ said σ left ≡ old ++ text_of (inst σ S)

pub spelt_none : (b : Binding) (S : Term Variable) (old todo : List ℕ) → todo ≡ side_text S → ((v : Variable) → has v S ≡ true → is_some (slot b v) ≡ true) → Spelt b S old old todo
spelt_none b S old todo p letters = record {
  left = S ∷ [];
  todo_is = p ∙ sym (append-nil (side_text S));
  letters = λ v h. letters v (or_end (has v S) ∙ h);
  says = λ σ agrees. ap (λ (l : List ℕ). old ++ l) (append-nil (text_of (inst σ S)));
}

module _ (b : Binding) (S : Term Variable) (old new side : List ℕ) (i : ℕ) (h : i < length side) (inv : Spelt b S old new (drop i side)) where
  at : Next b (get_or side i 0) (drop (i + 1) side) inv.left
  at = next b (get_or side i 0) (drop (i + 1) side) inv.left (sym (drop_more side i 0 h) ∙ inv.todo_is) inv.letters

  pub spelt_bound : BoundSymbol b (get_or side i 0)
  spelt_bound = piece_bound b (get_or side i 0) at.bytes at.piece

  pub spelt_more : (after : List ℕ) → ((w : List ℕ) → Piece b (get_or side i 0) w → after ≡ new ++ w) → Spelt b S old after (drop (i + 1) side)
  spelt_more after added = record {
    left = at.more;
    todo_is = at.todo_is;
    letters = at.letters;
    says = λ σ agrees. ap (λ (l : List ℕ). l ++ said σ at.more) (added at.bytes at.piece) ∙ append_assoc new at.bytes (said σ at.more) ∙ ap (λ (l : List ℕ). new ++ l) (sym (at.says σ agrees)) ∙ inv.says σ agrees;
  }

  pub spelt_full : ((w : List ℕ) → Piece b (get_or side i 0) w → 511 < length (new ++ w)) → (σ : Variable → Term ℕ) → Agrees b σ → 511 < length (old ++ text_of (inst σ S))
  spelt_full added σ agrees =
      let long : 511 < length (new ++ at.bytes) = added at.bytes at.piece in
      let all : (new ++ at.bytes) ++ said σ at.more ≡ old ++ text_of (inst σ S) = append_assoc new at.bytes (said σ at.more) ∙ ap (λ (l : List ℕ). new ++ l) (sym (at.says σ agrees)) ∙ inv.says σ agrees in
      omega (arith, ap length all, length-append (new ++ at.bytes) (said σ at.more))

pub spelt_all : (b : Binding) (S : Term Variable) (old new : List ℕ) → Spelt b S old new [] → (σ : Variable → Term ℕ) → Agrees b σ → new ≡ old ++ text_of (inst σ S)
spelt_all b S old new inv σ agrees = go inv.left inv.todo_is (inv.says σ agrees) where
  go : (ss : List (Term Variable)) → [] ≡ prints ss → new ++ said σ ss ≡ old ++ text_of (inst σ S) → new ≡ old ++ text_of (inst σ S)
  go [] e f = sym (append-nil new) ∙ f
  go (leaf v ∷ ss) e f = let z : ◌≡◌ {A = ℕ} 0 1 = cc in absurd (omega arith)
  go (never ∷ ss) e f = let z : ◌≡◌ {A = ℕ} 0 1 = cc in absurd (omega arith)
  go (node o x y ∷ ss) e f = let z : ◌≡◌ {A = ℕ} 0 1 = cc in absurd (omega arith)
