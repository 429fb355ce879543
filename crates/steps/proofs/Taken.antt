-- A side's symbols beside a text, one after the other.
-- Assumes nothing.
use Rattle.std.proofs.Common.{◌≡◌, ℕ, ◌+◌, ◌<◌, Bool, true, false, ◌||◌, eqb, ◌⊎◌, List, [], ◌∷◌, ◌++◌, length, get_or, drop, is_some, Some, None, Option, sym, refl, ap, ◌∙◌, subst, inl, inr, ⊎_elim, append_assoc, append-nil, arith, Bor}
use Rattle.std.proofs.lemmas.Bool.{eq-eqb, ne_eqb, cases_eq}
use Rattle.std.proofs.lemmas.List.{append_cancel_left, drop_more}
use Rattle.algebra.specs.Terms.{Term, leaf, never, node, inst}
use Rattle.algebra.specs.Texts.{operator_byte, text_of}
use Rattle.algebra.specs.Rules.{variable_byte, variable_letter, has}
use Rattle.algebra.specs.declared.Operator.{Operator}
use Rattle.algebra.specs.declared.Operator.TheVariants.{Or, And, Before, Simultaneous, Inclusive}
use Rattle.algebra.specs.declared.Token.TheVariants as tokens
use Rattle.algebra.specs.declared.Variable.{Variable}
use Rattle.algebra.specs.declared.Variable.TheVariants.{X, Y, Z}
use Rattle.algebra.proofs.Bytes.{one_text}
use Rattle.steps.specs.Sides.{side_text, slot, Holds, Takes, Agrees, Matches, Fitted}
use Rattle.steps.specs.Walks.{Plain, Took, Stuck}
use Rattle.steps.specs.declared.binding.Binding.{Binding}
use Rattle.steps.specs.declared.matching.Walk.{Walk}

abbrev pub prints : List (Term Variable) → List ℕ
prints [] = []
prints (s ∷ ss) = side_text s ++ prints ss

abbrev pub said : (Variable → Term ℕ) → List (Term Variable) → List ℕ
said σ [] = []
said σ (s ∷ ss) = text_of (inst σ s) ++ said σ ss

abbrev pub has_any : Variable → List (Term Variable) → Bool
has_any v [] = false
has_any v (s ∷ ss) = has v s || has_any v ss

pub or_end : (b : Bool) → b ≡ (b || false)
or_end true = refl
or_end false = refl

or_last : (b c : Bool) → (b || (true || c)) ≡ true
or_last true c = refl
or_last false c = refl

pub or_assoc : (a b c : Bool) → ((a || b) || c) ≡ (a || (b || c))
or_assoc true b c = refl
or_assoc false b c = refl

-- bound bytes are a term's
abbrev pub Sound : Option (Bor (List ℕ)) → Type 0
Sound None = Unit {0}
Sound (Some w) = (t : Term ℕ) × (w.now ≡ text_of t)

-- what is left of the side, and that the text matches where what is left does
pub record Sofar (S : Term Variable) (text todo : List ℕ) (b : Binding) (rest : List ℕ) : Type 0 where
  pub left : List (Term Variable)
  pub todo_is : todo ≡ prints left
  pub sound : (v : Variable) → Sound (slot b v)
  pub seen : (v : Variable) → has v S ≡ (is_some (slot b v) || has_any v left)
  pub to : (σ : Variable → Term ℕ) (r : List ℕ) → Matches S σ text r → Agrees b σ × (rest ≡ said σ left ++ r)
  pub from : (σ : Variable → Term ℕ) (r : List ℕ) → Agrees b σ → rest ≡ said σ left ++ r → Matches S σ text r

pub high : (v : Variable) → (87 < variable_byte v) × (variable_byte v < 91)
high X = (omega arith, omega arith)
high Y = (omega arith, omega arith)
high Z = (omega arith, omega arith)

pub apart : (v : Variable) (o : Operator) → variable_byte v ≡ operator_byte o → ⊥
apart v Or e = let h = high v in omega arith
apart v And e = let h = high v in omega arith
apart v Before e = let h = high v in omega arith
apart v Simultaneous e = let h = high v in omega arith
apart v Inclusive e = let h = high v in omega arith

pub not_never : (v : Variable) → variable_byte v ≡ 78 → ⊥
not_never v e = let h = high v in omega arith

-- the bytes tell the letters apart
letter_back : (v : Variable) → variable_letter (variable_byte v) ≡ tokens.Letter v
letter_back X = refl
letter_back Y = refl
letter_back Z = refl

pub same_letter : (u v : Variable) → variable_byte u ≡ variable_byte v → u ≡ v
same_letter u v e = let both : tokens.Letter u ≡ tokens.Letter v = sym (letter_back u) ∙ ap variable_letter e ∙ letter_back v in cc

same_var : (u v : Variable) → (u ≡ v) ⊎ (u ≡ v → ⊥)
same_var u v =
    elim (cases_eq (variable_byte u) (variable_byte v)) [ inl e ↦ inl (same_letter u v e) | inr n ↦ inr (λ e. n (ap variable_byte e)) ]

settle : (o : Option (Bor (List ℕ))) (w : List ℕ) (t : Term ℕ) (x y : List ℕ) → Takes o w → Holds o t → w ++ x ≡ text_of t ++ y → w ≡ text_of t
settle None w t x y (u, is) h e = is ∙ ap text_of (one_text u t x y (ap (λ (l : List ℕ). l ++ x) (sym is) ∙ e)).0
settle (Some s) w t x y tk h e = tk ∙ h

unsettle : (o : Option (Bor (List ℕ))) (w : List ℕ) (t : Term ℕ) → Takes o w → w ≡ text_of t → Holds o t
unsettle None w t tk e = tt
unsettle (Some s) w t tk e = sym tk ∙ e

takes_term : (o : Option (Bor (List ℕ))) (t : Term ℕ) → Holds o t → Takes o (text_of t)
takes_term None t h = (t, refl)
takes_term (Some s) t h = sym h

sound_more : (o : Option (Bor (List ℕ))) (w : List ℕ) → Takes o w → Sound o → (t : Term ℕ) × (w ≡ text_of t)
sound_more None w tk s = tk
sound_more (Some v) w tk s = (s.0, tk ∙ s.1)

pub start : (S : Term Variable) (text todo rest : List ℕ) (b : Binding) → todo ≡ side_text S → ((v : Variable) → slot b v ≡ None) → rest ≡ text → Sofar S text todo b rest
start S text todo rest b p none same = record {
  left = S ∷ [];
  todo_is = p ∙ sym (append-nil (side_text S));
  sound = λ v. subst Sound (sym (none v)) tt;
  seen = λ v. or_end (has v S) ∙ ap (λ (o : Option (Bor (List ℕ))). is_some o || (has v S || false)) (sym (none v));
  to = λ σ r m. (λ v. subst (λ (o : Option (Bor (List ℕ))). Holds o (σ v)) (sym (none v)) tt, same ∙ m ∙ ap (λ (l : List ℕ). l ++ r) (sym (append-nil (text_of (inst σ S)))));
  from = λ σ r a e. sym same ∙ e ∙ ap (λ (l : List ℕ). l ++ r) (append-nil (text_of (inst σ S)));
}

module _ (S : Term Variable) (text todo : List ℕ) (a b : Walk) (s : ℕ) where
  step_letter : (v : Variable) (ss : List (Term Variable)) → todo ≡ prints ss → ((v : Variable) → Sound (slot a.bound v)) → ((u : Variable) → has u S ≡ (is_some (slot a.bound u) || has_any u (leaf v ∷ ss))) →
      ((σ : Variable → Term ℕ) (r : List ℕ) → Matches S σ text r → Agrees a.bound σ × (a.rest.now ≡ said σ (leaf v ∷ ss) ++ r)) →
      ((σ : Variable → Term ℕ) (r : List ℕ) → Agrees a.bound σ → a.rest.now ≡ said σ (leaf v ∷ ss) ++ r → Matches S σ text r) →
      (w : Bor (List ℕ)) → Takes (slot a.bound v) w.now → slot b.bound v ≡ Some w → ((u : Variable) → (u ≡ v → ⊥) → slot b.bound u ≡ slot a.bound u) → a.rest.now ≡ w.now ++ b.rest.now →
      Sofar S text todo b.bound b.rest.now
  step_letter v ss todo_is sound seen to from w takes here other cut = record {
    left = ss;
    todo_is = todo_is;
    sound = λ u. ⊎_elim
        (λ e. subst (λ (x : Variable). Sound (slot b.bound x)) (sym e) (subst Sound (sym here) (sound_more (slot a.bound v) w.now takes (sound v))))
        (λ n. subst Sound (sym (other u n)) (sound u)) (same_var u v);
    seen = λ u. ⊎_elim
        (λ e.
        let old : has v S ≡ true = seen v ∙ ap (λ (t : Bool). is_some (slot a.bound v) || (t || has_any v ss)) (eq-eqb (variable_byte v) (variable_byte v) refl) ∙ or_last (is_some (slot a.bound v)) (has_any v ss) in
        subst (λ (x : Variable). has x S ≡ (is_some (slot b.bound x) || has_any x ss)) (sym e) (old ∙ ap (λ (o : Option (Bor (List ℕ))). is_some o || has_any v ss) (sym here)))
        (λ n.
        let differs : eqb (variable_byte u) (variable_byte v) ≡ false = ne_eqb (variable_byte u) (variable_byte v) (λ q. n (same_letter u v q)) in
        seen u ∙ (λ k. is_some (sym (other u n) k) || (differs k || has_any u ss))) (same_var u v);
    to = λ σ r m.
        let old = to σ r m in
        let joined : w.now ++ b.rest.now ≡ text_of (σ v) ++ (said σ ss ++ r) = sym cut ∙ old.1 ∙ append_assoc (text_of (σ v)) (said σ ss) r in
        let is : w.now ≡ text_of (σ v) = settle (slot a.bound v) w.now (σ v) _ _ takes (old.0 v) joined in (
          λ u. ⊎_elim
              (λ e. subst (λ (x : Variable). Holds (slot b.bound x) (σ x)) (sym e) (subst (λ (o : Option (Bor (List ℕ))). Holds o (σ v)) (sym here) is))
              (λ n. subst (λ (o : Option (Bor (List ℕ))). Holds o (σ u)) (sym (other u n)) (old.0 u)) (same_var u v),
          append_cancel_left w.now b.rest.now (said σ ss ++ r) (joined ∙ ap (λ (l : List ℕ). l ++ (said σ ss ++ r)) (sym is)),
        );
    from = λ σ r agrees e.
        let is : w.now ≡ text_of (σ v) = subst (λ (o : Option (Bor (List ℕ))). Holds o (σ v)) here (agrees v) in
        from σ r
        (λ u. ⊎_elim
        (λ e. subst (λ (x : Variable). Holds (slot a.bound x) (σ x)) (sym e) (unsettle (slot a.bound v) w.now (σ v) takes is))
        (λ n. subst (λ (o : Option (Bor (List ℕ))). Holds o (σ u)) (other u n) (agrees u)) (same_var u v))
        (cut ∙ (λ k. is k ++ e k) ∙ sym (append_assoc (text_of (σ v)) (said σ ss) r));
  }

  step_plain : (ss more : List (Term Variable)) → todo ≡ prints more → ((σ : Variable → Term ℕ) → said σ ss ≡ s ∷ said σ more) → ((v : Variable) → Sound (slot a.bound v)) → ((u : Variable) → has u S ≡ (is_some (slot a.bound u) || has_any u more)) →
      ((σ : Variable → Term ℕ) (r : List ℕ) → Matches S σ text r → Agrees a.bound σ × (a.rest.now ≡ said σ ss ++ r)) →
      ((σ : Variable → Term ℕ) (r : List ℕ) → Agrees a.bound σ → a.rest.now ≡ said σ ss ++ r → Matches S σ text r) →
      Plain a s b → Sofar S text todo b.bound b.rest.now
  step_plain ss more todo_is says sound seen to from p = subst (λ (x : Binding). Sofar S text todo x b.rest.now) (sym p.same) (record {
    left = more;
    todo_is = todo_is;
    sound = sound;
    seen = seen;
    to = λ σ r m.
        let old = to σ r m in
        let q : s ∷ b.rest.now ≡ s ∷ (said σ more ++ r) = sym p.cut ∙ old.1 ∙ ap (λ (l : List ℕ). l ++ r) (says σ) in
        (old.0, cc);
    from = λ σ r agrees e. from σ r agrees (p.cut ∙ ap (λ (l : List ℕ). s ∷ l) e ∙ ap (λ (l : List ℕ). l ++ r) (sym (says σ)));
  })

  pub step : Sofar S text (s ∷ todo) a.bound a.rest.now → Took a s b → Sofar S text todo b.bound b.rest.now
  step sofar took = go sofar.left sofar.todo_is sofar.seen sofar.to sofar.from took where
    go : (ss : List (Term Variable)) → s ∷ todo ≡ prints ss → ((u : Variable) → has u S ≡ (is_some (slot a.bound u) || has_any u ss)) →
        ((σ : Variable → Term ℕ) (r : List ℕ) → Matches S σ text r → Agrees a.bound σ × (a.rest.now ≡ said σ ss ++ r)) →
        ((σ : Variable → Term ℕ) (r : List ℕ) → Agrees a.bound σ → a.rest.now ≡ said σ ss ++ r → Matches S σ text r) →
        Took a s b → Sofar S text todo b.bound b.rest.now
    go [] e seen to from took = let z : ◌≡◌ {A = ℕ} 0 1 = cc in absurd (omega arith)
    go (leaf v ∷ ss) e seen to from (inl k) =
        let first : s ≡ variable_byte v = cc in
        let one : k.letter ≡ v = same_letter k.letter v (sym k.is ∙ first) in
        let tail : todo ≡ prints ss = cc in
        step_letter v ss tail sofar.sound seen to from k.bytes (subst (λ (x : Variable). Takes (slot a.bound x) k.bytes.now) one k.takes) (subst (λ (x : Variable). slot b.bound x ≡ Some k.bytes) one k.here) (λ u n. k.other u (λ q. n (q ∙ one))) k.cut
    go (leaf v ∷ ss) e seen to from (inr p) = absurd (p.none v (cc))
    go (never ∷ ss) e seen to from (inl k) = let q : variable_byte k.letter ≡ 78 = sym k.is ∙ cc in absurd (not_never k.letter q)
    go (never ∷ ss) e seen to from (inr p) =
        let first : s ≡ 78 = cc in
        step_plain (never ∷ ss) ss (cc) (λ σ. ap (λ (n : ℕ). n ∷ said σ ss) (sym first)) sofar.sound seen to from p
    go (node o l r ∷ ss) e seen to from (inl k) = let q : variable_byte k.letter ≡ operator_byte o = sym k.is ∙ cc in absurd (apart k.letter o q)
    go (node o l r ∷ ss) e seen to from (inr p) =
        let first : s ≡ operator_byte o = cc in
        let tail : todo ≡ (side_text l ++ side_text r) ++ prints ss = cc in
        step_plain (node o l r ∷ ss) (l ∷ r ∷ ss) (tail ∙ append_assoc (side_text l) (side_text r) (prints ss))
        (λ σ. λ k. sym first k ∷ append_assoc (text_of (inst σ l)) (text_of (inst σ r)) (said σ ss) k) sofar.sound (λ u. seen u ∙ ap (λ (t : Bool). is_some (slot a.bound u) || t) (or_assoc (has u l) (has u r) (has_any u ss))) to from p

pub stuck : (S : Term Variable) (text todo : List ℕ) (a : Walk) (s : ℕ) → Sofar S text (s ∷ todo) a.bound a.rest.now → Stuck a s → (σ : Variable → Term ℕ) (r : List ℕ) → Matches S σ text r → ⊥
stuck S text todo a s sofar block σ r m = go sofar.left sofar.todo_is (sofar.to σ r m) where
  go : (ss : List (Term Variable)) → s ∷ todo ≡ prints ss → Agrees a.bound σ × (a.rest.now ≡ said σ ss ++ r) → ⊥
  go [] e old = let z : ◌≡◌ {A = ℕ} 0 1 = cc in omega arith
  go (leaf v ∷ ss) e old = block.letter v (cc) (text_of (σ v)) (said σ ss ++ r) (takes_term (slot a.bound v) (σ v) (old.0 v)) (old.1 ∙ append_assoc (text_of (σ v)) (said σ ss) r)
  go (never ∷ ss) e old =
      let first : s ≡ 78 = cc in
      block.plain (λ v q. not_never v (sym q ∙ first)) (said σ ss ++ r) (old.1 ∙ ap (λ (n : ℕ). n ∷ (said σ ss ++ r)) (sym first))
  go (node o x y ∷ ss) e old =
      let first : s ≡ operator_byte o = cc in
      block.plain (λ v q. apart v o (sym q ∙ first)) (((text_of (inst σ x) ++ text_of (inst σ y)) ++ said σ ss) ++ r) (old.1 ∙ ap (λ (n : ℕ). n ∷ (((text_of (inst σ x) ++ text_of (inst σ y)) ++ said σ ss) ++ r)) (sym first))

pick : (o : Option (Bor (List ℕ))) → Sound o → (t : Term ℕ) × Holds o t
pick None s = (never, tt)
pick (Some w) s = s

pub done : (S : Term Variable) (text rest : List ℕ) (b : Binding) → Sofar S text [] b rest → Fitted S text b rest
done S text rest b sofar =
    let σ : Variable → Term ℕ = λ v. (pick (slot b v) (sofar.sound v)).0 in
    let agrees : Agrees b σ = λ v. (pick (slot b v) (sofar.sound v)).1 in
    go σ sofar.left sofar.todo_is agrees (sofar.from σ rest agrees) sofar.seen
  where
    go : (σ : Variable → Term ℕ) (ss : List (Term Variable)) → [] ≡ prints ss → Agrees b σ → (rest ≡ said σ ss ++ rest → Matches S σ text rest) → ((u : Variable) → has u S ≡ (is_some (slot b u) || has_any u ss)) → Fitted S text b rest
    go σ [] e agrees f seen = record { choice = σ; agrees = agrees; matches = f refl; letters = λ v. or_end (is_some (slot b v)) ∙ sym (seen v) }
    go σ (leaf v ∷ ss) e agrees f seen = let z : ◌≡◌ {A = ℕ} 0 1 = cc in absurd (omega arith)
    go σ (never ∷ ss) e agrees f seen = let z : ◌≡◌ {A = ℕ} 0 1 = cc in absurd (omega arith)
    go σ (node o x y ∷ ss) e agrees f seen = let z : ◌≡◌ {A = ℕ} 0 1 = cc in absurd (omega arith)

pub again : (S : Term Variable) (text side : List ℕ) (i : ℕ) (a b : Walk) → i < length side → Sofar S text (drop i side) a.bound a.rest.now → Took a (get_or side i 0) b → Sofar S text (drop (i + 1) side) b.bound b.rest.now
again S text side i a b h sofar took =
    step S text (drop (i + 1) side) a b (get_or side i 0) (subst (λ (l : List ℕ). Sofar S text l a.bound a.rest.now) (drop_more side i 0 h) sofar) took

pub never_fits : (S : Term Variable) (text side : List ℕ) (i : ℕ) (a : Walk) → i < length side → Sofar S text (drop i side) a.bound a.rest.now → Stuck a (get_or side i 0) → (σ : Variable → Term ℕ) (r : List ℕ) → Matches S σ text r → ⊥
never_fits S text side i a h sofar =
    stuck S text (drop (i + 1) side) a (get_or side i 0) (subst (λ (l : List ℕ). Sofar S text l a.bound a.rest.now) (drop_more side i 0 h) sofar)
