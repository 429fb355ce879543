-- A rule that fits makes one text, of letters of the tree, and by one step of the sheet.
-- Assumes nothing.
use Rattle.std.proofs.Common.{◌≡◌, ℕ, ◌+◌, ◌<◌, ◌≤◌, Bool, true, false, not, ◌&&◌, List, ◌++◌, length, take, drop, is_some, Some, None, Option, sym, refl, ap, ◌∙◌, subst, inl, inr, arith, eqb-true}
use Rattle.std.proofs.lemmas.List.Elements.{All-append, All-take, All-drop}
use Rattle.std.proofs.lemmas.Bool.{eq-eqb, cases_Bool}
use Rattle.algebra.specs.Terms.{Term, leaf, never, node, inst, Among}
use Rattle.algebra.specs.Texts.{text_of, Whole}
use Rattle.algebra.specs.Rules.{variable_byte, has}
use Rattle.algebra.specs.Steps.{Derived}
use Rattle.algebra.specs.declared.Variable.{Variable}
use Rattle.algebra.proofs.Bytes.{one_text, same_term, puts_terms}
use Rattle.algebra.proofs.Derived.{steps_derive}
use Rattle.texts.proofs.Letters.{Below, all_left, all_right, among_below, below_among, whole_below}
use Rattle.steps.specs.Records.{Request, WholeTerm, supplied_for}
use Rattle.steps.specs.Stepping.{Fits, SuppliesLacked, Spells, StepsOn, old_of, new_of}
use Rattle.steps.proofs.Taken.{same_letter}
use Rattle.steps.proofs.Merge.{inst_same}
use Rattle.steps.proofs.Spelt.{or_left, or_right}
use Rattle.steps.proofs.Having.{or_cases}

-- a letter of a side has one term
inst_letter : (σ τ : Variable → Term ℕ) (s : Term Variable) → inst σ s ≡ inst τ s → (v : Variable) → has v s ≡ true → σ v ≡ τ v
inst_letter σ τ (leaf u) e v h =
    let is : u ≡ v = sym (same_letter v u (eqb-true (variable_byte v) (variable_byte u) h)) in
    subst (λ (x : Variable). σ x ≡ τ x) is e
inst_letter σ τ never e v h = let z : ◌≡◌ {A = ℕ} 0 1 = cc in absurd (omega arith)
inst_letter σ τ (node o l r) e v h =
    let lefts : inst σ l ≡ inst τ l = cc in
    let rights : inst σ r ≡ inst τ r = cc in
    elim (or_cases (has v l) (has v r) h) [ inl k ↦ inst_letter σ τ l lefts v k | inr k ↦ inst_letter σ τ r rights v k ]

-- a supplied letter has one term
spelt_once : (o : Option (List ℕ)) (t u : Term ℕ) → is_some o ≡ true → Spells o t → Spells o u → t ≡ u
spelt_once None t u h a b = let z : ◌≡◌ {A = ℕ} 0 1 = cc in absurd (omega arith)
spelt_once (Some w) t u h a b = same_term t u (sym a ∙ b)

-- a letter that only the new side has is supplied
pub lacked : (n o : Bool) (s : Bool) → s ≡ (n && not o) → n ≡ true → o ≡ false → s ≡ true
lacked true false s e f g = e
lacked true true s e f g = let z : ◌≡◌ {A = ℕ} 0 1 = cc in absurd (omega arith)
lacked false o s e f g = let z : ◌≡◌ {A = ℕ} 0 1 = cc in absurd (omega arith)

-- the rule makes one text only
pub fits_one : (old : List ℕ) (q : Request) (new new' : List ℕ) → SuppliesLacked q → Fits old q new → Fits old q new' → new ≡ new'
fits_one old q new new' supplies a b =
    let σ = a.choice in
    let τ = b.choice in
    let both = one_text (inst σ (old_of q)) (inst τ (old_of q)) a.rest b.rest (sym a.here ∙ b.here) in
    let letters : (v : Variable) → has v (new_of q) ≡ true → σ v ≡ τ v = λ v h.
    elim (cases_Bool (has v (old_of q))) [
      | inl k ↦ inst_letter σ τ (old_of q) both.0 v k
      | inr k ↦ spelt_once (supplied_for q v) (σ v) (τ v) (lacked (has v (new_of q)) (has v (old_of q)) _ (supplies v) h k) (a.supplies v) (b.supplies v)
    ] in
    let same = inst_same σ τ (new_of q) letters in
    a.made ∙ (λ k. take q.place old ++ (text_of (same k) ++ both.1 k)) ∙ sym b.made

-- letters of terms

inst_among : (n : ℕ) (σ : Variable → Term ℕ) (s : Term Variable) → ((v : Variable) → has v s ≡ true → Among n (σ v)) → Among n (inst σ s)
inst_among n σ (leaf v) h = h v (eq-eqb (variable_byte v) (variable_byte v) refl)
inst_among n σ never h = tt
inst_among n σ (node o l r) h =
    (inst_among n σ l (λ v e. h v (or_left (has v l) (has v r) e)), inst_among n σ r (λ v e. h v (or_right (has v l) (has v r) e)))

among_letter : (n : ℕ) (σ : Variable → Term ℕ) (s : Term Variable) → Among n (inst σ s) → (v : Variable) → has v s ≡ true → Among n (σ v)
among_letter n σ (leaf u) a v h =
    subst (λ (x : Variable). Among n (σ x)) (sym (same_letter v u (eqb-true (variable_byte v) (variable_byte u) h))) a
among_letter n σ never a v h = let z : ◌≡◌ {A = ℕ} 0 1 = cc in absurd (omega arith)
among_letter n σ (node o l r) a v h =
    elim (or_cases (has v l) (has v r) h) [ inl k ↦ among_letter n σ l a.0 v k | inr k ↦ among_letter n σ r a.1 v k ]

spelt_among : (n : ℕ) (o : Option (List ℕ)) (t : Term ℕ) → is_some o ≡ true → WholeTerm n o → Spells o t → Among n t
spelt_among n None t h w s = let z : ◌≡◌ {A = ℕ} 0 1 = cc in absurd (omega arith)
spelt_among n (Some b) t h w s = subst (Among n) (same_term w.term t (sym w.written ∙ s)) w.letters

below_new : (n : ℕ) (old : List ℕ) (q : Request) (new : List ℕ) → SuppliesLacked q → ((v : Variable) → WholeTerm n (supplied_for q v)) → Fits old q new → Below n old → Below n new
below_new n old q new supplies whole f b =
    let σ = f.choice in
    let P : ℕ → Type 0 = λ x. x < 97 + n in
    let found = text_of (inst σ (old_of q)) in
    let here : Below n (found ++ f.rest) = subst (Below n) f.here (All-drop P q.place old b) in
    let among = below_among n (inst σ (old_of q)) (all_left n found f.rest here) in
    let letters : (v : Variable) → has v (new_of q) ≡ true → Among n (σ v) = λ v h.
    elim (cases_Bool (has v (old_of q))) [
      | inl k ↦ among_letter n σ (old_of q) among v k
      | inr k ↦ spelt_among n (supplied_for q v) (σ v) (lacked (has v (new_of q)) (has v (old_of q)) _ (supplies v) h k) (whole v) (f.supplies v)
    ] in
    let put = among_below n (inst σ (new_of q)) (inst_among n σ (new_of q) letters) in
    subst (Below n) (sym f.made)
    (All-append P (take q.place old) (text_of (inst σ (new_of q)) ++ f.rest) (All-take P q.place old b)
    (All-append P (text_of (inst σ (new_of q))) f.rest put (all_right n found f.rest here)))

-- one step of the sheet
module _ (old : List ℕ) (q : Request) (new : List ℕ) (number : (1 ≤ q.rule) × (q.rule ≤ 42)) (inside : q.place < length old) (f : Fits old q new) where
  pub steps_on : StepsOn old new
  steps_on t is =
      let p = inst f.choice (old_of q) in
      let w = inst f.choice (new_of q) in
      let put =
      puts_terms t p w q.place f.rest (subst (λ (x : List ℕ). q.place < length x) is inside)
      (subst (λ (x : List ℕ). drop q.place x ≡ text_of p ++ f.rest) is f.here) in (
        put.new,
        f.made ∙ ap (λ (x : List ℕ). take q.place x ++ (text_of w ++ f.rest)) is ∙ put.written,
        record { number = q.rule; low = number.0; high = number.1; way = q.way; choice = f.choice; replaced = put.replaced },
      )

  pub derives_on : (bs : List ℕ) → Derived bs old → Derived bs new
  derives_on bs d =
      subst (Derived bs) (sym f.made)
      (steps_derive bs old d q.rule number.0 number.1 q.way f.choice q.place f.rest inside f.here)

  pub stays_whole : (n : ℕ) → SuppliesLacked q → ((v : Variable) → WholeTerm n (supplied_for q v)) → Whole n old → Whole n new
  stays_whole n supplies whole w =
      let s = steps_on w.term w.written in
      record {
        term = s.0;
        written = s.1;
        letters = below_among n s.0 (subst (Below n) s.1 (below_new n old q new supplies whole f (whole_below n old w)));
      }
