-- The inputs at their places.
-- Assumes nothing.
use Rattle.std.proofs.Common.{◌≡◌, ℕ, zero, suc, ◌+◌, ◌≤◌, Bool, true, false, cond, ◌||◌, List, [], ◌∷◌, length, get_or, replicate, Some, None, Option, sym, refl, ap, ◌∙◌, subst, arith}
use Rattle.std.proofs.lemmas.Bool.{le-ltb, ne_eqb, or_from}
use Rattle.algebra.specs.Terms.{Term}
use Rattle.algebra.specs.Texts.{text_of}
use Rattle.texts.specs.declared.text.Text.{Text}
use Rattle.trees.specs.declared.inputs.Input.{Input}
use Rattle.trees.specs.declared.inputs.Inputs.{Inputs}
use Rattle.trees.specs.declared.record.Record.{Record}
use Rattle.trees.specs.declared.record.Record.TheVariants.{Joins, Triggers}
use Rattle.trees.specs.Gates.{known, term_at}
use Rattle.trees.specs.Held.{Holds, Slot, input_at, text_in, read_in}
use Rattle.trees.specs.Triggers.{read}

some_slot : (k : Bool) (x : Text) (t : Term ℕ) → Slot k (Some x) t → (k ≡ true) × (x ≡ text_of t)
some_slot true x t s = (refl, s)
some_slot false x t s = absurd s

none_slot : (k : Bool) (t : Term ℕ) → Slot k None t → k ≡ false
none_slot true t s = absurd s
none_slot false t s = refl

module _ {E : ℕ} {rs : List Record} {s : Inputs} (h : Holds E rs s) (i : ℕ) where
  -- an input with a text is known, and the text is its term's
  pub held : (x : Text) → Some x ≡ text_in (input_at s i) → (known E rs i ≡ true) × (x ≡ text_of (term_at rs i))
  held x e = some_slot (known E rs i) x (term_at rs i) (subst (λ o. Slot (known E rs i) o (term_at rs i)) (sym e) (h.texts i))

  pub unheld : None ≡ text_in (input_at s i) → known E rs i ≡ false
  unheld e = none_slot (known E rs i) (term_at rs i) (subst (λ o. Slot (known E rs i) o (term_at rs i)) (sym e) (h.texts i))

-- no gate stands past the last record
pub past : (E : ℕ) (rs : List Record) (i : ℕ) → E ≤ 64 → 64 + length rs ≤ i → known E rs i ≡ false
past E [] i e h = le-ltb i E (omega arith)
past E (Joins g a b ∷ rs) i e h = or_from _ _ (ne_eqb i (64 + length rs) (λ z. omega arith)) (past E rs i e (omega arith))
past E (Triggers t d ∷ rs) i e h = past E rs i e (omega arith)

-- an input that is not known was not read
unread_unknown : (k : Bool) (o : Option Input) (t : Term ℕ) → k ≡ false → Slot k (text_in o) t → read_in o ≡ false
unread_unknown k None t e s = refl
unread_unknown k (Some x) t e s = absurd (subst (λ b. Slot b (Some x.text) t) e s)

-- no record has read the place of the next gate
pub unread_next : (E : ℕ) (rs : List Record) (s : Inputs) (i : ℕ) → Holds E rs s → 64 + length rs ≤ i → read rs i ≡ false
unread_next E rs s i h l =
    sym (h.reads i) ∙ unread_unknown (known E rs i) (input_at s i) (term_at rs i) (past E rs i (omega (arith, h.events)) l) (h.texts i)

-- a text is put at a place that is new, or at one that is known
pub slot_added : (here k : Bool) (o : Option Text) (x : Text) (t u : Term ℕ) → x ≡ text_of t → Slot k o u → Slot (here || k) (cond here (Some x) o) (cond here t u)
slot_added true k o x t u w s = w
slot_added false k o x t u w s = s

pub slot_changed : (here k : Bool) (o : Option Text) (x : Text) (t u : Term ℕ) → (here ≡ true → k ≡ true) → x ≡ text_of t → Slot k o u → Slot k (cond here (Some x) o) (cond here t u)
slot_changed true k o x t u there w s = subst (λ b. Slot b (Some x) t) (sym (there refl)) w
slot_changed false k o x t u there w s = s

-- what is put is unread, and the place was unread before
pub still_unread : (here old : Bool) → (here ≡ true → old ≡ false) → cond here false old ≡ old
still_unread true old h = sym (h refl)
still_unread false old h = refl

pub swapped : (a b c : Bool) → (b || (a || c)) ≡ (a || (b || c))
swapped true true c = refl
swapped true false c = refl
swapped false b c = refl

all_none : {X : Type 0} (n i : ℕ) (x : X) → get_or (replicate n x) i x ≡ x
all_none zero i x = refl
all_none (suc n) zero x = refl
all_none (suc n) (suc i) x = all_none n i x

-- the inputs of a tree with no event
pub holds_none : Holds 0 [] (record { places = replicate 96 None })
holds_none =
    let none : (i : ℕ) → ◌≡◌ {A = Option Input} (get_or (replicate 96 None) i None) None = λ i. all_none 96 i None in
    record {
      events = omega arith;
      texts = λ i. rw (none i, le-ltb i 0 (omega arith)) tt;
      reads = λ i. ap read_in (none i);
    }
