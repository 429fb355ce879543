-- Every run is lawful, and so is every closing after it.
-- Assumes nothing.
use Rattle.std.proofs.Common.{◌≡◌, ℕ, true, ◌⊎◌, List, [], ◌∷◌, length, Ok, Err, All, Result, sym, refl, ap, ◌∙◌, subst, inl, inr, arith}
use Rattle.std.proofs.lemmas.List.Elements.{All-nil}
use Rattle.algebra.specs.Kinds.{Kind, Same}
use Rattle.algebra.specs.Refusals.{Refused, Granted}
use Rattle.algebra.specs.Terms.{never, dating_of}
use Rattle.algebra.specs.Texts.{text_of, text_date}
use Rattle.algebra.proofs.Links.{same_trans}
use Rattle.algebra.proofs.Refusals.{one_refusal}
use Rattle.trees.specs.declared.refusal.TreeRefusal.{TreeRefusal}
use Rattle.sequences.specs.Closing as closing-texts
use Rattle.sequences.specs.Closing.{CloseAsks, SomeNever}
use Rattle.sequences.specs.Codes.{close_code, close_codes_differ}
use Rattle.sequences.specs.Dates.{HappensByTicks, table_date}
use Rattle.sequences.specs.Rows.{row_with}
use Rattle.sequences.specs.Sequences.{rows_with}
use Rattle.sequences.specs.Tables.{TableDated, Holds}
use Rattle.sequences.specs.Walks.{Impossible}
use Rattle.sequences.specs.declared.refusals.TableRefusal.{TableRefusal}
use Rattle.sequences.specs.declared.refusals.CloseRefusal.{CloseRefusal}
use Rattle.sequences.specs.declared.refusals.CloseRefusal.TheVariants as close
use Rattle.sequences.specs.declared.row.Factor.{Factor}
use Rattle.sequences.specs.declared.row.Row.{Row}
use Rattle.sequences.proofs.Closings.{one_rows, keeps_date, never_closes, refused_exactly}
use Rattle.steps.specs.declared.refusal.StepRefusal.{StepRefusal}
use Rattle.steps.specs.declared.refusal.StepRefusal.TheVariants as step
use Rattle.derivation.specs.Model.{State, Answer, Opened, Stepped, ClosingAsks, Closed}
use Rattle.derivation.specs.Dating.{DatedAs}
use Rattle.derivation.specs.Law.{Known, opening, stepping, Run, begun, then, TreeText, going, closing, OneNever, Lawful}
use Rattle.derivation.proofs.Singles.{history_one, steps_granted}
use Rattle.derivation.proofs.Reaching.{tree_text, text_dates_lem}

pub lawful : (h : List Known) (s : State) → Run h s → Lawful h s going
lawful h s run = record {
  calls = run;
  only = λ h' s' e run'. history_one h' h s' s e run' run;
  close = tt;
  close_only = tt;
  tree = tree_text h s run;
  text_dates = λ text is K d. text_dates_lem K d h s run text is;
  table_dates = tt;
  steps = steps_granted h s run;
  happens = tt;
  impossible = tt;
}

pub law_open : (s s' : State) (bs : List ℕ) (r : Answer TreeRefusal) → Opened s bs r s' → (h : List Known) → Run h s → Lawful (opening bs r ∷ h) s' going
law_open s s' bs r o h run = lawful (opening bs r ∷ h) s' (then (opening bs r) run o)

pub law_step : (s s' : State) (bs : List ℕ) (r : Answer StepRefusal) → Stepped s bs r s' → (h : List Known) → Run h s → Lawful (stepping bs r ∷ h) s' going
law_step s s' bs r o h run = lawful (stepping bs r ∷ h) s' (then (stepping bs r) run o)

-- CLOSING

not_ok : {A : Type 0} (e : CloseRefusal) → ◌≡◌ {A = Answer CloseRefusal} (Err e) (Ok tt) → A
not_ok e q = let z : ◌≡◌ {A = ℕ} 0 1 = cc in absurd (omega arith)

-- without a tree the text is N
unopened : (h : List Known) (s : State) → Run h s → (s.opened ≡ true) ⊎ (s.present ≡ text_of never)
unopened [] s begun = inr refl
unopened (opening bs (Ok u) ∷ h) s (then _ x o) = inl o.2
unopened (opening bs (Err e) ∷ h) s (then {s = t} _ x o) = subst (λ (u : State). (u.opened ≡ true) ⊎ (u.present ≡ text_of never)) (sym o.1) (unopened h t x)
unopened (stepping bs (Ok u) ∷ h) s (then _ x o) = inl (ap (λ (t : State). t.opened) o.2 ∙ o.0 step.NoTree)
unopened (stepping bs (Err e) ∷ h) s (then {s = t} _ x o) = subst (λ (u : State). (u.opened ≡ true) ⊎ (u.present ≡ text_of never)) (sym o.1) (unopened h t x)

-- the text N has no sequences
none_never : (text : List ℕ) → text ≡ text_of never → OneNever text → ⊥
none_never text e w =
    let rows : rows_with w.sequences ≡ rows_with [] = one_rows text w.sequences [] w.closes (never_closes text e) in
    omega (arith, w.never.low, ap length rows)

no_rows : (P : List Factor → Type 0) (x : List (List Factor)) → rows_with x ≡ [] → All P x
no_rows P [] e = All-nil P
no_rows P (fs ∷ x) e = absurd (omega (arith, ap length e))

-- what a bench with a tree refuses, its text refuses
text_refused : (s : State) → s.opened ≡ true → (e : CloseRefusal) → Refused close_code (ClosingAsks s) e → Refused close_code (CloseAsks s.present) e
text_refused s o e f = record { fails = λ w. f.fails (back e w); lower = λ g k. on g (f.lower g k) }
  where
    on : (g : CloseRefusal) → ClosingAsks s g → CloseAsks s.present g
    on close.NoTree w = tt
    on close.NoSum w = w
    on close.TooMany w = w
    on close.ImpossibleSequence w = w

    back : (g : CloseRefusal) → CloseAsks s.present g → ClosingAsks s g
    back close.NoTree w = o
    back close.NoSum w = w
    back close.TooMany w = w
    back close.ImpossibleSequence w = w

text_granted : (s : State) → Granted (ClosingAsks s) → Granted (CloseAsks s.present)
text_granted s g close.NoTree = tt
text_granted s g close.NoSum = g close.NoSum
text_granted s g close.TooMany = g close.TooMany
text_granted s g close.ImpossibleSequence = g close.ImpossibleSequence

-- the answer of the text, with a tree open
text_closed : (s : State) → s.opened ≡ true → (old : List Row) (r : Answer CloseRefusal) (new : List Row) → Closed s old r new → closing-texts.Closed s.present (λ _. Unit {0}) r
text_closed s o old (Ok u) new c = (text_granted s c.0, tt)
text_closed s o old (Err e) new c = text_refused s o e c.0

closed_impossible : (h : List Known) (s : State) → Run h s → (old : List Row) (r : Answer CloseRefusal) (new : List Row) → Closed s old r new → (r ≡ Err close.ImpossibleSequence → OneNever s.present) × (OneNever s.present → r ≡ Err close.ImpossibleSequence)
closed_impossible h s run old r new c =
    elim (unopened h s run) [
      | inl o ↦
          let answer = text_closed s o old r new c in
          let exactly = refused_exactly (λ _. Unit {0}) s.present r answer in
          (λ e. found o answer e exactly, λ w. (exactly w.sequences w.closes w.few).1 w.never)
      | inr n ↦ (λ e. no_tree r e c n, λ w. absurd (none_never s.present n w))
    ]
  where
    found : s.opened ≡ true → closing-texts.Closed s.present (λ _. Unit {0}) r → r ≡ Err close.ImpossibleSequence → closing-texts.RefusedExactly s.present r → OneNever s.present
    found o a e exactly =
        let f : Refused close_code (CloseAsks s.present) close.ImpossibleSequence = subst (closing-texts.Closed s.present (λ _. Unit {0})) e a in
        let sum = f.lower close.NoSum (omega arith) in
        let few = f.lower close.TooMany (omega arith) sum.sequences sum.closes in
        record { sequences = sum.sequences; closes = sum.closes; few = few; never = (exactly sum.sequences sum.closes few).0 e }

    no_tree : (q : Answer CloseRefusal) → q ≡ Err close.ImpossibleSequence → Closed s old q new → s.present ≡ text_of never → OneNever s.present
    no_tree q e w n =
        let f : Closed s old (Err close.ImpossibleSequence) new = subst (λ (x : Answer CloseRefusal). Closed s old x new) e w in
        absurd (f.0.fails (λ x closes. no_rows (λ fs. Impossible (row_with fs) → ⊥) x (one_rows s.present x [] closes (never_closes s.present n))))

closed_one : (s : State) (old : List Row) (q r : Answer CloseRefusal) (a b : List Row) → Closed s old q a → Closed s old r b → (q ≡ r) × (a ≡ b)
closed_one s old (Ok u) (Ok v) a b x y = (refl, x.1.rows ∙ one_rows s.present x.1.sequences y.1.sequences x.1.closes y.1.closes ∙ sym y.1.rows)
closed_one s old (Ok u) (Err f) a b x y = absurd (y.0.fails (x.0 f))
closed_one s old (Err e) (Ok v) a b x y = absurd (x.0.fails (y.0 e))
closed_one s old (Err e) (Err f) a b x y = (
  ap Err (one_refusal {A = Unit {0}} close_code (ClosingAsks s) (λ _. Unit {0}) close_codes_differ (λ g p q c d. refl) e f x.0 y.0),
  x.1 ∙ sym y.1,
)

-- the table has the date of the tree last opened
pub table_dates_lem : {D : Type 0} (K : Kind D) (d : ℕ → D) (h : List Known) (s : State) (new : List Row) → Run h s → Holds s.present new → (tree : List ℕ) → TreeText h tree → Same K (text_date K d tree) (table_date K d new)
table_dates_lem K d h s new run w tree is =
    subst (λ (x : List Row). Same K (text_date K d tree) (table_date K d x)) (sym w.rows)
    (same_trans K _ _ _ (text_dates_lem K d h s run tree is) (keeps_date K d s.present w.sequences w.closes))

closed_dates : (h : List Known) (s : State) → Run h s → (old : List Row) (r : Answer CloseRefusal) (new : List Row) → Closed s old r new → r ≡ Ok tt → (text : List ℕ) → TreeText h text → (K : Kind ℕ) (d : ℕ → ℕ) → Same K (text_date K d text) (table_date K d new)
closed_dates h s run old (Ok u) new c q text is = λ K d. table_dates_lem K d h s new run c.1 text is
closed_dates h s run old (Err e) new c q text is = not_ok e q

pub lawful_closed : (h : List Known) (s : State) (old : List Row) (r : Answer CloseRefusal) (new : List Row) → Run h s → Closed s old r new → (r ≡ Ok tt → All HappensByTicks new) → Lawful h s (closing old r new)
lawful_closed h s old r new run c happen = record {
  calls = run;
  only = λ h' s' e run'. history_one h' h s' s e run' run;
  close = c;
  close_only = λ r' new' c'. closed_one s old r' r new' new c' c;
  tree = tree_text h s run;
  text_dates = λ text is K d. text_dates_lem K d h s run text is;
  table_dates = closed_dates h s run old r new c;
  steps = steps_granted h s run;
  happens = happen;
  impossible = closed_impossible h s run old r new c;
}

-- an answered date of the table is the same as that of the tree last opened
pub table_dated_as : {D : Type 0} (K : Kind D) (ds : List D) (t : List Row) (r : Result D TableRefusal) → TableDated K ds t r → (h : List Known) (s : State) (old : List Row) (text : List ℕ) → Run h s → Closed s old (Ok tt) t → TreeText h text → DatedAs K ds text r
table_dated_as K ds t (Ok p) o h s old text run c is =
    subst (Same K (text_date K (dating_of K ds) text)) (sym o.1) (table_dates_lem K (dating_of K ds) h s t run c.1 text is)
table_dated_as K ds t (Err e) o h s old text run c is = tt
