-- The answer to a step, case by case, and that there is only one.
-- Assumes nothing.
use Rattle.std.proofs.Common.{◌≡◌, ℕ, ◌<◌, ◌≤◌, Bool, true, false, not, ◌&&◌, List, length, is_some, IfOk, Some, None, Ok, Err, Option, Result, sym, refl, ap, ◌∙◌, subst, arith, Bor}
use Rattle.algebra.specs.Refusals.{Refused, Granted, Answers}
use Rattle.algebra.specs.Steps.{Derived}
use Rattle.algebra.specs.Terms.{Term}
use Rattle.algebra.specs.Texts.{Whole}
use Rattle.algebra.specs.Rules.{has}
use Rattle.algebra.specs.declared.Variable.{Variable}
use Rattle.algebra.proofs.Refusals.{one_answer}
use Rattle.steps.specs.Refusals.{step_code, step_codes_differ}
use Rattle.steps.specs.Records.{Request, Says, WholeTerm, supplied_for}
use Rattle.steps.specs.Readings.{bytes_of, request_of}
use Rattle.steps.specs.Sides.{slot, Holds}
use Rattle.steps.specs.Rewrites.{OfTerm, Provided, Instance, Rewritten}
use Rattle.steps.specs.Stepping.{Fits, SuppliesLacked, Spells, StepAsks, StepMakes, StepAnswer, OneAnswer, StepsOn, old_of, new_of}
use Rattle.steps.specs.declared.record.StepRecord.{StepRecord}
use Rattle.steps.specs.declared.refusal.StepRefusal.{StepRefusal}
use Rattle.steps.specs.declared.refusal.StepRefusal.TheVariants.{NoTree, Form, Supplies, Place, NoFit, TooLong}
use Rattle.steps.proofs.Fields.{says_one}
use Rattle.steps.proofs.Fitting.{fits_one, lacked, steps_on, derives_on, stays_whole}
use Rattle.steps.proofs.Letters.{supplied_is}

pub one_step_answer : (Tree : Type 0) (old : List ℕ) (events : ℕ) (bs : List ℕ) (r s : Result (List ℕ) StepRefusal) → Answers step_code (StepAsks Tree old events bs) (StepMakes old events bs) r → Answers step_code (StepAsks Tree old events bs) (StepMakes old events bs) s → r ≡ s
one_step_answer Tree old events bs = one_answer step_code (StepAsks Tree old events bs) (StepMakes old events bs) step_codes_differ one
  where
    one : Granted (StepAsks Tree old events bs) → (x y : List ℕ) → StepMakes old events bs x → StepMakes old events bs y → x ≡ y
    one g x y (p, s, f) (q, t, h) =
        let same : q ≡ p = says_one events bs q p t s in
        let asked = g Supplies in
        let lacks : SuppliesLacked p = subst SuppliesLacked (says_one events bs asked.0 p asked.1 s) asked.2 in
        fits_one old p x y lacks f (subst (λ (r : Request). Fits old r y) same h)

pub step_one : (old : List ℕ) (events : ℕ) (bs : List ℕ) → OneAnswer old events bs
step_one old events bs = one_step_answer (Unit {0}) old events bs

-- what is asked for where a tree is open is what is asked for without a tree
with_tree : (Tree : Type 0) (old : List ℕ) (events : ℕ) (bs : List ℕ) → Tree → (e : StepRefusal) → StepAsks (Unit {0}) old events bs e → StepAsks Tree old events bs e
with_tree Tree old events bs t NoTree a = t
with_tree Tree old events bs t Form a = a
with_tree Tree old events bs t Supplies a = a
with_tree Tree old events bs t Place a = a
with_tree Tree old events bs t NoFit a = a
with_tree Tree old events bs t TooLong a = a

without_tree : (Tree : Type 0) (old : List ℕ) (events : ℕ) (bs : List ℕ) (e : StepRefusal) → StepAsks Tree old events bs e → StepAsks (Unit {0}) old events bs e
without_tree Tree old events bs NoTree a = tt
without_tree Tree old events bs Form a = a
without_tree Tree old events bs Supplies a = a
without_tree Tree old events bs Place a = a
without_tree Tree old events bs NoFit a = a
without_tree Tree old events bs TooLong a = a

-- the answer to a step where a tree is open, and where none is
pub answer_with_tree : (Tree : Type 0) (old : List ℕ) (events : ℕ) (bs : List ℕ) → Tree → (r : Result (List ℕ) StepRefusal) → StepAnswer old events bs r → Answers step_code (StepAsks Tree old events bs) (StepMakes old events bs) r
answer_with_tree Tree old events bs t (Ok new) a = (λ e. with_tree Tree old events bs t e (a.0 e), a.1)
answer_with_tree Tree old events bs t (Err e) a = record {
  fails = λ h. a.fails (without_tree Tree old events bs e h);
  lower = λ f h. with_tree Tree old events bs t f (a.lower f h);
}

pub no_tree : (Tree : Type 0) (old : List ℕ) (events : ℕ) (bs : List ℕ) → (Tree → ⊥) → Refused step_code (StepAsks Tree old events bs) NoTree
no_tree Tree old events bs none = record { fails = none; lower = lower }
  where
    lower : (f : StepRefusal) → step_code f < 11 → StepAsks Tree old events bs f
    lower NoTree h = absurd (omega arith)
    lower Form h = absurd (omega arith)
    lower Supplies h = absurd (omega arith)
    lower Place h = absurd (omega arith)
    lower NoFit h = absurd (omega arith)
    lower TooLong h = absurd (omega arith)

-- the record is not well-formed
pub no_form : (old : List ℕ) (events : ℕ) (bs : List ℕ) → ((q : Request) → Says events bs q → ⊥) → Refused step_code (StepAsks (Unit {0}) old events bs) Form
no_form old events bs none = record { fails = λ a. none a.0 a.1; lower = lower }
  where
    lower : (f : StepRefusal) → step_code f < 12 → StepAsks (Unit {0}) old events bs f
    lower NoTree h = tt
    lower Form h = absurd (omega arith)
    lower Supplies h = absurd (omega arith)
    lower Place h = absurd (omega arith)
    lower NoFit h = absurd (omega arith)
    lower TooLong h = absurd (omega arith)

module _ (old : List ℕ) (events : ℕ) (bs : List ℕ) (q : Request) (says : Says events bs q) where
  -- what holds of one request holds of the one that the record says
  only : (P : Request → Type 0) → (p : Request) → Says events bs p → P p → P q
  only P p s h = subst P (says_one events bs p q s says) h

  -- the terms are not those that are lacked
  pub no_supply : (SuppliesLacked q → ⊥) → Refused step_code (StepAsks (Unit {0}) old events bs) Supplies
  no_supply wrong = record { fails = λ a. wrong (only SuppliesLacked a.0 a.1 a.2); lower = lower }
    where
      lower : (f : StepRefusal) → step_code f < 13 → StepAsks (Unit {0}) old events bs f
      lower NoTree h = tt
      lower Form h = (q, says)
      lower Supplies h = absurd (omega arith)
      lower Place h = absurd (omega arith)
      lower NoFit h = absurd (omega arith)
      lower TooLong h = absurd (omega arith)

  module _ (lacks : SuppliesLacked q) where
    -- the place is at or past the end
    pub no_place : length old ≤ q.place → Refused step_code (StepAsks (Unit {0}) old events bs) Place
    no_place past = record { fails = λ a. let h : q.place < length old = only (λ r. r.place < length old) a.0 a.1 a.2 in omega arith; lower = lower }
      where
        lower : (f : StepRefusal) → step_code f < 14 → StepAsks (Unit {0}) old events bs f
        lower NoTree h = tt
        lower Form h = (q, says)
        lower Supplies h = (q, says, lacks)
        lower Place h = absurd (omega arith)
        lower NoFit h = absurd (omega arith)
        lower TooLong h = absurd (omega arith)

    module _ (inside : q.place < length old) where
      -- the rule does not fit
      pub no_fit : ((new : List ℕ) → Fits old q new → ⊥) → Refused step_code (StepAsks (Unit {0}) old events bs) NoFit
      no_fit none = record { fails = λ a. let f = only (λ r. (new : List ℕ) × Fits old r new) a.0 a.1 a.2 in none f.0 f.1; lower = lower }
        where
          lower : (f : StepRefusal) → step_code f < 15 → StepAsks (Unit {0}) old events bs f
          lower NoTree h = tt
          lower Form h = (q, says)
          lower Supplies h = (q, says, lacks)
          lower Place h = (q, says, inside)
          lower NoFit h = absurd (omega arith)
          lower TooLong h = absurd (omega arith)

      module _ (new : List ℕ) (fits : Fits old q new) where
        -- the new text would be too long
        pub too_long : 511 < length new → Refused step_code (StepAsks (Unit {0}) old events bs) TooLong
        too_long long = record {
          fails = λ a.
              let f = only (λ r. (l : List ℕ) × (Fits old r l × (length l ≤ 511))) a.0 a.1 a.2 in
              let same : f.0 ≡ new = fits_one old q f.0 new lacks f.1.0 fits in
              let short : length f.0 ≤ 511 = f.1.1 in
              omega (arith, ap length same);
          lower = lower;
        }
          where
            lower : (f : StepRefusal) → step_code f < 16 → StepAsks (Unit {0}) old events bs f
            lower NoTree h = tt
            lower Form h = (q, says)
            lower Supplies h = (q, says, lacks)
            lower Place h = (q, says, inside)
            lower NoFit h = (q, says, (new, fits))
            lower TooLong h = absurd (omega arith)

        pub granted : length new ≤ 511 → Granted (StepAsks (Unit {0}) old events bs) × StepMakes old events bs new
        granted short = (all, (q, says, fits))
          where
            all : (f : StepRefusal) → StepAsks (Unit {0}) old events bs f
            all NoTree = tt
            all Form = (q, says)
            all Supplies = (q, says, lacks)
            all Place = (q, says, inside)
            all NoFit = (q, says, (new, fits))
            all TooLong = (q, says, (new, (fits, short)))

-- the borrowed terms of a record, and what it says

some_bytes : (o : Option (Bor (List ℕ))) → is_some (bytes_of o) ≡ is_some o
some_bytes None = refl
some_bytes (Some w) = refl

some_supplied : (s : StepRecord) (v : Variable) → is_some (supplied_for (request_of s) v) ≡ is_some (slot s.supplied v)
some_supplied s v = ap is_some (supplied_is s v) ∙ some_bytes (slot s.supplied v)

-- as the code tests it
abbrev pub Tested : StepRecord → Type 0
Tested s = (v : Variable) → is_some (slot s.supplied v) ≡ (has v (new_of (request_of s)) && not (has v (old_of (request_of s))))

pub tested_lacks : (s : StepRecord) → Tested s → SuppliesLacked (request_of s)
tested_lacks s h v = some_supplied s v ∙ h v

pub lacks_tested : (s : StepRecord) → SuppliesLacked (request_of s) → Tested s
lacks_tested s h v = sym (some_supplied s v) ∙ h v

of_whole : (n : ℕ) (o : Option (Bor (List ℕ))) → WholeTerm n (bytes_of o) → OfTerm o
of_whole n None w = tt
of_whole n (Some b) w = (w.term, w.written)

none_from : (o : Option (Bor (List ℕ))) (a b : Bool) → is_some o ≡ (a && not b) → b ≡ true → o ≡ None
none_from None a b e h = refl
none_from (Some w) true true e h = let z : ◌≡◌ {A = ℕ} 0 1 = cc in absurd (omega arith)
none_from (Some w) true false e h = let z : ◌≡◌ {A = ℕ} 0 1 = cc in absurd (omega arith)
none_from (Some w) false b e h = let z : ◌≡◌ {A = ℕ} 0 1 = cc in absurd (omega arith)

pub provided : (events : ℕ) (bs : List ℕ) (s : StepRecord) → Says events bs (request_of s) → Tested s → Provided (old_of (request_of s)) (new_of (request_of s)) s.supplied
provided events bs s says h = record {
  terms = λ v. of_whole events (slot s.supplied v) (subst (WholeTerm events) (supplied_is s v) (says.terms v));
  none = λ v e. none_from (slot s.supplied v) (has v (new_of (request_of s))) (has v (old_of (request_of s))) (h v) e;
  lacked = λ v e f. lacked (has v (new_of (request_of s))) (has v (old_of (request_of s))) _ (h v) e f;
}

spells_from : (o : Option (Bor (List ℕ))) (t : Term ℕ) → Holds o t → Spells (bytes_of o) t
spells_from None t h = tt
spells_from (Some w) t h = h

-- what is made is what the rule gives
pub made_fits : (old : List ℕ) (s : StepRecord) (new : List ℕ) → Instance old s.place (old_of (request_of s)) (new_of (request_of s)) s.supplied new → Fits old (request_of s) new
made_fits old s new i = record {
  choice = i.choice;
  supplies = λ v. subst (λ (o : Option (List ℕ)). Spells o (i.choice v)) (sym (supplied_is s v)) (spells_from (slot s.supplied v) (i.choice v) (i.agrees v));
  rest = i.rest;
  here = i.before;
  made = i.after;
}

-- the answer, and what it means for the text
pub record Answered (old : List ℕ) (events : ℕ) (bs : List ℕ) (r : Result (List ℕ) StepRefusal) : Type 0 where
  pub answer : StepAnswer old events bs r
  pub whole : IfOk r (λ new. Whole events old → Whole events new)
  pub step : IfOk r (λ new. StepsOn old new)
  pub derived : IfOk r (λ new. (cs : List ℕ) → Derived cs old → Derived cs new)

pub answered : (old : List ℕ) (events : ℕ) (bs : List ℕ) (s : StepRecord) → Says events bs (request_of s) → Tested s → s.place < length old → (r : Result (List ℕ) StepRefusal) → IfOk r (λ new. length new ≤ 511) → Rewritten old s.place (old_of (request_of s)) (new_of (request_of s)) s.supplied r → Answered old events bs r
answered old events bs s says h inside (Ok new) short made =
    let q = request_of s in
    let fits = made_fits old s new made in
    let lacks = tested_lacks s h in
    record {
      answer = granted old events bs q says lacks inside new fits short;
      whole = stays_whole old q new says.number inside fits events lacks says.terms;
      step = steps_on old q new says.number inside fits;
      derived = derives_on old q new says.number inside fits;
    }
answered old events bs s says h inside (Err NoFit) short none =
    let q = request_of s in
    record {
      answer = no_fit old events bs q says (tested_lacks s h) inside (λ new f. none f.choice f.rest f.here);
      whole = tt;
      step = tt;
      derived = tt;
    }
answered old events bs s says h inside (Err TooLong) short long =
    let q = request_of s in
    record {
      answer = too_long old events bs q says (tested_lacks s h) inside long.0 (made_fits old s long.0 long.1.0) long.1.1;
      whole = tt;
      step = tt;
      derived = tt;
    }
answered old events bs s says h inside (Err NoTree) short none = absurd none
answered old events bs s says h inside (Err Form) short none = absurd none
answered old events bs s says h inside (Err Supplies) short none = absurd none
answered old events bs s says h inside (Err Place) short none = absurd none

-- a refusal says nothing of a new text
pub refused : (old : List ℕ) (events : ℕ) (bs : List ℕ) (e : StepRefusal) → Refused step_code (StepAsks (Unit {0}) old events bs) e → Answered old events bs (Err e)
refused old events bs e r = record { answer = r; whole = tt; step = tt; derived = tt }
