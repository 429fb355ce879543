-- One byte more, as the code keeps it.
-- Assumes nothing.
use Rattle.std.proofs.Common.{◌≡◌, ◌≢◌, ℕ, ◌+◌, ◌-◌, ◌<◌, ◌≤◌, Bool, true, false, cond, not, ◌&&◌, T, eqb, leb, List, [], ◌∷◌, ◌++◌, length, get_or, take, set, Some, None, Option, sym, refl, ap, ◌∙◌, subst, ap₂, inl, inr, add-one, arith, leb→le, length-append, take-suc}
use Rattle.std.proofs.lemmas.Bool.{cond_both, cases_lt, eqb-false}
use Rattle.algebra.specs.Texts.{event_byte}
use Rattle.sequences.specs.Rows.{Fitting, absent, blank, entered, padded}
use Rattle.sequences.specs.Scans.{State, Keeps, Ready, after, advanced, begun, completed, is_letter, moved, reading_at, run, start, step, step_of, stepped}
use Rattle.sequences.specs.declared.row.Factor.{Factor}
use Rattle.sequences.specs.declared.row.Factor.TheVariants.{Letter, Pair}
use Rattle.sequences.specs.declared.row.Row.{Row}
use Rattle.sequences.specs.declared.scan.Reading.{Reading}
use Rattle.sequences.specs.declared.scan.Step.{Step}
use Rattle.sequences.specs.declared.scan.Wants.{Wants}
use Rattle.sequences.specs.declared.scan.Wants.TheVariants.{Sum, Part, First, Second, End, Nothing}
use Rattle.sequences.proofs.Tests.{T_is, and_out, is_T, not_T_is}
use Rattle.sequences.proofs.Padded.{padded_blank, padded_past, padded_set, padded_last}

abbrev FitsIf : Option Factor → Type 0
FitsIf None = Unit {0}
FitsIf (Some f) = Fitting f

-- what a step gives is ready for the next, and its factor fits
pub record Good (p s : ℕ) (m : Step) : Type 0 where
  pub ready : Ready m.next.wants
  pub fits : FitsIf m.factor
  pub parts : m.next.parts ≤ p + 1
  pub sums : m.next.sums ≤ s + 1

letter_low : (b : ℕ) → is_letter b ≡ true → b - 97 < 24
letter_low b e =
    let k = and_out (leb 97 b) (leb b 120) (is_T _ e) in
    let l = leb→le b 120 k.1 in omega arith

pub no_letter : (b : ℕ) → ((v : ℕ) → v < 24 → b ≢ event_byte v) → is_letter b ≡ false
no_letter b h = not_T_is (is_letter b) (λ t.
    let k = and_out (leb 97 b) (leb b 120) t in
    let low = leb→le 97 b k.0 in
    h (b - 97) (letter_low b (T_is _ t)) (omega arith))

onward_good : (p s : ℕ) (f : Factor) → Fitting f → Good p s (completed p s f)
onward_good p s f h = go (eqb p 0) (eqb s 0)
  where
    go : (b c : Bool) → Good p s (record { next = cond b (cond c (reading_at End 0 0) (reading_at Sum 0 (s - 1))) (reading_at Part (p - 1) s); factor = Some f })
    go true true = record { ready = tt; fits = h; parts = omega arith; sums = omega arith }
    go true false = record { ready = tt; fits = h; parts = omega arith; sums = omega arith }
    go false true = record { ready = tt; fits = h; parts = omega arith; sums = omega arith }
    go false false = record { ready = tt; fits = h; parts = omega arith; sums = omega arith }

nothing_good : (p s : ℕ) → Good p s (moved Nothing p s)
nothing_good p s = record { ready = tt; fits = tt; parts = omega arith; sums = omega arith }

begun_good : (p s b : ℕ) → Good p s (begun p s b)
begun_good p s b =
    cond_both (eqb b 42) _ _ (Good p s) (λ e. record { ready = tt; fits = tt; parts = omega arith; sums = omega arith })
    (λ e. cond_both (eqb b 60) _ _ (Good p s) (λ e. record { ready = tt; fits = tt; parts = omega arith; sums = omega arith })
    (λ e. cond_both (eqb b 61) _ _ (Good p s) (λ e. record { ready = tt; fits = tt; parts = omega arith; sums = omega arith })
    (λ e. cond_both (is_letter b) _ _ (Good p s) (λ e. onward_good p s (Letter (b - 97)) (letter_low b e)) (λ e. nothing_good p s))))

pub step_good : (w : Wants) (p s b : ℕ) → Ready w → Good p s (step_of w p s b)
step_good Sum p s b h =
    cond_both (eqb b 43) _ _ (Good p s) (λ e. record { ready = tt; fits = tt; parts = omega arith; sums = omega arith }) (λ e. begun_good p s b)
step_good Part p s b h = begun_good p s b
step_good (First sign) p s b h =
    cond_both (is_letter b) _ _ (Good p s) (λ e. record { ready = letter_low b e; fits = tt; parts = omega arith; sums = omega arith }) (λ e. nothing_good p s)
step_good (Second sign v) p s b h =
    cond_both (is_letter b && not (eqb v (b - 97))) _ _ (Good p s)
    (λ e.
    let k = and_out (is_letter b) (not (eqb v (b - 97))) (is_T _ e) in
    onward_good p s (Pair sign v (b - 97)) (h, letter_low b (T_is _ k.0), eqb-false v (b - 97) (not_is _ k.1)))
    (λ e. nothing_good p s)
  where
    not_is : (c : Bool) → T (not c) → c ≡ false
    not_is true t = absurd t
    not_is false t = refl
step_good End p s b h = nothing_good p s
step_good Nothing p s b h = nothing_good p s

run_append : (st : State) (bs : List ℕ) (b : ℕ) → run st (bs ++ (b ∷ [])) ≡ step (run st bs) b
run_append st [] b = refl
run_append st (c ∷ bs) b = run_append (step st c) bs b

pub run_next : (bs : List ℕ) (i : ℕ) → i < length bs → run start (take (i + 1) bs) ≡ step (run start (take i bs)) (get_or bs i 0)
run_next bs i h =
    ap (λ (n : ℕ). run start (take n bs)) (add-one i) ∙ ap (run start) (take-suc bs i 0 h) ∙ run_append start (take i bs) (get_or bs i 0)

module _ (st : State) (g : Reading) (rows : List Row) (count b : ℕ) (m : Step) (k : Keeps st g rows count) (e : m ≡ stepped g b) where
  advances : step st b ≡ advanced m st.reading.parts st.done st.row
  advances =
      ap (λ (x : Step). advanced x st.reading.parts st.done st.row) (ap (λ (x : Reading). stepped x b) k.same ∙ sym e)

  pub keeps_none : m.factor ≡ None → Keeps (step st b) m.next rows count
  keeps_none f =
      let a : step st b ≡ record { reading = m.next; done = st.done; row = st.row } =
      advances ∙ ap (λ (o : Option Factor). after st.reading.parts m.next o st.done st.row) f in
      record {
        same = ap (λ (x : State). x.reading) a;
        kept = k.kept ∙ sym (ap (λ (x : State). padded 64 (x.done ++ (x.row ∷ []))) a);
        counted = k.counted ∙ sym (ap (λ (x : State). length x.done) a);
      }

  -- the rows with the factor in the row of the sequence being read
  module _ (f : Factor) (rows' : List Row) (count' : ℕ) (is : m.factor ≡ Some f)
      (in_row : count < 64 → rows' ≡ set rows count (entered f (get_or rows count absent))) (past : 64 ≤ count → rows' ≡ rows)
      (last : Bool) (is_last : last ≡ eqb g.parts 0) (counts : count' ≡ count + cond last 1 0) where
    abbrev new : Row
    new = entered f st.row

    here : rows' ≡ padded 64 (st.done ++ (new ∷ []))
    here =
        elim (cases_lt count 64) [
          | inl l ↦
              let low : length st.done < 64 = omega (arith, k.counted) in
              in_row l
              ∙ ap₂ (λ (rs : List Row) (c : ℕ). set rs c (entered f (get_or rs c absent))) k.kept k.counted
              ∙ ap (λ (x : Row). set (padded 64 (st.done ++ (st.row ∷ []))) (length st.done) (entered f x)) (padded_last 64 st.done st.row absent low)
              ∙ padded_set 64 st.done st.row new low
          | inr l ↦
              let high : 64 ≤ length st.done = omega (arith, k.counted) in
              past l ∙ k.kept ∙ padded_past 64 st.done st.row high ∙ sym (padded_past 64 st.done new high)
        ]

    abbrev ended : Bool → State
    ended c = cond c (record { reading = m.next; done = st.done ++ (new ∷ []); row = blank }) (record { reading = m.next; done = st.done; row = new })

    by_test : (c : Bool) → count' ≡ count + cond c 1 0 → Keeps (ended c) m.next rows' count'
    by_test true n = record {
      same = refl;
      kept = here ∙ sym (padded_blank 64 (st.done ++ (new ∷ [])));
      counted = omega (arith, k.counted, length-append st.done (new ∷ []));
    }
    by_test false n = record { same = refl; kept = here; counted = omega (arith, k.counted) }

    pub keeps_some : Keeps (step st b) m.next rows' count'
    keeps_some =
        let a : step st b ≡ ended (eqb st.reading.parts 0) =
        advances ∙ ap (λ (o : Option Factor). after st.reading.parts m.next o st.done st.row) is in
        subst (λ (x : State). Keeps x m.next rows' count') (sym a)
        (by_test (eqb st.reading.parts 0)
        (counts ∙ ap (λ (b : Bool). count + cond b 1 0) (is_last ∙ ap (λ (x : Reading). eqb x.parts 0) (sym k.same))))
