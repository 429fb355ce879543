-- Each way that a closing can go.
-- Assumes nothing.
use Rattle.std.proofs.Common.{◌≡◌, ℕ, suc, ◌+◌, ◌<◌, ◌≤◌, Bool, true, false, List, [], ◌∷◌, ◌++◌, length, get_or, take, Ok, Err, All, Any, Result, sym, refl, ap, ◌∙◌, subst, inl, inr, arith, length-append}
use mathlib.Core.Option.{Option, none, some}
use Rattle.std.proofs.lemmas.List.{get_or_default, length-map, map-append}
use Rattle.std.proofs.lemmas.List.Elements.{All-nil, All-cons, All-head, All-tail, All-append, All-map, All-weaker}
use Rattle.algebra.specs.Kinds.{Kind, Same}
use Rattle.algebra.specs.Refusals.{Refused, Granted}
use Rattle.algebra.specs.Terms.{Term, never}
use Rattle.algebra.specs.Texts.{IsText, never_byte, text_of, text_date}
use Rattle.algebra.proofs.Bytes.{same_term}
use Rattle.algebra.proofs.Derived.{text_date_lem}
use Rattle.sequences.specs.Codes.{close_code}
use Rattle.sequences.specs.Closing.{SumText, CloseAsks, Closed, SomeNever, RefusedExactly, RefusedNowhere}
use Rattle.sequences.specs.Dates.{Counted, table_date}
use Rattle.sequences.specs.Lines.{line}
use Rattle.sequences.specs.Rows.{absent, blank, padded, row_with}
use Rattle.sequences.specs.Scans.{State, Keeps, is_end, run, start}
use Rattle.sequences.specs.Sequences.{rows_of, sum_of, Summed, sequence, plus, ClosesTo, nothing, sum, TextCloses, rows_with}
use Rattle.sequences.specs.Walks.{Impossible, Sound}
use Rattle.sequences.specs.declared.row.Factor.{Factor}
use Rattle.sequences.specs.declared.row.Row.{Row}
use Rattle.sequences.specs.declared.refusals.CloseRefusal.{CloseRefusal}
use Rattle.sequences.specs.declared.refusals.CloseRefusal.TheVariants.{NoTree, NoSum, TooMany, ImpossibleSequence}
use Rattle.sequences.specs.declared.scan.Reading.{Reading}
use Rattle.sequences.specs.declared.scan.Wants.TheVariants.{End, Nothing}
use Rattle.sequences.proofs.Entered.{blank_sound}
use Rattle.sequences.proofs.Fit.{lines_fit}
use Rattle.sequences.proofs.Padded.{padded_blank, padded_front}
use Rattle.sequences.proofs.RowDates.{never_happens}
use Rattle.sequences.proofs.Scanned.{scans_sums, scans_none}
use Rattle.sequences.proofs.Sums.{closes_among, closes_rows, sequence_row, sum_closes, sum_rows}
use Rattle.sequences.proofs.Tables.{some_same, row_of_lem, table_keeps}
use Rattle.sequences.proofs.Ticks.{impossible_by_ticks, decided}

-- the rows of a text are its own
pub one_rows : (bs : List ℕ) (x y : List (List Factor)) → TextCloses bs x → TextCloses bs y → rows_with x ≡ rows_with y
one_rows bs x y a b =
    let t = same_term a.term b.term (sym a.written ∙ b.written) in
    some_same (rows_with x) (rows_with y) (sym (closes_rows a.closes) ∙ ap rows_of t ∙ closes_rows b.closes)

pub map_length : (x : List (List Factor)) → length (rows_with x) ≡ length x
map_length x = length-map x row_with

one_count : (bs : List ℕ) (x y : List (List Factor)) → TextCloses bs x → TextCloses bs y → length x ≡ length y
one_count bs x y a b = sym (map_length x) ∙ ap length (one_rows bs x y a b) ∙ map_length y

-- not of each where of one
any_all : {X : Type 0} (P : X → Type 0) (xs : List X) → Any P xs → All (λ x. P x → ⊥) xs → ⊥
any_all P xs s a = a s.0 s.1 s.2 (subst P (sym s.3) s.4)

pub none_all : {X : Type 0} (P : X → Type 0) (xs : List X) → (Any P xs → ⊥) → All (λ x. P x → ⊥) xs
none_all P xs n k d l h = n (k, get_or xs k d, l, get_or_default xs k _ d l, h)

-- what holds of each row holds of the row of each sequence
pub all_rows : (P : Row → Type 0) (x : List (List Factor)) → All (λ fs. P (row_with fs)) x → All P (rows_with x)
all_rows P x h = All-map P row_with x h

rows_all : (P : Row → Type 0) (x : List (List Factor)) → All P (rows_with x) → All (λ fs. P (row_with fs)) x
rows_all P [] h = All-nil (λ gs. P (row_with gs))
rows_all P (fs ∷ x) h =
    All-cons (λ gs. P (row_with gs)) fs x (All-head P (row_with fs) (rows_with x) h) (rows_all P x (All-tail P (row_with fs) (rows_with x) h))

-- the row of a sequence in a text of n bytes
pub record Proper (n : ℕ) (r : Row) : Type 0 where
  pub sound : Sound r
  pub counted : Counted r
  pub short : length (line r) ≤ n + 1

longer : (m n : ℕ) (rs : List Row) → m ≤ n → All (Proper m) rs → All (Proper n) rs
longer m n rs h a =
    All-weaker (Proper m) (Proper n) (λ r p. record { sound = p.sound; counted = p.counted; short = omega (arith, p.short) }) rs a

sum_proper : {t : Term ℕ} {x : List (List Factor)} → Summed t x → All (Proper (length (text_of t))) (rows_with x)
sum_proper (sequence {t = t} {fs = fs} h) =
    let e = sequence_row h blank in
    let f = row_of_lem t blank (row_with fs) blank_sound e in
    let p = Proper (length (text_of t)) in
    All-cons p (row_with fs) [] (record { sound = f.sound; counted = f.counted; short = lines_fit t (row_with fs) e }) (All-nil p)
sum_proper (plus {a = a} {b = b} {x = x} {y = y} h k) =
    let n = length-append (text_of a) (text_of b) in
    subst (All (Proper (suc (length (text_of a ++ text_of b))))) (sym (map-append row_with x y))
    (All-append (Proper (suc (length (text_of a ++ text_of b)))) (rows_with x) (rows_with y)
    (longer (length (text_of a)) _ (rows_with x) (omega arith) (sum_proper h)) (longer (length (text_of b)) _ (rows_with y) (omega arith) (sum_proper k)))

closes_proper : {t : Term ℕ} {x : List (List Factor)} → ClosesTo t x → All (Proper (length (text_of t))) (rows_with x)
closes_proper nothing = All-nil (Proper (length (text_of never)))
closes_proper (sum h) = sum_proper h

pub text_proper : (bs : List ℕ) (x : List (List Factor)) → TextCloses bs x → All (Proper 511) (rows_with x)
text_proper bs x c = longer _ 511 (rows_with x) (omega (arith, c.short, ap length c.written)) (closes_proper c.closes)

-- the refusals and the grant
module _ (bs : List ℕ) where
  pub no_sum : (SumText bs → ⊥) → Refused close_code (CloseAsks bs) NoSum
  no_sum h = record { fails = h; lower = lower }
    where
      lower : (f : CloseRefusal) → close_code f < 22 → CloseAsks bs f
      lower NoTree l = tt
      lower NoSum l = absurd (omega arith)
      lower TooMany l = absurd (omega arith)
      lower ImpossibleSequence l = absurd (omega arith)

  module _ (x : List (List Factor)) (c : TextCloses bs x) where
    pub too_many : 64 < length x → Refused close_code (CloseAsks bs) TooMany
    too_many h = record { fails = λ f. omega (arith, f x c); lower = lower }
      where
        lower : (f : CloseRefusal) → close_code f < 23 → CloseAsks bs f
        lower NoTree l = tt
        lower NoSum l = record { sequences = x; closes = c }
        lower TooMany l = absurd (omega arith)
        lower ImpossibleSequence l = absurd (omega arith)

    few : length x ≤ 64 → (y : List (List Factor)) → TextCloses bs y → length y ≤ 64
    few h y d = omega (arith, one_count bs x y c d)

    pub one_impossible : length x ≤ 64 → Any Impossible (rows_with x) → Refused close_code (CloseAsks bs) ImpossibleSequence
    one_impossible h s = record {
      fails = λ f. any_all Impossible (rows_with x) s (all_rows (λ r. Impossible r → ⊥) x (f x c));
      lower = lower;
    }
      where
        lower : (f : CloseRefusal) → close_code f < 24 → CloseAsks bs f
        lower NoTree l = tt
        lower NoSum l = record { sequences = x; closes = c }
        lower TooMany l = few h
        lower ImpossibleSequence l = absurd (omega arith)

    pub granted : length x ≤ 64 → All (λ r. Impossible r → ⊥) (rows_with x) → Granted (CloseAsks bs)
    granted h a NoTree = tt
    granted h a NoSum = record { sequences = x; closes = c }
    granted h a TooMany = few h
    granted h a ImpossibleSequence = λ y d. rows_all (λ r. Impossible r → ⊥) y (subst (All (λ r. Impossible r → ⊥)) (one_rows bs x y c d) a)

-- what closes is a text
pub sum_text : (bs : List ℕ) → SumText bs → IsText bs
sum_text bs s =
    let c = s.closes in
    record { whole = record { term = c.term; written = c.written; letters = closes_among c.closes }; short = c.short }

-- the text N
pub never_closes : (bs : List ℕ) → bs ≡ never_byte ∷ [] → TextCloses bs []
never_closes bs e = record { term = never; written = e; short = omega (arith, ap length e); closes = nothing }

never_only : {t : Term ℕ} {x : List (List Factor)} → (bs : List ℕ) → bs ≡ text_of t → (bs ≡ never_byte ∷ [] → ⊥) → ClosesTo t x → Summed t x
never_only bs e n nothing = absurd (n e)
never_only bs e n (sum h) = h

-- what was scanned of a text that is not N
module _ (bs : List ℕ) (whole : IsText bs) (reading : Reading) (rows : List Row) (count : ℕ) (k : Keeps (run start bs) reading rows count) where
  abbrev term : Term ℕ
  term = whole.whole.term

  abbrev ended : Bool
  ended = is_end reading.wants

  same : run start bs ≡ run start (text_of term)
  same = ap (run start) whole.whole.written

  pub no_end : (bs ≡ never_byte ∷ [] → ⊥) → is_end reading.wants ≡ false → SumText bs → ⊥
  no_end n e s =
      let c = s.closes in
      let t = same_term term c.term (sym whole.whole.written ∙ c.written) in
      let z = scans_sums term (rows_with s.sequences) (ap sum_of t ∙ sum_rows (never_only bs c.written n c.closes)) in
      let w : reading.wants ≡ End = ap (λ (g : Reading). g.wants) (sym k.same) ∙ ap (λ (st : State). st.reading.wants) (same ∙ z) in
      let b : true ≡ false = sym (ap is_end w) ∙ e in
      let q : ◌≡◌ {A = ℕ} 0 1 = cc in omega arith

  pub record Found : Type 0 where
    pub sequences : List (List Factor)
    pub closes : TextCloses bs sequences
    pub counted : count ≡ length sequences
    pub kept : rows ≡ padded 64 (rows_with sequences)

  pub at_end : is_end reading.wants ≡ true → Found
  at_end e = go (sum_of term) refl
    where
      go : (o : Option (List Row)) → sum_of term ≡ o → Found
      go none q =
          let w : reading.wants ≡ Nothing = ap (λ (g : Reading). g.wants) (sym k.same) ∙ ap (λ (st : State). st.reading.wants) same ∙ scans_none term q in
          let b : false ≡ true = sym (ap is_end w) ∙ e in
          absurd (let z : ◌≡◌ {A = ℕ} 0 1 = cc in omega arith)
      go (some rs) q =
          let f = sum_closes term rs q in
          let z = same ∙ scans_sums term rs q in
          record {
            sequences = f.sequences;
            closes = record { term = term; written = whole.whole.written; short = whole.short; closes = f.closes };
            counted = k.counted ∙ ap (λ (st : State). length st.done) z ∙ ap length f.rows ∙ map_length f.sequences;
            kept =
                k.kept ∙ ap (λ (st : State). padded 64 (st.done ++ (st.row ∷ []))) z ∙ padded_blank 64 rs ∙ ap (padded 64) f.rows;
          }

-- the first rows that were scanned
module _ (bs : List ℕ) (x : List (List Factor)) (c : TextCloses bs x) (h : length x ≤ 64) where
  pub front_rows : (rows : List Row) (len : ℕ) → rows ≡ padded 64 (rows_with x) → len ≡ length x → take len rows ≡ rows_with x
  front_rows rows len e n =
      ap (take len) e ∙ ap (λ (m : ℕ). take m (padded 64 (rows_with x))) (n ∙ sym (map_length x)) ∙ padded_front 64 (rows_with x) (omega (arith, map_length x))

-- the rows have the date of the text
pub keeps_date : {D : Type 0} (K : Kind D) (d : ℕ → D) (bs : List ℕ) (x : List (List Factor)) → TextCloses bs x → Same K (text_date K d bs) (table_date K d (rows_with x))
keeps_date K d bs x c =
    subst (λ p. Same K p (table_date K d (rows_with x))) (sym (text_date_lem K d bs c.term c.written))
    (table_keeps K c.term (rows_with x) (closes_rows c.closes) d)

-- refused as impossible exactly where a sequence happens under no dating by ticks
some_impossible : (rs : List Row) → All Sound rs → (All (λ r. Impossible r → ⊥) rs → ⊥) → Any Impossible rs
some_impossible [] s f = absurd (f (All-nil (λ r. Impossible r → ⊥)))
some_impossible (r ∷ rs) s f =
    elim (decided r (All-head Sound r rs s)) [
      | inl i ↦ (0, r, omega arith, refl, i)
      | inr n ↦ let k = some_impossible rs (All-tail Sound r rs s) (λ a. f (All-cons (λ q. Impossible q → ⊥) r rs n a)) in (suc k.0, k.1, omega (arith, k.2), k.3, k.4)
    ]

pub all_sound : (rs : List Row) → All (Proper 511) rs → All Sound rs
all_sound rs a = All-weaker (Proper 511) Sound (λ r p. p.sound) rs a

refused_some : {A : Type 0} (Given : A → Type 0) (bs : List ℕ) (x : List (List Factor)) → TextCloses bs x → (r : Result A CloseRefusal) → Closed bs Given r
    → r ≡ Err ImpossibleSequence → Any Impossible (rows_with x)
refused_some Given bs x c r a e =
    let f : Refused close_code (CloseAsks bs) ImpossibleSequence = subst (Closed bs Given) e a in
    some_impossible (rows_with x) (all_sound (rows_with x) (text_proper bs x c))
    (λ b. f.fails (λ y d. rows_all (λ r. Impossible r → ⊥) y (subst (All (λ r. Impossible r → ⊥)) (one_rows bs x y c d) b)))

found_at : (rs : List Row) (s : Any Impossible rs) → Impossible (get_or rs s.0 absent)
found_at rs s = subst Impossible (sym s.3 ∙ get_or_default rs s.0 s.1 absent s.2) s.4

module _ {A : Type 0} (Given : A → Type 0) (bs : List ℕ) (x : List (List Factor)) (c : TextCloses bs x) (h : length x ≤ 64) where
  never_of : Any Impossible (rows_with x) → SomeNever (rows_with x)
  never_of s =
      let i = found_at (rows_with x) s in
      let p = text_proper bs x c s.0 absent s.2 in
      record { at = s.0; low = s.2; never = (impossible_by_ticks (get_or (rows_with x) s.0 absent) p.sound p.counted).0 i }

  of_never : SomeNever (rows_with x) → Any Impossible (rows_with x)
  of_never s =
      let p = text_proper bs x c s.at absent s.low in (
        s.at,
        get_or (rows_with x) s.at absent,
        s.low,
        get_or_default (rows_with x) s.at _ absent s.low,
        (impossible_by_ticks (get_or (rows_with x) s.at absent) p.sound p.counted).1 s.never,
      )

  refused_never : (r : Result A CloseRefusal) → Closed bs Given r → r ≡ Err ImpossibleSequence → SomeNever (rows_with x)
  refused_never r a e = never_of (refused_some Given bs x c r a e)

  never_refused : (r : Result A CloseRefusal) → Closed bs Given r → SomeNever (rows_with x) → r ≡ Err ImpossibleSequence
  never_refused (Ok v) a s = absurd ((one_impossible bs x c h (of_never s)).fails (a.0 ImpossibleSequence))
  never_refused (Err NoTree) a s = absurd (a.fails tt)
  never_refused (Err NoSum) a s = absurd (a.fails (record { sequences = x; closes = c }))
  never_refused (Err TooMany) a s = absurd (a.fails (few bs x c h))
  never_refused (Err ImpossibleSequence) a s = refl

pub refused_exactly : {A : Type 0} (Given : A → Type 0) (bs : List ℕ) (r : Result A CloseRefusal) → Closed bs Given r → RefusedExactly bs r
refused_exactly Given bs r a x c h = (refused_never Given bs x c h r a, never_refused Given bs x c h r a)

pub refused_nowhere : {A : Type 0} (Given : A → Type 0) (bs : List ℕ) (r : Result A CloseRefusal) → Closed bs Given r → RefusedNowhere bs r
refused_nowhere Given bs r a x c e =
    let s = refused_some Given bs x c r a e in
    let p = text_proper bs x c s.0 absent s.2 in
    record { at = s.0; low = s.2; never = λ K d. never_happens K (get_or (rows_with x) s.0 absent) p.sound (found_at (rows_with x) s) d }
