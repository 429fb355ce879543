-- Records written one after another, and read back.
-- Assumes nothing.
use Rattle.std.proofs.Common.{◌≡◌, ℕ, ◌+◌, ◌-◌, ◌<◌, List, [], ◌∷◌, ◌++◌, reverse, length, get_or, take, drop, sym, refl, ap, ◌∙◌, subst, ⊎_elim, append_assoc, append-nil, arith}
use Rattle.std.proofs.lemmas.List.{take_more, take_all, take_rest, reverse-append, reverse-reverse, length-reverse}
use Rattle.std.proofs.lemmas.Bool.{cases_order}
use Rattle.trees.specs.declared.record.Record.{Record}
use Rattle.trees.specs.Means.{Means, Spelt, none, more}
use Rattle.trees.specs.declared.reader.Tree.{Tree}
use Rattle.trees.specs.Records.{fields, Written, full, Front, NoRecord}
use Rattle.trees.proofs.One.{spelt_one}
use Rattle.assembly.specs.Layouts.{Lays, RecordsLie, OneLayout, MeansAsLaid}

-- the list with one more at the end, from its end
pub reverse_more : (rs : List Record) (r : Record) → reverse (rs ++ (r ∷ [])) ≡ r ∷ reverse rs
reverse_more rs r = reverse-append rs (r ∷ [])

-- WRITING

-- the first i records are written
abbrev pub Underway : ℕ → ℕ → List Record → ℕ → List ℕ → Type 0
Underway events count rs i items = (ws : List ℕ) × Spelt (reverse (take i rs)) ws × (items ≡ events ∷ count ∷ ws)

module _ (events count : ℕ) (rs : List Record) where
  pub written_none : (items : List ℕ) → items ≡ events ∷ count ∷ [] → Underway events count rs 0 items
  written_none items e = ([], none, e)

  pub written_more : (i : ℕ) (d : Record) (items items' w : List ℕ) → i < length rs → Underway events count rs i items → w ≡ 7 ∷ fields (get_or rs i d) → items' ≡ items ++ w → Underway events count rs (i + 1) items'
  written_more i d items items' w h u f e =
      let r = get_or rs i d in
      let one : Written r w = subst (Written r) (sym f) (full r) in
      let rev : reverse (take (i + 1) rs) ≡ r ∷ reverse (take i rs) = ap reverse (take_more rs i d h) ∙ reverse_more (take i rs) r in (
        u.0 ++ w,
        subst (λ (x : List Record). Spelt x (u.0 ++ w)) (sym rev) (more (reverse (take i rs)) u.0 r w u.1 one),
        e ∙ ap (λ (x : List ℕ). x ++ w) u.2,
      )

  pub written_all : (items : List ℕ) → Underway events count rs (length rs) items → count ≡ length rs → length rs < 256 → Lays items events rs
  written_all items u c h = record {
    counted = h;
    body = u.0;
    bytes = u.2 ∙ ap (λ (n : ℕ). events ∷ n ∷ u.0) c;
    records = record { many = refl; spelt = subst (λ (x : List Record). Spelt (reverse x) u.0) (take_all (length rs) rs (omega arith)) u.1 };
  }

-- READING

no_length : (xs : List ℕ) → length xs ≡ 0 → xs ≡ []
no_length [] h = refl
no_length (x ∷ xs) h = absurd (omega arith)

-- the records stand at the front of the body, and rest is left
abbrev pub Underread : List ℕ → List Record → List ℕ → Type 0
Underread body rs rest = (ws : List ℕ) × Spelt (reverse rs) ws × (body ≡ ws ++ rest)

pub read_none : (body : List ℕ) → Underread body [] body
read_none body = ([], none, refl)

pub read_more : (body : List ℕ) (rs rs' : List Record) (r : Record) (rest after : List ℕ) → Underread body rs rest → Front rest r after → rs' ≡ rs ++ (r ∷ []) → Underread body rs' after
read_more body rs rs' r rest after u f e =
    let w = f.bytes in (
      u.0 ++ w,
      subst (λ (x : List Record). Spelt x (u.0 ++ w)) (sym (ap reverse e ∙ reverse_more rs r)) (more (reverse rs) u.0 r w u.1 f.written),
      u.2 ∙ ap (λ (x : List ℕ). u.0 ++ x) f.is ∙ sym (append_assoc u.0 w after),
    )

-- where more records are spelt than were read, one more stands at the front of the rest
goes_on : (body : List ℕ) {ps qs : List Record} {ws vs : List ℕ} (rest y : List ℕ) → length ps < length qs → Spelt ps ws → Spelt qs vs → body ≡ ws ++ rest → body ≡ vs ++ y → NoRecord rest → ⊥
goes_on body rest y h s none a b n = omega arith
goes_on body {ps = ps} rest y h s (more qs vs q w t k) a b n =
    ⊎_elim
    (λ e.
    let same = spelt_one body rest (w ++ y) e s t a (b ∙ append_assoc vs w y) in
    n q y (record { bytes = w; written = k; is = same.1 }))
    (λ o. ⊎_elim (λ l. goes_on body rest (w ++ y) l s t a (b ∙ append_assoc vs w y) n) (λ l. absurd (omega arith)) o)
    (cases_order (length ps) (length qs))

module _ (body : List ℕ) (rs : List Record) (rest : List ℕ) (u : Underread body rs rest) where
  -- no record stands where one more is wanted
  pub no_more : (count : ℕ) → length rs < count → NoRecord rest → (qs : List Record) → RecordsLie qs count body → ⊥
  no_more count h n qs l =
      goes_on body rest [] (omega (arith, length-reverse rs, length-reverse qs, l.many)) u.1 l.spelt u.2 (sym (append-nil body)) n

  -- bytes stand after the last record
  pub too_much : (count : ℕ) → length rs ≡ count → 0 < length rest → (qs : List Record) → RecordsLie qs count body → ⊥
  too_much count h n qs l =
      let same = spelt_one body rest [] (omega (arith, length-reverse rs, length-reverse qs, l.many)) u.1 l.spelt u.2 (sym (append-nil body)) in
      omega (arith, ap length same.1)

  pub read_all : (count : ℕ) → length rs ≡ count → length rest ≡ 0 → RecordsLie rs count body
  read_all count h z = record {
    many = h;
    spelt = subst (Spelt (reverse rs)) (sym (u.2 ∙ ap (λ (x : List ℕ). u.0 ++ x) (no_length rest z) ∙ append-nil u.0)) u.1;
  }

-- THE TWO BYTES BEFORE

pub heads : (bs : List ℕ) (rs : List Record) → 1 < length bs → get_or bs 1 0 < 256 → RecordsLie rs (get_or bs 1 0) (take (length bs - 2) (drop 2 bs)) → Lays bs (get_or bs 0 0) rs
heads [] rs h s l = absurd (omega arith)
heads (E ∷ []) rs h s l = absurd (omega arith)
heads (E ∷ n ∷ bs) rs h s l =
    let body = take_rest (E ∷ n ∷ bs) 2 in
    record {
      counted = omega (arith, l.many);
      body = bs;
      bytes = λ k. E ∷ sym l.many k ∷ bs;
      records = record { many = refl; spelt = subst (Spelt (reverse rs)) body l.spelt };
    }

pub no_records : (bs : List ℕ) → 1 < length bs → ((rs : List Record) → RecordsLie rs (get_or bs 1 0) (take (length bs - 2) (drop 2 bs)) → ⊥) → (events : ℕ) (rs : List Record) → Lays bs events rs → ⊥
no_records [] h n events rs l = omega arith
no_records (E ∷ []) h n events rs l = omega arith
no_records (E ∷ m ∷ bs) h n events rs l =
    let count : length rs ≡ m = ap (λ (x : List ℕ). get_or x 1 0) (sym l.bytes) in
    let body : l.body ≡ bs = ap (λ (x : List ℕ). drop 2 x) (sym l.bytes) in
    n rs (record { many = count; spelt = subst (Spelt (reverse rs)) (body ∙ sym (take_rest (E ∷ m ∷ bs) 2)) l.records.spelt })

-- ONE LAYOUT, AND ONE MEANING

pub one_layout : (bs : List ℕ) → OneLayout bs
one_layout bs E F rs qs l m =
    let same = sym l.bytes ∙ m.bytes in
    let many : length rs ≡ length qs = ap (λ (x : List ℕ). get_or x 1 0) same in
    let body : l.body ≡ m.body = ap (λ (x : List ℕ). drop 2 x) same in
    let records = spelt_one l.body [] [] (omega (arith, length-reverse rs, length-reverse qs)) l.records.spelt m.records.spelt (sym (append-nil l.body)) (body ∙ sym (append-nil m.body)) in
    (ap (λ (x : List ℕ). get_or x 0 0) same, sym (reverse-reverse rs) ∙ ap reverse records.0 ∙ reverse-reverse qs)

-- a tree of the one bytes is that of the other
carried : (bs cs : List ℕ) (E : ℕ) (rs : List Record) → Lays bs E rs → Lays cs E rs → (t : Tree) → Means bs t → Means cs t
carried bs cs E rs l k t m =
    let same = sym l.bytes ∙ m.bytes in
    let events : E ≡ t.events = ap (λ (x : List ℕ). get_or x 0 0) same in
    let many : length rs ≡ length m.records = ap (λ (x : List ℕ). get_or x 1 0) same in
    let body : l.body ≡ m.body = ap (λ (x : List ℕ). drop 2 x) same in
    let records = spelt_one l.body [] [] (omega (arith, length-reverse rs)) l.records.spelt m.spelt (sym (append-nil l.body)) (body ∙ sym (append-nil m.body)) in
    record {
      records = m.records;
      body = k.body;
      bytes = k.bytes ∙ (λ i. events i ∷ many i ∷ k.body);
      spelt = subst (λ (x : List Record). Spelt x k.body) records.0 k.records.spelt;
      inputs = m.inputs;
      last = m.last;
      term = m.term;
      gates = m.gates;
      events = m.events;
      source = m.source;
    }

pub means_as_laid : (bs : List ℕ) (E : ℕ) (rs : List Record) → Lays bs E rs → MeansAsLaid bs E rs
means_as_laid bs E rs l cs k t = (carried bs cs E rs l k t, carried cs bs E rs k l t)
