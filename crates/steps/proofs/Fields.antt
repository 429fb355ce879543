-- The fields of a step record are read in one way only, one bit after the other.
-- Assumes nothing.
use Rattle.std.proofs.Common.{◌≡◌, ℕ, zero, suc, ◌+◌, ◌<◌, ◌≤◌, Bool, true, false, List, [], ◌∷◌, ◌++◌, length, get_or, take, drop, sym, refl, ap, ◌∙◌, subst, arith}
use Rattle.std.proofs.lemmas.List.{take_at, drop_at}
use Rattle.algebra.specs.Conversions.{way_byte}
use Rattle.algebra.specs.Rules.{variable_byte}
use Rattle.algebra.specs.declared.Variable.{Variable}
use Rattle.algebra.specs.declared.Variable.TheVariants.{X, Y, Z}
use Rattle.algebra.specs.declared.Way.{Way}
use Rattle.algebra.specs.declared.Way.TheVariants.{Forward, Backward}
use Rattle.steps.specs.Records.{Request, Field, the_rule, the_way, the_place, the_term, bit_of, bits, bit_stands, blank, put, FieldAt, Next, Fields, Says, WholeTerm, supplied_for}
use Rattle.steps.specs.Readings.{kind_bit}
use Rattle.steps.specs.declared.record.FieldKind.{FieldKind}
use Rattle.steps.specs.declared.record.FieldKind.TheVariants.{Rule as KindRule, Way as KindWay, Place as KindPlace, Supply as KindSupply}
use Rattle.steps.proofs.Taken.{high, same_letter}

-- the bit of a term goes by its letter
bit_is : (v : Variable) (t : List ℕ) → bit_of (the_term v t) + 85 ≡ variable_byte v
bit_is X t = refl
bit_is Y t = refl
bit_is Z t = refl

term_bit : (v : Variable) (t : List ℕ) → 3 ≤ bit_of (the_term v t)
term_bit v t = omega (arith, bit_is v t, high v)

bit_letter : (u v : Variable) (s t : List ℕ) → bit_of (the_term u s) ≡ bit_of (the_term v t) → u ≡ v
bit_letter u v s t e = same_letter u v (omega (arith, bit_is u s, bit_is v t))

same_way : (v w : Way) → way_byte v ≡ way_byte w → v ≡ w
same_way Forward Forward e = refl
same_way Forward Backward e = absurd (omega arith)
same_way Backward Forward e = absurd (omega arith)
same_way Backward Backward e = refl

-- one field stands at the front, and it ends at one place
field_one : (bit : ℕ) (bs : List ℕ) (f g : Field) (r s : List ℕ) → FieldAt bit bs f r → FieldAt bit bs g s → (f ≡ g) × (r ≡ s)
field_one bit bs (the_rule m) (the_rule n) r s (i, a) (j, b) = let h : m ≡ n = cc in (ap the_rule h, cc)
field_one bit bs (the_rule m) (the_way n) r s (i, a) (j, b) = absurd (omega arith)
field_one bit bs (the_rule m) (the_place n) r s (i, a) (j, b) = absurd (omega arith)
field_one bit bs (the_rule m) (the_term v t) r s (i, a) (j, b) = absurd (omega (arith, term_bit v t))
field_one bit bs (the_way m) (the_rule n) r s (i, a) (j, b) = absurd (omega arith)
field_one bit bs (the_way m) (the_way n) r s (i, a) (j, b) = let h : way_byte m ≡ way_byte n = cc in (ap the_way (same_way m n h), cc)
field_one bit bs (the_way m) (the_place n) r s (i, a) (j, b) = absurd (omega arith)
field_one bit bs (the_way m) (the_term v t) r s (i, a) (j, b) = absurd (omega (arith, term_bit v t))
field_one bit bs (the_place m) (the_rule n) r s (i, a) (j, b) = absurd (omega arith)
field_one bit bs (the_place m) (the_way n) r s (i, a) (j, b) = absurd (omega arith)
field_one bit bs (the_place m) (the_place n) r s (i, (high, low, a, x)) (j, (high', low', b, y)) =
    let h : high ≡ high' = cc in
    let l : low ≡ low' = cc in
    let p : m ≡ n = omega arith in
    (ap the_place p, cc)
field_one bit bs (the_place m) (the_term v t) r s (i, a) (j, b) = absurd (omega (arith, term_bit v t))
field_one bit bs (the_term v t) (the_rule n) r s (i, a) (j, b) = absurd (omega (arith, term_bit v t))
field_one bit bs (the_term v t) (the_way n) r s (i, a) (j, b) = absurd (omega (arith, term_bit v t))
field_one bit bs (the_term v t) (the_place n) r s (i, a) (j, b) = absurd (omega (arith, term_bit v t))
field_one bit bs (the_term v t) (the_term u w) r s (i, (_, _, a)) (j, (_, _, b)) =
    let size : length t ≡ length w = cc in
    let both : t ++ r ≡ w ++ s = cc in
    let letter : v ≡ u = bit_letter v u t w (sym i ∙ j) in
    let term : t ≡ w = sym (take_at t r (length w) size) ∙ ap (take (length w)) both ∙ take_at w s (length w) refl in
    (λ k. the_term (letter k) (term k), sym (drop_at t r (length w) size) ∙ ap (drop (length w)) both ∙ drop_at w s (length w) refl)

next_one : (given : Bool) (bit : ℕ) (q : Request) (bs : List ℕ) (p p' : Request) (r r' : List ℕ) → Next given bit q bs p r → Next given bit q bs p' r' → (p ≡ p') × (r ≡ r')
next_one true bit q bs p p' r r' (f, at, is) (g, at', is') =
    let o = field_one bit bs f g r r' at at' in
    (is ∙ ap (λ (h : Field). put h q) o.0 ∙ sym is', o.1)
next_one false bit q bs p p' r r' (is, at) (is', at') = (is ∙ sym is', sym at ∙ at')

-- what is left of the fields after one bit
peel : (map bit : ℕ) (more : List ℕ) (q : Request) (bs : List ℕ) (r : Request) (rest : List ℕ) (p : Request) → Next (bit_stands map bit) bit q bs r rest → Fields map (bit ∷ more) q bs p → Fields map more r rest p
peel map bit more q bs r rest p n (r', rest', n', w) =
    let o = next_one (bit_stands map bit) bit q bs r' r rest' rest n' n in
    subst (λ (x : Request). Fields map more x rest p) o.0 (subst (λ (l : List ℕ). Fields map more r' l p) o.1 w)

fields_one : (map : ℕ) (todo : List ℕ) (q : Request) (bs : List ℕ) (p p' : Request) → Fields map todo q bs p → Fields map todo q bs p' → p ≡ p'
fields_one map [] q bs p p' (a, is) (b, is') = is ∙ sym is'
fields_one map (bit ∷ more) q bs p p' (r, rest, n, w) w' = fields_one map more r rest p p' w (peel map bit more q bs r rest p' n w')

-- a well-formed record says one thing only
pub says_one : (events : ℕ) (bs : List ℕ) (p q : Request) → Says events bs p → Says events bs q → p ≡ q
says_one events bs p q a b =
    let x = a.begins in
    let y = b.begins in
    let maps : b.map ≡ a.map = cc in
    let rests : b.fields ≡ a.fields = cc in
    fields_one a.map bits blank a.fields p q a.said
    (subst (λ (m : ℕ). Fields m bits blank a.fields q) maps (subst (λ (l : List ℕ). Fields b.map bits blank l q) rests b.said))

-- the request q says what was read so far, and the fields of the bits todo are left
pub record Remaining (map : ℕ) (bs todo : List ℕ) (q : Request) (rest : List ℕ) : Type 0 where
  pub to : (p : Request) → Fields map bits blank bs p → Fields map todo q rest p
  pub from : (p : Request) → Fields map todo q rest p → Fields map bits blank bs p

drop_bits : (bit : ℕ) → bit < 6 → drop bit bits ≡ bit ∷ drop (bit + 1) bits
drop_bits zero h = refl
drop_bits (suc zero) h = refl
drop_bits (suc (suc zero)) h = refl
drop_bits (suc (suc (suc zero))) h = refl
drop_bits (suc (suc (suc (suc zero)))) h = refl
drop_bits (suc (suc (suc (suc (suc zero))))) h = refl
drop_bits (suc (suc (suc (suc (suc (suc n)))))) h = absurd (omega arith)

module _ (map : ℕ) (bs : List ℕ) (bit : ℕ) (h : bit < 6) (q : Request) (rest : List ℕ) (inv : Remaining map bs (drop bit bits) q rest) where
  pub remaining_more : (q' : Request) (rest' : List ℕ) → Next (bit_stands map bit) bit q rest q' rest' → Remaining map bs (drop (bit + 1) bits) q' rest'
  remaining_more q' rest' n = record {
    to = λ p w. peel map bit (drop (bit + 1) bits) q rest q' rest' p n (subst (λ (l : List ℕ). Fields map l q rest p) (drop_bits bit h) (inv.to p w));
    from = λ p w. inv.from p (subst (λ (l : List ℕ). Fields map l q rest p) (sym (drop_bits bit h)) (q', rest', n, w));
  }

  -- a field that does not stand there
  pub remaining_none : ((q' : Request) (rest' : List ℕ) → Next (bit_stands map bit) bit q rest q' rest' → ⊥) → (p : Request) → Fields map bits blank bs p → ⊥
  remaining_none none p w =
      let go = subst (λ (l : List ℕ). Fields map l q rest p) (drop_bits bit h) (inv.to p w) in
      none go.0 go.1 go.2

-- the kinds of the fields, in the order of their bits
abbrev pub kinds : List FieldKind
kinds = KindRule ∷ KindWay ∷ KindPlace ∷ KindSupply X ∷ KindSupply Y ∷ KindSupply Z ∷ []

pub kind_at : (bit : ℕ) (d : FieldKind) → bit < 6 → kind_bit (get_or kinds bit d) ≡ bit
kind_at zero d h = refl
kind_at (suc zero) d h = refl
kind_at (suc (suc zero)) d h = refl
kind_at (suc (suc (suc zero))) d h = refl
kind_at (suc (suc (suc (suc zero)))) d h = refl
kind_at (suc (suc (suc (suc (suc zero))))) d h = refl
kind_at (suc (suc (suc (suc (suc (suc n)))))) d h = absurd (omega arith)

-- a field stands at a bit as its kind says, where the bit stands
pub at_bit : (given : Bool) (bit n : ℕ) (q : Request) (bs : List ℕ) (p : Request) (rest : List ℕ) → given ≡ true → n ≡ bit → Next true n q bs p rest → Next given bit q bs p rest
at_bit given bit n q bs p rest stands is next = subst (λ (b : Bool). Next b bit q bs p rest) (sym stands) (subst (λ (k : ℕ). Next true k q bs p rest) is next)

pub of_kind : (given : Bool) (bit n : ℕ) (q : Request) (bs : List ℕ) (p : Request) (rest : List ℕ) → given ≡ true → n ≡ bit → Next given bit q bs p rest → Next true n q bs p rest
of_kind given bit n q bs p rest stands is next = subst (λ (k : ℕ). Next true k q bs p rest) (sym is) (subst (λ (b : Bool). Next b bit q bs p rest) stands next)

-- where the bit does not stand, nothing is read
pub no_bit : (given : Bool) (bit : ℕ) (q : Request) (bs : List ℕ) → given ≡ false → Next given bit q bs q bs
no_bit given bit q bs none = subst (λ (b : Bool). Next b bit q bs q bs) (sym none) (refl, refl)

-- all bits were read
pub remaining_left : (map : ℕ) (bs : List ℕ) (bit : ℕ) (q : Request) (rest : List ℕ) → bit ≡ 6 → Remaining map bs (drop bit bits) q rest → (rest ≡ [] → ⊥) → (p : Request) → Fields map bits blank bs p → ⊥
remaining_left map bs bit q rest e inv some p w =
    let end = subst (λ (n : ℕ). Fields map (drop n bits) q rest p) e (inv.to p w) in
    some end.0

-- what the record says is what its fields say
pub says_is : (events : ℕ) (bs : List ℕ) (map : ℕ) (rest : List ℕ) → bs ≡ map ∷ rest → (q : Request) → Says events bs q → Fields map bits blank rest q
says_is events bs map rest e q s =
    let x = s.begins in
    let maps : s.map ≡ map = cc in
    let rests : s.fields ≡ rest = cc in
    subst (λ (m : ℕ). Fields m bits blank rest q) maps (subst (λ (l : List ℕ). Fields s.map bits blank l q) rests s.said)

pub unsound : (events : ℕ) (bs : List ℕ) (map : ℕ) (rest : List ℕ) (p : Request) → bs ≡ map ∷ rest → Fields map bits blank rest p → (((1 ≤ p.rule) × (p.rule ≤ 42)) × ((v : Variable) → WholeTerm events (supplied_for p v)) → ⊥) → (q : Request) → Says events bs q → ⊥
unsound events bs map rest p e f wrong q s =
    let same : q ≡ p = fields_one map bits blank rest q p (says_is events bs map rest e q s) f in
    wrong (subst (λ (r : Request). (1 ≤ r.rule) × (r.rule ≤ 42)) same s.number, subst (λ (r : Request). (v : Variable) → WholeTerm events (supplied_for r v)) same s.terms)
