-- Terms written in prefix form, operator first, and read again.
-- Assumes nothing.
use Rattle.std.specs.Prelude.{◌≡◌, ℕ, ◌+◌, ◌-◌, ◌<◌, ◌≤◌, cond, ◌↔◌, List, [], ◌∷◌, ◌++◌, length, drop, ◌==◌, nat_le}
use Rattle.algebra.specs.Kinds.{Kind}
use Rattle.algebra.specs.Terms.{Term, leaf, never, node, date, Among}
use Rattle.algebra.specs.declared.Operator.{Operator}
use Rattle.algebra.specs.declared.Operator.TheVariants.{Or, And, Before, Simultaneous, Inclusive}
use Rattle.algebra.specs.declared.Token.{Token}
use Rattle.algebra.specs.declared.Token.TheVariants.{Letter, Never, Joins, Unknown}

abbrev pub operator_byte : Operator → ℕ
operator_byte Or = 43
operator_byte And = 42
operator_byte Before = 60
operator_byte Simultaneous = 61
operator_byte Inclusive = 91

-- the byte N
abbrev pub never_byte : ℕ
never_byte = 78

-- the text of a term, its letters written by f
abbrev pub write : {V : Type 0} → (V → ℕ) → Term V → List ℕ
write f (leaf v) = f v ∷ []
write f never = never_byte ∷ []
write f (node o l r) = operator_byte o ∷ (write f l ++ write f r)

-- what was read of a text: terms one after the other, up to its end or to what is no term
pub data Read (V : Type 0) : Type 0 where
  end : Read V
  bad : Read V
  on : Term V → Read V → Read V

abbrev pub paired : {V : Type 0} → Operator → Read V → Read V
paired o end = bad
paired o bad = bad
paired o (on l end) = bad
paired o (on l bad) = bad
paired o (on l (on r s)) = on (node o l r) s

abbrev pub front : {V : Type 0} → Token V → Read V → Read V
front (Letter v) s = on (leaf v) s
front Never s = on never s
front (Joins o) s = paired o s
front Unknown s = bad

-- a text is read from its end
abbrev pub terms : {V : Type 0} → (ℕ → Token V) → List ℕ → Read V
terms tok [] = end
terms tok (b ∷ bs) = front (tok b) (terms tok bs)

-- the one term that was read
abbrev pub single : {V : Type 0} → Read V → Term V
single end = never
single bad = never
single (on t end) = t
single (on t bad) = never
single (on t (on u s)) = never

-- what a byte is, where f says which bytes are letters
abbrev pub token : {V : Type 0} → (ℕ → Token V) → ℕ → Token V
token f b =
    cond (b == 43) (Joins Or) (cond (b == 42) (Joins And) (cond (b == 60) (Joins Before)
    (cond (b == 61) (Joins Simultaneous) (cond (b == 91) (Joins Inclusive) (cond (b == never_byte) Never (f b))))))

-- Event v has the byte 97 + v, from a on. A text has only the first 24 of them, and that of a tree only its own.
abbrev pub event_byte : ℕ → ℕ
event_byte v = 97 + v

abbrev pub event_letter : ℕ → Token ℕ
event_letter b = cond (nat_le 97 b) (Letter (b - 97)) Unknown

abbrev pub event_token : ℕ → Token ℕ
event_token = token event_letter

abbrev pub text_of : Term ℕ → List ℕ
text_of t = write event_byte t

-- the term of a text
abbrev pub term_of : List ℕ → Term ℕ
term_of bs = single (terms event_token bs)

-- the date of a text
abbrev pub text_date : {D : Type 0} → Kind D → (ℕ → D) → List ℕ → D
text_date K d bs = date K d (term_of bs)

-- the bytes are one whole term, whose letters are among the first n events
pub record Whole (n : ℕ) (bs : List ℕ) : Type 0 where
  pub term : Term ℕ
  pub written : bs ≡ text_of term
  pub letters : Among n term

-- a text: one whole term over the letters a to x, of at most 511 bytes
pub record IsText (bs : List ℕ) : Type 0 where
  pub whole : Whole 24 bs
  pub short : length bs ≤ 511

-- the term stands in the bytes at the place, and rest stands after it
pub record Stands (bs : List ℕ) (place : ℕ) : Type 0 where
  pub term : Term ℕ
  pub rest : List ℕ
  pub here : drop place bs ≡ text_of term ++ rest

-- A text is read in one way only, whatever stands after it.
abbrev pub OneReading : Type 0
OneReading = (t u : Term ℕ) (bs cs : List ℕ) → text_of t ++ bs ≡ text_of u ++ cs → (t ≡ u) × (bs ≡ cs)

-- Reading finds the text of each term, and nothing else.
abbrev pub ReadsTexts : Type 0
ReadsTexts = (bs : List ℕ) (t : Term ℕ) → (terms event_token bs ≡ on t end) ↔ (bs ≡ text_of t)

-- A term stands at every place of a text.
abbrev pub EveryPlace : Type 0
EveryPlace = (t : Term ℕ) (place : ℕ) → place < length (text_of t) → Stands (text_of t) place
