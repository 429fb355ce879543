-- Two kinds whose dates are linked, and kinds whose dates are numbers.
-- Assumes nothing.
use Rattle.std.specs.Prelude.{◌≡◌, ℕ, Bool, T, List}
use Rattle.algebra.specs.Kinds.{Kind, Same}
use Rattle.algebra.specs.Terms.{Term, date, dating_of}
use Rattle.algebra.specs.Texts.{text_date}

-- a relation between the dates of two kinds that knows never and the order
pub record Link {D E : Type 0} (K : Kind D) (L : Kind E) (R : D → E → Type 0) : Type 0 where
  pub nevers : R K.never L.never
  pub orders : (p : D) (p' : E) (q : D) (q' : E) → R p p' → R q q' → K.no_later p q ≡ L.no_later p' q'

-- Where the dates of the letters are linked, so are the dates of every term.
abbrev pub LinkedDates : {D E : Type 0} → Kind D → Kind E → Type 0
LinkedDates {D} {E} K L =
    (linked : D → E → Bool) → Link K L (λ p q. T (linked p q)) → (d : ℕ → D) (e : ℕ → E)
    → ((v : ℕ) → T (linked (d v) (e v))) → (t : Term ℕ) → T (linked (date K d t) (date L e t))

-- two texts have the same date, over every kind whose dates are numbers and under every dating
abbrev pub SameByNumbers : List ℕ → List ℕ → Type 0
SameByNumbers s t = (K : Kind ℕ) (d : ℕ → ℕ) → Same K (text_date K d s) (text_date K d t)

-- Then they have the same date under the dates ds, of whatever kind.
abbrev pub NumbersSpeak : {D : Type 0} → Kind D → List D → Type 0
NumbersSpeak K ds = (s t : List ℕ) → SameByNumbers s t → Same K (text_date K (dating_of K ds) s) (text_date K (dating_of K ds) t)
