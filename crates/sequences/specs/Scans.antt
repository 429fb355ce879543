-- A sum read byte by byte, from the left.
-- Assumes nothing.
use Rattle.std.specs.Prelude.{◌≡◌, ℕ, ◌+◌, ◌-◌, ◌<◌, Bool, true, false, cond, not, ◌&&◌, List, [], ◌∷◌, ◌++◌, length, Some, None, Option, ◌==◌, nat_le}
use Rattle.sequences.specs.Rows.{blank, entered, padded}
use Rattle.sequences.specs.declared.row.Row.{Row}
use Rattle.sequences.specs.declared.row.Factor.{Factor}
use Rattle.sequences.specs.declared.row.Factor.TheVariants.{Letter, Pair}
use Rattle.sequences.specs.declared.row.Sign.TheVariants.{Precedes, Ties}
use Rattle.sequences.specs.declared.scan.Wants.{Wants}
use Rattle.sequences.specs.declared.scan.Wants.TheVariants.{Sum, Part, First, Second, End, Nothing}
use Rattle.sequences.specs.declared.scan.Reading.{Reading}
use Rattle.sequences.specs.declared.scan.Step.{Step}

-- the bytes of the 24 letters
abbrev pub is_letter : ℕ → Bool
is_letter b = nat_le 97 b && nat_le b 120

abbrev pub reading_at : Wants → ℕ → ℕ → Reading
reading_at w p s = record { wants = w; parts = p; sums = s }

-- a byte that ends no factor
abbrev pub moved : Wants → ℕ → ℕ → Step
moved w p s = record { next = reading_at w p s; factor = None }

-- what comes after a factor: the next part of its sequence, else the next sum, else nothing more
abbrev pub onward : ℕ → ℕ → Reading
onward p s = cond (p == 0) (cond (s == 0) (reading_at End 0 0) (reading_at Sum 0 (s - 1))) (reading_at Part (p - 1) s)

-- a byte that ends a factor
abbrev pub completed : ℕ → ℕ → Factor → Step
completed p s f = record { next = onward p s; factor = Some f }

-- a byte where a part of a sequence begins
abbrev pub begun : ℕ → ℕ → ℕ → Step
begun p s b =
    cond (b == 42) (moved Part (p + 1) s)
    (cond (b == 60) (moved (First Precedes) p s)
    (cond (b == 61) (moved (First Ties) p s)
    (cond (is_letter b) (completed p s (Letter (b - 97))) (moved Nothing p s))))

-- one byte more, with p parts and s sums yet to come after what is being read
abbrev pub step_of : Wants → ℕ → ℕ → ℕ → Step
step_of Sum p s b = cond (b == 43) (moved Sum p (s + 1)) (begun p s b)
step_of Part p s b = begun p s b
step_of (First sign) p s b = cond (is_letter b) (moved (Second sign (b - 97)) p s) (moved Nothing p s)
step_of (Second sign v) p s b = cond (is_letter b && not (v == b - 97)) (completed p s (Pair sign v (b - 97))) (moved Nothing p s)
step_of End p s b = moved Nothing p s
step_of Nothing p s b = moved Nothing p s

-- the rows of the sequences that are whole, and the row of the one being read
pub record State : Type 0 where
  pub reading : Reading
  pub done : List Row
  pub row : Row

-- a factor goes into the row; with no part yet to come, the row is whole
abbrev pub after : ℕ → Reading → Option Factor → List Row → Row → State
after p next None rs r = record { reading = next; done = rs; row = r }
after p next (Some f) rs r =
    cond (p == 0) (record { reading = next; done = rs ++ (entered f r ∷ []); row = blank }) (record { reading = next; done = rs; row = entered f r })

abbrev pub advanced : Step → ℕ → List Row → Row → State
advanced m p rs r = after p m.next m.factor rs r

abbrev pub stepped : Reading → ℕ → Step
stepped g b = step_of g.wants g.parts g.sums b

abbrev pub step : State → ℕ → State
step st b = advanced (stepped st.reading b) st.reading.parts st.done st.row

abbrev pub run : State → List ℕ → State
run st [] = st
run st (b ∷ bs) = run (step st b) bs

abbrev pub start : State
start = record { reading = reading_at Sum 0 0; done = []; row = blank }

abbrev pub is_end : Wants → Bool
is_end Sum = false
is_end Part = false
is_end (First sign) = false
is_end (Second sign v) = false
is_end End = true
is_end Nothing = false

-- the letter that is kept for a pair is among the 24
abbrev pub Ready : Wants → Type 0
Ready Sum = Unit {0}
Ready Part = Unit {0}
Ready (First sign) = Unit {0}
Ready (Second sign v) = v < 24
Ready End = Unit {0}
Ready Nothing = Unit {0}

-- code that keeps a reading, the first 64 rows and a count is in the state
pub record Keeps (st : State) (reading : Reading) (rows : List Row) (count : ℕ) : Type 0 where
  pub same : st.reading ≡ reading
  pub kept : rows ≡ padded 64 (st.done ++ (st.row ∷ []))
  pub counted : count ≡ length st.done
