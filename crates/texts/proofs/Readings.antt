-- The dates on the stack are those of the terms read.
-- Assumes nothing.
use Rattle.std.proofs.Common.{◌≡◌, ℕ, zero, suc, ◌+◌, ◌-◌, ◌≤◌, List, [], ◌∷◌, length, drop, sym, refl, ap, ◌∙◌, subst, arith, length-drop}
use Rattle.algebra.specs.declared.Token.{Token}
use Rattle.algebra.specs.declared.Token.TheVariants.{Letter, Never, Joins, Unknown}
use Rattle.algebra.specs.Kinds.{Kind}
use Rattle.algebra.specs.Terms.{Term, date}
use Rattle.algebra.specs.Texts.{Read, end, bad, on, front, terms, event_byte, event_token, text_of}
use Rattle.algebra.proofs.Bytes.{event_spelling}
use Rattle.algebra.proofs.Texts.{read_text}
use Rattle.texts.specs.Stack.{Room, stacked}
use Rattle.texts.proofs.Reversed.{last, last_all, StandsBefore}

-- the dates of the terms read
abbrev pub dates : {D : Type 0} → Kind D → (ℕ → D) → Read ℕ → List D
dates K d end = []
dates K d bad = []
dates K d (on t s) = date K d t ∷ dates K d s

-- how many terms were read
abbrev pub depth : Read ℕ → ℕ
depth end = 0
depth bad = 0
depth (on t s) = suc (depth s)

-- read to the end
abbrev pub Good : Read ℕ → Type 0
Good end = Unit {0}
Good bad = ⊥
Good (on t s) = Good s

pub length_dates : {D : Type 0} (K : Kind D) (d : ℕ → D) (s : Read ℕ) → length (dates K d s) ≡ depth s
length_dates K d end = refl
length_dates K d bad = refl
length_dates K d (on t s) = ap suc (length_dates K d s)

front_good : (k : Token ℕ) (s : Read ℕ) → Good (front k s) → Good s
front_good (Letter v) s h = h
front_good Never s h = h
front_good (Joins o) end h = tt
front_good (Joins o) bad h = h
front_good (Joins o) (on l end) h = tt
front_good (Joins o) (on l bad) h = h
front_good (Joins o) (on l (on r s)) h = h
front_good Unknown s h = absurd h

front_depth : (k : Token ℕ) (s : Read ℕ) → Good (front k s) → depth s ≤ suc (depth (front k s))
front_depth (Letter v) s h = omega arith
front_depth Never s h = omega arith
front_depth (Joins o) end h = omega arith
front_depth (Joins o) bad h = omega arith
front_depth (Joins o) (on l end) h = omega arith
front_depth (Joins o) (on l bad) h = omega arith
front_depth (Joins o) (on l (on r s)) h = omega arith
front_depth Unknown s h = absurd h

front_rise : (k : Token ℕ) (s : Read ℕ) → depth (front k s) ≤ suc (depth s)
front_rise (Letter v) s = omega arith
front_rise Never s = omega arith
front_rise (Joins o) end = omega arith
front_rise (Joins o) bad = omega arith
front_rise (Joins o) (on l end) = omega arith
front_rise (Joins o) (on l bad) = omega arith
front_rise (Joins o) (on l (on r s)) = omega arith
front_rise Unknown s = omega arith

good_drop : (i : ℕ) (bs : List ℕ) → Good (terms event_token bs) → Good (terms event_token (drop i bs))
good_drop zero bs h = h
good_drop (suc i) [] h = h
good_drop (suc i) (b ∷ bs) h = good_drop i bs (front_good (event_token b) _ h)

depth_drop : (i : ℕ) (bs : List ℕ) → Good (terms event_token bs) → depth (terms event_token (drop i bs)) ≤ depth (terms event_token bs) + i
depth_drop zero bs h = omega arith
depth_drop (suc i) [] h = omega arith
depth_drop (suc i) (b ∷ bs) h =
    omega (arith, depth_drop i bs (front_good (event_token b) _ h), front_depth (event_token b) (terms event_token bs) h)

depth_length : (bs : List ℕ) → depth (terms event_token bs) ≤ length bs
depth_length [] = omega arith
depth_length (b ∷ bs) = omega (arith, depth_length bs, front_rise (event_token b) (terms event_token bs))

stacked_dates : {D : Type 0} (K : Kind D) (d : ℕ → D) (k : Token ℕ) (s : Read ℕ) → Good (front k s) → stacked K d k (dates K d s) ≡ dates K d (front k s)
stacked_dates K d (Letter v) s h = refl
stacked_dates K d Never s h = refl
stacked_dates K d (Joins o) end h = absurd h
stacked_dates K d (Joins o) bad h = absurd h
stacked_dates K d (Joins o) (on l end) h = absurd h
stacked_dates K d (Joins o) (on l bad) h = absurd h
stacked_dates K d (Joins o) (on l (on r s)) h = refl
stacked_dates K d Unknown s h = absurd h

-- what a token needs, from how many terms are read before and after it
room_by_depth : (k : Token ℕ) (s : Read ℕ) (free : ℕ) → Good (front k s) → depth (front k s) ≤ free + depth s → Room k free (depth s)
room_by_depth (Letter v) s free h w = omega arith
room_by_depth Never s free h w = omega arith
room_by_depth (Joins o) end free h w = absurd h
room_by_depth (Joins o) bad free h w = absurd h
room_by_depth (Joins o) (on l end) free h w = absurd h
room_by_depth (Joins o) (on l bad) free h w = absurd h
room_by_depth (Joins o) (on l (on r s)) free h w = omega arith
room_by_depth Unknown s free h w = tt

-- the text of a term, read from the place i on
module _ {D : Type 0} (K : Kind D) (d : ℕ → D) (bs : List ℕ) (t : Term ℕ) (e : bs ≡ text_of t) where
  abbrev left : ℕ → Read ℕ
  left i = terms event_token (drop i bs)

  all_read_lem : terms event_token bs ≡ on t end
  all_read_lem = ap (terms event_token) e ∙ read_text event_byte event_token event_spelling t

  good : (i : ℕ) → Good (left i)
  good i = good_drop i bs (subst Good (sym all_read_lem) tt)

  deep : (i : ℕ) → depth (left i) ≤ suc i
  deep i = omega (arith, depth_drop i bs (good 0), ap depth all_read_lem)

  -- half of 511 bytes, rounded up, is room enough: a place i leaves at most i + 1 terms, and at most as many as there are bytes behind it
  shallow : (i : ℕ) → i ≤ length bs → length bs ≤ 511 → depth (left i) ≤ 256
  shallow i h short =
      let l : depth (left i) ≤ length bs - i = subst (λ (k : ℕ). depth (left i) ≤ k) (length-drop i bs) (depth_length (drop i bs)) in
      omega (arith, deep i)

  -- The byte b stands in front of the last n bytes, and st are the dates of the terms in these.
  module _ (n b : ℕ) (h : StandsBefore bs n b) (st : List D) (held : st ≡ dates K d (terms event_token (last n bs))) where
    abbrev behind : Read ℕ
    behind = terms event_token (last n bs)

    one_more : left (length bs - (n + 1)) ≡ front (event_token b) behind
    one_more = ap (terms event_token) h.here

    more_good : Good (front (event_token b) behind)
    more_good = subst Good one_more (good (length bs - (n + 1)))

    -- the stack has room for that byte
    pub room : (free : ℕ) → length bs ≤ 511 → 256 ≤ free + length st → Room (event_token b) free (length st)
    room free short wide =
        let count : length st ≡ depth behind = ap length held ∙ length_dates K d behind in
        subst (Room (event_token b) free) (sym count)
        (room_by_depth (event_token b) behind free more_good (omega (arith, shallow (length bs - (n + 1)) (omega arith) short, ap depth one_more)))

    -- the stack after it
    pub turned : stacked K d (event_token b) st ≡ dates K d (terms event_token (last (n + 1) bs))
    turned = ap (stacked K d (event_token b)) held ∙ stacked_dates K d (event_token b) behind more_good ∙ ap (dates K d) (sym one_more)

  -- the stack after the whole text
  pub finished : (n : ℕ) → n ≡ length bs → (st : List D) → st ≡ dates K d (terms event_token (last n bs)) → st ≡ date K d t ∷ []
  finished n h st held = held ∙ ap (λ (x : List ℕ). dates K d (terms event_token x)) (last_all bs n h) ∙ ap (dates K d) all_read_lem
