-- Walks along the pairs of a row.
-- Assumes nothing.
use Rattle.std.specs.Prelude.{◌≡◌, ℕ, zero, suc, ◌<◌, Bool, true, false, ◌&&◌, ◌||◌, T, length}
use Rattle.sequences.specs.Rows.{listed, precedes, ties}
use Rattle.sequences.specs.declared.row.Row.{Row}

-- from v to w along '<' from left to right and '=' either way, and whether a '<' was used
pub data Walk (r : Row) : Bool → ℕ → ℕ → Type 0 where
  stay : {v : ℕ} → Walk r false v v
  less : {b : Bool} {v w x : ℕ} → T (precedes r v w) → Walk r b w x → Walk r true v x
  along : {b : Bool} {v w x : ℕ} → T (ties r v w) → Walk r b w x → Walk r b v x
  back : {b : Bool} {v w x : ℕ} → T (ties r w v) → Walk r b w x → Walk r b v x

-- one can walk from a letter back to itself, using at least one '<'
pub record Impossible (r : Row) : Type 0 where
  pub at : ℕ
  pub walk : Walk r true at at

-- the letters are among the 24, and a tie stands at both its letters, which differ
pub record Sound (r : Row) : Type 0 where
  pub sizes : (length r.before.of ≡ 24) × (length r.ties.of ≡ 24)
  pub low : (v : ℕ) → T (listed r v) → v < 24
  pub right : (v w : ℕ) → T (precedes r v w) → w < 24
  pub both : (v w : ℕ) → T (ties r v w) → T (ties r w v)
  pub apart : (v : ℕ) → T (ties r v v) → ⊥
  deriving IsProp as Sound-prop

-- one link or more, one after the other
pub data Chain (f : ℕ → ℕ → Bool) : ℕ → ℕ → Type 0 where
  one : {v w : ℕ} → T (f v w) → Chain f v w
  more : {v w x : ℕ} → T (f v w) → Chain f w x → Chain f v x

-- each link is to one of the 24 letters
abbrev pub Low : (ℕ → ℕ → Bool) → Type 0
Low f = (v w : ℕ) → T (f v w) → w < 24

-- the links, and those by way of k
abbrev pub via : ℕ → (ℕ → ℕ → Bool) → ℕ → ℕ → Bool
via k f v w = f v w || (f v k && f k w)

-- by way of the letters below n, each in its turn
unfoldable pub closure : ℕ → (ℕ → ℕ → Bool) → ℕ → ℕ → Bool
closure zero f = f
closure (suc n) f = via n (closure n f)

-- some number below n passes
unfoldable pub any : ℕ → (ℕ → Bool) → Bool
any zero p = false
any (suc n) p = p n || any n p

-- each number below n passes
unfoldable pub all : ℕ → (ℕ → Bool) → Bool
all zero p = true
all (suc n) p = p n && all n p

-- masks that are links closed under going on
abbrev pub Closes : (ℕ → ℕ → Bool) → (ℕ → ℕ → Bool) → Type 0
Closes f g = (v w : ℕ) → (T (g v w) → Chain f v w) × (Chain f v w → T (g v w))
