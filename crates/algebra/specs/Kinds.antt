-- What a kind of date is: which date is never, and which date is no later than which, with the laws of the order.
-- Assumes nothing.
use Rattle.std.specs.Prelude.{Bool, not, T, ◌⊎◌}

pub record Kind (D : Type 0) : Type 0 where
  pub never : D
  pub no_later : D → D → Bool
  -- of two dates at least one is no later than the other
  pub total : (p q : D) → T (no_later p q) ⊎ T (no_later q p)
  pub trans : (p q r : D) → T (no_later p q) → T (no_later q r) → T (no_later p r)
  -- every date is no later than never
  pub top : (p : D) → T (no_later p never)

-- p is before q when q is not no later than p
abbrev pub before : {D : Type 0} → Kind D → D → D → Bool
before K p q = not (K.no_later q p)

-- two dates are the same when each is no later than the other
pub record Same {D : Type 0} (K : Kind D) (p q : D) : Type 0 where
  pub fore : T (K.no_later p q)
  pub back : T (K.no_later q p)
