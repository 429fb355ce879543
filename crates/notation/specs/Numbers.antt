-- Numbers written in decimal digits; zeros may stand in front.
-- Assumes nothing.
use Rattle.std.specs.Prelude.{◌≡◌, ℕ, ◌<◌, List, length}
use Rattle.std.specs.Str.Parse.{AllDigits, digits_value}

-- the word is digits, and this is the number that they write
pub record Number (word : List ℕ) (n : ℕ) : Type 0 where
  pub some : 0 < length word
  pub digits : AllDigits 10 word
  pub is : digits_value 10 word ≡ n
