-- Inputs of a tree's records in words: an event by its letter or its number, and a gate by the number of its record.
-- Assumes nothing.
use Rattle.std.specs.Prelude.{◌≡◌, ℕ, ◌+◌, ◌-◌, ◌<◌, cond, ◌⊎◌, List, [], ◌∷◌, decimal, nat_lt}
use Rattle.notation.specs.Numbers.{Number}

-- a to x
pub record Letter (word : List ℕ) (i : ℕ) : Type 0 where
  pub few : i < 24
  pub is : word ≡ (97 + i) ∷ []

-- e and the number of an event
pub record Event (word : List ℕ) (i : ℕ) : Type 0 where
  pub digits : List ℕ
  pub few : i < 64
  pub number : Number digits i
  pub is : word ≡ 101 ∷ digits

-- g and the number of a record, whose gate it is
pub record GateOf (word : List ℕ) (i : ℕ) : Type 0 where
  pub digits : List ℕ
  pub place : ℕ
  pub few : place < 192
  pub number : Number digits place
  pub is : word ≡ 103 ∷ digits
  pub input : i ≡ 64 + place

-- the word names the input
abbrev pub Names : List ℕ → ℕ → Type 0
Names word i = Letter word i ⊎ (Event word i ⊎ GateOf word i)

-- a word names one input only
abbrev pub OneName : List ℕ → Type 0
OneName word = (i j : ℕ) → Names word i → Names word j → i ≡ j

-- the word that is written for an input
abbrev pub input_word : ℕ → List ℕ
input_word i = cond (nat_lt i 24) ((97 + i) ∷ []) (cond (nat_lt i 64) (101 ∷ decimal i) (103 ∷ decimal (i - 64)))
