-- A line and its words, which are parted by spaces.
-- Assumes nothing.
use Rattle.std.specs.Prelude.{◌≡◌, ℕ, ◌<◌, List, [], ◌∷◌, ◌++◌, length, All, ◌≢◌}

-- a word has a byte, and no space
pub record Plain (word : List ℕ) : Type 0 where
  pub some : 0 < length word
  pub spaceless : All (λ b. b ≢ 32) word

-- the words of a line
pub data Words : List ℕ → List (List ℕ) → Type 0 where
  none : Words [] []
  space : (line : List ℕ) (ws : List (List ℕ)) → Words line ws → Words (32 ∷ line) ws
  last : (w : List ℕ) → Plain w → Words w (w ∷ [])
  more : (w line : List ℕ) (ws : List (List ℕ)) → Plain w → Words line ws → Words (w ++ (32 ∷ line)) (w ∷ ws)

-- a line has one list of words only
abbrev pub OneList : List ℕ → Type 0
OneList line = (ws vs : List (List ℕ)) → Words line ws → Words line vs → ws ≡ vs

-- words with a space between each two
abbrev pub joined : List (List ℕ) → List ℕ
joined [] = []
joined (w ∷ []) = w
joined (w ∷ v ∷ ws) = w ++ (32 ∷ joined (v ∷ ws))

-- words with a space before each
abbrev pub spaced : List (List ℕ) → List ℕ
spaced [] = []
spaced (w ∷ ws) = 32 ∷ (w ++ spaced ws)
