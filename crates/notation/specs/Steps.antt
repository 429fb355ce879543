-- A step in words: the rule, and then what differs from a forward step at place 0 with no supplied terms.
-- Assumes nothing.
use Rattle.std.specs.Prelude.{◌≡◌, ℕ, ◌<◌, cond, ◌⊎◌, List, [], ◌∷◌, ◌++◌, Some, None, codes, decimal, All, Option, ◌==◌, ◌≢◌}
use Rattle.algebra.specs.Rules.{variable_byte}
use Rattle.algebra.specs.declared.Variable.{Variable}
use Rattle.algebra.specs.declared.Variable.TheVariants.{X, Y, Z}
use Rattle.algebra.specs.declared.Way.{Way}
use Rattle.algebra.specs.declared.Way.TheVariants.{Forward, Backward}
use Rattle.steps.specs.Records.{Request}
use Rattle.notation.specs.Numbers.{Number}

-- the words do not begin with this one
abbrev pub NotFirst : List ℕ → List (List ℕ) → Type 0
NotFirst w ws = (rest : List (List ℕ)) → ws ≢ w ∷ rest

-- the way, and the words after it: backward where the first word is back
abbrev pub WayWords : Way → List (List ℕ) → List (List ℕ) → Type 0
WayWords Backward ws rest = ws ≡ codes "back" ∷ rest
WayWords Forward ws rest = (ws ≡ rest) × NotFirst (codes "back") ws

-- at and the place
pub record AtPlace (p : ℕ) (ws rest : List (List ℕ)) : Type 0 where
  pub digits : List ℕ
  pub is : ws ≡ codes "at" ∷ digits ∷ rest
  pub few : p < 65536
  pub number : Number digits p

-- place 0, where the first word is not at
pub record AtZero (p : ℕ) (ws rest : List (List ℕ)) : Type 0 where
  pub zero : p ≡ 0
  pub same : ws ≡ rest
  pub other : NotFirst (codes "at") ws

abbrev pub PlaceWords : ℕ → List (List ℕ) → List (List ℕ) → Type 0
PlaceWords p ws rest = AtPlace p ws rest ⊎ AtZero p ws rest

-- the word of a supplied term: the letter, an equals sign, and the term
abbrev pub term_word : Variable → List ℕ → List ℕ
term_word v t = variable_byte v ∷ 61 ∷ t

-- the term for a letter, where the first word is its
abbrev pub TermWords : Variable → Option (List ℕ) → List (List ℕ) → List (List ℕ) → Type 0
TermWords v (Some t) ws rest = ws ≡ term_word v t ∷ rest
TermWords v None ws rest = (ws ≡ rest) × ((t : List ℕ) → NotFirst (term_word v t) ws)

-- the words are those of a step
pub record StepWords (q : Request) (ws : List (List ℕ)) : Type 0 where
  pub rule : List ℕ
  pub after_rule : List (List ℕ)
  pub after_way : List (List ℕ)
  pub after_place : List (List ℕ)
  pub after_x : List (List ℕ)
  pub after_y : List (List ℕ)
  pub is : ws ≡ rule ∷ after_rule
  pub few : q.rule < 256
  pub number : Number rule q.rule
  pub way : WayWords q.way after_rule after_way
  pub place : PlaceWords q.place after_way after_place
  pub x : TermWords X q.x after_place after_x
  pub y : TermWords Y q.y after_x after_y
  pub z : TermWords Z q.z after_y []

-- words are those of one step only
abbrev pub OneStep : List (List ℕ) → Type 0
OneStep ws = (p q : Request) → StepWords p ws → StepWords q ws → p ≡ q

-- the words that are written for a step
abbrev pub way_part : Way → List (List ℕ)
way_part Forward = []
way_part Backward = codes "back" ∷ []

abbrev pub place_part : ℕ → List (List ℕ)
place_part p = cond (p == 0) [] (codes "at" ∷ decimal p ∷ [])

abbrev pub term_part : Variable → Option (List ℕ) → List (List ℕ)
term_part v None = []
term_part v (Some t) = term_word v t ∷ []

abbrev pub step_words : Request → List (List ℕ)
step_words q = decimal q.rule ∷ (way_part q.way ++ (place_part q.place ++ (term_part X q.x ++ (term_part Y q.y ++ term_part Z q.z))))

-- a supplied term has no space
abbrev pub SpacelessTerm : Option (List ℕ) → Type 0
SpacelessTerm None = Unit {0}
SpacelessTerm (Some t) = All (λ b. b ≢ 32) t
