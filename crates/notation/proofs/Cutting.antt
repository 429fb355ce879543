-- Lines cut into words.
-- Assumes nothing.
use Rattle.std.proofs.Common.{◌≡◌, ℕ, zero, suc, Bool, true, false, not, cond, eqb, List, [], ◌∷◌, ◌++◌, length, get_or, drop, All, sym, refl, ap, ◌∙◌, subst, append-nil, arith, length-append}
use Rattle.std.proofs.lemmas.List.Elements.{All-head, All-tail}
use Rattle.std.proofs.lemmas.Bool.{cond_both, eqb-true, eqb-false}
use Rattle.std.specs.List.{filter, onto_first, slice_split}
use Rattle.notation.specs.Words.{Plain, Words, none, space, last, more, OneList, joined}

abbrev Spaceless : List ℕ → Type 0
Spaceless w = All (λ b. b ≡ 32 → ⊥) w

plain : (w : List ℕ) → Spaceless w → not (eqb (length w) 0) ≡ true → Plain w
plain [] s h = absurd (cc (h))
plain (b ∷ w) s h = record { some = omega arith; spaceless = s }

first_of : (b : ℕ) (w : List ℕ) → Spaceless (b ∷ w) → b ≡ 32 → ⊥
first_of b w s = All-head (λ c. c ≡ 32 → ⊥) b w s

rest_of : (b : ℕ) (w : List ℕ) → Spaceless (b ∷ w) → Spaceless w
rest_of b w s = All-tail (λ c. c ≡ 32 → ⊥) b w s

-- a word that ends at a space is the first only of one list
head_one : (w v xs ys : List ℕ) → Spaceless w → Spaceless v → w ++ (32 ∷ xs) ≡ v ++ (32 ∷ ys) → (w ≡ v) × (xs ≡ ys)
head_one [] [] xs ys a b e = (refl, ap (λ (l : List ℕ). drop 1 l) e)
head_one [] (c ∷ v) xs ys a b e = absurd (first_of c v b (sym (ap (λ (l : List ℕ). get_or l 0 0) e)))
head_one (c ∷ w) [] xs ys a b e = absurd (first_of c w a (ap (λ (l : List ℕ). get_or l 0 0) e))
head_one (c ∷ w) (d ∷ v) xs ys a b e =
    let rest = head_one w v xs ys (rest_of c w a) (rest_of d v b) (ap (λ (l : List ℕ). drop 1 l) e) in
    ((λ i. ap (λ (l : List ℕ). get_or l 0 0) e i ∷ rest.0 i), rest.1)

no_space : (w v xs : List ℕ) → Spaceless w → w ≡ v ++ (32 ∷ xs) → ⊥
no_space [] [] xs a e = omega (arith, ap length e)
no_space [] (c ∷ v) xs a e = omega (arith, ap length e)
no_space (c ∷ w) [] xs a e = first_of c w a (ap (λ (l : List ℕ). get_or l 0 0) e)
no_space (c ∷ w) (d ∷ v) xs a e = no_space w v xs (rest_of c w a) (ap (λ (l : List ℕ). drop 1 l) e)

-- a line that begins with a space does not begin with a word
not_front : (w line rest : List ℕ) → Plain w → 32 ∷ line ≡ w ++ rest → ⊥
not_front [] line rest p e = omega (arith, p.some)
not_front (b ∷ w) line rest p e = first_of b w p.spaceless (sym (ap (λ (l : List ℕ). get_or l 0 0) e))

not_empty : (w rest : List ℕ) → [] ≡ w ++ (32 ∷ rest) → ⊥
not_empty w rest e = omega (arith, ap length e, length-append w (32 ∷ rest))

words_one : {line line' : List ℕ} {ws vs : List (List ℕ)} → Words line ws → Words line' vs → line ≡ line' → ws ≡ vs
words_one none none e = refl
words_one none (space l vs f) e = absurd (omega (arith, ap length e))
words_one none (last w p) e = absurd (omega (arith, ap length e, p.some))
words_one none (more w l vs p f) e = absurd (not_empty w l e)
words_one (space l ws f) none e = absurd (omega (arith, ap length e))
words_one (space l ws f) (space k vs g) e = words_one f g (ap (λ (x : List ℕ). drop 1 x) e)
words_one (space l ws f) (last w p) e = absurd (not_front w l [] p (e ∙ sym (append-nil w)))
words_one (space l ws f) (more w k vs p g) e = absurd (not_front w l (32 ∷ k) p e)
words_one (last w p) none e = absurd (omega (arith, ap length e, p.some))
words_one (last w p) (space l vs f) e = absurd (not_front w l [] p (sym e ∙ sym (append-nil w)))
words_one (last w p) (last v q) e = ap (λ (x : List ℕ). x ∷ []) e
words_one (last w p) (more v l vs q f) e = absurd (no_space w v l p.spaceless e)
words_one (more w l ws p f) none e = absurd (not_empty w l (sym e))
words_one (more w l ws p f) (space k vs g) e = absurd (not_front w k (32 ∷ l) p (sym e))
words_one (more w l ws p f) (last v q) e = absurd (no_space v w l q.spaceless (sym e))
words_one (more w l ws p f) (more v k vs q g) e =
    let same = head_one w v l k p.spaceless q.spaceless e in
    let rest = words_one f g same.1 in
    (λ i. same.0 i ∷ rest i)

pub one_list : (line : List ℕ) → OneList line
one_list line ws vs f g = words_one f g refl

-- THE PIECES BETWEEN SPACES

abbrev pub some_byte : List ℕ → Bool
some_byte w = not (eqb (length w) 0)

not_false : (b : Bool) → not b ≡ false → b ≡ true
not_false true h = refl
not_false false h = sym h

no_byte : (w : List ℕ) → some_byte w ≡ false → w ≡ []
no_byte [] h = refl
no_byte (b ∷ w) h = absurd (omega (arith, eqb-true (length (b ∷ w)) 0 (not_false _ h)))

-- each piece has no space, and what stands after it is cut into words
abbrev Pieces : List ℕ → List (List ℕ) → Type 0
Pieces line [] = ⊥
Pieces line (w ∷ []) = Spaceless w × (line ≡ w)
Pieces line (w ∷ v ∷ ws) = Spaceless w × ((rest : List ℕ) × (line ≡ w ++ (32 ∷ rest)) × Words rest (filter some_byte (v ∷ ws)))

spaceless_none : Spaceless []
spaceless_none k d h = absurd (omega arith)

spaceless_more : (b : ℕ) (w : List ℕ) → (b ≡ 32 → ⊥) → Spaceless w → Spaceless (b ∷ w)
spaceless_more b w h s zero d k = h
spaceless_more b w h s (suc i) d k = s i d (omega arith)

last_word : (w : List ℕ) → Spaceless w → (b : Bool) → some_byte w ≡ b → Words w (cond b (w ∷ []) [])
last_word w s true e = last w (plain w s e)
last_word w s false e = subst (λ (x : List ℕ). Words x []) (sym (no_byte w e)) none

more_words : (w rest : List ℕ) (ws : List (List ℕ)) → Spaceless w → Words rest ws → (b : Bool) → some_byte w ≡ b → Words (w ++ (32 ∷ rest)) (cond b (w ∷ ws) ws)
more_words w rest ws s f true e = more w rest ws (plain w s e) f
more_words w rest ws s f false e = subst (λ (x : List ℕ). Words (x ++ (32 ∷ rest)) ws) (sym (no_byte w e)) (space rest ws f)

pieces_words : (line : List ℕ) (ws : List (List ℕ)) → Pieces line ws → Words line (filter some_byte ws)
pieces_words line [] p = absurd p
pieces_words line (w ∷ []) p = subst (λ (x : List ℕ). Words x (filter some_byte (w ∷ []))) (sym p.1) (last_word w p.0 (some_byte w) refl)
pieces_words line (w ∷ v ∷ ws) (s, (rest, e, f)) = subst (λ (x : List ℕ). Words x (filter some_byte (w ∷ v ∷ ws))) (sym e) (more_words w rest (filter some_byte (v ∷ ws)) s f (some_byte w) refl)

-- a space before the line, and another byte
after_space : (line : List ℕ) (ws : List (List ℕ)) → Pieces line ws → Pieces (32 ∷ line) ([] ∷ ws)
after_space line [] p = absurd p
after_space line (w ∷ ws) p = (spaceless_none, (line, refl, pieces_words line (w ∷ ws) p))

after_byte : (b : ℕ) (line : List ℕ) (ws : List (List ℕ)) → (b ≡ 32 → ⊥) → Pieces line ws → Pieces (b ∷ line) (onto_first b ws)
after_byte b line [] h p = absurd p
after_byte b line (w ∷ []) h p = (spaceless_more b w h p.0, ap (λ (x : List ℕ). b ∷ x) p.1)
after_byte b line (w ∷ v ∷ ws) h (s, (rest, e, f)) = (spaceless_more b w h s, (rest, ap (λ (x : List ℕ). b ∷ x) e, f))

pieces : (line : List ℕ) → Pieces line (slice_split (λ b. eqb b 32) line)
pieces [] = (spaceless_none, refl)
pieces (b ∷ line) =
    cond_both (eqb b 32) _ _ (Pieces (b ∷ line))
    (λ h. subst (λ (x : ℕ). Pieces (x ∷ line) ([] ∷ slice_split (λ c. eqb c 32) line)) (sym (eqb-true b 32 h)) (after_space line _ (pieces line)))
    (λ h. after_byte b line _ (eqb-false b 32 h) (pieces line))

-- the pieces that have a byte are the words
pub cut : (line : List ℕ) → Words line (filter some_byte (slice_split (λ b. eqb b 32) line))
cut line = pieces_words line _ (pieces line)

-- JOINED WORDS

pub joined_words : (ws : List (List ℕ)) → All Plain ws → Words (joined ws) ws
joined_words [] p = none
joined_words (w ∷ []) p = last w (All-head Plain w [] p)
joined_words (w ∷ v ∷ ws) p = more w (joined (v ∷ ws)) (v ∷ ws) (All-head Plain w (v ∷ ws) p) (joined_words (v ∷ ws) (All-tail Plain w (v ∷ ws) p))

pub cut_back : (line : List ℕ) (vs : List (List ℕ)) → Words line vs → (ws : List (List ℕ)) → All Plain ws → line ≡ joined ws → vs ≡ ws
cut_back line vs f ws p e = one_list line vs ws f (subst (λ (x : List ℕ). Words x ws) (sym e) (joined_words ws p))
