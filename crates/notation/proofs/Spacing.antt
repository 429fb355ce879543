-- Words written one after another.
-- Assumes nothing.
use Rattle.std.proofs.Common.{◌≡◌, ℕ, zero, suc, ◌<◌, length, take, get_or, Option, Bor, false, cond, eqb, List, [], ◌∷◌, ◌++◌, codes, decimal, sym, refl, ap, ◌∙◌, append_assoc, append-nil, arith}
use Rattle.std.proofs.lemmas.Bool.{ne_eqb}
use Rattle.algebra.specs.Rules.{variable_byte}
use Rattle.algebra.specs.declared.Variable.{Variable}
use Rattle.algebra.specs.declared.Variable.TheVariants.{X, Y, Z}
use Rattle.steps.specs.Readings.{bytes_of}
use Rattle.notation.specs.Steps.{place_part, term_part, term_word}
use Rattle.notation.specs.Words.{joined, spaced}

pub joined_spaced : (w : List ℕ) (ws : List (List ℕ)) → joined (w ∷ ws) ≡ w ++ spaced ws
joined_spaced w [] = sym (append-nil w)
joined_spaced w (v ∷ ws) = ap (λ (x : List ℕ). w ++ (32 ∷ x)) (joined_spaced v ws)

spaced_append : (ws vs : List (List ℕ)) → spaced (ws ++ vs) ≡ spaced ws ++ spaced vs
spaced_append [] vs = refl
spaced_append (w ∷ ws) vs = ap (λ (x : List ℕ). 32 ∷ (w ++ x)) (spaced_append ws vs) ∙ ap (λ (x : List ℕ). 32 ∷ x) (sym (append_assoc w (spaced ws) (spaced vs)))

pub place_added : (p : ℕ) (old new words : List ℕ) → 0 < p → words ≡ codes " at " ++ decimal p → new ≡ old ++ words → new ≡ old ++ spaced (place_part p)
place_added p old new words h e f =
    let some : eqb p 0 ≡ false = ne_eqb p 0 (λ z. omega arith) in
    let part = ap (λ b. spaced (cond b [] (codes "at" ∷ decimal p ∷ []))) some in
    f ∙ ap (λ (x : List ℕ). old ++ x) (e ∙ ap (λ (x : List ℕ). 32 ∷ 97 ∷ 116 ∷ 32 ∷ x) (sym (append-nil (decimal p))) ∙ sym part)

pub term_added : (v : Variable) (t old mid new : List ℕ) → mid ≡ old ++ (32 ∷ variable_byte v ∷ 61 ∷ []) → new ≡ mid ++ t → new ≡ old ++ spaced (term_word v t ∷ [])
term_added v t old mid new e f =
    f ∙ ap (λ (x : List ℕ). x ++ t) e ∙ append_assoc old (32 ∷ variable_byte v ∷ 61 ∷ []) t
    ∙ ap (λ (x : List ℕ). old ++ (32 ∷ variable_byte v ∷ 61 ∷ x)) (sym (append-nil t))

-- a first word, and five parts after it
line_made : (w : List ℕ) (a b c d e : List (List ℕ)) (l₀ l₁ l₂ l₃ l₄ l₅ : List ℕ) → l₀ ≡ w → l₁ ≡ l₀ ++ spaced a → l₂ ≡ l₁ ++ spaced b → l₃ ≡ l₂ ++ spaced c → l₄ ≡ l₃ ++ spaced d → l₅ ≡ l₄ ++ spaced e → l₅ ≡ joined (w ∷ (a ++ (b ++ (c ++ (d ++ e)))))
line_made w a b c d e l₀ l₁ l₂ l₃ l₄ l₅ z p q r s t =
    let all : l₅ ≡ ((((w ++ spaced a) ++ spaced b) ++ spaced c) ++ spaced d) ++ spaced e =
    t ∙ ap (λ (x : List ℕ). x ++ spaced e) (s ∙ ap (λ (x : List ℕ). x ++ spaced d) (r ∙ ap (λ (x : List ℕ). x ++ spaced c) (q ∙ ap (λ (x : List ℕ). x ++ spaced b) (p ∙ ap (λ (x : List ℕ). x ++ spaced a) z)))) in
    let parts : spaced (a ++ (b ++ (c ++ (d ++ e)))) ≡ spaced a ++ (spaced b ++ (spaced c ++ (spaced d ++ spaced e))) =
    spaced_append a (b ++ (c ++ (d ++ e))) ∙ ap (λ (x : List ℕ). spaced a ++ x) (spaced_append b (c ++ (d ++ e)) ∙ ap (λ (x : List ℕ). spaced b ++ x) (spaced_append c (d ++ e) ∙ ap (λ (x : List ℕ). spaced c ++ x) (spaced_append d e))) in
    let flat : ((((w ++ spaced a) ++ spaced b) ++ spaced c) ++ spaced d) ++ spaced e ≡ w ++ (spaced a ++ (spaced b ++ (spaced c ++ (spaced d ++ spaced e)))) = simp append_assoc in
    all ∙ flat ∙ ap (λ (x : List ℕ). w ++ x) (sym parts) ∙ sym (joined_spaced w (a ++ (b ++ (c ++ (d ++ e)))))

-- the terms of some letters were added in order
abbrev pub TermsAdded : List (Variable × Option (Bor (List ℕ))) → List ℕ → List ℕ → Type 0
TermsAdded [] old new = new ≡ old
TermsAdded (p ∷ ps) old new = (mid : List ℕ) × (mid ≡ old ++ spaced (term_part p.0 (bytes_of p.1))) × TermsAdded ps mid new

pub one_more : (ps : List (Variable × Option (Bor (List ℕ)))) (d : Variable × Option (Bor (List ℕ))) (i : ℕ) (old mid new : List ℕ) → i < length ps → TermsAdded (take i ps) old mid → new ≡ mid ++ spaced (term_part (get_or ps i d).0 (bytes_of (get_or ps i d).1)) → TermsAdded (take (suc i) ps) old new
one_more [] d i old mid new h all a = absurd (omega arith)
one_more (p ∷ ps) d zero old mid new h all a = (new, a ∙ ap (λ (w : List ℕ). w ++ spaced (term_part p.0 (bytes_of p.1))) all, refl)
one_more (p ∷ ps) d (suc i) old mid new h (w, b, all) a = (w, b, one_more ps d i w mid new (omega arith) all a)

-- a number, the way, the place and three terms
pub step_made : (w : List ℕ) (a b : List (List ℕ)) (x y z : Option (Bor (List ℕ))) (l₀ l₁ l₂ l₃ : List ℕ) → l₀ ≡ w → l₁ ≡ l₀ ++ spaced a → l₂ ≡ l₁ ++ spaced b → TermsAdded ((X, x) ∷ ((Y, y) ∷ ((Z, z) ∷ []))) l₂ l₃ → l₃ ≡ joined (w ∷ (a ++ (b ++ (term_part X (bytes_of x) ++ (term_part Y (bytes_of y) ++ term_part Z (bytes_of z))))))
step_made w a b x y z l₀ l₁ l₂ l₃ e f g (m, p, (n, q, (o, r, last))) = last ∙ line_made w a b _ _ _ l₀ l₁ l₂ m n o e f g p q r
