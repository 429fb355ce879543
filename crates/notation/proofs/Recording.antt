-- What words say a record.
-- Assumes nothing.
use Rattle.std.proofs.Common.{◌≡◌, ℕ, cond, eqb, List, [], ◌∷◌, map, length, get_or, sym, refl, ap, ◌∙◌, subst, arith, Bor}
use Rattle.trees.specs.declared.record.Gate.TheVariants.{Or, And, Pand, Before}
use Rattle.trees.specs.declared.record.Record.{Record}
use Rattle.trees.specs.declared.record.Kind.{Kind}
use Rattle.trees.specs.declared.record.Kind.TheVariants.{Joins, Triggers}
use Rattle.notation.specs.Inputs.{Names}
use Rattle.notation.specs.Records.{kind_word, RecordWords, OneRecord}
use Rattle.trees.specs.Records.{record_of}
use Rattle.notation.proofs.Naming.{one_name}

-- the kind by the first letter of its word
abbrev kind_from : List ℕ → Kind
kind_from w =
    cond (eqb (get_or w 0 0) 111) (Joins Or) (cond (eqb (get_or w 0 0) 97) (Joins And) (cond (eqb (get_or w 0 0) 112) (Joins Pand)
    (cond (eqb (get_or w 0 0) 98) (Joins Before) Triggers)))

kind_from_lem : (k : Kind) → kind_from (kind_word k) ≡ k
kind_from_lem (Joins Or) = refl
kind_from_lem (Joins And) = refl
kind_from_lem (Joins Pand) = refl
kind_from_lem (Joins Before) = refl
kind_from_lem Triggers = refl

abbrev nth : List (List ℕ) → ℕ → List ℕ
nth ws i = get_or ws i []

pub one_record : (ws : List (List ℕ)) → OneRecord ws
one_record ws r q a b =
    let same = sym a.is ∙ b.is in
    let kind = sym (kind_from_lem a.kind) ∙ ap (λ (x : List (List ℕ)). kind_from (nth x 0)) same ∙ kind_from_lem b.kind in
    let first = one_name b.one a.first b.first (subst (λ (x : List ℕ). Names x a.first) (ap (λ (x : List (List ℕ)). nth x 1) same) a.first_named) b.first_named in
    let second = one_name b.two a.second b.second (subst (λ (x : List ℕ). Names x a.second) (ap (λ (x : List (List ℕ)). nth x 2) same) a.second_named) b.second_named in
    a.made ∙ (λ i. record_of (kind i) (first i) (second i)) ∙ sym b.made

-- WHERE NOTHING IS SAID

module _ (n a b : List ℕ) where
  abbrev three : List (List ℕ)
  three = n ∷ a ∷ b ∷ []

  pub no_kind : ((k : Kind) → n ≡ kind_word k → ⊥) → (x : Record) → RecordWords x three → ⊥
  no_kind h x r = h r.kind (ap (λ (y : List (List ℕ)). nth y 0) r.is)

  pub no_first : ((i : ℕ) → Names a i → ⊥) → (x : Record) → RecordWords x three → ⊥
  no_first h x r = h r.first (subst (λ (y : List ℕ). Names y r.first) (sym (ap (λ (y : List (List ℕ)). nth y 1) r.is)) r.first_named)

  pub no_second : ((i : ℕ) → Names b i → ⊥) → (x : Record) → RecordWords x three → ⊥
  no_second h x r = h r.second (subst (λ (y : List ℕ). Names y r.second) (sym (ap (λ (y : List (List ℕ)). nth y 2) r.is)) r.second_named)

  pub said : (k : Kind) (i j : ℕ) (x : Record) → n ≡ kind_word k → Names a i → Names b j → x ≡ record_of k i j → RecordWords x three
  said k i j x e f g m = record { kind = k; one = a; two = b; first = i; second = j; is = ap (λ (y : List ℕ). y ∷ a ∷ b ∷ []) e; first_named = f; second_named = g; made = m }

-- three borrowed words
pub three_words : (ws : List (Bor (List ℕ))) (d : Bor (List ℕ)) → length ws ≡ 3 → map (λ x. x.now) ws ≡ (get_or ws 0 d).now ∷ (get_or ws 1 d).now ∷ (get_or ws 2 d).now ∷ []
three_words [] d h = absurd (omega arith)
three_words (p ∷ []) d h = absurd (omega arith)
three_words (p ∷ q ∷ []) d h = absurd (omega arith)
three_words (p ∷ q ∷ r ∷ []) d h = refl
three_words (p ∷ q ∷ r ∷ s ∷ ws) d h = absurd (omega arith)
