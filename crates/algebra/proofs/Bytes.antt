-- Each byte of a text belongs to its token.
-- Assumes nothing.
use Rattle.std.proofs.Common.{◌≡◌, ℕ, ◌+◌, ◌≤◌, eqb, leb, List, [], ◌++◌, refl, ap, ◌∙◌, subst, arith, le→leb, eqb→eq, leb→le}
use Rattle.algebra.specs.declared.Operator.{Operator}
use Rattle.algebra.specs.declared.Operator.TheVariants.{Or, And, Before, Simultaneous, Inclusive}
use Rattle.algebra.specs.declared.Token.{Token}
use Rattle.algebra.specs.declared.Token.TheVariants.{Letter, Never, Joins, Unknown}
use Rattle.algebra.specs.Terms.{Term}
use Rattle.algebra.specs.Texts.{operator_byte, never_byte, token, event_byte, event_letter, event_token, text_of, terms, OneReading, ReadsTexts, EveryPlace}
use Rattle.algebra.specs.Replacing.{PutsTerms}
use Rattle.algebra.proofs.Tests.{choose, skip, took}
use Rattle.algebra.proofs.Texts.{Spelling, spot_at, put_at, one_reading, read_back, read_text}

abbrev pub Means : {V : Type 0} → (V → ℕ) → Token V → ℕ → Type 0
Means g (Letter v) b = b ≡ g v
Means g Never b = b ≡ never_byte
Means g (Joins o) b = b ≡ operator_byte o
Means g Unknown b = Unit {0}

module _ {V : Type 0} (g : V → ℕ) (f : ℕ → Token V) where
  token_means : ((b : ℕ) → Means g (f b) b) → (b : ℕ) → Means g (token f b) b
  token_means h b =
      let P : Token V → Type 0 = λ k. Means g k b in
      choose P (eqb b 43) _ _ (eqb→eq b 43)
      (choose P (eqb b 42) _ _ (eqb→eq b 42)
      (choose P (eqb b 60) _ _ (eqb→eq b 60)
      (choose P (eqb b 61) _ _ (eqb→eq b 61)
      (choose P (eqb b 91) _ _ (eqb→eq b 91)
      (choose P (eqb b 78) _ _ (eqb→eq b 78) (h b))))))

  token_joint : (o : Operator) → token f (operator_byte o) ≡ Joins o
  token_joint Or = refl
  token_joint And = refl
  token_joint Before = refl
  token_joint Simultaneous = refl
  token_joint Inclusive = refl

  spelled : ((v : V) → token f (g v) ≡ Letter v) → ((b : ℕ) → Means g (f b) b) → Spelling g (token f)
  spelled h m = record {
    letters = h;
    joints = token_joint;
    nevers = refl;
    letter_back = λ b v e. subst (λ (k : Token V). Means g k b) e (token_means m b);
    joint_back = λ b o e. subst (λ (k : Token V). Means g k b) e (token_means m b);
    never_back = λ b e. subst (λ (k : Token V). Means g k b) e (token_means m b);
  }

event_read : (v : ℕ) → event_token (97 + v) ≡ Letter v
event_read v =
    skip (eqb (97 + v) 43) _ _ (λ t. omega (arith, eqb→eq _ _ t))
    ∙ skip (eqb (97 + v) 42) _ _ (λ t. omega (arith, eqb→eq _ _ t))
    ∙ skip (eqb (97 + v) 60) _ _ (λ t. omega (arith, eqb→eq _ _ t))
    ∙ skip (eqb (97 + v) 61) _ _ (λ t. omega (arith, eqb→eq _ _ t))
    ∙ skip (eqb (97 + v) 91) _ _ (λ t. omega (arith, eqb→eq _ _ t))
    ∙ skip (eqb (97 + v) 78) _ _ (λ t. omega (arith, eqb→eq _ _ t))
    ∙ took (leb 97 (97 + v)) _ _ (le→leb _ _ (omega arith))
    ∙ ap Letter (omega arith)

event_means : (b : ℕ) → Means event_byte (event_letter b) b
event_means b =
    choose (λ k. Means event_byte k b) (leb 97 b) _ _ (λ t. let h : 97 ≤ b = leb→le _ _ t in omega arith) tt

pub event_token_means : (b : ℕ) → Means event_byte (event_token b) b
event_token_means = token_means event_byte event_letter event_means

pub event_spelling : Spelling event_byte event_token
event_spelling = spelled event_byte event_letter event_read event_means

pub puts_terms : PutsTerms
puts_terms = put_at event_byte event_token event_spelling

pub one_text : OneReading
one_text = one_reading event_byte event_token event_spelling

pub reads_texts : ReadsTexts
reads_texts bs t = (
  read_back event_byte event_token event_spelling bs t,
  λ e. ap (terms event_token) e ∙ read_text event_byte event_token event_spelling t,
)

pub every_place : EveryPlace
every_place t place h = let s = spot_at event_byte t place h in record { term = s.term; rest = s.rest; here = s.at }

-- one text is that of one term
pub same_term : (t u : Term ℕ) → text_of t ≡ text_of u → t ≡ u
same_term t u e = (one_text t u [] [] (ap (λ (x : List ℕ). x ++ []) e)).0
