-- A call has one answer only.
-- Assumes nothing.
use Rattle.std.proofs.Common.{◌≡◌, ℕ, Ok, Err, Result, ap, inl, inr}
use Rattle.std.proofs.lemmas.Bool.{cases_order}
use Rattle.algebra.specs.Refusals.{Refused, Granted, Answers}

module _ {A E : Type 0} (code : E → ℕ) (Asked : E → Type 0) (Given : A → Type 0)
    (apart : (e f : E) → code e ≡ code f → e ≡ f) (one : Granted Asked → (x y : A) → Given x → Given y → x ≡ y) where
  pub one_refusal : (e f : E) → Refused code Asked e → Refused code Asked f → e ≡ f
  one_refusal e f a b =
      elim (cases_order (code e) (code f)) [
        | inl same ↦ apart e f same
        | inr (inl less) ↦ absurd (a.fails (b.lower e less))
        | inr (inr more) ↦ absurd (b.fails (a.lower f more))
      ]

  pub one_answer : (r s : Result A E) → Answers code Asked Given r → Answers code Asked Given s → r ≡ s
  one_answer (Ok x) (Ok y) a b = ap Ok (one a.0 x y a.1 b.1)
  one_answer (Ok x) (Err f) a b = absurd (b.fails (a.0 f))
  one_answer (Err e) (Ok y) a b = absurd (a.fails (b.0 e))
  one_answer (Err e) (Err f) a b = ap Err (one_refusal e f a b)
