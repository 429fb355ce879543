use Rattle.std.proofs.Common.{◌≡◌, ℕ, List, ◌++◌, None, Some, Option, sym, refl, ap, ◌∙◌, subst, Bor}
use Rattle.std.proofs.lemmas.Bool.Decides.{Decides-eqb}
use Rattle.std.proofs.lemmas.Slice.Eq.{strip_prefix_is}
use Rattle.steps.specs.Sides.{Takes}
use Rattle.steps.proofs.matching.bind.Goals as goal

pub returns-in_err-strip_prefix-in-Some : goal.returns-in_err-strip_prefix-in-Some
returns-in_err-strip_prefix-in-Some c =
    let text = c.args.text.now in
    let term = c.in-Some.term in
    rw c.from_residual-in_err-strip_prefix-in-Some.ensures
    (λ w rest takes e.
    let is : w ≡ term.now = subst (λ (o : Option (Bor (List ℕ))). Takes o w) c.in-Some.is takes in
    strip_prefix_is Decides-eqb text term.now None c.in_err-strip_prefix-in-Some.ensures.cases rest (e ∙ ap (λ (l : List ℕ). l ++ rest) is))

pub returns-in_ok-strip_prefix-in-Some : goal.returns-in_ok-strip_prefix-in-Some
returns-in_ok-strip_prefix-in-Some c =
    let text = c.args.text.now in
    let term = c.in-Some.term in (
      subst (λ (o : Option (Bor (List ℕ))). Takes o term.now) (sym c.in-Some.is) refl,
      strip_prefix_is Decides-eqb text term.now (Some c.in_ok-strip_prefix-in-Some.field-0) c.in_ok-strip_prefix-in-Some.ensures.cases,
    )
