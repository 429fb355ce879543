use Rattle.std.proofs.Common.{◌≡◌, ℕ, ◌<◌, List, ◌++◌, length, drop, sym, refl, subst}
use Rattle.algebra.specs.Texts.{text_of}
use Rattle.algebra.proofs.Bytes.{every_place}
use Rattle.walkthrough.proofs.Parts.{part_text, dated}
use Rattle.walkthrough.proofs.terms.date_at.Goals as goal

pub returns-in_err-end : goal.returns-in_err-end
returns-in_err-end g c =
    rw c.from_residual.ensures
    (record {
      told = tt;
      all = λ w low e wide.
          let whole = w.whole in
          let stands = every_place whole.term c.args.place (subst (λ (x : List ℕ). c.args.place < length x) whole.written low) in
          absurd (c.in_err-end.ensures stands.term stands.rest
          (subst (λ (x : List ℕ). drop c.args.place x ≡ text_of stands.term ++ stands.rest) (sym whole.written) stands.here));
      size = refl;
    })

pub returns-in_err-date-clause-all : goal.returns-in_err-date-clause-all
returns-in_err-date-clause-all g c w low e wide =
    let part = part_text c.args.text.now c.args.place c.in_ok-end.ensures.0 c.in_ok-end.end c.in_ok-end.ensures.1 w in
    let found = dated g.D.Date.kind _ c.args.dating.now (length c.args.work.now) c.evaluate.result part e wide c.evaluate.ensures.outcome in
    cc c.in_err-date.ensures.variant
