use Rattle.std.proofs.Common.{◌≡◌, ℕ, List, ◌++◌, drop, Some, Err, sym, refl, ap, ◌∙◌, subst}
use Rattle.std.specs.Option.{option_copied}
use Rattle.std.proofs.lemmas.Result.{err_from_is_err_and}
use Rattle.steps.specs.declared.refusal.StepRefusal.TheVariants.{Place}
use Rattle.algebra.specs.Terms.{Term}
use Rattle.texts.specs.Spans.{Spans}
use Rattle.texts.proofs.Rows.{spans_part}
use Rattle.derivation.specs.Stands.{state_of}
use Rattle.derivation.proofs.Calls.{at_once, passed_on}
use Rattle.derivation.proofs.Questions.{term_asked, no_place, past_end, spans_inside}
use Rattle.derivation.proofs.bench.Bench.term_at.Goals as goal

pub returns-in_err-end : goal.returns-in_err-end
returns-in_err-end c =
    let s = state_of (Some c.in_ok-derivation.derivation.now) in
    let place = c.args.place in
    let some = sym c.as_ref.ensures.value ∙ ap option_copied c.in_ok-derivation.ensures.ok_part in
    let is = c.in_err-end.ensures in
    let p = err_from_is_err_and c.from_residual-in_err-end.result c.from_residual-in_err-end.ensures.1 in
    let why : c.from_residual-in_err-end.result ≡ Err Place = p.1 ∙ ap Err p.2 ∙ passed_on _ is.value is.ok_part in
    let none = rw c.as_bytes-text.ensures.bytes at (rw is.ok_part at c.term_end.ensures) in
    let was = rw some at c.self.invariant in
    rw (why, at_once c.self.view_is some) (record { handed = no_place s place refl (past_end _ s.present place was.present.whole none); stands = was })

pub returns : goal.returns
returns c =
    let s = state_of (Some c.in_ok-derivation.derivation.now) in
    let place = c.args.place in
    let end = c.in_ok-end.end in
    let some = sym c.as_ref.ensures.value ∙ ap option_copied c.in_ok-derivation.ensures.ok_part in
    let found : (t : Term ℕ) × Spans c.as_bytes-text.result.now place t end = rw c.in_ok-end.ensures.ok_part at c.term_end.ensures in
    let w = subst (λ (x : List ℕ). Spans x place found.0 end) c.as_bytes-text.ensures.bytes found.1 in
    let part = spans_part _ place found.0 end found.1 in
    rw (at_once c.self.view_is some)
    (record {
      handed = (
        term_asked s place refl (spans_inside s.present place found.0 end w),
        record { term = found.0; rest = drop end s.present; bytes = part; here = w.here ∙ ap (λ x. x ++ drop end s.present) (sym part) },
      );
      stands = rw some at c.self.invariant;
    })
