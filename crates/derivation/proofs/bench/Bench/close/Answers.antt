use Rattle.std.proofs.Common.{◌≡◌, Some, Err, refl, ap, ◌∙◌}
use Rattle.std.proofs.lemmas.Result.{err_from_is_err_and}
use Rattle.sequences.specs.declared.refusals.CloseRefusal.TheVariants.{NoTree}
use Rattle.derivation.specs.Model.{Closed, fresh}
use Rattle.derivation.specs.Stands.{state_of}
use Rattle.derivation.proofs.Calls.{at_once, passed_on}
use Rattle.derivation.proofs.Closings.{no_tree, closed_by, happens_at}
use Rattle.derivation.proofs.Lawfuls.{lawful_closed}
use Rattle.derivation.proofs.bench.Bench.close.Goals as goal

pub returns-in_err-derivation : goal.returns-in_err-derivation
returns-in_err-derivation c =
    let t = c.args.table.now in
    let is = c.in_err-derivation.ensures in
    let p = err_from_is_err_and c.from_residual.result c.from_residual.ensures.1 in
    let why : c.from_residual.result ≡ Err NoTree = p.1 ∙ ap Err p.2 ∙ passed_on _ is.value is.ok_part in
    let o : Closed fresh t (Err NoTree) t = (no_tree fresh refl, refl) in
    rw (why, at_once c.self.view_is is.ok_part)
    (record { outcome = o; rows = c.len.ensures.rows; left = refl; law = λ h run. lawful_closed h fresh t (Err NoTree) t run o (happens_at t (Err NoTree) tt) })

pub returns : goal.returns
returns c =
    let s = state_of (Some c.in_ok-derivation.derivation) in
    let t = c.args.table.now in
    let t' = c.close.new.self in
    let is = c.close.ensures in
    let o = closed_by s refl t t' c.close.result (rw c.as_bytes.ensures.bytes at is.outcome) is.left in
    rw (at_once c.self.view_is c.in_ok-derivation.ensures.ok_part)
    (record { outcome = o; rows = is.rows; left = is.left; law = λ h run. lawful_closed h s t c.close.result t' run o (happens_at t' c.close.result is.happen) })
