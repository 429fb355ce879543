use Rattle.std.proofs.Common.{[], refl}
use Rattle.std.proofs.lemmas.Result.{err_from_is_err_and}
use Rattle.derivation.proofs.Lawfuls.{lawful}
use Rattle.derivation.proofs.job.derive.Goals as goal

pub returns-in_err-step_all-clause-job : goal.returns-in_err-step_all-clause-job
returns-in_err-step_all-clause-job c =
    let p = err_from_is_err_and c.from_residual-in_err-step_all.result c.from_residual-in_err-step_all.ensures.1 in
    let opened = c.in_ok-open.ensures.law [] c.new-bench.ensures.law.calls in
    let made = c.in_err-step_all.ensures.made _ opened.calls in
    rw (p.1, p.2) (record { calls = made.calls; state = c.step_all.new.self; walked = made.walked; then = lawful _ _ made.run }, refl)

pub returns-in_err-close-clause-job : goal.returns-in_err-close-clause-job
returns-in_err-close-clause-job c =
    let p = err_from_is_err_and c.from_residual-in_err-close.result c.from_residual-in_err-close.ensures.1 in
    let opened = c.in_ok-open.ensures.law [] c.new-bench.ensures.law.calls in
    let made = c.in_ok-step_all.ensures.made _ opened.calls in
    rw (p.1, p.2)
    (record { calls = made.calls; state = c.step_all.new.self; walked = made.walked; then = c.in_err-close.ensures.law _ made.run }, c.in_err-close.ensures.left)
