use Rattle.std.proofs.Common.{Some, Result, ℕ, List, Bor, sym, ap, ◌∙◌, subst}
use Rattle.std.proofs.lemmas.Result.{err_from_is_err_and}
use Rattle.steps.specs.Files.{NextOf, answer_at}
use Rattle.steps.specs.declared.file.StepFault.{StepFault}
use Rattle.steps.proofs.Running.{Running, run_cut, run_refused, run_ended, run_more, one_run}
use Rattle.steps.proofs.file.apply_steps.Goals as goal

pub returns-in_err-step-clause-run : goal.returns-in_err-step-clause-run
returns-in_err-step-clause-run c =
    let it = c.loop-record.record-iterator in
    let p = err_from_is_err_and c.from_residual.result c.from_residual.ensures.1 in
    let given = subst (λ (r : Result (ℕ × Bor (List ℕ)) StepFault). NextOf it (Some r) c.next.new.self) c.in_err-step.was c.in-Some.ensures.steps in
    rw (p.1, p.2) (run_cut c.args.events c.args.text c.args.file.now it.step c.loop-record.present it.left.now c.loop-record.invariant.2 c.in_err-step.field-0.0 given.0 given.1)

pub returns-in_err-step-clause-one : goal.returns-in_err-step-clause-one
returns-in_err-step-clause-one c = one_run c.args.events c.args.text c.args.file.now

pub returns-in_err-present-clause-run : goal.returns-in_err-present-clause-run
returns-in_err-present-clause-run c =
    let it = c.loop-record.record-iterator in
    let p = err_from_is_err_and c.from_residual-in_err-present.result c.from_residual-in_err-present.ensures.1 in
    let given = subst (λ (r : Result (ℕ × Bor (List ℕ)) StepFault). NextOf it (Some r) c.next.new.self) c.in_ok-step.was c.in-Some.ensures.steps in
    rw (p.1, p.2)
    (run_refused c.args.events c.args.text c.args.file.now it.step c.loop-record.present it.left.now c.loop-record.invariant.2
    c.in_ok-step.bytes.now c.next.new.self.left.now c.apply_step.result c.in_err-present.field-0.0 given.1 c.apply_step.ensures.answer
    (ap (λ (n : ℕ). answer_at n c.apply_step.result) (sym given.0) ∙ sym c.at_step.ensures ∙ c.in_err-present.was))

pub returns-in_err-present-clause-one : goal.returns-in_err-present-clause-one
returns-in_err-present-clause-one c = one_run c.args.events c.args.text c.args.file.now

pub loop-record-preserved : goal.loop-record-preserved
loop-record-preserved c =
    let it = c.loop-record.record-iterator in
    let given = subst (λ (r : Result (ℕ × Bor (List ℕ)) StepFault). NextOf it (Some r) c.next.new.self) c.in_ok-step.was c.in-Some.ensures.steps in (
      tt,
      tt,
      subst (λ (n : ℕ). Running c.args.events c.args.text c.args.file.now n c.in_ok-present.present c.next.new.self.left.now) (sym given.2)
          (run_more c.args.events c.args.text c.args.file.now it.step c.loop-record.present it.left.now c.loop-record.invariant.2
          c.in_ok-step.bytes.now c.next.new.self.left.now c.apply_step.result c.in_ok-present.present given.1 c.apply_step.ensures.answer c.apply_step.ensures.whole c.apply_step.ensures.derived
          (ap (λ (n : ℕ). answer_at n c.apply_step.result) (sym given.0) ∙ sym c.at_step.ensures ∙ c.in_ok-present.was)),
    )

pub returns-clause-run : goal.returns-clause-run
returns-clause-run c =
    let it = c.loop-record.record-iterator in
    run_ended c.args.events c.args.text c.args.file.now it.step c.loop-record.present it.left.now c.loop-record.invariant.2 c.in-None.ensures.steps.0

pub returns-clause-one : goal.returns-clause-one
returns-clause-one c = one_run c.args.events c.args.text c.args.file.now
