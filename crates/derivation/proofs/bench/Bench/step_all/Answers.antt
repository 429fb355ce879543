use Rattle.std.proofs.Common.{ℕ, List, Some, Result, Bor, sym, ap, ◌∙◌, subst}
use Rattle.std.proofs.lemmas.Result.{err_from_is_err_and}
use Rattle.steps.specs.Files.{NextOf, answer_at}
use Rattle.steps.specs.declared.file.StepFault.{StepFault}
use Rattle.derivation.proofs.Walking.{Underway, made_cut, made_stopped, made_ended, underway_more}
use Rattle.derivation.proofs.bench.Bench.step_all.Goals as goal

pub returns-in_err-step-clause-made : goal.returns-in_err-step-clause-made
returns-in_err-step-clause-made c h run =
    let it = c.loop-record.record-iterator in
    let p = err_from_is_err_and c.from_residual.result c.from_residual.ensures.1 in
    let given = subst (λ (r : Result (ℕ × Bor (List ℕ)) StepFault). NextOf it (Some r) c.next.new.self) c.in_err-step.was c.in-Some.ensures.steps in
    rw (p.1, p.2) (made_cut h c.args.file.now it.step it.left.now c.loop-record.self (c.loop-record.invariant.2 h run) c.in_err-step.field-0.0 given.0 given.1)

pub returns-in_err-at_step-clause-made : goal.returns-in_err-at_step-clause-made
returns-in_err-at_step-clause-made c h run =
    let it = c.loop-record.record-iterator in
    let p = err_from_is_err_and c.from_residual-in_err-at_step.result c.from_residual-in_err-at_step.ensures.1 in
    let given = subst (λ (r : Result (ℕ × Bor (List ℕ)) StepFault). NextOf it (Some r) c.next.new.self) c.in_ok-step.was c.in-Some.ensures.steps in
    rw (p.1, p.2)
    (made_stopped h c.args.file.now it.step it.left.now c.loop-record.self (c.loop-record.invariant.2 h run)
    c.in_ok-step.bytes.now c.next.new.self.left.now c.step.result c.step.new.self c.in_err-at_step.field-0.0 given.1 c.step.ensures.outcome
    (ap (λ (n : ℕ). answer_at n c.step.result) (sym given.0) ∙ sym c.at_step.ensures ∙ c.in_err-at_step.was))

pub loop-record-preserved : goal.loop-record-preserved
loop-record-preserved c =
    let it = c.loop-record.record-iterator in
    let s' = c.step.new.self in
    let given = subst (λ (r : Result (ℕ × Bor (List ℕ)) StepFault). NextOf it (Some r) c.next.new.self) c.in_ok-step.was c.in-Some.ensures.steps in (
      tt,
      tt,
      λ h run.
          subst (λ (n : ℕ). Underway h c.args.file.now n c.next.new.self.left.now s') (sym given.2)
          (underway_more h c.args.file.now it.step it.left.now c.loop-record.self (c.loop-record.invariant.2 h run)
          c.in_ok-step.bytes.now c.next.new.self.left.now c.step.result s' given.1 c.step.ensures.outcome
          (ap (λ (n : ℕ). answer_at n c.step.result) (sym given.0) ∙ sym c.at_step.ensures ∙ c.in_ok-at_step.was)),
      c.step.ensures.stands,
    )

pub returns-clause-made : goal.returns-clause-made
returns-clause-made c h run =
    let it = c.loop-record.record-iterator in
    made_ended h c.args.file.now it.step it.left.now c.loop-record.self (c.loop-record.invariant.2 h run) c.in-None.ensures.steps.0
