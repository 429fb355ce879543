use Rattle.std.proofs.Common.{ℕ, ◌<◌, map, ap, List, Some, None, subst, arith, true-eqb, false-eqb}
use Rattle.std.proofs.lemmas.List.{length-map}
use Rattle.notation.specs.Numbers.{Number}
use Rattle.notation.proofs.Back.{step_back}
use Rattle.notation.proofs.Stepping.{no_rule_lem, no_place, left_over_lem, step_said, one_step}
use Rattle.notation.proofs.step_words.read_step.Goals as goal

pub returns-in_err-rule : goal.returns-in_err-rule
returns-in_err-rule c =
    let r = no_rule_lem _ _ _ (ap (map (λ x. x.now)) c.in_ok-number.ensures.cases.0) (subst (λ (w : List ℕ). (n : ℕ) → n < 256 → Number w n → ⊥) c.as_bytes.ensures.value c.in_err-rule.ensures) in
    record { read = rw c.from_residual-in_err-rule.ensures r; one = one_step _; back = rw c.from_residual-in_err-rule.ensures (step_back _ None r) }

pub returns-in_err-place : goal.returns-in_err-place
returns-in_err-place c =
    let r = no_place _ _ _ _ _ (ap (map (λ x. x.now)) c.in_ok-number.ensures.cases.0) c.read_way-way.ensures c.in_err-place.ensures in
    record { read = rw c.from_residual-in_err-place.ensures r; one = one_step _; back = rw c.from_residual-in_err-place.ensures (step_back _ None r) }

pub returns-then-not-is_empty : goal.returns-then-not-is_empty
returns-then-not-is_empty c =
    let r = left_over_lem _ _ _ _ _ (ap (map (λ x. x.now)) c.in_ok-number.ensures.cases.0) c.read_way-way.ensures _ _ _ _ _ _ _ _ c.in_ok-place.ensures c.read_term.ensures c.read_term-2.ensures c.read_term-3.ensures
    (omega (arith, length-map c.read_term-3.result.1.now (λ x. x.now), false-eqb _ 0 c.if-not-is_empty.ensures)) in
    record { read = r; one = one_step _; back = step_back _ None r }

pub returns : goal.returns
returns c =
    let s = step_said _ _ _ _ _ (ap (map (λ x. x.now)) c.in_ok-number.ensures.cases.0) c.read_way-way.ensures _ _ _ _ _ _ _ _ c.in_ok-place.ensures c.read_term.ensures c.read_term-2.ensures c.read_term-3.ensures
    (omega (arith, length-map c.read_term-3.result.1.now (λ x. x.now), true-eqb _ 0 c.if-not-is_empty.ensures)) c.in_ok-rule.rule c.in_ok-rule.ensures.0
    (subst (λ (w : List ℕ). Number w c.in_ok-rule.rule) c.as_bytes.ensures.value c.in_ok-rule.ensures.1) in
    record { read = s; one = one_step _; back = step_back _ (Some _) s }
