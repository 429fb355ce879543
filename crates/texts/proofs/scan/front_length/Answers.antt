use Rattle.std.proofs.Common.{ℕ, ◌+◌, drop, subst, arith}
use Rattle.texts.proofs.Rows.{Alike, alike_after, after_small, stop_unknown, stop_end, one, done, spans}
use Rattle.texts.proofs.scan.front_length.Goals as goal

pub returns-in_err-terms : goal.returns-in_err-terms
returns-in_err-terms c =
    rw c.from_residual.ensures (λ t rest e.
    stop_unknown 1 _ c.args.bytes.now c.loop-before.terms c.loop-before.before c.loop-before.invariant.0 c.loop-before-test.true
    c.loop-before.invariant.2 c.from.result c.from.ensures c.in_err-terms.ensures rest (one t _ rest e))

pub returns-then-terms-eq0 : goal.returns-then-terms-eq0
returns-then-terms-eq0 c =
    let bytes = c.args.bytes.now in
    let end = c.loop-before.before + 1 in
    let after =
    alike_after 1 _ bytes c.loop-before.terms c.loop-before.before c.loop-before.invariant.0 c.loop-before-test.true
    c.loop-before.invariant.2 c.from.result c.from.ensures c.in_ok-terms.terms c.in_ok-terms.ensures in
    let found = done bytes bytes end (subst (λ (n : ℕ). Alike 1 bytes n (drop end bytes)) c.if-terms-eq0.true after) in
    (found.0, spans bytes 0 end found.0 (omega (arith, c.loop-before-test.true)) found.1)

pub loop-before-preserved : goal.loop-before-preserved
loop-before-preserved c = (
  omega (arith, c.if-terms-eq0.false),
  after_small c.from.result c.loop-before.terms _ c.loop-before.before c.loop-before.invariant.1 c.in_ok-terms.ensures,
  alike_after 1 _ c.args.bytes.now c.loop-before.terms c.loop-before.before c.loop-before.invariant.0 c.loop-before-test.true
      c.loop-before.invariant.2 c.from.result c.from.ensures _ c.in_ok-terms.ensures,
)

pub returns : goal.returns
returns c t rest e =
    stop_end 1 _ c.args.bytes.now c.loop-before.terms c.loop-before.before c.loop-before.invariant.0 c.loop-before-test.false
    c.loop-before.invariant.2 rest (one t _ rest e)
