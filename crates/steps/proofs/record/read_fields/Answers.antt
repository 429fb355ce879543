use Rattle.std.proofs.Common.{length, sym, refl, ap, ◌∙◌, arith}
use borrow.Author.Tests.{eqb-false}
use Rattle.std.proofs.lemmas.Result.{err_from_is_err_and}
use Rattle.steps.proofs.Fields.{remaining_more, remaining_none, remaining_left, kind_at, at_bit, of_kind, no_bit}
use Rattle.steps.proofs.record.read_fields.Goals as goal
use Rattle.steps.proofs.record.read_fields.Goals.{then-bit_stands+in_ok-reading, else-bit_stands}

pub loop-bit-preserved : goal.loop-bit-preserved
loop-bit-preserved c =
    let bit = c.loop-bit.bit in
    elim c.if-bit_stands.branch [
      | then-bit_stands+in_ok-reading w ↦
          rw w.reading-is
          (remaining_more c.args.map c.args.bytes.now bit (omega arith) _ _ c.loop-bit.invariant _ _
          (at_bit _ bit _ _ _ _ _ (sym c.bit_stands.ensures ∙ w.if-bit_stands.true) (kind_at bit _ (omega arith)) w.in_ok-reading.ensures))
      | else-bit_stands w ↦
          rw w.reading-is
          (remaining_more c.args.map c.args.bytes.now bit (omega arith) _ _ c.loop-bit.invariant _ _
          (no_bit _ bit _ _ (sym c.bit_stands.ensures ∙ w.if-bit_stands.false)))
    ]

pub returns-in_err-reading : goal.returns-in_err-reading
returns-in_err-reading c =
    let bit = c.loop-bit.bit in
    let p = err_from_is_err_and c.from_residual.result c.from_residual.ensures.1 in
    let e = c.in_err-reading.ensures in
    rw (p.1, p.2) (
      e.0,
      remaining_none c.args.map c.args.bytes.now bit (omega arith) _ _ c.loop-bit.invariant
          (λ q rest next. e.1 q rest (of_kind _ bit _ _ _ _ _ (sym c.bit_stands.ensures ∙ c.if-bit_stands.true) (kind_at bit _ (omega arith)) next)),
    )

pub returns-then-not-is_empty : goal.returns-then-not-is_empty
returns-then-not-is_empty c = (
  refl,
  remaining_left c.args.map c.args.bytes.now c.loop-bit.bit _ _ (omega arith) c.loop-bit.invariant
      (λ e. eqb-false _ 0 (sym c.if-not-is_empty.ensures) (ap length e)),
)
