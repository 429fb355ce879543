use Rattle.std.proofs.Common.{ap, length, arith, length-append, length-drop}
use Rattle.algebra.specs.Texts.{text_of}
use Rattle.texts.proofs.Rows.{some_bytes}
use Rattle.texts.proofs.scan.term_end.Goals as goal

pub returns-in_err-get : goal.returns-in_err-get
returns-in_err-get c =
    rw c.from_residual.ensures (λ t rest e.
    let past = c.in_err-get.ensures.lookup in
    omega (arith, past, some_bytes t, ap length e, length-append (text_of t) rest, length-drop c.args.place c.args.bytes.now))
