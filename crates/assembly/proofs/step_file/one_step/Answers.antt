use Rattle.std.proofs.Common.{ℕ, List, [], length, vec_items, ap, subst, arith}
use Rattle.steps.specs.Files.{Begins}
use Rattle.assembly.proofs.Filing.{one_filed, says_short}
use Rattle.assembly.proofs.step_file.one_step.Goals as goal

pub framed-requires : goal.framed-requires
framed-requires c =
    omega (arith, says_short c.args.events _ _ c.in_ok-bytes.ensures.written, ap length c.as_slice.ensures.value)

pub returns : goal.returns
returns c =
    one_filed c.args.events _ _ (vec_items c.in_ok-bytes.bytes)
    (subst (λ (x : List ℕ). Begins (vec_items c.in_ok-framed.field-0) x []) c.as_slice.ensures.value c.in_ok-framed.ensures)
    c.in_ok-bytes.ensures.written
