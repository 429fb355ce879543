use Rattle.std.proofs.Common.{arith}
use Rattle.std.specs.Str.{IsUtf8}
use Rattle.std.proofs.lemmas.Grind.{common_steps}
use Rattle.std.proofs.lemmas.Fmt.{IsAscii-from_digits}
use Rattle.std.proofs.lemmas.Str.{IsUtf8-from_ascii}
use Rattle.notation.proofs.numbers.read_number.Goals as goal

pub returns-in_err-ok : goal.returns-in_err-ok
returns-in_err-ok c =
    let none : IsUtf8 c.args.word.now → ⊥ = grind (arith, common_steps) in
    rw c.from_residual.ensures (λ n h d. none (IsUtf8-from_ascii _ (IsAscii-from_digits _ d.digits)))
