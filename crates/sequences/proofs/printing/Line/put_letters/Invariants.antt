use Rattle.std.proofs.Common.{◌≡◌}
use Rattle.sequences.specs.Rows.{listed}
use Rattle.sequences.specs.declared.row.Factor.TheVariants.{Letter}
use Rattle.sequences.proofs.Spelt.{with_sifted}
use Rattle.sequences.proofs.printing.Line.put_letters.Given as goal

abbrev pub invariant-loop-v : goal.invariant-loop-v
invariant-loop-v l = l.self ≡ with_sifted l.fn.self Letter (λ v. listed l.row v) l.v
