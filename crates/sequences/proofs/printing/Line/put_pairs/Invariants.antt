use Rattle.std.proofs.Common.{◌≡◌}
use Rattle.sequences.specs.declared.row.Factor.TheVariants.{Pair}
use Rattle.sequences.specs.Lines.{stands}
use Rattle.sequences.proofs.Spelt.{with_paired, with_sifted}
use Rattle.sequences.proofs.printing.Line.put_pairs.Given as goal

abbrev pub invariant-loop-v : goal.invariant-loop-v
invariant-loop-v l = l.self ≡ with_paired l.fn.self (Pair l.sign) (λ v w. stands l.sign l.row v w) l.v

abbrev pub invariant-loop-w : goal.invariant-loop-w
invariant-loop-w l = l.self ≡ with_sifted l.initial.self (Pair l.sign l.v) (λ w. stands l.sign l.row l.v w) l.w
