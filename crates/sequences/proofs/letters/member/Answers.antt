use Rattle.std.proofs.Common.{ℕ, ◌/◌, ◌^◌, eqb, ap}
use lib.Bits.{and_mask}
use Rattle.sequences.specs.Masks.{has}
use Rattle.sequences.proofs.letters.member.Goals as goal

pub returns : goal.returns
unfolding has
returns c = ap (λ (n : ℕ). eqb n 1) (and_mask (c.args.set / 2 ^ c.args.v) 1)
