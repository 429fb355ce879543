use Rattle.std.proofs.Common.{◌&&◌, rules}
use borrow.Author.Tests.{tests}
use Rattle.sequences.specs.Masks.{linked}
use Rattle.sequences.specs.Rows.{precedes}
use Rattle.sequences.proofs.Ranges.{any_letter}
use Rattle.sequences.proofs.row.Row.returns_to.Goals as goal

pub returns : goal.returns
returns c =
    any_letter _ _ _ (λ w. precedes c.args.self.now c.args.v w && linked c.args.reach.now.of w c.args.v)
    (λ x b q k. search (rules, tests)) c.any.ensures.ran
