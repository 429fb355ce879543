use Rattle.std.proofs.Common.{◌∙◌}
use Rattle.sequences.proofs.Spelt.{letters_fit, less_fit, ties_fit, line_fits, line_ends}
use Rattle.sequences.proofs.printing.Line.of.Goals as goal

pub put_letters-requires : goal.put_letters-requires
put_letters-requires c = letters_fit c.args.row.now c.requires _ c.new-line.ensures

pub put_pairs-requires : goal.put_pairs-requires
put_pairs-requires c = less_fit c.args.row.now c.requires _ _ c.new-line.ensures c.put_letters.ensures

pub put_pairs-requires-2 : goal.put_pairs-requires-2
put_pairs-requires-2 c = ties_fit c.args.row.now c.requires _ _ _ c.new-line.ensures c.put_letters.ensures c.put_pairs.ensures

pub push-requires : goal.push-requires
push-requires c = line_fits c.args.row.now c.requires _ _ _ _ c.new-line.ensures c.put_letters.ensures c.put_pairs.ensures c.put_pairs-2.ensures

pub returns : goal.returns
returns c =
    c.push.ensures ∙ line_ends c.args.row.now _ _ _ _ c.new-line.ensures c.put_letters.ensures c.put_pairs.ensures c.put_pairs-2.ensures
