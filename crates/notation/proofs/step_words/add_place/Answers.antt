use Rattle.std.proofs.Common.{rules}
use Rattle.notation.proofs.Spacing.{place_added}
use Rattle.notation.proofs.step_words.add_place.Goals as goal

pub returns-in_ok-extend_from_slice : goal.returns-in_ok-extend_from_slice
returns-in_ok-extend_from_slice c = place_added c.args.place _ _ c.as_bytes.result.now (search rules) (search rules) c.in_ok-extend_from_slice.ensures.items
