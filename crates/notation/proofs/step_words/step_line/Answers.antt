use Rattle.std.proofs.Common.{◌≡◌, ◌∙◌, ap, decimal, vec_items, arith}
use Rattle.notation.proofs.Spacing.{step_made}
use Rattle.notation.proofs.step_words.step_line.Goals as goal

pub returns : goal.returns
returns c =
    let s = c.args.said.now.supplied in
    let n : c.loop-letter.letter-index ≡ 3 = omega arith in
    step_made (decimal c.args.said.now.rule) _ _ s.x s.y s.z _ _ (vec_items c.add_place.new.line) (vec_items c.loop-letter.line)
    (ap vec_items c.into_bytes-line.ensures.value ∙ c.in_ok-format.ensures.ok) c.in_ok-add_way.ensures c.in_ok-add_place.ensures
    (rw n at c.loop-letter.invariant)
