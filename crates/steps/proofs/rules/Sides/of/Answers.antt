use Rattle.std.proofs.Common.{◌-◌, ◌<◌, sym, ap, ◌∙◌, arith}
use Rattle.algebra.specs.Rules.{sheet, lines, numbered, old_side, new_side}
use Rattle.algebra.specs.declared.Way.{Way}
use Rattle.steps.specs.Sides.{side_text}
use Rattle.steps.proofs.Tables.{left_of, right_of, left_at, right_at}
use Rattle.steps.proofs.rules.Sides.of.Goals as goal

pub returns-in-Forward : goal.returns-in-Forward
unfolding sheet lines
returns-in-Forward c =
    let h : c.from.result - 1 < 42 = omega arith in
    record {
      old = rw left_of (left_at _ _ c.from.ensures c.requires ∙ ap (λ (w : Way). side_text (old_side w (numbered c.args.number))) (sym c.in-Forward.is));
      new = rw right_of (right_at _ _ c.from.ensures c.requires ∙ ap (λ (w : Way). side_text (new_side w (numbered c.args.number))) (sym c.in-Forward.is));
    }

pub returns-in-Backward : goal.returns-in-Backward
unfolding sheet lines
returns-in-Backward c =
    let h : c.from.result - 1 < 42 = omega arith in
    record {
      old = rw right_of (right_at _ _ c.from.ensures c.requires ∙ ap (λ (w : Way). side_text (old_side w (numbered c.args.number))) (sym c.in-Backward.is));
      new = rw left_of (left_at _ _ c.from.ensures c.requires ∙ ap (λ (w : Way). side_text (new_side w (numbered c.args.number))) (sym c.in-Backward.is));
    }
