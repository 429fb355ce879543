use Rattle.std.proofs.Common.{length, Err, rules}
use Rattle.texts.specs.Evaluation.{Evaluated}
use Rattle.texts.specs.declared.evaluation.EvaluationRefusal.TheVariants.{NoText, SmallWork}
use Rattle.texts.proofs.Evaluations.{one_date}
use Rattle.texts.proofs.evaluation.evaluate.Goals as goal

pub returns-then-not-is_text-clause-only : goal.returns-then-not-is_text-clause-only
returns-then-not-is_text-clause-only g c s h =
    let outcome : Evaluated g.D.Date.kind c.args.text.now c.args.dating.now (length c.args.work.now) (Err NoText) = search rules in
    one_date _ _ _ g.D.Date.kind (Err NoText) s outcome h

pub returns-in_err-dating-clause-only : goal.returns-in_err-dating-clause-only
returns-in_err-dating-clause-only g c s h =
    let outcome : Evaluated g.D.Date.kind c.args.text.now c.args.dating.now (length c.args.work.now) c.from_residual.result = search rules in
    one_date _ _ _ g.D.Date.kind c.from_residual.result s outcome h

pub returns-then-not-has_room-clause-only : goal.returns-then-not-has_room-clause-only
returns-then-not-has_room-clause-only g c s h =
    let outcome : Evaluated g.D.Date.kind c.args.text.now c.args.dating.now (length c.args.work.now) (Err SmallWork) = search rules in
    one_date _ _ _ g.D.Date.kind (Err SmallWork) s outcome h
