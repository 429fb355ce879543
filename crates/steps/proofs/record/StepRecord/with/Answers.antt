use Rattle.steps.proofs.Letters.{put_term}
use Rattle.steps.proofs.record.StepRecord.with.Goals as goal

pub returns-in-Supply : goal.returns-in-Supply
returns-in-Supply c = rw c.in-Supply.is (put_term c.args.self c.with.result c.in-Supply.letter c.in-Supply.term c.with.ensures.here c.with.ensures.other)
