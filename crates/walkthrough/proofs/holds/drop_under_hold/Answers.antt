use Rattle.std.proofs.Common.{Ok}
use Rattle.failure_log.specs.Model.{Lifted}
use Rattle.failure_log.specs.Views.{state_of}
use Rattle.walkthrough.proofs.Holding.{held_again}
use Rattle.walkthrough.proofs.holds.drop_under_hold.Goals as goal

pub returns : goal.returns
returns g c =
    let lifted : Lifted (state_of c.drop_before-dropped.new.self) c.in_ok-slip.slip (Ok c.unwrap-custodian.result) (state_of c.lift.new.self) = rw (← c.unwrap-custodian.ensures) c.lift.ensures.outcome in
    let all = held_again g.T.Date _ _ _ _ c.args.custodian _ c.args.bytes.now _ _ c.in_ok-slip.ensures.outcome c.drop_before-dropped.ensures.outcome lifted in
    record { refused = all.0; holder = all.1; same = all.2 }
