use Rattle.std.proofs.Common.{[]}
use Rattle.steps.proofs.record.read_field.Goals as goal

pub returns-in-Supply : goal.returns-in-Supply
returns-in-Supply c = rw c.in-Supply.is (c.read_supply.ensures [])
