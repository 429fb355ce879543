use Rattle.std.proofs.Common.{◌<◌, ◌≤◌, rules}
use Rattle.assembly.proofs.Sayables.{decides_sayable}
use Rattle.assembly.proofs.step_bytes.is_sayable.Goals as goal

pub returns-then-said-lt65536 : goal.returns-then-said-lt65536
returns-then-said-lt65536 c =
    let s = c.args.said.now in
    let number : (1 ≤ s.rule) × (s.rule ≤ 42) = search rules in
    let place : s.place < 65536 = search rules in
    decides_sayable c.args.events s c.are_terms.result number place c.are_terms.ensures
