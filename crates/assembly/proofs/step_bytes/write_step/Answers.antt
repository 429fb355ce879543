use Rattle.std.proofs.lemmas.Bool.{both_ways}
use Rattle.steps.proofs.Fields.{says_one}
use Rattle.assembly.proofs.Sayables.{sized, said_sayable}
use Rattle.assembly.proofs.step_bytes.write_step.Goals as goal

pub returns-then-not-is_sayable : goal.returns-then-not-is_sayable
returns-then-not-is_sayable c = record {
  written = λ bs h s. both_ways _ c.if-not-is_sayable.true (c.is_sayable.ensures.1 (said_sayable c.args.events bs _ h s));
  back = tt;
}

pub encode-requires : goal.encode-requires
encode-requires c = sized c.args.events _ (c.is_sayable.ensures.0 c.if-not-is_sayable.false)

pub returns : goal.returns
returns c =
    let says = c.in_ok-encode.ensures c.args.events (c.is_sayable.ensures.0 c.if-not-is_sayable.false) in
    record { written = says; back = λ q s. says_one c.args.events _ q _ s says }
