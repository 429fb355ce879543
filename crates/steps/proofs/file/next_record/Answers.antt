use Rattle.std.proofs.Common.{◌-◌, length, get_or, take, drop, sym, arith, rules}
use Rattle.steps.proofs.Fronts.{two_front}
use Rattle.steps.proofs.Options.{match_from_ok_or}
use Rattle.steps.proofs.Running.{begins}
use Rattle.steps.specs.declared.refusal.StepRefusal.TheVariants.{Form}
use Rattle.steps.proofs.file.next_record.Goals as goal

pub returns-in_ok-record-in-len2-up-clause-next : goal.returns-in_ok-record-in-len2-up-clause-next
returns-in_ok-record-in-len2-up-clause-next c =
    let file = c.args.file.now in
    let tail = take (length file - 2) (drop 2 file) in
    begins file (get_or file 0 0) (get_or file 1 0) c.from-size.result tail _ _ (two_front file (search rules)) (omega (arith, c.from-size.ensures, c.from_be_bytes.ensures))
    (match_from_ok_or _ _ c.split_at_checked.result Form c.in_ok-record-in-len2-up.record c.split_at_checked.ensures.cases (sym c.in_ok-record-in-len2-up.ensures.value))
