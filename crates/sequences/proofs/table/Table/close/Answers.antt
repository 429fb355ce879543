use Rattle.std.proofs.Common.{Ok, Err}
use Rattle.std.proofs.lemmas.Result.{err_from_is_err_and}
use Rattle.sequences.specs.Tables.{Holds}
use Rattle.sequences.proofs.Closings.{refused_exactly, refused_nowhere}
use Rattle.sequences.proofs.Held.{held_dates}
use Rattle.sequences.proofs.table.Table.close.Goals as goal

pub returns-in_err-self-inside-clause-impossible : goal.returns-in_err-self-inside-clause-impossible
returns-in_err-self-inside-clause-impossible c =
    let p = err_from_is_err_and c.from_residual.result c.from_residual.ensures.1 in
    rw (p.1, p.2) (refused_exactly {A = Unit {0}} (λ _. Unit {0}) c.args.text.now (Err c.in_err-self-inside.field-0.0) c.in_err-self-inside.ensures)

pub returns-in_err-self-inside-clause-nowhere : goal.returns-in_err-self-inside-clause-nowhere
returns-in_err-self-inside-clause-nowhere c =
    let p = err_from_is_err_and c.from_residual.result c.from_residual.ensures.1 in
    rw (p.1, p.2) (refused_nowhere {A = Unit {0}} (λ _. Unit {0}) c.args.text.now (Err c.in_err-self-inside.field-0.0) c.in_err-self-inside.ensures)

pub returns-clause-dates : goal.returns-clause-dates
returns-clause-dates c = rw c.self-2.view_is (held_dates c.args.text.now c.in_ok-self-inside.field-0 c.in_ok-self-inside.ensures.1)

pub returns-clause-impossible : goal.returns-clause-impossible
returns-clause-impossible c =
    refused_exactly (λ _. Holds c.args.text.now c.in_ok-self-inside.field-0) c.args.text.now (Ok _) c.in_ok-self-inside.ensures
