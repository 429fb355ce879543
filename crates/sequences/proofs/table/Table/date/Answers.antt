use Rattle.std.proofs.Common.{◌≡◌, sym, ap, ◌∙◌, subst, rules}
use Rattle.algebra.specs.Kinds.{Same}
use Rattle.algebra.specs.Terms.{dating_of}
use Rattle.algebra.specs.Texts.{text_date}
use Rattle.sequences.specs.Dates.{RowsDated, table_date}
use Rattle.sequences.proofs.Exact.{rows_dated}
use Rattle.sequences.proofs.Held.{held_date}
use Rattle.sequences.proofs.Only.{one_date}
use Rattle.sequences.proofs.table.Table.date.Goals as goal

pub returns-in_err-dating-clause-only : goal.returns-in_err-dating-clause-only
returns-in_err-dating-clause-only g c = λ s h. one_date g.D.Date.kind c.args.dating.now c.args.self.now c.from_residual.result s (search rules) h

pub returns-clause-earliest : goal.returns-clause-earliest
returns-clause-earliest g c =
    let K = g.D.Date.kind in
    let d = dating_of K c.args.dating.now in
    let rs = c.args.self.now in
    let same : c.in_ok-dating.dating ≡ c.args.dating.now = search rules in
    let e = c.earliest.ensures ∙ ap (table_date K (dating_of K c.in_ok-dating.dating)) c.self.view_is ∙ ap (λ ds. table_date K (dating_of K ds) rs) same in
    subst (RowsDated K d rs) (sym e) (rows_dated K d rs)

pub returns-clause-keeps : goal.returns-clause-keeps
returns-clause-keeps g c bs h =
    let K = g.D.Date.kind in
    let d = dating_of K c.args.dating.now in
    let same : c.in_ok-dating.dating ≡ c.args.dating.now = search rules in
    let e = c.earliest.ensures ∙ ap (table_date K (dating_of K c.in_ok-dating.dating)) c.self.view_is ∙ ap (λ ds. table_date K (dating_of K ds) c.args.self.now) same in
    subst (Same K (text_date K d bs)) (sym e) (held_date K d bs c.args.self.now h)
