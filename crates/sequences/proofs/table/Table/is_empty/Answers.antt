use Rattle.std.proofs.Common.{ℕ, eqb, length, sym, ap, ◌∙◌}
use Rattle.std.proofs.lemmas.Bool.{eqb-true}
use Rattle.std.proofs.lemmas.List.{nil_from_length}
use Rattle.sequences.specs.Stored.{length-held}
use Rattle.sequences.specs.declared.row.Row.{Row}
use Rattle.sequences.proofs.table.Table.is_empty.Goals as goal

pub returns-clause-none : goal.returns-clause-none
returns-clause-none c =
    let e = sym (length-held c.self.inside c.self.invariant) ∙ ap (length {A = Row}) c.self.view_is in (
      λ h. nil_from_length _ (sym e ∙ eqb-true _ _ h),
      λ h. ap (λ (n : ℕ). eqb n 0) (e ∙ ap (length {A = Row}) h),
    )
