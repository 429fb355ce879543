use Rattle.std.proofs.Common.{ℕ, List, ◌++◌, vec_items, sym, refl, ap, ◌∙◌, subst, rules}
use Rattle.std.proofs.lemmas.Result.{err_from_is_err_and}
use Rattle.assembly.specs.StepFiles.{StepFile}
use Rattle.assembly.proofs.Filing.{filed_on, one_list}
use Rattle.assembly.proofs.step_file.add_step.Goals as goal

pub returns-in_err-more : goal.returns-in_err-more
returns-in_err-more c =
    let p = err_from_is_err_and c.from_residual.result c.from_residual.ensures.1 in
    record { added = rw (p.1, p.2) c.in_err-more.ensures; one = one_list _ _; left = rw p.1 refl }

pub returns-in_err-extend_from_slice : goal.returns-in_err-extend_from_slice
returns-in_err-extend_from_slice c =
    let p = err_from_is_err_and c.from_residual-in_err-extend_from_slice.result c.from_residual-in_err-extend_from_slice.ensures.1 in
    record { added = rw (p.1, p.2) tt; one = one_list _ _; left = rw p.1 (search rules) }

pub returns : goal.returns
returns c = record {
  added = λ qs f.
      subst (StepFile c.args.events _) (sym (c.in_ok-extend_from_slice.ensures.items ∙ ap (λ (x : List ℕ). vec_items c.args.file.now ++ x) c.as_slice.ensures.value))
      (filed_on f _ _ c.in_ok-more.ensures);
  one = one_list _ _;
  left = tt;
}
