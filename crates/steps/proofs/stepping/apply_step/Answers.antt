use Rattle.std.proofs.Common.{◌≡◌, ℕ, ◌<◌, ◌≤◌, List, length, Err, sym, ap, ◌∙◌, subst, arith}
use Rattle.std.proofs.lemmas.Result.{err_from_is_err_and}
use Rattle.std.proofs.lemmas.Bool.Decides.{not_from_Decides}
use Rattle.steps.specs.Readings.{request_of}
use Rattle.steps.specs.Rewrites.{Rewritten}
use Rattle.steps.specs.Stepping.{old_of, new_of}
use Rattle.steps.specs.declared.refusal.StepRefusal.TheVariants.{Form, Supplies, Place}
use Rattle.steps.proofs.Answering.{Answered, answered, refused, step_one, no_form, no_supply, no_place, provided, tested_lacks, lacks_tested}
use Rattle.steps.proofs.stepping.apply_step.Goals as goal

pub returns-in_err-said : goal.returns-in_err-said
returns-in_err-said c =
    let old = c.args.text.now in
    let bs = c.args.bytes.now in
    let p = err_from_is_err_and c.from_residual.result c.from_residual.ensures.1 in
    let e = c.in_err-said.ensures.read in
    let is : c.from_residual.result ≡ Err Form = p.1 ∙ ap Err (p.2 ∙ e.0) in
    let a = subst (Answered old c.args.events bs) (sym is) (refused old c.args.events bs Form (no_form old c.args.events bs e.1)) in
    record { answer = a.answer; one = step_one old c.args.events bs; whole = a.whole; step = a.step; derived = a.derived }

pub returns-then-not-supplies_lacked : goal.returns-then-not-supplies_lacked
returns-then-not-supplies_lacked c =
    let old = c.args.text.now in
    let bs = c.args.bytes.now in
    let s = c.in_ok-said.said in
    let says = c.in_ok-said.ensures.read in
    let tested = c.supplies_lacked.ensures (old_of (request_of s)) (new_of (request_of s)) c.of-sides.ensures in
    let wrong = not_from_Decides c.supplies_lacked.result tested c.if-not-supplies_lacked.true in
    let a = refused old c.args.events bs Supplies (no_supply old c.args.events bs (request_of s) says (λ l. wrong (lacks_tested s l))) in
    record { answer = a.answer; one = step_one old c.args.events bs; whole = a.whole; step = a.step; derived = a.derived }

pub returns-then-said-old : goal.returns-then-said-old
returns-then-said-old c =
    let old = c.args.text.now in
    let bs = c.args.bytes.now in
    let s = c.in_ok-said.said in
    let says = c.in_ok-said.ensures.read in
    let tested = c.supplies_lacked.ensures (old_of (request_of s)) (new_of (request_of s)) c.of-sides.ensures in
    let right = tested.0 c.if-not-supplies_lacked.false in
    let past : length old ≤ s.place = omega (arith, ap length c.as_bytes-old.ensures.bytes) in
    let a = refused old c.args.events bs Place (no_place old c.args.events bs (request_of s) says (tested_lacks s right) past) in
    record { answer = a.answer; one = step_one old c.args.events bs; whole = a.whole; step = a.step; derived = a.derived }

pub returns : goal.returns
returns c =
    let old = c.args.text.now in
    let bs = c.args.bytes.now in
    let s = c.in_ok-said.said in
    let q = request_of s in
    let says = c.in_ok-said.ensures.read in
    let tested = c.supplies_lacked.ensures (old_of q) (new_of q) c.of-sides.ensures in
    let right = tested.0 c.if-not-supplies_lacked.false in
    let inside : s.place < length old = omega (arith, ap length c.as_bytes-old.ensures.bytes) in
    let made = c.rewrite.ensures.made (old_of q) (new_of q) c.of-sides.ensures (provided c.args.events bs s says right) in
    let a = answered old c.args.events bs s says right inside c.rewrite.result c.rewrite.ensures.short
    (subst (λ (l : List ℕ). Rewritten l s.place (old_of q) (new_of q) s.supplied c.rewrite.result) c.as_bytes-old.ensures.bytes made) in
    record { answer = a.answer; one = step_one old c.args.events bs; whole = a.whole; step = a.step; derived = a.derived }

pub rewrite-requires-clause-ready : goal.rewrite-requires-clause-ready
rewrite-requires-clause-ready c =
    let s = c.in_ok-said.said in
    let q = request_of s in
    let tested = c.supplies_lacked.ensures (old_of q) (new_of q) c.of-sides.ensures in
    record {
      from = old_of q;
      to = new_of q;
      written = c.of-sides.ensures;
      provided = provided c.args.events c.args.bytes.now s c.in_ok-said.ensures.read (tested.0 c.if-not-supplies_lacked.false);
    }
