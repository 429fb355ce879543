use Rattle.std.proofs.Common.{◌≡◌, ℕ, true, false, List, Some, Ok, Err, sym, refl, ap, subst, ◌∙◌}
use borrow.Author.Tests.{both_ways}
use Rattle.std.specs.Option.{option_copied_mut}
use Rattle.std.proofs.lemmas.Result.{err_from_is_err_and}
use Rattle.algebra.specs.Steps.{Derived}
use Rattle.algebra.specs.Texts.{Whole}
use Rattle.steps.specs.Stepping.{StepAnswer}
use Rattle.steps.specs.declared.refusal.StepRefusal.TheVariants.{NoTree}
use Rattle.derivation.specs.Model.{Stepped, fresh, moved}
use Rattle.derivation.specs.Stands.{Stands, state_of}
use Rattle.derivation.specs.declared.bench.Derivation.{Derivation}
use Rattle.steps.proofs.Answering.{answer_with_tree, no_tree}
use Rattle.derivation.proofs.Calls.{at_once, fresh_stands, passed_on, stepped_stands}
use Rattle.derivation.proofs.Lawfuls.{law_step}
use Rattle.derivation.proofs.bench.Bench.step.Goals as goal

-- what a granted step makes of a derivation
record Granted (bs text : List ℕ) (d : Derivation) : Type 0 where
  pub outcome : Stepped (state_of (Some d)) bs (Ok tt) (moved (state_of (Some d)) text)
  pub stands : Stands (moved (state_of (Some d)) text)

granted : (bs text : List ℕ) (d : Derivation) → Stands (state_of (Some d)) → StepAnswer d.present d.tree.events bs (Ok text)
    → (Whole d.tree.events d.present → Whole d.tree.events text) → ((from : List ℕ) → Derived from d.present → Derived from text) → Granted bs text d
granted bs text d was answer whole derived =
    let s = state_of (Some d) in
    let w = answer_with_tree (s.opened ≡ true) s.present s.events bs refl (Ok text) answer in
    let o : Stepped s bs (Ok tt) (moved s text) = (w.0, w.1, refl) in
    record { outcome = o; stands = stepped_stands s bs text was o (whole was.present.whole) (derived _ was.reached) }

-- the fields of a derivation that is lent
abbrev fields_of : {d d' : Derivation} → d ≡ d' → Derivation
fields_of {d} same = d

pub returns-in_err-derivation : goal.returns-in_err-derivation
returns-in_err-derivation c =
    let bs = c.args.bytes.now in
    let is = c.in_err-derivation.ensures in
    let none = sym c.as_mut.ensures.value ∙ ap option_copied_mut is.ok_part in
    let p = err_from_is_err_and c.from_residual.result c.from_residual.ensures.1 in
    let why : c.from_residual.result ≡ Err NoTree = p.1 ∙ ap Err p.2 ∙ passed_on _ is.value is.ok_part in
    let o : Stepped fresh bs (Err NoTree) fresh = (no_tree (fresh.opened ≡ true) fresh.present fresh.events bs (λ o. both_ways false refl o), refl) in
    rw (why, none, at_once c.self.view_is none) (record { outcome = o; stands = fresh_stands; law = law_step fresh fresh bs (Err NoTree) o })

pub returns-in_err-text : goal.returns-in_err-text
returns-in_err-text c =
    let bs = c.args.bytes.now in
    let s = state_of (Some c.in_ok-derivation.derivation.now) in
    let some = sym c.as_mut.ensures.value ∙ ap option_copied_mut c.in_ok-derivation.ensures.ok_part in
    let p = err_from_is_err_and c.from_residual-in_err-text.result c.from_residual-in_err-text.ensures.1 in
    let e = c.in_err-text.field-0.0 in
    let answer = subst (λ (d : Derivation). StepAnswer d.present d.tree.events bs (Err e)) c.derivation.view_is c.in_err-text.ensures.answer in
    let o : Stepped s bs (Err e) s = (answer_with_tree (s.opened ≡ true) s.present s.events bs refl (Err e) answer, refl) in
    rw (p.1, p.2, at_once c.self.view_is some) (record { outcome = o; stands = rw some at c.self.invariant; law = law_step s s bs (Err e) o })

pub invariant_of-self-2 : goal.invariant_of-self-2
invariant_of-self-2 c =
    let some = sym c.as_mut.ensures.value ∙ ap option_copied_mut c.in_ok-derivation.ensures.ok_part ∙ ap Some (sym c.derivation.view_is) in
    let is = c.in_ok-text.ensures in
    (granted c.args.bytes.now c.in_ok-text.text (fields_of c.derivation.view_is) (rw some at c.self.invariant) is.answer is.whole is.derived).stands

pub returns : goal.returns
returns c =
    let bs = c.args.bytes.now in
    let some = sym c.as_mut.ensures.value ∙ ap option_copied_mut c.in_ok-derivation.ensures.ok_part ∙ ap Some (sym c.derivation.view_is) in
    let is = c.in_ok-text.ensures in
    let g = granted bs c.in_ok-text.text (fields_of c.derivation.view_is) (rw some at c.self.invariant) is.answer is.whole is.derived in
    rw (at_once c.self.view_is some) (record { outcome = g.outcome; stands = g.stands; law = law_step _ _ bs (Ok tt) g.outcome })
