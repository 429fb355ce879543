use Rattle.std.proofs.Common.{◌≡◌, ℕ, length, sym, ap, ◌∙◌, subst, arith}
use Rattle.std.proofs.lemmas.Iterator.Adapters.{YieldsList-from_rev_slice}
use Rattle.std.proofs.lemmas.Iterator.Consumers.{YieldsList-turn, YieldsList-end}
use Rattle.std.proofs.lemmas.List.{length_push, length-reverse}
use Rattle.algebra.specs.Terms.{date, dating_of}
use Rattle.algebra.specs.Texts.{event_token, terms}
use Rattle.algebra.proofs.Bytes.{same_term}
use Rattle.texts.specs.Stack.{Room, stacked}
use Rattle.texts.proofs.Readings.{dates, room, turned, finished}
use Rattle.texts.proofs.Reversed.{last, reversed_turn}
use Rattle.texts.proofs.evaluation.date_of_text.Goals as goal

pub take-requires : goal.take-requires
take-requires g c =
    let K = g.D.Date.kind in
    let text = c.args.text.now in
    let whole = c.requires.text.whole in
    let inv = c.loop-byte.invariant in
    let turn =
    reversed_turn text _ _ (YieldsList-turn (YieldsList-from_rev_slice text cc) c.loop-byte.yielded _ c.loop-byte.yielded_by _ _ _ c.in-Some.is c.next.ensures.steps) in
    subst (λ k. Room k c.loop-byte.stack.free (length c.loop-byte.stack.dates)) (sym c.from.ensures)
    (room K (dating_of K c.args.dating.now) text whole.term whole.written _ _ turn c.loop-byte.stack.dates inv.1 c.loop-byte.stack.free
    c.requires.text.short (omega (arith, inv.0, c.requires.room)))

pub loop-byte-preserved : goal.loop-byte-preserved
loop-byte-preserved g c =
    let K = g.D.Date.kind in
    let d = dating_of K c.args.dating.now in
    let text = c.args.text.now in
    let whole = c.requires.text.whole in
    let inv = c.loop-byte.invariant in
    let turn =
    reversed_turn text _ _ (YieldsList-turn (YieldsList-from_rev_slice text cc) c.loop-byte.yielded _ c.loop-byte.yielded_by _ _ _ c.in-Some.is c.next.ensures.steps) in (
      c.take.ensures.places ∙ inv.0,
      c.take.ensures.dates
          ∙ ap (λ k. stacked K d k c.loop-byte.stack.dates) c.from.ensures
          ∙ turned K d text whole.term whole.written _ _ turn c.loop-byte.stack.dates inv.1
          ∙ ap (λ (n : ℕ). dates K d (terms event_token (last n text))) (sym (length_push c.loop-byte.yielded c.in-Some.byte)),
    )

pub pop-requires : goal.pop-requires
pop-requires g c =
    let K = g.D.Date.kind in
    let text = c.args.text.now in
    let whole = c.requires.text.whole in
    let end = YieldsList-end (YieldsList-from_rev_slice text cc) c.loop-byte.yielded _ c.loop-byte.yielded_by _ _ c.in-None.is c.next.ensures.steps in
    let one =
    finished K (dating_of K c.args.dating.now) text whole.term whole.written _ (end.1 ∙ length-reverse text) c.loop-byte.stack.dates
    c.loop-byte.invariant.1 in
    omega (arith, ap length one)

pub returns : goal.returns
returns g c t e =
    let K = g.D.Date.kind in
    let d = dating_of K c.args.dating.now in
    let text = c.args.text.now in
    let whole = c.requires.text.whole in
    let end = YieldsList-end (YieldsList-from_rev_slice text cc) c.loop-byte.yielded _ c.loop-byte.yielded_by _ _ c.in-None.is c.next.ensures.steps in
    let one = finished K d text whole.term whole.written _ (end.1 ∙ length-reverse text) c.loop-byte.stack.dates c.loop-byte.invariant.1 in
    let popped : c.pop.result ≡ date K d whole.term = cc (c.pop.ensures.dates, one) in
    popped ∙ ap (date K d) (same_term whole.term t (sym whole.written ∙ e))
