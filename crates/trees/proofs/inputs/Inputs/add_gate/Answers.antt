use Rattle.std.proofs.Common.{◌≡◌, ℕ, ◌+◌, true, false, eqb, ltb, length, ◌∙◌, arith, rules}
use Rattle.std.proofs.lemmas.Bool.{eqb-true, le-ltb}
use Rattle.algebra.specs.Texts.{text_of}
use Rattle.trees.specs.Gates.{gate_term, known, term_at}
use Rattle.trees.specs.Held.{input_at, text_in}
use Rattle.trees.specs.Triggers.{read}
use Rattle.trees.proofs.Slots.{held, slot_added, still_unread, swapped, unread_next}
use Rattle.trees.proofs.inputs.Inputs.add_gate.Goals as goal

pub returns : goal.returns
returns c E rs h n =
    let s = c.args.self.now in
    let a = c.args.first in
    let b = c.args.second in
    let x = c.in_ok-text.text in
    let at = 64 + c.args.k in
    let one = held h a c.in_ok-a.a.now (search rules) in
    let two = held h b c.in_ok-b.b.now (search rules) in
    let made = c.in_ok-text.ensures (term_at rs a) (term_at rs b) (c.as_bytes.ensures.bytes ∙ one.1) (c.as_bytes-2.ensures.bytes ∙ two.1) in
    let fits : ltb 511 (length (text_of (gate_term c.args.gate (term_at rs a) (term_at rs b)))) ≡ false = le-ltb 511 _ made.1 in
    let new : (i : ℕ) → eqb i at ≡ true → read rs i ≡ false = λ i e. unread_next E rs s i h (omega (arith, n, eqb-true i at e)) in (
      search rules,
      record {
        events = h.events;
        texts = λ i. rw (c.mark-2.ensures.texts i, c.mark.ensures.texts i, c.put.ensures.texts i, n) (slot_added (eqb i at) (known E rs i) (text_in (input_at s i)) x _ (term_at rs i) made.0 (h.texts i));
        reads = λ i. rw (c.mark-2.ensures.reads i, c.mark.ensures.reads i, c.put.ensures.reads i, h.reads i, still_unread (eqb i at) (read rs i) (new i)) (swapped (eqb i a) (eqb i b) (read rs i));
      },
    )
