use Rattle.std.proofs.Common.{◌≡◌, ◌+◌, length}
use Rattle.algebra.specs.Terms.{dating_of}
use Rattle.algebra.specs.Texts.{event_token, terms}
use Rattle.texts.proofs.Readings.{dates}
use Rattle.texts.proofs.Reversed.{last}
use Rattle.texts.proofs.evaluation.date_of_text.Given as goal

-- the stack holds the dates of the terms read, and its places are those of the work table
abbrev pub invariant-loop-byte : goal.invariant-loop-byte
invariant-loop-byte g l =
    let K = g.D.Date.kind in
    (l.stack.free + length l.stack.dates ≡ length l.fn.work)
    × (l.stack.dates ≡ dates K (dating_of K l.dating) (terms event_token (last (length l.yielded) l.text)))
