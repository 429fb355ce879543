use Rattle.std.proofs.Common.{◌+◌, ◌<◌, ◌≤◌, drop}
use Rattle.texts.proofs.Rows.{Alike}
use Rattle.texts.proofs.scan.front_length.Given as goal

-- the bytes up to here were read, and these terms are still to come
abbrev pub invariant-loop-before : goal.invariant-loop-before
invariant-loop-before l = (0 < l.terms) × (l.terms ≤ l.before + 1) × Alike 1 l.bytes l.terms (drop l.before l.bytes)
