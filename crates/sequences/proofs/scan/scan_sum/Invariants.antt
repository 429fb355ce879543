use Rattle.std.proofs.Common.{◌≤◌, take}
use Rattle.sequences.specs.Scans.{Keeps, Ready, run, start}
use Rattle.sequences.proofs.scan.scan_sum.Given as goal

abbrev pub invariant-loop-byte : goal.invariant-loop-byte
invariant-loop-byte l =
    Keeps (run start (take l.byte-index l.text)) l.reading l.rows l.count
    × Ready l.reading.wants × (l.reading.parts ≤ l.byte-index) × (l.reading.sums ≤ l.byte-index) × (l.count ≤ l.byte-index)
