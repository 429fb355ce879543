use Rattle.std.proofs.Common.{◌≡◌, vec_items, vec_len}
use Rattle.assembly.proofs.Laying.{Underread}
use Rattle.assembly.proofs.tree_bytes.read_records.Given as goal

abbrev pub invariant-loop : goal.invariant-loop
invariant-loop l = Underread l.bytes (vec_items l.records) l.rest × (vec_len l.records ≡ l.counter)
