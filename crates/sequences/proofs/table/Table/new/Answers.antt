use Rattle.std.proofs.Common.{length, ◌≤◌, replicate, sym, ap, ◌∙◌, arith}
use Rattle.std.proofs.lemmas.List.Elements.{All-nil}
use Rattle.sequences.specs.Dates.{HappensByTicks}
use Rattle.sequences.specs.Lines.{line}
use Rattle.sequences.specs.Walks.{Impossible, Sound}
use Rattle.sequences.specs.declared.row.Row.{Row}
use Rattle.sequences.proofs.Padded.{padded_none}
use Rattle.sequences.proofs.table.Table.new.Goals as goal

pub invariant_of-result : goal.invariant_of-result
invariant_of-result c = record {
  low = omega arith;
  filled = ap (λ (x : Row). replicate 64 x) c.blank.ensures ∙ sym (padded_none 64);
  table = record {
    few = omega arith;
    sound = All-nil Sound;
    possible = All-nil (λ r. Impossible r → ⊥);
    happens = All-nil HappensByTicks;
    short = All-nil (λ r. length (line r) ≤ 512);
  };
}
