use Rattle.std.proofs.Common.{ℕ, slice_index_or, ap, ◌∙◌}
use Rattle.sequences.specs.Masks.{linked}
use Rattle.sequences.specs.Walks.{any}
use Rattle.sequences.proofs.Datings.{set_some}
use Rattle.sequences.proofs.letters.LetterSets.has_any.Goals as goal

pub returns : goal.returns
returns c =
    let sets = c.args.self.now.of in
    set_some (slice_index_or sets c.from.result 0) ∙ ap (λ (n : ℕ). any 24 (λ w. linked sets n w)) c.from.ensures
