use Rattle.notation.proofs.Plainness.{record_plain, step_plain}
use Rattle.notation.proofs.words.written_words_are_plain.Goals as goal

pub returns : goal.returns
returns c = record { records = record_plain; steps = step_plain }
