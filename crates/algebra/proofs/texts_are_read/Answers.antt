use Rattle.algebra.proofs.Bytes.{one_text, reads_texts, every_place, puts_terms}
use Rattle.algebra.proofs.texts_are_read.Goals as goal

pub returns : goal.returns
returns c = record { one = one_text; all = reads_texts; places = every_place; puts = puts_terms }
