-- That the words that are written have no spaces.
-- Assumes nothing.
use Rattle.std.specs.Prelude.{◌<◌, All}
use Rattle.algebra.specs.declared.Variable.{Variable}
use Rattle.steps.specs.Records.{Request, supplied_for}
use Rattle.trees.specs.declared.record.Record.{Record}
use Rattle.trees.specs.Records.{first, second}
use Rattle.notation.specs.Records.{record_words}
use Rattle.notation.specs.Steps.{step_words, SpacelessTerm}
use Rattle.notation.specs.Words.{Plain}

abbrev pub RecordsPlain : Type 0
RecordsPlain = (x : Record) → first x < 256 → second x < 256 → All Plain (record_words x)

abbrev pub StepsPlain : Type 0
StepsPlain = (q : Request) → q.rule < 256 → q.place < 65536 → ((v : Variable) → SpacelessTerm (supplied_for q v)) → All Plain (step_words q)
