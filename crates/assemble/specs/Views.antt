-- What a job holds.
-- Assumes nothing.
use Rattle.std.specs.Prelude.{◌≡◌, ◌≤◌, List, [], length, None, is_some, unwrap_or, vec_items}
use Rattle.steps.specs.Records.{Request}
use Rattle.assembly.specs.StepFiles.{StepFile}
use Rattle.assemble.specs.Taking.{Held}
use Rattle.assemble.specs.declared.job.Job.TheInside.{Inside}

abbrev pub held_of : Inside → Held
held_of j = record { named = is_some j.events; events = unwrap_or j.events 0; records = vec_items j.records; steps = vec_items j.steps }

-- every step of the file is well-formed for a tree with these events, one byte can count the records, and there are
-- neither records nor steps before the events
pub record IsJob (j : Inside) : Type 0 where
  pub filed : ∥ ((qs : List Request) × StepFile (unwrap_or j.events 0) qs (vec_items j.steps)) ∥₁
  pub counted : length (vec_items j.records) ≤ 255
  pub bare : j.events ≡ None → (vec_items j.records ≡ []) × (vec_items j.steps ≡ [])
