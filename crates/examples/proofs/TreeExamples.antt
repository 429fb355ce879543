-- What comes of the bytes of the examples: the records that are read, and why the reading stops.
-- Assumes nothing.
use Rattle.std.proofs.Common.{[], ◌∷◌, refl, inl, arith}
use Rattle.trees.specs.declared.record.Gate.TheVariants.{And, Pand}
use Rattle.trees.specs.declared.record.Record.TheVariants.{Joins, Triggers}
use Rattle.trees.specs.declared.refusal.TreeRefusal.TheVariants.{Dependent}
use Rattle.trees.specs.Records.{full}
use Rattle.trees.specs.Reading.{granted, faulty}
use Rattle.examples.specs.Trees.{TreeExamples}

pub tree_examples : TreeExamples
tree_examples = record {
  pand = inl (
    (omega arith, omega arith, omega arith, omega arith),
    record {
      records = Joins Pand 0 1 ∷ [];
      rest = [];
      along = (refl, (_, (refl, record { bytes = _; written = full _; is = refl })));
      stop = granted refl refl tt;
    },
  );
  fdep = inl (
    (omega arith, omega arith, omega arith, omega arith),
    record {
      records = Joins And 1 2 ∷ Triggers 0 1 ∷ [];
      rest = [];
      along = (refl, (7 ∷ 1 ∷ 1 ∷ 2 ∷ [], ((refl, (_, (refl, record { bytes = _; written = full (Triggers 0 1); is = refl }))), record { bytes = _; written = full _; is = refl })));
      stop = granted refl refl tt;
    },
  );
  turned = inl (
    (omega arith, omega arith, omega arith, omega arith),
    record {
      records = Joins And 1 2 ∷ [];
      rest = 7 ∷ 4 ∷ 0 ∷ 1 ∷ [];
      along = (refl, (_, (refl, record { bytes = _; written = full (Joins And 1 2); is = refl })));
      stop = faulty (omega arith) (Triggers 0 1) [] (record { bytes = _; written = full _; is = refl }) Dependent refl;
    },
  );
}
