use Rattle.std.proofs.Common.{ℕ, List, Some, None, sym, subst, rules}
use Rattle.trees.specs.declared.record.Record.{Record}
use Rattle.notation.specs.Inputs.{Names}
use Rattle.notation.specs.Records.{RecordWords}
use Rattle.notation.proofs.Back.{record_back}
use Rattle.notation.proofs.Recording.{no_kind, no_first, no_second, one_record, said, three_words}
use Rattle.notation.proofs.records.read_record.Goals as goal

abbrev Unread : List (List ℕ) → Type 0
Unread ws = (x : Record) → RecordWords x ws → ⊥

pub returns-in_err-kind : goal.returns-in_err-kind
returns-in_err-kind c =
    let r = subst Unread (sym (three_words c.args.words.now _ (search rules))) (no_kind _ _ _ c.in_err-kind.ensures) in
    record { read = rw c.from_residual.ensures r; one = one_record _; back = rw c.from_residual.ensures (record_back _ None r) }

pub returns-in_err-first : goal.returns-in_err-first
returns-in_err-first c =
    let n = subst (λ (w : List ℕ). (i : ℕ) → Names w i → ⊥) c.as_bytes.ensures.value c.in_err-first.ensures.named in
    let r = subst Unread (sym (three_words c.args.words.now _ (search rules))) (no_first _ _ _ n) in
    record { read = rw c.from_residual-in_err-first.ensures r; one = one_record _; back = rw c.from_residual-in_err-first.ensures (record_back _ None r) }

pub returns-in_err-second : goal.returns-in_err-second
returns-in_err-second c =
    let n = subst (λ (w : List ℕ). (i : ℕ) → Names w i → ⊥) c.as_bytes-2.ensures.value c.in_err-second.ensures.named in
    let r = subst Unread (sym (three_words c.args.words.now _ (search rules))) (no_second _ _ _ n) in
    record { read = rw c.from_residual-in_err-second.ensures r; one = one_record _; back = rw c.from_residual-in_err-second.ensures (record_back _ None r) }

pub returns : goal.returns
returns c =
    let first = subst (λ (w : List ℕ). Names w c.in_ok-first.first) c.as_bytes.ensures.value c.in_ok-first.ensures.named in
    let second = subst (λ (w : List ℕ). Names w c.in_ok-second.second) c.as_bytes-2.ensures.value c.in_ok-second.ensures.named in
    let r = subst (RecordWords _) (sym (three_words c.args.words.now _ (search rules))) (said _ _ _ c.in_ok-kind.kind c.in_ok-first.first c.in_ok-second.second _ c.in_ok-kind.ensures first second c.new.ensures) in
    record { read = r; one = one_record _; back = record_back _ (Some _) r }
