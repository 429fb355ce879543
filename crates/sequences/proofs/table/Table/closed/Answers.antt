use Rattle.std.proofs.Common.{◌≡◌, ℕ, ◌≤◌, true, List, [], length, take, All, Any, sym, ap, ◌∙◌, subst, arith}
use borrow.Author.Tests.{both_ways}
use Rattle.std.proofs.lemmas.List.Elements.{All-nil, All-same}
use Rattle.sequences.specs.Tables.{Holds}
use Rattle.sequences.specs.Walks.{Impossible, Sound}
use Rattle.sequences.specs.declared.row.Row.{Row}
use Rattle.sequences.specs.declared.scan.Scan.{Scan}
use Rattle.sequences.specs.Scans.{Keeps, is_end, run, start}
use Rattle.algebra.specs.Refusals.{Granted, Refused}
use Rattle.sequences.specs.Codes.{close_code}
use Rattle.sequences.specs.Rows.{padded}
use Rattle.sequences.specs.Stored.{Stored}
use Rattle.sequences.specs.declared.refusals.CloseRefusal.TheVariants.{ImpossibleSequence}
use Rattle.algebra.specs.Texts.{IsText}
use Rattle.sequences.specs.Closing.{CloseAsks}
use Rattle.sequences.proofs.Closings.{Found, all_sound, at_end, front_rows, granted, never_closes, no_end, no_sum, none_all, one_impossible, sum_text, text_proper, too_many}
use Rattle.sequences.proofs.Held.{closed_table}
use Rattle.sequences.proofs.table.Table.closed.Goals as goal

pub returns-then-is_never : goal.returns-then-is_never
returns-then-is_never c =
    let bs = c.args.text.now in
    let n = never_closes bs (c.is_never.ensures.0 c.if-is_never.true) in (
      granted bs [] n (omega arith) (All-nil (λ r. Impossible r → ⊥)),
      record { sequences = []; closes = n; rows = c.new.ensures },
    )

pub returns-then-not-is_text : goal.returns-then-not-is_text
returns-then-not-is_text c =
    let bs = c.args.text.now in
    no_sum bs (λ s. both_ways _ c.if-not-is_text.true (c.is_text.ensures.1 (sum_text bs s)))

pub returns-then-not-ended : goal.returns-then-not-ended
returns-then-not-ended c =
    let bs = c.args.text.now in
    let scan = c.scan_sum-scan.result in
    no_sum bs
    (no_end bs (c.is_text.ensures.0 c.if-not-is_text.false) scan.reading scan.rows scan.count c.scan_sum-scan.ensures
    (λ e. both_ways _ c.if-is_never.false (c.is_never.ensures.1 e)) (sym c.ended.ensures ∙ c.if-not-ended.true))

-- what was scanned of a sum of at most 64 sequences
module _ (bs : List ℕ) (is : IsText bs) (scan : Scan) (keeps : Keeps (run start bs) scan.reading scan.rows scan.count)
    (ended : is_end scan.reading.wants ≡ true) where
  abbrev sum : Found bs is scan.reading scan.rows scan.count keeps
  sum = at_end bs is scan.reading scan.rows scan.count keeps ended

  module _ (few : scan.count ≤ 64) where
    abbrev rows : List Row
    rows = take scan.count scan.rows

    low : length sum.sequences ≤ 64
    low = omega (arith, sum.counted)

    abbrev holds : Holds bs rows
    holds = record { sequences = sum.sequences; closes = sum.closes; rows = front_rows bs sum.sequences sum.closes low scan.rows scan.count sum.kept sum.counted }

    sound : All Sound rows
    sound = All-same Sound _ _ holds.rows (all_sound _ (text_proper bs sum.sequences sum.closes))

    refused : Any Impossible rows → Refused close_code (CloseAsks bs) ImpossibleSequence
    refused i = one_impossible bs sum.sequences sum.closes low (subst (Any Impossible) holds.rows i)

    module _ (none : Any Impossible rows → ⊥) where
      grants : Granted (CloseAsks bs)
      grants = granted bs sum.sequences sum.closes low (All-same (λ r. Impossible r → ⊥) _ _ (sym holds.rows) (none_all Impossible _ none))

      stores : Stored (record { rows = scan.rows; len = scan.count })
      stores = record { low = few; filled = sum.kept ∙ ap (padded 64) (sym holds.rows); table = closed_table bs _ grants holds }

pub returns-then-not-has_room : goal.returns-then-not-has_room
returns-then-not-has_room c =
    let bs = c.args.text.now in
    let f = sum bs (c.is_text.ensures.0 c.if-not-is_text.false) c.scan_sum-scan.result c.scan_sum-scan.ensures (sym c.ended.ensures ∙ c.if-not-ended.false) in
    let past : c.scan_sum-scan.result.count ≤ 64 → ⊥ = λ h. both_ways _ c.if-not-has_room.true (c.has_room.ensures.1 h) in
    too_many bs f.sequences f.closes (omega (arith, past, f.counted))

pub any_impossible-requires : goal.any_impossible-requires
any_impossible-requires c =
    sound c.args.text.now (c.is_text.ensures.0 c.if-not-is_text.false) c.scan_sum-scan.result c.scan_sum-scan.ensures (sym c.ended.ensures ∙ c.if-not-ended.false) (c.has_room.ensures.0 c.if-not-has_room.false)

pub returns-then-any_impossible : goal.returns-then-any_impossible
returns-then-any_impossible c =
    refused c.args.text.now (c.is_text.ensures.0 c.if-not-is_text.false) c.scan_sum-scan.result c.scan_sum-scan.ensures (sym c.ended.ensures ∙ c.if-not-ended.false) (c.has_room.ensures.0 c.if-not-has_room.false)
    (c.any_impossible.ensures.0 c.if-any_impossible.true)

pub invariant_of-result : goal.invariant_of-result
invariant_of-result c =
    stores c.args.text.now (c.is_text.ensures.0 c.if-not-is_text.false) c.scan_sum-scan.result c.scan_sum-scan.ensures (sym c.ended.ensures ∙ c.if-not-ended.false) (c.has_room.ensures.0 c.if-not-has_room.false)
    (λ i. both_ways _ c.if-any_impossible.false (c.any_impossible.ensures.1 i))

pub returns : goal.returns
returns c =
    let bs = c.args.text.now in
    let is = c.is_text.ensures.0 c.if-not-is_text.false in
    let scan = c.scan_sum-scan.result in
    let ended = sym c.ended.ensures ∙ c.if-not-ended.false in (
      grants bs is scan c.scan_sum-scan.ensures ended (c.has_room.ensures.0 c.if-not-has_room.false) (λ i. both_ways _ c.if-any_impossible.false (c.any_impossible.ensures.1 i)),
      holds bs is scan c.scan_sum-scan.ensures ended (c.has_room.ensures.0 c.if-not-has_room.false),
    )
