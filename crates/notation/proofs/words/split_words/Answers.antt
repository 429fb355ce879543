use Rattle.std.proofs.Common.{◌≡◌, map, vec_items, IfOk, eqb, sym, subst, lit<, rules, tests}
use Rattle.std.proofs.lemmas.Iterator.Consumers.{map_from_collect, YieldsList-from_filter}
use Rattle.std.proofs.lemmas.Iterator.Splits.{YieldsList-from_str_split}
use Rattle.std.proofs.lemmas.Result.{IfOk-weaker}
use Rattle.std.specs.List.{filter, slice_split}
use Rattle.notation.specs.Words.{Words}
use Rattle.notation.proofs.Cutting.{some_byte, cut, cut_back, one_list}
use Rattle.notation.proofs.words.split_words.Goals as goal

pub returns : goal.returns
returns c =
    let line = c.args.line.now in
    let pieces : IfOk c.collect.result (λ v. map (λ x. x.now) (vec_items v) ≡ filter some_byte (slice_split (λ b. eqb b 32) line)) =
    map_from_collect _ c.collect.ensures.ran
    (YieldsList-from_filter _ some_byte (YieldsList-from_str_split 32 line (lit< tt) (cc) (cc) (cc)) c.filter.ensures.closure (λ x r q k. search (rules, tests))) in
    let words : IfOk c.collect.result (λ v. Words line (map (λ x. x.now) (vec_items v))) =
    IfOk-weaker c.collect.result _ _ (λ v e. subst (Words line) (sym e) (cut line)) pieces in
    record { words = words; one = one_list line; back = IfOk-weaker c.collect.result _ _ (λ v w. cut_back line _ w) words }
