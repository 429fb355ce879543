use Rattle.std.proofs.Common.{◌≡◌, ◌||◌, ℕ, length, rules, arith, slice_index_or, bit_or, ap, ◌∙◌}
use borrow.Author.Tests.{tests}
use Rattle.std.proofs.lemmas.Bool.{or_from}
use Rattle.sequences.specs.Masks.{has, linked}
use Rattle.sequences.proofs.Bits.{has_or}
use Rattle.sequences.proofs.Turns.{linked_past, to_all}
use Rattle.sequences.proofs.Ranges.{made_at}
use Rattle.sequences.proofs.letters.LetterSets.union.Goals as goal

pub returns : goal.returns
returns c =
    let a = c.args.self.now.of in
    let b = c.args.other.now.of in
    let same : length a ≡ 24 = search rules in
    let alike : length b ≡ 24 = search rules in
    let each = made_at (λ v. bit_or (slice_index_or a v 0) (slice_index_or b v 0)) (λ x y q k. search (rules, tests)) c.from_fn.result 24 c.from_fn.ensures.items in
    to_all (λ v w. linked a v w || linked b v w) c.from_fn.result 24 (omega arith) c.from_fn.ensures.items.long
    (λ v w h. or_from _ _ (linked_past a v w (omega (arith, same))) (linked_past b v w (omega (arith, alike))))
    (λ v w h. ap (λ (m : ℕ). has m w) (each v 0 h) ∙ has_or (slice_index_or a v 0) (slice_index_or b v 0) w)
