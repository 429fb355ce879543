use Rattle.std.proofs.Common.{rules, ◌∙◌}
use borrow.Author.Tests.{both_ways}
use Rattle.texts.proofs.Letters.{whole_below, whole_found, whole_met}
use Rattle.texts.proofs.scan.is_whole.Goals as goal

pub returns-then-eq : goal.returns-then-eq
returns-then-eq c = (
  λ e. whole_found _ _ c.term_end.result c.term_end.ensures (search rules) (c.letters_below.ensures.0 e),
  λ w. c.letters_below.ensures.1 (whole_below _ _ w),
)

pub returns-else-eq : goal.returns-else-eq
returns-else-eq c = (
  λ e. absurd (both_ways _ c.if-eq.false e),
  λ w. c.eq.ensures ∙ whole_met _ _ c.term_end.result c.term_end.ensures w,
)
