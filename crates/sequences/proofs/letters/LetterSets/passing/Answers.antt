use Rattle.std.proofs.Common.{◌≡◌, ℕ, ◌+◌, List, length, sym, subst, rules, arith}
use Rattle.sequences.specs.Masks.{linked}
use Rattle.sequences.specs.Walks.{via}
use Rattle.sequences.proofs.Turns.{Passed, passed_with, passed_without, to_all, via_past}
use Rattle.sequences.proofs.letters.LetterSets.passing.Goals as goal
use Rattle.sequences.proofs.letters.LetterSets.passing.Goals.{then-member, else-member}

pub loop-set-preserved : goal.loop-set-preserved
loop-set-preserved c =
    let P : List ℕ → Type 0 = λ x. Passed c.args.self.of c.args.k x (c.loop-set.set-index + 1) in
    let low = c.loop-set-test.true in
    elim c.if-member.branch [
      | then-member w ↦ subst P (sym w.set-items-is) (passed_with c.args.self.of c.loop-set.set-items _ _ low c.loop-set.invariant c.from.result c.from.ensures (sym w.if-member.ensures))
      | else-member w ↦ subst P (sym w.set-items-is) (passed_without c.args.self.of c.loop-set.set-items _ _ low c.loop-set.invariant (sym w.if-member.ensures))
    ]

pub returns : goal.returns
returns c =
    let e : length c.args.self.of ≡ 24 = search rules in
    to_all (via c.args.k (linked c.args.self.of)) c.loop-set.set-items c.loop-set.set-index (omega (arith, c.loop-set-test.false, c.loop-set.invariant.2)) c.loop-set.invariant.2
    (λ v w h. via_past c.args.self.of c.args.k v w e h) c.loop-set.invariant.0
