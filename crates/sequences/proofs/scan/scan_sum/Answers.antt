use Rattle.std.proofs.Common.{◌≡◌, ℕ, ◌<◌, ◌≤◌, true, false, List, [], length, get_or, take, set, replicate, sym, refl, ap, ◌∙◌, subst, arith}
use Rattle.sequences.specs.Scans.{State, Keeps, Ready, run, start, step, stepped}
use Rattle.sequences.specs.declared.row.Row.{Row}
use Rattle.sequences.specs.declared.scan.Reading.{Reading}
use Rattle.sequences.proofs.Padded.{padded_none, padded_blank}
use Rattle.sequences.proofs.Scanning.{Good, step_good, run_next, keeps_none, keeps_some}
use Rattle.sequences.proofs.scan.scan_sum.Goals as goal
use Rattle.sequences.proofs.scan.scan_sum.Goals.{in_default, in-Some+else-is_last, in-Some+then-is_last, then-count-lt64, else-count-lt64}

pub loop-byte-init : goal.loop-byte-init
loop-byte-init c = (
  record {
    same = sym c.start-reading.ensures;
    kept = ap (λ (x : Row). replicate 64 x) c.blank-rows.ensures ∙ sym (padded_none 64) ∙ sym (padded_blank 64 []);
    counted = refl;
  },
  subst (λ (g : Reading). Ready g.wants) (sym c.start-reading.ensures) tt,
  subst (λ (g : Reading). g.parts ≤ 0) (sym c.start-reading.ensures) (omega arith),
  subst (λ (g : Reading). g.sums ≤ 0) (sym c.start-reading.ensures) (omega arith),
  omega arith,
)

pub loop-byte-preserved : goal.loop-byte-preserved
loop-byte-preserved c =
    let text = c.args.text.now in
    let i = c.loop-byte.byte-index in
    let h : i < length text = omega arith in
    let g = c.loop-byte.reading in
    let rows = c.loop-byte.rows in
    let count = c.loop-byte.count in
    let b = get_or text i 0 in
    let m = c.step-step.result in
    let st : State = run start (take i text) in
    let keep = c.loop-byte.invariant.0 in
    let e : m ≡ stepped g b = c.step-step.ensures in
    let good = subst (Good g.parts g.sums) (sym e) (step_good g.wants g.parts g.sums b c.loop-byte.invariant.1) in
    let rows' = c.match-step.rows in
    let count' = c.match-step.count in
    let on : State → Type 0 = λ x. Keeps x m.next rows' count' in (
      elim c.match-step.branch [
        | in-Some+then-is_last w ↦
            subst on (sym (run_next text i h))
            (elim w.if-count-lt64.branch [
              | then-count-lt64 u ↦ keeps_some st g rows count b m keep e w.in-Some.factor rows' count' w.in-Some.is (λ l. w.rows-is ∙ u.rows-is ∙ ap (λ (x : Row). set rows count x) u.enter.ensures) (λ l. absurd (omega arith)) true (sym w.if-is_last.true ∙ w.is_last.ensures) w.count-is
              | else-count-lt64 u ↦ keeps_some st g rows count b m keep e w.in-Some.factor rows' count' w.in-Some.is (λ l. absurd (omega arith)) (λ l. w.rows-is ∙ u.rows-is) true (sym w.if-is_last.true ∙ w.is_last.ensures) w.count-is
            ])
        | in-Some+else-is_last w ↦
            subst on (sym (run_next text i h))
            (elim w.if-count-lt64.branch [
              | then-count-lt64 u ↦ keeps_some st g rows count b m keep e w.in-Some.factor rows' count' w.in-Some.is (λ l. w.rows-is ∙ u.rows-is ∙ ap (λ (x : Row). set rows count x) u.enter.ensures) (λ l. absurd (omega arith)) false (sym w.if-is_last.false ∙ w.is_last.ensures) (omega (arith, w.count-is))
              | else-count-lt64 u ↦ keeps_some st g rows count b m keep e w.in-Some.factor rows' count' w.in-Some.is (λ l. absurd (omega arith)) (λ l. w.rows-is ∙ u.rows-is) false (sym w.if-is_last.false ∙ w.is_last.ensures) (omega (arith, w.count-is))
            ])
        | in_default w ↦
            subst on (sym (run_next text i h))
            (subst (λ (rs : List Row). Keeps (step st b) m.next rs count') (sym w.rows-is)
            (subst (λ (n : ℕ). Keeps (step st b) m.next rows n) (sym w.count-is) (keeps_none st g rows count b m keep e w.in_default.is)))
      ],
      good.ready,
      omega (arith, good.parts, c.loop-byte.invariant.2),
      omega (arith, good.sums, c.loop-byte.invariant.3),
      elim c.match-step.branch [ in-Some+then-is_last w ↦ omega (arith, w.count-is, c.loop-byte.invariant.4) | in-Some+else-is_last w ↦ omega (arith, w.count-is, c.loop-byte.invariant.4) | in_default w ↦ omega (arith, w.count-is, c.loop-byte.invariant.4) ],
    )
