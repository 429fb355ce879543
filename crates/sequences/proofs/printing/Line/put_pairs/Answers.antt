use Rattle.std.proofs.Common.{◌≡◌, ℕ, ◌+◌, Bool, List, length, sym, ap, ◌∙◌, arith}
use Rattle.sequences.specs.declared.row.Factor.TheVariants.{Pair}
use Rattle.sequences.specs.Lines.{grown, stands}
use Rattle.sequences.proofs.Spelt.{paired_none, paired_next, paired_longer, sifted_none, sifted_put, sifted_pass, sifted_longer, with_sifted}
use Rattle.sequences.proofs.printing.Line.put_pairs.Goals as goal
use Rattle.sequences.proofs.printing.Line.put_pairs.Goals.{then-printed, else-printed}

pub loop-v-init : goal.loop-v-init
loop-v-init c = paired_none c.args.self.now (Pair c.args.sign) (λ v w. stands c.args.sign c.args.row.now v w)

pub loop-w-init : goal.loop-w-init
loop-w-init c = sifted_none c.loop-v.self (Pair c.args.sign c.loop-v.v) (λ w. stands c.args.sign c.args.row.now c.loop-v.v w)

pub put-requires-clause-room : goal.put-requires-clause-room
put-requires-clause-room c =
    let acc = c.args.self.now in
    let mk = Pair c.args.sign in
    let p : ℕ → ℕ → Bool = λ v w. stands c.args.sign c.args.row.now v w in
    let v = c.loop-v.v in
    let w = c.loop-w.w in
    let e = sifted_put c.loop-v.self (mk v) (p v) w (sym c.if-printed.ensures) in
    omega (arith, ap (λ (l : List ℕ). length (grown l (mk v w))) c.loop-w.invariant, ap (length {A = ℕ}) e, sifted_longer c.loop-v.self (mk v) (p v) (w + 1) 24 (omega arith), ap (λ (l : List ℕ). length (with_sifted l (mk v) (p v) 24)) c.loop-v.invariant, ap (length {A = ℕ}) (paired_next acc mk p v), paired_longer acc mk p (v + 1) 24 (omega arith))

pub loop-w-preserved : goal.loop-w-preserved
loop-w-preserved c =
    let acc = c.loop-v.self in
    let mk = Pair c.args.sign c.loop-v.v in
    let p : ℕ → Bool = λ w. stands c.args.sign c.args.row.now c.loop-v.v w in
    let w = c.loop-w.w in
    elim c.if-printed.branch [
      | then-printed u ↦ u.self-is ∙ u.put.ensures ∙ ap (λ (l : List ℕ). grown l (mk w)) c.loop-w.invariant ∙ sym (sifted_put acc mk p w (sym u.if-printed.ensures))
      | else-printed u ↦ u.self-is ∙ c.loop-w.invariant ∙ sym (sifted_pass acc mk p w (sym u.if-printed.ensures))
    ]

pub loop-v-preserved : goal.loop-v-preserved
loop-v-preserved c =
    let acc = c.args.self.now in
    let mk = Pair c.args.sign in
    let p : ℕ → ℕ → Bool = λ v w. stands c.args.sign c.args.row.now v w in
    let v = c.loop-v.v in
    let e : c.loop-w.w ≡ 24 = omega arith in
    c.loop-w.invariant
    ∙ ap (with_sifted c.loop-v.self (mk v) (p v)) e
    ∙ ap (λ (l : List ℕ). with_sifted l (mk v) (p v) 24) c.loop-v.invariant
    ∙ sym (paired_next acc mk p v)
