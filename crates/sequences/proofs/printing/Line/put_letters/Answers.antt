use Rattle.std.proofs.Common.{ℕ, ◌+◌, Bool, List, length, sym, ap, ◌∙◌, arith}
use Rattle.sequences.specs.Lines.{grown}
use Rattle.sequences.specs.Rows.{listed}
use Rattle.sequences.specs.declared.row.Factor.TheVariants.{Letter}
use Rattle.sequences.proofs.Spelt.{sifted_none, sifted_put, sifted_pass, sifted_longer}
use Rattle.sequences.proofs.printing.Line.put_letters.Goals as goal
use Rattle.sequences.proofs.printing.Line.put_letters.Goals.{then-member, else-member}

pub loop-v-init : goal.loop-v-init
loop-v-init c = sifted_none c.args.self.now Letter (λ v. listed c.args.row.now v)

pub put-requires-clause-room : goal.put-requires-clause-room
put-requires-clause-room c =
    let p : ℕ → Bool = λ v. listed c.args.row.now v in
    let v = c.loop-v.v in
    let e = sifted_put c.args.self.now Letter p v (sym c.if-member.ensures) in
    omega (arith, ap (λ (acc : List ℕ). length (grown acc (Letter v))) c.loop-v.invariant, ap (length {A = ℕ}) e, sifted_longer c.args.self.now Letter p (v + 1) 24 (omega arith))

pub loop-v-preserved : goal.loop-v-preserved
loop-v-preserved c =
    let acc = c.args.self.now in
    let p : ℕ → Bool = λ v. listed c.args.row.now v in
    let v = c.loop-v.v in
    elim c.if-member.branch [
      | then-member w ↦ w.self-is ∙ w.put.ensures ∙ ap (λ (l : List ℕ). grown l (Letter v)) c.loop-v.invariant ∙ sym (sifted_put acc Letter p v (sym w.if-member.ensures))
      | else-member w ↦ w.self-is ∙ c.loop-v.invariant ∙ sym (sifted_pass acc Letter p v (sym w.if-member.ensures))
    ]
