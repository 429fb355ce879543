-- A term that stands in a text is a text itself.
-- Assumes nothing.
use Rattle.std.proofs.Common.{◌≡◌, true, is_ok, Ok, Err, Result, refl, ℕ, ◌+◌, ◌-◌, ◌<◌, ◌≤◌, List, length, take, drop, All, ap, subst, arith}
use Rattle.std.proofs.lemmas.List.Elements.{All-take, All-drop}
use Rattle.algebra.specs.Kinds.{Kind}
use Rattle.algebra.specs.Terms.{Term}
use Rattle.algebra.specs.Texts.{IsText}
use Rattle.texts.specs.Evaluation.{Evaluated}
use Rattle.texts.specs.declared.evaluation.EvaluationRefusal.{EvaluationRefusal}
use Rattle.texts.specs.declared.evaluation.EvaluationRefusal.TheVariants.{NoText, NoDating, SmallWork}
use Rattle.texts.specs.Spans.{Spans}
use Rattle.texts.proofs.Letters.{below_among, whole_below}
use Rattle.texts.proofs.Rows.{spans_part}

module _ (text : List ℕ) (place : ℕ) (t : Term ℕ) (end : ℕ) (s : Spans text place t end) where
  pub part_text : IsText text → IsText (take (end - place) (drop place text))
  part_text w =
      let part = take (end - place) (drop place text) in
      let low : All (λ b. b < 97 + 24) part =
      All-take (λ b. b < 97 + 24) (end - place) (drop place text) (All-drop (λ b. b < 97 + 24) place text (whole_below 24 text w.whole)) in
      record {
        whole = record { term = t; written = spans_part text place t end s; letters = below_among 24 t (subst (λ (x : List ℕ). All (λ b. b < 97 + 24) x) (spans_part text place t end s) low) };
        short = omega (arith, ap length (spans_part text place t end s), s.counted, s.within, w.short);
      }

-- an evaluation is answered with a date where it has all that it asks for
pub dated : {D : Type 0} (K : Kind D) (text : List ℕ) (ds : List D) (room : ℕ) (r : Result D EvaluationRefusal) → IsText text → length ds ≡ 24 → 256 ≤ room → Evaluated K text ds room r → is_ok r ≡ true
dated K text ds room (Ok p) w e wide a = refl
dated K text ds room (Err NoText) w e wide a = absurd (a.fails w)
dated K text ds room (Err NoDating) w e wide a = absurd (a.fails e)
dated K text ds room (Err SmallWork) w e wide a = absurd (a.fails wide)
