-- The record at the front of some bytes.
-- Assumes nothing.
use Rattle.std.proofs.Common.{◌≡◌, ℕ, ◌-◌, ◌<◌, List, [], ◌∷◌, ◌++◌, length, get_or, take, drop, sym, ap, ◌∙◌, arith}
use Rattle.std.proofs.lemmas.List.{take_rest}
use Rattle.trees.specs.declared.record.Gate.TheVariants.{Or}
use Rattle.trees.specs.declared.record.Kind.{Kind}
use Rattle.trees.specs.declared.record.Record.TheVariants.{Joins}
use Rattle.trees.specs.Records.{fields, kind_byte, record_of, full, short, Front}
use Rattle.trees.proofs.Parts.{fields-record_of}

pub front_short : (bs : List ℕ) → 2 < length bs → get_or bs 0 0 ≡ 6 → Front bs (Joins Or (get_or bs 1 0) (get_or bs 2 0)) (take (length bs - 3) (drop 3 bs))
front_short [] h e = absurd (omega arith)
front_short (m ∷ []) h e = absurd (omega arith)
front_short (m ∷ a ∷ []) h e = absurd (omega arith)
front_short (m ∷ a ∷ b ∷ bs) h e = record {
  bytes = 6 ∷ a ∷ b ∷ [];
  written = short a b;
  is = λ k. e k ∷ a ∷ b ∷ sym (take_rest (m ∷ a ∷ b ∷ bs) 3) k;
}

pub front_full : (bs : List ℕ) (kind : Kind) → 3 < length bs → get_or bs 0 0 ≡ 7 → kind_byte kind ≡ get_or bs 1 0 → Front bs (record_of kind (get_or bs 2 0) (get_or bs 3 0)) (take (length bs - 4) (drop 4 bs))
front_full [] kind h e f = absurd (omega arith)
front_full (m ∷ []) kind h e f = absurd (omega arith)
front_full (m ∷ a ∷ []) kind h e f = absurd (omega arith)
front_full (m ∷ a ∷ b ∷ []) kind h e f = absurd (omega arith)
front_full (m ∷ a ∷ b ∷ d ∷ bs) kind h e f =
    let r = record_of kind b d in
    let same = fields-record_of kind b d ∙ ap (λ x. x ∷ b ∷ d ∷ []) f in
    record {
      bytes = 7 ∷ fields r;
      written = full r;
      is = λ k. e k ∷ (sym same k ++ sym (take_rest (m ∷ a ∷ b ∷ d ∷ bs) 4) k);
    }
