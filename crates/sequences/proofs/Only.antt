-- A closing, a date and a line have one answer only.
-- Assumes nothing.
use Rattle.std.proofs.Common.{◌≡◌, ℕ, List, length, Result, sym, refl, ◌∙◌}
use Rattle.algebra.specs.Kinds.{Kind}
use Rattle.algebra.specs.Terms.{dating_of}
use Rattle.algebra.proofs.Refusals.{one_answer}
use Rattle.sequences.specs.Closing.{CloseAsks, Closed}
use Rattle.sequences.specs.Codes.{close_code, close_codes_differ, line_code, line_codes_differ, table_code, table_codes_differ}
use Rattle.sequences.specs.Dates.{table_date}
use Rattle.sequences.specs.Tables.{DateAsks, LineAnswered, LineAsks, Lined, TableDated}
use Rattle.sequences.specs.declared.row.Row.{Row}
use Rattle.sequences.specs.declared.refusals.CloseRefusal.{CloseRefusal}
use Rattle.sequences.specs.declared.refusals.LineRefusal.{LineRefusal}
use Rattle.sequences.specs.declared.refusals.TableRefusal.{TableRefusal}

pub one_closing : (bs : List ℕ) (P : Unit {0} → Type 0) (r s : Result (Unit {0}) CloseRefusal) → Closed bs P r → Closed bs P s → s ≡ r
one_closing bs P r s a b = one_answer close_code (CloseAsks bs) P close_codes_differ (λ all x y p q. refl) s r b a

pub one_line : (rs : List Row) (row : ℕ) (old new : List ℕ) (r s : Result ℕ LineRefusal) → LineAnswered rs row old new r → LineAnswered rs row old new s → s ≡ r
one_line rs row old new r s a b =
    one_answer line_code (LineAsks rs row (length old)) (Lined rs row old new) line_codes_differ (λ all x y p q. p.long ∙ sym q.long) s r b a

pub one_date : {D : Type 0} (K : Kind D) (ds : List D) (rs : List Row) (r s : Result D TableRefusal) → TableDated K ds rs r → TableDated K ds rs s → s ≡ r
one_date K ds rs r s a b =
    one_answer table_code (DateAsks ds) (λ p. p ≡ table_date K (dating_of K ds) rs) table_codes_differ (λ all x y p q. p ∙ sym q) s r b a
