-- Files of step records: one step more, and one list only.
-- Assumes nothing.
use Rattle.std.proofs.Common.{◌≡◌, ℕ, ◌+◌, ◌*◌, ◌<◌, ◌≤◌, Bool, true, false, List, [], ◌∷◌, ◌++◌, length, sym, refl, ap, ◌∙◌, subst, append_assoc, arith, length-append}
use Rattle.steps.specs.Files.{Begins}
use Rattle.steps.specs.Records.{Request, Field, the_rule, the_way, the_place, the_term, Written, Next, Fields, Says, bits, blank, bit_stands}
use Rattle.steps.proofs.Fields.{says_one}
use Rattle.steps.proofs.Running.{one_record}
use Rattle.assembly.specs.StepFiles.{StepFile, ended, more, OneList}

-- A RECORD IS SHORT

written_length : (f : Field) (bs rest : List ℕ) → Written f bs rest → length bs ≤ 256 + length rest
written_length (the_rule n) bs rest w = omega (arith, ap length w)
written_length (the_way y) bs rest w = omega (arith, ap length w)
written_length (the_place p) bs rest w = omega (arith, ap length w.2)
written_length (the_term v t) bs rest w = omega (arith, ap length w.2, length-append t rest, w.1)

next_length : (stands : Bool) (bit : ℕ) (q r : Request) (bs rest : List ℕ) → Next stands bit q bs r rest → length bs ≤ 256 + length rest
next_length true bit q r bs rest n = written_length n.0 bs rest n.1.1
next_length false bit q r bs rest n = omega (arith, ap length n.1)

fields_length : (map : ℕ) (each : List ℕ) (q : Request) (bs : List ℕ) (r : Request) → Fields map each q bs r → length bs ≤ 256 * length each
fields_length map [] q bs r f = omega (arith, ap length f.0)
fields_length map (bit ∷ each) q bs r f = omega (arith, next_length (bit_stands map bit) bit q f.0 bs f.1 f.2, fields_length map each f.0 f.1 r f.3)

pub says_short : (events : ℕ) (bs : List ℕ) (q : Request) → Says events bs q → length bs < 65536
says_short events bs q s = omega (arith, ap length s.begins, fields_length s.map bits blank s.fields q s.said)

-- FILES

pub one_filed : (events : ℕ) (q : Request) (file bs : List ℕ) → Begins file bs [] → Says events bs q → StepFile events (q ∷ []) file
one_filed events q file bs b s = more q [] file bs [] b s ended

begins_on : (file bs rest w : List ℕ) → Begins file bs rest → Begins (file ++ w) bs (rest ++ w)
begins_on file bs rest w b = record {
  high = b.high;
  low = b.low;
  bytes = ap (λ (x : List ℕ). x ++ w) b.bytes ∙ ap (λ (x : List ℕ). b.high ∷ (b.low ∷ x)) (append_assoc bs rest w);
  size = b.size;
}

-- one file after another
pub filed_on : {events : ℕ} {qs : List Request} {file : List ℕ} → StepFile events qs file → (ps : List Request) (w : List ℕ) → StepFile events ps w → StepFile events (qs ++ ps) (file ++ w)
filed_on ended ps w f = f
filed_on (more q qs file bs rest b s g) ps w f = more q (qs ++ ps) (file ++ w) bs (rest ++ w) (begins_on file bs rest w b) s (filed_on g ps w f)

no_bytes : (bs rest : List ℕ) → Begins [] bs rest → ⊥
no_bytes bs rest b = omega (arith, ap length b.bytes)

one_list_of : {events : ℕ} {ps qs : List Request} {file file' : List ℕ} → StepFile events ps file → StepFile events qs file' → file ≡ file' → ps ≡ qs
one_list_of ended ended e = refl
one_list_of ended (more q qs file bs rest b s f) e = absurd (no_bytes bs rest (subst (λ (x : List ℕ). Begins x bs rest) (sym e) b))
one_list_of (more q qs file bs rest b s f) ended e = absurd (no_bytes bs rest (subst (λ (x : List ℕ). Begins x bs rest) e b))
one_list_of {events = events} (more p ps file bs rest b s f) (more q qs file' cs after d t g) e =
    let same = one_record file bs rest cs after b (subst (λ (x : List ℕ). Begins x cs after) (sym e) d) in
    let head = says_one events bs p q s (subst (λ (x : List ℕ). Says events x q) (sym same.0) t) in
    let tail = one_list_of f g same.1 in
    (λ i. head i ∷ tail i)

pub one_list : (events : ℕ) (file : List ℕ) → OneList events file
one_list events file ps qs f g = one_list_of f g refl
