-- Bytes have one outcome.
-- Assumes nothing.
use Rattle.std.proofs.Common.{◌≡◌, ℕ, ◌<◌, ◌≤◌, cond, eqb, List, [], ◌∷◌, ◌++◌, length, get_or, drop, None, sym, refl, ap, ◌∙◌, subst, inl, inr, ⊎_elim, append_assoc, arith}
use Rattle.std.proofs.lemmas.Bool.{cases_order}
use Rattle.std.proofs.lemmas.Option.{none-some, same_Some}
use Rattle.trees.specs.declared.record.Gate.{Gate}
use Rattle.trees.specs.declared.record.Gate.TheVariants.{Or, And, Pand, Before}
use Rattle.trees.specs.declared.record.Record.{Record}
use Rattle.trees.specs.declared.record.Record.TheVariants.{Joins, Triggers}
use Rattle.trees.specs.declared.refusal.TreeRefusal.{TreeRefusal}
use Rattle.trees.specs.Refusals.{tree_code}
use Rattle.trees.specs.Records.{Written, full, short, Front}
use Rattle.trees.specs.Gates.{fault}
use Rattle.trees.specs.Means.{Spelt, none, more}
use Rattle.trees.specs.Reading.{Along, Stop, unread, faulty, left_over, no_source, granted, Ending, Outcome, Answer, refuses}

abbrev gate_of : ℕ → Gate
gate_of k = cond (eqb k 0) Or (cond (eqb k 1) And (cond (eqb k 2) Pand Before))

-- the record that bytes begin with, if they do with any
abbrev head : List ℕ → Record
head bs = cond (eqb (get_or bs 0 0) 6) (Joins Or (get_or bs 1 0) (get_or bs 2 0)) (cond (eqb (get_or bs 1 0) 4) (Triggers (get_or bs 2 0) (get_or bs 3 0)) (Joins (gate_of (get_or bs 1 0)) (get_or bs 2 0) (get_or bs 3 0)))

abbrev tail : List ℕ → List ℕ
tail bs = cond (eqb (get_or bs 0 0) 6) (drop 3 bs) (drop 4 bs)

Read : List ℕ → Record → List ℕ → Type 0
Read bs r rest = (head bs ≡ r) × (tail bs ≡ rest)

read_written : {r : Record} {w : List ℕ} → Written r w → (rest : List ℕ) → Read (w ++ rest) r rest
unfolding Read
read_written (full (Joins Or a b)) rest = (refl, refl)
read_written (full (Joins And a b)) rest = (refl, refl)
read_written (full (Joins Pand a b)) rest = (refl, refl)
read_written (full (Joins Before a b)) rest = (refl, refl)
read_written (full (Triggers t d)) rest = (refl, refl)
read_written (short a b) rest = (refl, refl)

front_read : (bs : List ℕ) (r : Record) (rest : List ℕ) → Front bs r rest → Read bs r rest
front_read bs r rest f = subst (λ (l : List ℕ). Read l r rest) (sym f.is) (read_written f.written rest)

-- bytes begin with one record at most
pub front_one : (bs : List ℕ) (r q : Record) (x y : List ℕ) → Front bs r x → Front bs q y → (r ≡ q) × (x ≡ y)
unfolding Read
front_one bs r q x y f g =
    let a = front_read bs r x f in
    let b = front_read bs q y g in
    (sym a.0 ∙ b.0, sym a.1 ∙ b.1)

-- bytes are those of one list of records at most
pub spelt_one : (bs : List ℕ) {rs qs : List Record} {ws vs : List ℕ} (x y : List ℕ) → length rs ≡ length qs → Spelt rs ws → Spelt qs vs → bs ≡ ws ++ x → bs ≡ vs ++ y → (rs ≡ qs) × (x ≡ y)
spelt_one bs x y l none none a b = (refl, sym a ∙ b)
spelt_one bs x y l none (more qs vs q u t k) a b = absurd (omega arith)
spelt_one bs x y l (more rs ws r w s h) none a b = absurd (omega arith)
spelt_one bs x y l (more rs ws r w s h) (more qs vs q u t k) a b =
    let before = spelt_one bs (w ++ x) (u ++ y) (omega arith) s t (a ∙ append_assoc ws w x) (b ∙ append_assoc vs u y) in
    let here = front_one (w ++ x) r q x y (record { bytes = w; written = h; is = refl }) (record { bytes = u; written = k; is = before.1 }) in
    ((λ z. here.0 z ∷ before.0 z), here.1)

-- the bytes of records that were read
pub spelt : (E : ℕ) (bs : List ℕ) (rs : List Record) (rest : List ℕ) → Along E bs rs rest → (ws : List ℕ) × (Spelt rs ws × (bs ≡ ws ++ rest))
spelt E bs [] rest a = ([], (none, a))
spelt E bs (r ∷ rs) rest a =
    let mid = a.1.0 in
    let f = a.1.1.1 in
    let p = spelt E bs rs mid a.1.1.0 in
    (p.0 ++ f.bytes, (more rs p.0 r f.bytes p.1.0 f.written, p.1.1 ∙ ap (λ (l : List ℕ). p.0 ++ l) f.is ∙ sym (append_assoc p.0 f.bytes rest)))

along_one : (E : ℕ) (bs : List ℕ) (rs qs : List Record) (x y : List ℕ) → length rs ≡ length qs → Along E bs rs x → Along E bs qs y → (rs ≡ qs) × (x ≡ y)
along_one E bs rs qs x y l a b =
    let p = spelt E bs rs x a in
    let q = spelt E bs qs y b in
    spelt_one bs x y l p.1.0 q.1.0 p.1.1 q.1.1

-- a longer way goes on from a shorter one
record Goes (E : ℕ) (rs : List Record) (rest : List ℕ) : Type 0 where
  next : Record
  after : List ℕ
  front : Front rest next after
  fine : fault E rs next ≡ None

goes_on : (E : ℕ) (bs : List ℕ) (rs qs : List Record) (x y : List ℕ) → length rs < length qs → Along E bs rs x → Along E bs qs y → Goes E rs x
goes_on E bs rs [] x y l a b = absurd (omega arith)
goes_on E bs rs (q ∷ qs) x y l a b =
    ⊎_elim
    (λ e.
    let same = along_one E bs rs qs x b.1.0 e a b.1.1.0 in
    record { next = q; after = y; front = subst (λ (m : List ℕ). Front m q y) (sym same.1) b.1.1.1; fine = ap (λ (z : List Record). fault E z q) same.0 ∙ b.0 })
    (λ o. ⊎_elim (λ h. goes_on E bs rs qs x b.1.0 h a b.1.1.0) (λ h. absurd (omega arith)) o)
    (cases_order (length rs) (length qs))

module _ (E n : ℕ) (rs : List Record) (rest : List ℕ) where
  within : {r : Answer} → Stop E n rs rest r → length rs ≤ n
  within (unread m u) = omega arith
  within (faulty m r after f e h) = omega arith
  within (left_over m z) = omega arith
  within (no_source m z g) = omega arith
  within (granted m z g) = omega arith

  halts : {r : Answer} → Stop E n rs rest r → length rs < n → Goes E rs rest → ⊥
  halts (unread m u) l g = u g.next g.after g.front
  halts (faulty m r after f e h) l g =
      let same = (front_one rest r g.next after g.after f g.front).0 in
      none-some e (sym (ap (λ (z : Record). fault E rs z) same ∙ g.fine) ∙ h)
  halts (left_over m z) l g = omega arith
  halts (no_source m z h) l g = omega arith
  halts (granted m z h) l g = omega arith

  stop_one : {r q : Answer} → Stop E n rs rest r → Stop E n rs rest q → r ≡ q
  stop_one (unread m u) (unread m' u') = refl
  stop_one (unread m u) (faulty m' r' x' f' e' h') = absurd (u r' x' f')
  stop_one (unread m u) (left_over m' z') = absurd (omega arith)
  stop_one (unread m u) (no_source m' z' g') = absurd (omega arith)
  stop_one (unread m u) (granted m' z' g') = absurd (omega arith)
  stop_one (faulty m r x f e h) (unread m' u') = absurd (u' r x f)
  stop_one (faulty m r x f e h) (faulty m' r' x' f' e' h') = ap (λ (z : TreeRefusal). refuses (tree_code z)) (same_Some e e' (sym h ∙ ap (λ (z : Record). fault E rs z) (front_one rest r r' x x' f f').0 ∙ h'))
  stop_one (faulty m r x f e h) (left_over m' z') = absurd (omega arith)
  stop_one (faulty m r x f e h) (no_source m' z' g') = absurd (omega arith)
  stop_one (faulty m r x f e h) (granted m' z' g') = absurd (omega arith)
  stop_one (left_over m z) (unread m' u') = absurd (omega arith)
  stop_one (left_over m z) (faulty m' r' x' f' e' h') = absurd (omega arith)
  stop_one (left_over m z) (left_over m' z') = refl
  stop_one (left_over m z) (no_source m' z' g') = absurd (z z')
  stop_one (left_over m z) (granted m' z' g') = absurd (z z')
  stop_one (no_source m z g) (unread m' u') = absurd (omega arith)
  stop_one (no_source m z g) (faulty m' r' x' f' e' h') = absurd (omega arith)
  stop_one (no_source m z g) (left_over m' z') = absurd (z' z)
  stop_one (no_source m z g) (no_source m' z' g') = refl
  stop_one (no_source m z g) (granted m' z' g') = absurd (g g')
  stop_one (granted m z g) (unread m' u') = absurd (omega arith)
  stop_one (granted m z g) (faulty m' r' x' f' e' h') = absurd (omega arith)
  stop_one (granted m z g) (left_over m' z') = absurd (z' z)
  stop_one (granted m z g) (no_source m' z' g') = absurd (g' g)
  stop_one (granted m z g) (granted m' z' g') = refl

ending_one : (E n : ℕ) (bs : List ℕ) (r q : Answer) → Ending E n bs r → Ending E n bs q → r ≡ q
ending_one E n bs r q a b =
    ⊎_elim
    (λ e.
    let same = along_one E bs a.records b.records a.rest b.rest e a.along b.along in
    stop_one E n a.records a.rest a.stop (subst (λ (x : List ℕ). Stop E n a.records x q) (sym same.1) (subst (λ (x : List Record). Stop E n x b.rest q) (sym same.0) b.stop)))
    (λ o. ⊎_elim
    (λ l. absurd (halts E n a.records a.rest a.stop (omega (arith, within E n b.records b.rest b.stop)) (goes_on E bs a.records b.records a.rest b.rest l a.along b.along)))
    (λ l. absurd (halts E n b.records b.rest b.stop (omega (arith, within E n a.records a.rest a.stop)) (goes_on E bs b.records a.records b.rest a.rest l b.along a.along))) o)
    (cases_order (length a.records) (length b.records))

pub one_outcome : (bs : List ℕ) (r q : Answer) → Outcome bs r → Outcome bs q → r ≡ q
one_outcome [] r q a b = a ∙ sym b
one_outcome (E ∷ []) r q a b = a ∙ sym b
one_outcome (E ∷ n ∷ body) r q (inl a) (inl b) = ending_one E n body r q a.1 b.1
one_outcome (E ∷ n ∷ body) r q (inl a) (inr b) = absurd (b.0 a.0)
one_outcome (E ∷ n ∷ body) r q (inr a) (inl b) = absurd (a.0 b.0)
one_outcome (E ∷ n ∷ body) r q (inr a) (inr b) = a.1 ∙ sym b.1
