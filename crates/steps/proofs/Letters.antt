-- What holds of each of the three letters.
-- Assumes nothing.
use Rattle.std.proofs.Common.{◌≡◌, ℕ, Bool, true, false, List, Some, Bor, Decides, refl, arith, ◌≢◌}
use Rattle.std.specs.Bool.{MatchBool}
use Rattle.algebra.specs.declared.Variable.{Variable}
use Rattle.algebra.specs.declared.Variable.TheVariants.{X, Y, Z}
use Rattle.steps.specs.Readings.{bytes_of, request_of}
use Rattle.steps.specs.Records.{put, supplied_for, the_term}
use Rattle.steps.specs.Sides.{slot}
use Rattle.steps.specs.declared.binding.Binding.{Binding}
use Rattle.steps.specs.declared.record.StepRecord.{StepRecord}

xy : X ≢ Y
xy e = let z : ◌≡◌ {A = ℕ} 0 1 = cc in omega arith

xz : X ≢ Z
xz e = let z : ◌≡◌ {A = ℕ} 0 1 = cc in omega arith

yx : Y ≢ X
yx e = let z : ◌≡◌ {A = ℕ} 0 1 = cc in omega arith

yz : Y ≢ Z
yz e = let z : ◌≡◌ {A = ℕ} 0 1 = cc in omega arith

zx : Z ≢ X
zx e = let z : ◌≡◌ {A = ℕ} 0 1 = cc in omega arith

zy : Z ≢ Y
zy e = let z : ◌≡◌ {A = ℕ} 0 1 = cc in omega arith

-- a term is put into a request by binding its letter
pub put_term : (s : StepRecord) (b : Binding) (v : Variable) (t : Bor (List ℕ)) → slot b v ≡ Some t → ((u : Variable) → (u ≢ v) → slot b u ≡ slot s.supplied u) → request_of (record { rule = s.rule; way = s.way; place = s.place; supplied = b }) ≡ put (the_term v t.now) (request_of s)
put_term s b X t here other = λ k. record { rule = s.rule; way = s.way; place = s.place; x = bytes_of (here k); y = bytes_of (other Y yx k); z = bytes_of (other Z zx k) }
put_term s b Y t here other = λ k. record { rule = s.rule; way = s.way; place = s.place; x = bytes_of (other X xy k); y = bytes_of (here k); z = bytes_of (other Z zy k) }
put_term s b Z t here other = λ k. record { rule = s.rule; way = s.way; place = s.place; x = bytes_of (other X xz k); y = bytes_of (other Y yz k); z = bytes_of (here k) }

pub not_true : false ≡ true → ⊥
not_true e = let z : ◌≡◌ {A = ℕ} 0 1 = cc in omega arith

-- a test of each letter, by what the test says of one
pub decides_all : (P Q R : Variable → Type 0) (r : Bool) → MatchBool r ((v : Variable) → Q v) ((v : Variable) × R v) → ((v : Variable) → Q v → P v) → ((v : Variable) → R v → P v → ⊥) → Decides r ((v : Variable) → P v)
decides_all P Q R true all is not = (λ e v. is v (all v), λ h. refl)
decides_all P Q R false one is not = (λ e. absurd (not_true e), λ h. absurd (not one.0 one.1 (h one.0)))

-- what a record says of a letter is what the letter is bound to
pub supplied_is : (s : StepRecord) (v : Variable) → supplied_for (request_of s) v ≡ bytes_of (slot s.supplied v)
supplied_is s X = refl
supplied_is s Y = refl
supplied_is s Z = refl
