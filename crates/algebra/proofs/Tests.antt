-- Tests, which are true or false.
-- Assumes nothing.
use Rattle.std.proofs.Common.{◌≡◌, Bool, true, false, cond, T, refl}

pub bool_ext : (a b : Bool) → (T a → T b) → (T b → T a) → a ≡ b
bool_ext true true f g = refl
bool_ext true false f g = absurd (f tt)
bool_ext false true f g = absurd (g tt)
bool_ext false false f g = refl

-- what a test leads to
pub choose : {A : Type 0} (P : A → Type 0) (c : Bool) (x y : A) → (T c → P x) → P y → P (cond c x y)
choose P true x y h k = h tt
choose P false x y h k = k

pub skip : {A : Type 0} (c : Bool) (x y : A) → (T c → ⊥) → cond c x y ≡ y
skip true x y h = absurd (h tt)
skip false x y h = refl

pub took : {A : Type 0} (c : Bool) (x y : A) → T c → cond c x y ≡ x
took true x y h = refl
took false x y h = absurd h
