-- The numbers of the refusals.
-- Assumes nothing.
use Rattle.std.specs.Prelude.{◌≡◌, ℕ, refl}
use Rattle.std.proofs.Common.{arith}
use Rattle.sequences.specs.declared.refusals.CloseRefusal.{CloseRefusal}
use Rattle.sequences.specs.declared.refusals.CloseRefusal.TheVariants.{NoTree, NoSum, TooMany, ImpossibleSequence}
use Rattle.sequences.specs.declared.refusals.TableRefusal.{TableRefusal}
use Rattle.sequences.specs.declared.refusals.TableRefusal.TheVariants.{NoDating}
use Rattle.sequences.specs.declared.refusals.LineRefusal.{LineRefusal}
use Rattle.sequences.specs.declared.refusals.LineRefusal.TheVariants.{SmallBuffer, NoRow}

abbrev pub close_code : CloseRefusal → ℕ
close_code NoTree = 21
close_code NoSum = 22
close_code TooMany = 23
close_code ImpossibleSequence = 24

abbrev pub table_code : TableRefusal → ℕ
table_code NoDating = 52

abbrev pub line_code : LineRefusal → ℕ
line_code SmallBuffer = 54
line_code NoRow = 55

-- two refusals with one number are the same
pub close_codes_differ : (e f : CloseRefusal) → close_code e ≡ close_code f → e ≡ f
close_codes_differ NoTree NoTree h = refl
close_codes_differ NoTree NoSum h = absurd (omega arith)
close_codes_differ NoTree TooMany h = absurd (omega arith)
close_codes_differ NoTree ImpossibleSequence h = absurd (omega arith)
close_codes_differ NoSum NoTree h = absurd (omega arith)
close_codes_differ NoSum NoSum h = refl
close_codes_differ NoSum TooMany h = absurd (omega arith)
close_codes_differ NoSum ImpossibleSequence h = absurd (omega arith)
close_codes_differ TooMany NoTree h = absurd (omega arith)
close_codes_differ TooMany NoSum h = absurd (omega arith)
close_codes_differ TooMany TooMany h = refl
close_codes_differ TooMany ImpossibleSequence h = absurd (omega arith)
close_codes_differ ImpossibleSequence NoTree h = absurd (omega arith)
close_codes_differ ImpossibleSequence NoSum h = absurd (omega arith)
close_codes_differ ImpossibleSequence TooMany h = absurd (omega arith)
close_codes_differ ImpossibleSequence ImpossibleSequence h = refl

pub line_codes_differ : (e f : LineRefusal) → line_code e ≡ line_code f → e ≡ f
line_codes_differ SmallBuffer SmallBuffer h = refl
line_codes_differ SmallBuffer NoRow h = absurd (omega arith)
line_codes_differ NoRow SmallBuffer h = absurd (omega arith)
line_codes_differ NoRow NoRow h = refl

pub table_codes_differ : (e f : TableRefusal) → table_code e ≡ table_code f → e ≡ f
table_codes_differ NoDating NoDating h = refl
