-- What the conversions between bytes and operators, letters of rules, ways and tokens give.
-- Assumes nothing.
use Rattle.std.specs.Prelude.{◌≡◌, ℕ, Ok, Err, Result}
use Rattle.algebra.specs.Rules.{variable_byte}
use Rattle.algebra.specs.Texts.{event_token, operator_byte}
use Rattle.algebra.specs.declared.Operator.{Operator}
use Rattle.algebra.specs.declared.Token.{Token}
use Rattle.algebra.specs.declared.Variable.{Variable}
use Rattle.algebra.specs.declared.Way.{Way}
use Rattle.algebra.specs.declared.Way.TheVariants.{Forward, Backward}
use Rattle.algebra.specs.declared.conversions.NoVariable.{NoVariable}
use Rattle.algebra.specs.declared.conversions.NoWay.{NoWay}

abbrev pub OperatorByte : Operator → ℕ → Type 0
OperatorByte operator byte = byte ≡ operator_byte operator

abbrev pub VariableByte : Variable → ℕ → Type 0
VariableByte letter byte = byte ≡ variable_byte letter

-- the letter whose byte it is, or that it is the byte of none
abbrev pub VariableOfByte : ℕ → Result Variable NoVariable → Type 0
VariableOfByte byte (Ok letter) = byte ≡ variable_byte letter
VariableOfByte byte (Err none) = (letter : Variable) → byte ≡ variable_byte letter → ⊥

-- the byte of a way in a step record
abbrev pub way_byte : Way → ℕ
way_byte Forward = 0
way_byte Backward = 1

abbrev pub WayByte : Way → ℕ → Type 0
WayByte way byte = byte ≡ way_byte way

-- the way whose byte it is, or that it is the byte of none
abbrev pub WayOfByte : ℕ → Result Way NoWay → Type 0
WayOfByte byte (Ok way) = byte ≡ way_byte way
WayOfByte byte (Err none) = (way : Way) → byte ≡ way_byte way → ⊥

abbrev pub TokenOfByte : ℕ → Token ℕ → Type 0
TokenOfByte byte token = token ≡ event_token byte
