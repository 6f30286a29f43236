-- The values of the code as plain values.
use Rattle.std.specs.Prelude.{[]}
use Rattle.bag_model.specs.Scalars as model
use Rattle.bag_model.specs.Scalars.{Plain, Truth, Octets, Text}
use Rattle.scalar_types.specs.declared.scalars.Scalar.{Scalar}
use Rattle.scalar_types.specs.declared.scalars.Scalar.TheVariants.{Bool, Signed, Unsigned, Str, Bytes, Packed}

-- The value is no struct's.
abbrev pub IsPlain : Scalar → Type 0
IsPlain (Packed values) = ⊥
IsPlain _ = Unit {0}

-- The plain value; of a struct, which has none, any.
abbrev pub plain_of : Scalar → Plain
plain_of (Bool b) = Truth b
plain_of (Signed z) = model.Plain.Signed z
plain_of (Unsigned n) = model.Plain.Unsigned n
plain_of (Str bytes) = Text bytes
plain_of (Bytes bytes) = Octets bytes
plain_of (Packed values) = Octets []

-- The plain value of any kind.
abbrev pub value_of : Scalar → model.ScalarValue
value_of (Packed values) = model.ScalarValue.Packed values
value_of scalar = model.ScalarValue.One (plain_of scalar)
