-- Kinds and values back from the plain ones; a spelling belongs to one value of a kind.
use Rattle.std.specs.Prelude.{◌≡◌}
use Rattle.std.proofs.Common.{refl, sym, ap, ◌∙◌}
use Rattle.bag_model.specs.Scalars as model
use Rattle.bag_model.specs.Scalars.{IsScalarOf, spelling}
use Rattle.bag_model.proofs.SpellingOrder.{spelling-one}
use Rattle.scalar_types.specs.Codec.{OneValue}
use Rattle.scalar_types.specs.declared.kinds.ScalarKind.{ScalarKind}
use Rattle.scalar_types.specs.declared.kinds.ScalarKind.TheVariants as kinds
use Rattle.scalar_types.specs.declared.scalars.Scalar.{Scalar}
use Rattle.scalar_types.specs.declared.scalars.Scalar.TheVariants.{Bool as BoolScalar, Signed, Unsigned, Str, Bytes, Packed}
use Rattle.scalar_types.specs.KindViews.{kind_of}
use Rattle.scalar_types.specs.Scalars.{value_of}

-- The kind back from its plain kind.
abbrev pub kind_from : model.ScalarKind → ScalarKind
kind_from (model.ScalarKind.One word) = kinds.One word
kind_from (model.ScalarKind.Packed words) = kinds.Packed words

-- A kind of the code comes back from its plain kind.
pub kind_comes_back : (kind : ScalarKind) → kind_from (kind_of kind) ≡ kind
kind_comes_back (kinds.One word) = refl
kind_comes_back (kinds.Packed words) = refl

-- A plain kind comes back from the code's.
pub plain_kind_back : (kind : model.ScalarKind) → kind_of (kind_from kind) ≡ kind
plain_kind_back (model.ScalarKind.One word) = refl
plain_kind_back (model.ScalarKind.Packed words) = refl

-- The value back from its plain value.
abbrev pub scalar_of : model.ScalarValue → Scalar
scalar_of (model.ScalarValue.One (model.Plain.Truth b)) = BoolScalar b
scalar_of (model.ScalarValue.One (model.Plain.Signed z)) = Signed z
scalar_of (model.ScalarValue.One (model.Plain.Unsigned n)) = Unsigned n
scalar_of (model.ScalarValue.One (model.Plain.Text bytes)) = Str bytes
scalar_of (model.ScalarValue.One (model.Plain.Octets bytes)) = Bytes bytes
scalar_of (model.ScalarValue.Packed values) = Packed values

-- A value of the code comes back from its plain value.
pub scalar_comes_back : (v : Scalar) → scalar_of (value_of v) ≡ v
scalar_comes_back (BoolScalar b) = refl
scalar_comes_back (Signed z) = refl
scalar_comes_back (Unsigned n) = refl
scalar_comes_back (Str bytes) = refl
scalar_comes_back (Bytes bytes) = refl
scalar_comes_back (Packed values) = refl

-- A plain value comes back from the code's.
pub value_back : (x : model.ScalarValue) → value_of (scalar_of x) ≡ x
value_back (model.ScalarValue.One (model.Plain.Truth b)) = refl
value_back (model.ScalarValue.One (model.Plain.Signed z)) = refl
value_back (model.ScalarValue.One (model.Plain.Unsigned n)) = refl
value_back (model.ScalarValue.One (model.Plain.Text bytes)) = refl
value_back (model.ScalarValue.One (model.Plain.Octets bytes)) = refl
value_back (model.ScalarValue.Packed values) = refl

-- Values of a kind with the same spelling are one value.
pub kind_one : (kind : ScalarKind)
    → OneValue (λ v. IsScalarOf (kind_of kind) (value_of v))
    (λ v. spelling (kind_of kind) (value_of v))
kind_one kind v w p q e =
    sym (scalar_comes_back v) ∙ ap scalar_of
    (spelling-one (kind_of kind) (value_of v) (value_of w) p q e) ∙ scalar_comes_back w
