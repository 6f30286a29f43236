-- A list of values that are no structs' holds no list of values.
use Rattle.std.specs.Prelude.{◌≡◌, List, [], ◌∷◌, All, ◌≤◌}
use Rattle.std.proofs.Common.{arith, refl}
use Rattle.std.proofs.lemmas.List.Elements.{All-head, All-tail}
use denote.Param.Weighed.{most}
use Rattle.scalar_types.specs.declared.scalars.Scalar.{Scalar}
use Rattle.scalar_types.specs.declared.scalars.Scalar.TheVariants.{Packed}
use Rattle.scalar_types.specs.declared.scalars.ScalarList.TheDeep.{deep-Scalar}
use Rattle.scalar_types.specs.Scalars.{IsPlain}

-- A value that is no struct's has no value inside it.
plain_falls : (scalar : Scalar) → IsPlain scalar → deep-Scalar scalar ≡ 0
plain_falls (Packed values) h = absurd h
plain_falls scalar h = refl

-- Values that are no structs' have no value inside them.
pub scalars_fall : (scalars : List Scalar) → All IsPlain scalars → most deep-Scalar scalars ≤ 0
scalars_fall [] h = omega arith
scalars_fall (scalar ∷ scalars) h =
    omega (
      arith,
      plain_falls scalar (All-head IsPlain scalar scalars h),
      scalars_fall scalars
          (All-tail IsPlain scalar scalars h),
    )
