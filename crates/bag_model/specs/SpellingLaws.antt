-- What the spellings of scalars promise.
use Rattle.std.specs.Prelude.{◌≡◌, ℕ, List, ◌++◌}
use Rattle.std.specs.Ordering.{nat_cmp}
use Rattle.std.specs.Cmp.Lexicographic.{slice_cmp}
use Rattle.bag_model.specs.Scalars.{Word, spelling_form_of, ScalarKind, Plain, ScalarValue, IsPlainOf, IsScalarOf, scalar_cmp, field_spelling, spelling}

-- The bytes of two values of one kind have the order of the values, each value has its own bytes,
-- and within a struct no field's bytes begin those of another value.
pub record SpellingsKeepOrder : Type 0 where
  pub order : (kind : ScalarKind) (v w : ScalarValue) → IsScalarOf kind v → IsScalarOf kind w
      → slice_cmp nat_cmp (spelling kind v) (spelling kind w) ≡ scalar_cmp v w
  pub one_value : (kind : ScalarKind) (v w : ScalarValue) → IsScalarOf kind v → IsScalarOf kind w
      → spelling kind v ≡ spelling kind w → v ≡ w
  pub fields_apart : (word : Word) (v w : Plain) (s t : List ℕ) → IsPlainOf word v
      → IsPlainOf word w → field_spelling (spelling_form_of word) v ++ s
      ≡ field_spelling (spelling_form_of word) w ++ t → v ≡ w
