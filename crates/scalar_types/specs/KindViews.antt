-- The kinds of the code as plain kinds.
use Rattle.bag_model.specs.Scalars as model
use Rattle.scalar_types.specs.declared.kinds.ScalarKind.{ScalarKind}
use Rattle.scalar_types.specs.declared.kinds.ScalarKind.TheVariants.{One, Packed}

-- The plain kind.
abbrev pub kind_of : ScalarKind → model.ScalarKind
kind_of (One word) = model.ScalarKind.One word
kind_of (Packed words) = model.ScalarKind.Packed words
