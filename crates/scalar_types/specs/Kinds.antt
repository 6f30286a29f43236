-- The words of a list, its own or shared.
use Rattle.std.specs.Prelude.{List}
use Rattle.std.specs.Arc.{arc_value}
use Rattle.bag_model.specs.Scalars.{Word}
use Rattle.scalar_types.specs.declared.kinds.HeldWords.{HeldWords}
use Rattle.scalar_types.specs.declared.kinds.HeldWords.TheVariants.{Own, Shared}

-- The words in order.
abbrev pub words_in : HeldWords → List Word
words_in (Own words) = words.items
words_in (Shared words) = (arc_value words).items
