-- The reserved words as the code has them.
use Rattle.std.specs.Prelude.{Option, None, Some, List, map}
use Rattle.bag_model.specs.Words as model
use Rattle.bdl_parser.specs.declared.words.Reserved.{Reserved}
use Rattle.bdl_parser.specs.declared.words.Reserved.TheVariants.{Import, Bag, Struct, Set, Greatest, Map, Counter, Taint, Float, Double, Scalar}
use Rattle.bdl_parser.specs.Trees.{Leaf, scalar, float, double, taint, counter}

-- A reserved word of the model, as the code has it.
abbrev pub in_code : model.Reserved → Reserved
in_code model.Reserved.Import = Import
in_code model.Reserved.Bag = Bag
in_code model.Reserved.Struct = Struct
in_code model.Reserved.Set = Set
in_code model.Reserved.Greatest = Greatest
in_code model.Reserved.Map = Map
in_code model.Reserved.Counter = Counter
in_code model.Reserved.Taint = Taint
in_code model.Reserved.Float = Float
in_code model.Reserved.Double = Double
in_code (model.Reserved.ScalarWord word) = Scalar word

-- The reserved words of scalars, each once.
abbrev pub reserved_scalars : List model.Reserved
reserved_scalars = map model.Reserved.ScalarWord model.scalar_words

-- The type that a reserved word is by itself, if it is one.
abbrev pub leaf_in_code : Reserved → Option Leaf
leaf_in_code (Scalar word) = Some (scalar word)
leaf_in_code Float = Some float
leaf_in_code Double = Some double
leaf_in_code Taint = Some taint
leaf_in_code Counter = Some counter
leaf_in_code _ = None
