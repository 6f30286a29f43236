-- The values of the code as plain values, and back.
use Rattle.std.specs.Prelude.{List, [], ◌∷◌, map}
use Rattle.std.specs.Option.{option_map}
use Rattle.bag_model.specs.declared.Pick.TheVariants as pick
use Rattle.bag_model.specs.Values as model
use Rattle.bag_model.specs.Joins.{join}
use Rattle.bag_model.specs.Scalars.{ScalarValue}
use Rattle.scalar_types.specs.KindCodec.{kind_from, scalar_of}
use Rattle.scalar_types.specs.KindViews.{kind_of}
use Rattle.scalar_types.specs.Scalars.{value_of}
use Rattle.bag_value.specs.declared.lists.Entry.{Entry}
use Rattle.bag_value.specs.declared.vals.Val.{Val}
use Rattle.bag_value.specs.declared.vals.Val.TheVariants.{Taint, Scalar, Greatest, Set, Counter, Map, Bag}

-- The plain value.
abbrev pub plain : Val → model.Value
plain (Taint on) = model.Value.Taint on
plain (Scalar value) = model.Value.Scalar pick.Least (option_map value_of value)
plain (Greatest value) = model.Value.Scalar pick.Greatest (option_map value_of value)
plain (Set set) = model.Value.Set (kind_of set.codec) (map value_of set.items)
plain (Counter counts) = model.Value.Counter counts
plain (Map entries) = model.Value.Map entries
plain (Bag values) = model.Value.Bag values

-- The value back from its plain value.
abbrev pub val_of : model.Value → Val
val_of (model.Value.Taint on) = Taint on
val_of (model.Value.Scalar pick.Least value) = Scalar (option_map scalar_of value)
val_of (model.Value.Scalar pick.Greatest value) = Greatest (option_map scalar_of value)
val_of (model.Value.Set kind values) =
    Set (record { codec = kind_from kind; items = map scalar_of values })
val_of (model.Value.Counter counts) = Counter counts
val_of (model.Value.Map entries) = Map entries
val_of (model.Value.Bag values) = Bag values

-- The join of two values.
abbrev pub val_joined : Val → Val → Val
val_joined v w = val_of (join (plain v) (plain w))

-- The plain values of a list.
abbrev pub plain_values : List Val → model.Values
plain_values [] = model.Values.no_value
plain_values (v ∷ vs) = model.Values.value (plain v) (plain_values vs)

-- The key of an entry and its value, as plain ones.
abbrev pub pair_of : Entry → ScalarValue × model.Value
pair_of e = (value_of e.key, plain e.value)

-- The plain entries of a list.
abbrev pub plain_entries : List Entry → model.Entries
plain_entries [] = model.Entries.no_entry
plain_entries (e ∷ es) = model.Entries.entry (value_of e.key) (plain e.value) (plain_entries es)
