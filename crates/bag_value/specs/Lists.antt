-- What is inside a list of values is smaller than the list.
use Rattle.std.specs.Prelude.{List, [], ◌∷◌, ◌≤◌, max}
use Rattle.std.proofs.Common.{arith}
use denote.Param.Weighed.{most}
use Rattle.bag_model.specs.Values.{value_count, value_count_of_entries, value_count_of_values}
use Rattle.bag_value.specs.declared.lists.Entry.{Entry}
use Rattle.bag_value.specs.declared.vals.Val.{Val}
use Rattle.bag_value.specs.declared.vals.Val.TheVariants.{Taint, Scalar, Greatest, Set, Counter, Map, Bag}
use Rattle.bag_value.specs.Vals.{plain, plain_values, plain_entries}
use Rattle.bag_value.specs.declared.lists.Entries.TheDeep.{deep-Val, deep-Entry}

-- A value is no deeper than there are values in it.
val_falls : (v : Val) → deep-Val v ≤ value_count (plain v)
val_falls (Taint on) = omega arith
val_falls (Scalar value) = omega arith
val_falls (Greatest value) = omega arith
val_falls (Set set) = omega arith
val_falls (Counter counts) = omega arith
val_falls (Map entries) = omega arith
val_falls (Bag values) = omega arith

-- The values of a bag are no deeper than there are values in them.
pub values_fall : (vs : List Val) → most deep-Val vs ≤ value_count_of_values (plain_values vs)
values_fall [] = omega arith
values_fall (v ∷ vs) = omega (arith, val_falls v, values_fall vs)

-- The entry of a map is no deeper than there are values in it.
entry_falls : (e : Entry) → deep-Entry e ≤ value_count (plain e.value)
entry_falls e =
    let larger : max (deep-Val e.value) 0
    ≤ value_count (plain e.value) = omega (arith, val_falls e.value) in larger

-- The entries of a map are no deeper than there are values in them.
pub entries_fall : (es : List Entry)
    → most deep-Entry es ≤ value_count_of_entries (plain_entries es)
entries_fall [] = omega arith
entries_fall (e ∷ es) = omega (arith, entry_falls e, entries_fall es)
