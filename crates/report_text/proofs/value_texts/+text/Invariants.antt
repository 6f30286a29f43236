use Rattle.std.proofs.Common.{◌≡◌, ◌+◌, ◌*◌, ◌++◌, codes}
use Rattle.bag_model.specs.Values.{value_count, value_count_of_entries, value_count_of_values}
use Rattle.field_table.specs.Plain.{shape_of, nodes_of}
use Rattle.bag_value.specs.Vals.{plain}
use Rattle.text_model.specs.ValueTexts.{entry_texts, field_texts}
use Rattle.report_text.proofs.Joined.{first_joined}
use Rattle.report_text.proofs.value_texts.+text.Given as goal

abbrev pub decreases-put_value : goal.decreases-put_value
decreases-put_value l = 2 * value_count (plain l.value.now)

abbrev pub decreases-put_map : goal.decreases-put_map
decreases-put_map l = 2 * value_count_of_entries l.entries.now + 1

abbrev pub decreases-put_bag : goal.decreases-put_bag
decreases-put_bag l = 2 * value_count_of_values l.values.now + 1

abbrev pub invariant-put_map-loop-at : goal.invariant-put_map-loop-at
invariant-put_map-loop-at l = l.into.items ≡ (l.fn.into.items ++ codes "{") ++ first_joined l.at (entry_texts (shape_of l.shape) l.entries)

abbrev pub invariant-put_bag-loop-at : goal.invariant-put_bag-loop-at
invariant-put_bag-loop-at l = l.into.items ≡ (l.fn.into.items ++ codes "[") ++ first_joined l.at (field_texts (nodes_of l.fields) l.values)
