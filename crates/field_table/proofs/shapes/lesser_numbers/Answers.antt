use Rattle.std.proofs.Common.{rules, of_calls}
use Rattle.std.proofs.Math.Dec.{ltb}
use Rattle.std.proofs.lemmas.Bool.{ltb-true, ltb-false}
use Rattle.std.proofs.lemmas.List.Sorted.{IsPartitionPoint-from_clause, IsPartitionedBy-ltb}
use Rattle.field_table.specs.Plain.{field_number}
use Rattle.field_table.proofs.shapes.lesser_numbers.Goals as goal

pub returns-clause-point : goal.returns-clause-point
returns-clause-point c rise =
    let items = c.args.items.now in
    let number = c.args.number in
    let point =
    IsPartitionPoint-from_clause (λ item. ltb (field_number item) number) items c.partition_point.result c.partition_point.ensures.partitioned
    (IsPartitionedBy-ltb field_number items number rise) (λ a r f k. search (rules, of_calls))
    in (
      λ k d above below. ltb-true _ _ (point.0 k d above below),
      λ k d above within. ltb-false _ _ (point.1 k d above within),
    )
