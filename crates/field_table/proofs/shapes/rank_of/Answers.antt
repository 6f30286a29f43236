use Rattle.std.proofs.Common.{rules, of_calls, map}
use Rattle.std.proofs.lemmas.Fn.{always_returns_same}
use Rattle.field_table.specs.Plain.{field_name}
use Rattle.field_table.proofs.Ranks.{comes_before, lesser_first, rank_there}
use Rattle.field_table.proofs.shapes.rank_of.Goals as goal

pub returns-clause-rank : goal.returns-clause-rank
returns-clause-rank c order =
    let names = map field_name c.args.items.now in
    let places = c.args.by_name.now in
    rank_there names places c.args.name.now c.partition_point.result c.partition_point.ensures.bound
    (c.partition_point.ensures.partitioned (comes_before names c.args.name.now) (always_returns_same _ _ _ (λ a r f k. search (rules, of_calls))) (lesser_first names places c.args.name.now order))
