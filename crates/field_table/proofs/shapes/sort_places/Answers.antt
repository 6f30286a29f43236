use Rattle.std.proofs.Common.{◌≡◌, map, rules}
use Rattle.std.specs.Ordering.{is_lt}
use Rattle.std.proofs.lemmas.Fn.{always_returns_same}
use Rattle.field_table.specs.Plain.{field_name}
use Rattle.field_table.proofs.Places.{named_less, less_orders, places_sorted}
use Rattle.field_table.proofs.shapes.sort_places.Goals as goal

pub returns : goal.returns
returns c held =
    let names = map field_name c.args.items.now in
    places_sorted names c.args.by_name.now c.sort_unstable_by.new.self held c.sort_unstable_by.ensures.permutation
    (c.sort_unstable_by.ensures.sorted (named_less names) (less_orders names) (always_returns_same _ (λ a r. is_lt r ≡ named_less names a.0.now a.1.0.now) _ (λ a r f k. search rules)))
