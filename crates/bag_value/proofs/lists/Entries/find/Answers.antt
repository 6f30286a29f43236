use Rattle.std.proofs.Common.{length, rules, of_calls, ap, arith}
use Rattle.std.proofs.lemmas.Fn.{always_returns_same}
use Rattle.bag_model.specs.Scalars.{scalar_cmp}
use Rattle.scalar_types.specs.Scalars.{value_of}
use Rattle.bag_value.specs.declared.lists.Entry.{Entry}
use Rattle.bag_value.proofs.Searching.{found_there, found_nowhere}
use Rattle.bag_value.proofs.lists.Entries.find.Goals as goal

pub returns-in-Ok : goal.returns-in-Ok
returns-in-Ok c =
    let found = c.binary_search_by-found.ensures.position (λ (e : Entry). scalar_cmp (value_of e.key) (value_of c.args.key.now)) (always_returns_same _ _ _ (λ a r f k. search (rules, of_calls))) in
    let holds = rw c.in-Ok.is at found in
    let within = c.in-Ok.ensures.bound in
    rw (← c.self.view_is)
    (found_there (value_of c.args.key.now) c.self.inside.items.items c.deref.result.now c.in-Ok.place c.index.result.now c.deref.ensures.value (omega (arith, within, ap length c.deref.ensures.value)) c.index.ensures holds)

pub returns-in-Err : goal.returns-in-Err
returns-in-Err c =
    let found = c.binary_search_by-found.ensures.position (λ (e : Entry). scalar_cmp (value_of e.key) (value_of c.args.key.now)) (always_returns_same _ _ _ (λ a r f k. search (rules, of_calls))) in
    let point = rw c.in-Err.is at found in
    rw (← c.self.view_is) (found_nowhere (value_of c.args.key.now) c.self.inside.items.items c.deref.result.now c.in-Err.field-0 c.deref.ensures.value c.self.invariant.0 point)
