use Rattle.std.proofs.Common.{List, rules}
use Rattle.bag_model.specs.Scalars.{Word}
use Rattle.field_writes.specs.Ends.{IsEnd}
use Rattle.field_writes.proofs.Taking.{struct_begins, no_struct_inside, no_other_struct}
use Rattle.field_writes.proofs.literals.take_struct.Goals as goal

pub returns-in_default-2 : goal.returns-in_default-2
returns-in_default-2 c =
    no_struct_inside c.args.words.now c.args.text.now c.in-Some.inside.now c.in-Some.ensures (rw c.in_default-2.is at c.in_ok-fields.ensures)

pub returns-then-is_end : goal.returns-then-is_end
returns-then-is_end c =
    let words : List Word = c.args.words.now in
    struct_begins words c.in-Some-2.fields c.in-Some-2.rest.now c.args.text.now c.in-Some.inside.now c.in-Some.ensures
    (rw c.in-Some-2.is at c.in_ok-fields.ensures) (c.is_end.ensures.0 c.if-is_end.true)

pub returns-else-is_end : goal.returns-else-is_end
returns-else-is_end c =
    let words : List Word = c.args.words.now in
    let none : IsEnd c.in-Some-2.rest.now → ⊥ = search (rules, c.if-is_end.ensures) in
    no_other_struct words c.args.text.now c.in-Some.inside.now c.in-Some-2.fields c.in-Some-2.rest.now c.in-Some.ensures
    (rw c.in-Some-2.is at c.in_ok-fields.ensures) none
