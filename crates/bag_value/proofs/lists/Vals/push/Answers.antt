use Rattle.bag_value.proofs.ListLaws.{AreProper-push, values_list-push}
use Rattle.bag_value.proofs.lists.Vals.push.Goals as goal

pub invariant_of-self-2 : goal.invariant_of-self-2
invariant_of-self-2 c = rw c.in_ok-push.ensures.items (AreProper-push c.self.inside.items.items c.args.value c.self.invariant c.known.ensures)

pub returns-clause-ok : goal.returns-clause-ok
returns-clause-ok c = rw (c.in_ok-push.ensures.items, ← c.self.view_is) (values_list-push c.self.inside.items.items c.args.value)
