use Rattle.bag_value.proofs.ListLaws.{Proper-push, pairs-push}
use Rattle.bag_value.proofs.lists.Entries.push.Goals as goal

pub invariant_of-self-2 : goal.invariant_of-self-2
invariant_of-self-2 c =
    rw c.in_ok-push.ensures.items (Proper-push c.self.inside.items.items c.args.entry c.self.invariant (rw (← c.self.view_is) at c.requires) c.known.ensures)

pub returns-clause-ok : goal.returns-clause-ok
returns-clause-ok c = rw (c.in_ok-push.ensures.items, ← c.self.view_is) (pairs-push c.self.inside.items.items c.args.entry)
