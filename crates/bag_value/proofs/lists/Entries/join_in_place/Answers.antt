use Rattle.std.proofs.Common.{◌≡◌, sym, ap, ◌∙◌, subst}
use Rattle.bag_model.specs.Joins.{Proper, AlikeEntries, join_entries}
use Rattle.bag_model.specs.Values as model
use Rattle.bag_value.specs.Vals.{plain_entries}
use Rattle.bag_value.proofs.Joining.{entries_proper}
use Rattle.bag_value.proofs.lists.Entries.join_in_place.Goals as goal

pub join_lists-requires : goal.join_lists-requires
join_lists-requires c =
    let b : plain_entries c.as_slice.result.now ≡ c.args.other.now = ap plain_entries c.as_slice.ensures.value ∙ c.other.view_is in
    subst (λ (x : model.Entries). AlikeEntries x (plain_entries c.as_slice.result.now)) (sym c.self.view_is) (subst (λ (x : model.Entries). AlikeEntries c.args.self.now x) (sym b) c.requires)

pub invariant_of-self-2 : goal.invariant_of-self-2
invariant_of-self-2 c =
    let b : plain_entries c.as_slice.result.now ≡ c.args.other.now = ap plain_entries c.as_slice.ensures.value ∙ c.other.view_is in
    entries_proper c.args.self.now c.args.other.now (plain_entries c.join_lists.new.ours.items)
    (subst (λ (x : model.Entries). Proper (model.Value.Map x)) c.self.view_is c.self.invariant)
    (subst (λ (x : model.Entries). Proper (model.Value.Map x)) c.other.view_is c.other.invariant)
    c.requires
    (c.in_ok-join_lists.ensures.ok ∙ (let a = c.self.view_is in λ t. join_entries (a t) (b t)))

pub returns-clause-ok : goal.returns-clause-ok
returns-clause-ok c =
    let b : plain_entries c.as_slice.result.now ≡ c.args.other.now = ap plain_entries c.as_slice.ensures.value ∙ c.other.view_is in
    c.in_ok-join_lists.ensures.ok ∙ (let a = c.self.view_is in λ t. join_entries (a t) (b t))
