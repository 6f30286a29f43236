use Rattle.std.proofs.Common.{◌≡◌, List, [], map, Some, ap, ◌∙◌, subst, subst₂}
use Rattle.std.specs.List.{slice_get}
use Rattle.bag_model.specs.Shapes.{Nodes, Bag}
use Rattle.def_evolve.specs.declared.all_breaks.Break.{Break}
use Rattle.def_evolve.specs.Breaks.{IsFitting}
use Rattle.def_evolve.specs.Common.{IsCommonCount}
use Rattle.def_evolve.specs.BreakLists.{break_of, AreBreaks}
use Rattle.def_evolve.proofs.BreakSteps.{first_told, none_told, none_first, some_first}
use Rattle.def_evolve.proofs.Safe.{is_safe}
use Rattle.def_evolve.proofs.evolution.evolve.Goals as goal

pub returns-in-Some-clause-verdict : goal.returns-in-Some-clause-verdict
returns-in-Some-clause-verdict c =
    let items = c.in_ok-found.found.items in
    let first = c.in-Some.first.now in
    let old = Bag c.args.old.now in
    let new = Bag c.args.new.now in
    let there : Some first ≡ slice_get items 0 = c.in-Some.ensures.value ∙ ap (λ (list : List Break). slice_get list 0) c.deref.ensures.value in
    let list = some_first items first there in (
      first.way.items,
      first_told old new (break_of first) (map break_of list.0) (subst (λ (xs : List Break). AreBreaks old new (map break_of xs)) list.1 c.in_ok-found.ensures),
      c.in_ok-path-in-Some.ensures,
    )

-- where there is no break, the tables fit
fitting : (c : goal.After-drop-found-2) → IsFitting c.args.old.now c.args.new.now
fitting c =
    let old = Bag c.args.old.now in
    let new = Bag c.args.new.now in
    let none : c.in_ok-found.found.items ≡ [] = none_first c.in_ok-found.found.items (c.in-None.ensures.value ∙ ap (λ (list : List Break). slice_get list 0) c.deref.ensures.value) in
    none_told old new (subst (λ (xs : List Break). AreBreaks old new (map break_of xs)) none c.in_ok-found.ensures)

pub returns-clause-verdict : goal.returns-clause-verdict
returns-clause-verdict c = (
  fitting c,
  subst₂ (λ (a b : Nodes). IsCommonCount (Bag a) (Bag b) c.common_fields.result) c.nodes.ensures.nodes c.nodes-in-None.ensures.nodes c.common_fields.ensures,
)

pub returns-clause-safe : goal.returns-clause-safe
returns-clause-safe c = λ common e. is_safe c.args.old.now c.args.new.now c.nodes.ensures.table c.nodes-in-None.ensures.table (fitting c)
