use Rattle.std.proofs.Common.{List, ℕ, map, refl, sym, subst}
use Rattle.std.specs.Borrow.{Bor}
use Rattle.bag_model.specs.Views as views
use Rattle.graph_lines.specs.Acts.{named_view_of}
use Rattle.graph_text.specs.Additions.{MeansView, AreRangesOf}
use Rattle.graph_text.specs.Rules.{MissesPath}
use Rattle.graph_text.proofs.ViewPaths.{none_missed, are_slots_of}
use Rattle.graph_text.proofs.views.read_view.Goals as goal

pub returns-in_ok-slots-in-Only-clause-paths : goal.returns-in_ok-slots-in-Only-clause-paths
returns-in_ok-slots-in-Only-clause-paths c =
    let names = map (λ (path : Bor (List ℕ)). path.now) c.in-Only.paths.items in
    let are : AreRangesOf c.args.table.now names c.in_ok-ranges-in-Only.ranges.items =
    subst (λ paths. AreRangesOf c.args.table.now (map (λ (path : Bor (List ℕ)). path.now) paths) c.in_ok-ranges-in-Only.ranges.items) c.as_slice.ensures.value c.in_ok-ranges-in-Only.ensures.ok in
    subst (λ named. MissesPath c.args.table.now (named_view_of named) → ⊥) (sym c.in-Only.is)
    (λ missed. none_missed c.args.table.now names c.in_ok-ranges-in-Only.ranges.items are missed.0 missed.1 missed.2)

pub returns-in_ok-slots-in-Only-clause-ok : goal.returns-in_ok-slots-in-Only-clause-ok
returns-in_ok-slots-in-Only-clause-ok c =
    let names = map (λ (path : Bor (List ℕ)). path.now) c.in-Only.paths.items in
    let slots = c.in_ok-slots-in-Only.slots in
    let are : AreRangesOf c.args.table.now names c.in_ok-ranges-in-Only.ranges.items =
    subst (λ paths. AreRangesOf c.args.table.now (map (λ (path : Bor (List ℕ)). path.now) paths) c.in_ok-ranges-in-Only.ranges.items) c.as_slice.ensures.value c.in_ok-ranges-in-Only.ensures.ok in
    subst (λ named. MeansView c.args.table.now (named_view_of named) (views.Only slots)) (sym c.in-Only.is)
    (slots, are_slots_of c.args.table.now c.nodes.ensures.table names c.in_ok-ranges-in-Only.ranges.items are slots c.in_ok-slots-in-Only.ensures.rises c.in_ok-slots-in-Only.ensures.each, refl)
