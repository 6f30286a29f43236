use Rattle.std.proofs.Common.{◌≡◌, ℕ, map, subst}
use Rattle.std.proofs.lemmas.Result.{on_ok_weaker}
use Rattle.bag_value.specs.Vals.{plain}
use Rattle.bag_model.specs.Shapes.{Shape, Nodes}
use Rattle.bag_model.specs.Values.{Value}
use Rattle.trace_model.specs.Graphs.{Graph, IsRecorded}
use Rattle.write_proof.specs.Contributions.{ContributesAt, contributed}
use Rattle.write_proof.specs.WholeRules.{StepContributes}
use Rattle.write_proof.proofs.Newly.{shape_with, next_used, next_parts, next_nothing}
use Rattle.write_proof.proofs.used.use_next.Goals as goal

-- A contribution is the value that it is.
same_at : (table : Nodes) (graph : Graph) (slot n : ℕ) (x y : Shape → Value) → ((shape : Shape) → x shape ≡ y shape) → ContributesAt table graph slot n x → ContributesAt table graph slot n y
same_at table graph slot n x y same own = λ at there. subst (StepContributes graph slot at n) (same at.shape) (own at there)

pub use_value-requires : goal.use_value-requires
use_value-requires c =
    let table = c.args.table.now in
    let graph = c.args.graph.now in
    let recorded : IsRecorded table graph = record { table = c.known.ensures.table; sound = c.known.ensures.graph; fits = c.requires.table } in
    let own = same_at table graph c.args.slot c.args.step (λ shape. contributed shape c.in_ok-own.own) (λ shape. plain c.in-Some.value.now) c.in-Some.ensures c.in_ok-own.ensures in
    shape_with table graph recorded c.args.slot c.requires.slot c.args.step (plain c.in-Some.value.now) c.args.used.now.steps.items (map plain c.args.used.now.parts.items) own c.requires.parts

pub returns-in-Some-clause-next : goal.returns-in-Some-clause-next
returns-in-Some-clause-next c =
    let table = c.args.table.now in
    let graph = c.args.graph.now in
    let recorded : IsRecorded table graph = record { table = c.known.ensures.table; sound = c.known.ensures.graph; fits = c.requires.table } in
    let own = same_at table graph c.args.slot c.args.step (λ shape. contributed shape c.in_ok-own.own) (λ shape. plain c.in-Some.value.now) c.in-Some.ensures c.in_ok-own.ensures in
    on_ok_weaker c.use_value.result
    (λ uses at there. next_used table graph recorded c.args.slot at there c.args.step (plain c.in-Some.value.now) (map plain c.args.used.now.parts.items) (map plain c.use_value.new.used.parts.items) c.args.used.now.steps.items c.use_value.new.used.steps.items (own at there) (c.requires.parts at there) uses)
    c.use_value.ensures

pub returns-in-Some-clause-parts : goal.returns-in-Some-clause-parts
returns-in-Some-clause-parts c =
    let table = c.args.table.now in
    let graph = c.args.graph.now in
    let recorded : IsRecorded table graph = record { table = c.known.ensures.table; sound = c.known.ensures.graph; fits = c.requires.table } in
    let own = same_at table graph c.args.slot c.args.step (λ shape. contributed shape c.in_ok-own.own) (λ shape. plain c.in-Some.value.now) c.in-Some.ensures c.in_ok-own.ensures in
    on_ok_weaker c.use_value.result
    (λ uses at there. next_parts table graph recorded c.args.slot at there c.args.step (plain c.in-Some.value.now) (map plain c.args.used.now.parts.items) (map plain c.use_value.new.used.parts.items) c.args.used.now.steps.items c.use_value.new.used.steps.items (own at there) (c.requires.parts at there) uses)
    c.use_value.ensures

pub returns-clause-next : goal.returns-clause-next
returns-clause-next c =
    let table = c.args.table.now in
    let graph = c.args.graph.now in
    let recorded : IsRecorded table graph = record { table = c.known.ensures.table; sound = c.known.ensures.graph; fits = c.requires.table } in
    λ at there. next_nothing table graph recorded c.args.slot at there c.args.step (map plain c.args.used.now.parts.items) c.args.used.now.steps.items
    (subst (StepContributes graph c.args.slot at c.args.step) (c.in-None.ensures at.shape) (c.in_ok-own.ensures at there)) (c.requires.parts at there)
