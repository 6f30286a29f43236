use Rattle.std.proofs.Common.{map}
use Rattle.std.proofs.lemmas.Result.{IfOk-weaker}
use Rattle.bag_model.specs.NormalForm.{IsNormalOf}
use Rattle.field_table.specs.Views.{plain_view_of}
use Rattle.trace_model.specs.Runs.{list_at, IsNormalMerge}
use Rattle.step_rules.proofs.Places.{all_within}
use Rattle.step_rules.proofs.acts.joined.Goals as goal

pub merge_all-requires-clause-within : goal.merge_all-requires-clause-within
merge_all-requires-clause-within g c = all_within c.args.pool.now c.args.places.now c.requires.places

pub returns : goal.returns
returns g c =
    let nodes = c.args.table.now in
    let view = plain_view_of c.args.view.now in
    let merged = c.in_ok-merged.merged in
    IfOk-weaker c.normal.result (IsNormalOf nodes view merged)
    (IsNormalMerge nodes view (map (list_at c.args.pool.now) c.args.places.now))
    (λ list normal. record { merged = merged; merge = c.in_ok-merged.ensures; normal = normal })
    c.normal.ensures
