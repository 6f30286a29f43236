use Rattle.std.proofs.Common.{◌≡◌}
use Rattle.serde_json.specs.View.{view}
use Rattle.context_json.proofs.Floatless.{context_floatless}
use Rattle.context_json.proofs.objects.context_json.Goals as goal

pub returns : goal.returns
returns c =
    let d = view c.in_ok-object.object in
    (d, c.in_ok-object.ensures, c.in_ok-to_vec.ensures.text (context_floatless c.args.table.now c.args.form c.args.context.now d c.in_ok-object.ensures))
