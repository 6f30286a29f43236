use Rattle.std.proofs.lemmas.Result.{IfOk-weaker}
use Rattle.bag_model.specs.NormalForm.{IsNormalOf}
use Rattle.bag_value.specs.Vals.{plain}
use Rattle.field_table.specs.Views.{plain_view_of}
use Rattle.trace_model.specs.Runs.{IsNormalWrite}
use Rattle.step_rules.proofs.Slots.{slot_within, slot_shape}
use Rattle.step_rules.proofs.acts.written.Goals as goal

pub encode_slot-requires : goal.encode_slot-requires
encode_slot-requires c =
    let nodes = c.args.table.now in
    let view = plain_view_of c.args.view.now in
    let v = plain c.args.value.now in
    record {
      slot = slot_within nodes view c.args.slot v c.requires;
      shape = slot_shape nodes view c.args.slot v c.requires;
      fits = c.requires.fits;
    }

pub returns : goal.returns
returns c =
    let nodes = c.args.table.now in
    let view = plain_view_of c.args.view.now in
    IfOk-weaker c.normal.result (IsNormalOf nodes view c.in_ok-merged.merged)
    (IsNormalWrite nodes view c.args.slot (plain c.args.value.now) c.args.before.now)
    (λ list normal. record {
      written = c.in_ok-written.written;
      encoding = c.in_ok-written.ensures;
      normal = record { merged = c.in_ok-merged.merged; merge = c.in_ok-merged.ensures.merged; normal = normal };
    })
    c.normal.ensures
