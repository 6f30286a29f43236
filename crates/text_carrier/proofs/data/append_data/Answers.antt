use Rattle.std.proofs.Common.{true≢false, sym, ◌∙◌}
use Rattle.text_carrier.proofs.Standard.{dash_appended, decoded_appended}
use Rattle.text_carrier.proofs.data.append_data.Goals as goal

pub returns-then-is_dash : goal.returns-then-is_dash
returns-then-is_dash c = dash_appended c.args.word.now c.args.into.now.items (c.is_dash.ensures.0 c.if-is_dash.true)

pub returns-in-Ok : goal.returns-in-Ok
returns-in-Ok c =
    decoded_appended c.args.word.now c.args.into.now.items c.decode_vec.new.buffer.items c.args.into.now.len
    (λ is. true≢false (sym (c.is_dash.ensures.1 is) ∙ c.if-is_dash.false)) c.in-Ok.ensures.ok c.in-Ok.ensures.front
