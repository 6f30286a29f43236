use Rattle.text_carrier.proofs.Standard.{strict, encoded_data}
use Rattle.text_carrier.proofs.data.decode.Goals as goal

pub returns-in-Ok : goal.returns-in-Ok
returns-in-Ok c = (c.in-Ok.ensures.bytes, encoded_data c.args.word.now c.in-Ok.bytes.items c.requires (c.in-Ok.ensures.exact strict))
