use Rattle.std.proofs.Common.{sym, ◌∙◌}
use Rattle.bag_model.proofs.Codes.{code_order}
use Rattle.bag_model.proofs.NumberCodes.{unsigned_code}
use Rattle.scalar_types.proofs.varint_codecs.LexUCodec.compare.Goals as goal

pub returns : goal.returns
returns c = c.cmp.ensures ∙ sym (code_order (unsigned_code c.args.self.now.wide) c.args.a.now c.args.b.now c.requires.a_fits c.requires.b_fits)
