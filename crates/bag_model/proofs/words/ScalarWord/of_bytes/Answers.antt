use Rattle.std.proofs.Common.{arith, rules}
use Rattle.bag_model.specs.declared.words.ScalarWord.TheVariants.{Sint32, Sint64, Uint32, Uint64, Fixed32, Fixed64, Sfixed32, Sfixed64, Str}
use Rattle.bag_model.proofs.WordTexts.{bytes_name}
use Rattle.bag_model.proofs.words.ScalarWord.of_bytes.Goals as goal

pub returns-in-sint32 : goal.returns-in-sint32
returns-in-sint32 c = bytes_name Sint32 c.args.text.now (omega (arith, c.in-sint32.len_at_least, c.in-sint32.len_below)) (search rules)

pub returns-in-sint64 : goal.returns-in-sint64
returns-in-sint64 c = bytes_name Sint64 c.args.text.now (omega (arith, c.in-sint64.len_at_least, c.in-sint64.len_below)) (search rules)

pub returns-in-string : goal.returns-in-string
returns-in-string c = bytes_name Str c.args.text.now (omega (arith, c.in-string.len_at_least, c.in-string.len_below)) (search rules)

pub returns-in-uint32 : goal.returns-in-uint32
returns-in-uint32 c = bytes_name Uint32 c.args.text.now (omega (arith, c.in-uint32.len_at_least, c.in-uint32.len_below)) (search rules)

pub returns-in-uint64 : goal.returns-in-uint64
returns-in-uint64 c = bytes_name Uint64 c.args.text.now (omega (arith, c.in-uint64.len_at_least, c.in-uint64.len_below)) (search rules)

pub returns-in-fixed32 : goal.returns-in-fixed32
returns-in-fixed32 c = bytes_name Fixed32 c.args.text.now (omega (arith, c.in-fixed32.len_at_least, c.in-fixed32.len_below)) (search rules)

pub returns-in-fixed64 : goal.returns-in-fixed64
returns-in-fixed64 c = bytes_name Fixed64 c.args.text.now (omega (arith, c.in-fixed64.len_at_least, c.in-fixed64.len_below)) (search rules)

pub returns-in-sfixed32 : goal.returns-in-sfixed32
returns-in-sfixed32 c = bytes_name Sfixed32 c.args.text.now (omega (arith, c.in-sfixed32.len_at_least, c.in-sfixed32.len_below)) (search rules)

pub returns-in-sfixed64 : goal.returns-in-sfixed64
returns-in-sfixed64 c = bytes_name Sfixed64 c.args.text.now (omega (arith, c.in-sfixed64.len_at_least, c.in-sfixed64.len_below)) (search rules)
