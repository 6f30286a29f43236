use Rattle.std.proofs.Common.{sym, ap, ◌∙◌, subst}
use Rattle.bag_encode.specs.Encoding.{bag_values}
use Rattle.bag_value.specs.Vals.{plain, val_of}
use Rattle.bag_value.specs.ValLaws.{val_back}
use Rattle.bag_codec.proofs.Said.{Says, encoding_says, encoding_typed, says_one}
use Rattle.bag_codec.proofs.readings.encode_and_read.Goals as goal

pub decode-requires : goal.decode-requires
decode-requires c = encoding_typed c.encodings_read_back.ensures c.args.table.now (plain c.args.value.now) c.in_ok-context.context c.nodes.ensures.table c.requires.shape c.in_ok-context.ensures

pub returns-clause-one : goal.returns-clause-one
returns-clause-one c =
    let says = encoding_says c.encodings_read_back.ensures c.args.table.now (plain c.args.value.now) c.in_ok-context.context c.nodes.ensures.table c.requires.shape c.in_ok-context.ensures in
    let same = says_one c.merges_read_as_joins.ensures c.args.table.now c.in_ok-context.context (plain c.in_ok-read.read) (plain c.args.value.now) c.in_ok-read.ensures says in
    sym (val_back c.in_ok-read.read) ∙ ap val_of same ∙ val_back c.args.value.now

pub returns-clause-read : goal.returns-clause-read
returns-clause-read c = λ list is.
    subst (λ list. Says c.args.table.now list (plain c.in_ok-read.read))
    (c.encodings_read_back.ensures.one c.args.table.now (bag_values (plain c.args.value.now)) c.in_ok-context.context list c.in_ok-context.ensures is) c.in_ok-read.ensures
