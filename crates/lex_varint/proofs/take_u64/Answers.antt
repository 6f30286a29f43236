use Rattle.std.proofs.Common.{◌+◌, take, length, Ok, Err, arith}
use Rattle.std.proofs.lemmas.List.{length-take-le}
use Rattle.lex_varint.specs.declared.VarintFault.TheVariants.{Cut, LongForm}
use Rattle.context_model.proofs.UnsignedFronts.{Stands}
use Rattle.lex_varint.proofs.UnsignedFronts.{Stands-read, Answers, answers_cut, answers_long, answers_taken, empty_cut, short_cut, byte_first, table_low, table_room}
use Rattle.lex_varint.proofs.take_u64.Goals as goal

pub returns-in_default : goal.returns-in_default
returns-in_default c =
    let a : Answers c.args.bytes.now (Err Cut) = answers_cut c.args.bytes.now (empty_cut c.args.bytes.now c.in_default.ensures.cases) in
    record { taken = a.taken; cut = a.cut; long = a.long; in_range = λ e. cc }

pub returns-then-rest-follows : goal.returns-then-rest-follows
returns-then-rest-follows c =
    let a : Answers c.args.bytes.now (Err Cut) = answers_cut c.args.bytes.now
    (short_cut c.args.bytes.now c.in-Some.first.now c.in-Some.rest.now c.leading_ones-follows.result c.in-Some.ensures.cases.0 c.leading_ones-follows.ensures c.if-rest-follows.true) in
    record { taken = a.taken; cut = a.cut; long = a.long; in_range = λ e. cc }

pub overflow_sub-high : goal.overflow_sub-high
overflow_sub-high c =
    table_low c.in-Some.first.now c.leading_ones-follows.result
    (byte_first c.args.bytes.now c.in-Some.first.now c.in-Some.rest.now c.in-Some.ensures.cases.0 (c.type_inv.bytes 0).fits) c.leading_ones-follows.ensures

pub number_behind-value-requires : goal.number_behind-value-requires
number_behind-value-requires c =
    table_room c.in-Some.first.now c.leading_ones-follows.result (length (take c.leading_ones-follows.result c.in-Some.rest.now))
    (byte_first c.args.bytes.now c.in-Some.first.now c.in-Some.rest.now c.in-Some.ensures.cases.0 (c.type_inv.bytes 0).fits) c.leading_ones-follows.ensures
    (length-take-le c.leading_ones-follows.result c.in-Some.rest.now c.if-rest-follows.false)

pub returns-then-unsigned_tail-follows : goal.returns-then-unsigned_tail-follows
returns-then-unsigned_tail-follows c =
    let s : Stands c.args.bytes.now c.leading_ones-follows.result c.number_behind-value.result =
    Stands-read c.args.bytes.now c.in-Some.first.now c.in-Some.rest.now c.leading_ones-follows.result c.number_behind-value.result c.in-Some.ensures.cases.0
    (byte_first c.args.bytes.now c.in-Some.first.now c.in-Some.rest.now c.in-Some.ensures.cases.0 (c.type_inv.bytes 0).fits) c.leading_ones-follows.ensures c.if-rest-follows.false
    c.number_behind-value.ensures.low c.number_behind-value.ensures.high in
    let a : Answers c.args.bytes.now (Err LongForm) = answers_long c.args.bytes.now c.leading_ones-follows.result c.number_behind-value.result s (omega arith) in
    record { taken = a.taken; cut = a.cut; long = a.long; in_range = λ e. cc }

pub returns : goal.returns
returns c =
    let s : Stands c.args.bytes.now c.leading_ones-follows.result c.number_behind-value.result =
    Stands-read c.args.bytes.now c.in-Some.first.now c.in-Some.rest.now c.leading_ones-follows.result c.number_behind-value.result c.in-Some.ensures.cases.0
    (byte_first c.args.bytes.now c.in-Some.first.now c.in-Some.rest.now c.in-Some.ensures.cases.0 (c.type_inv.bytes 0).fits) c.leading_ones-follows.ensures c.if-rest-follows.false
    c.number_behind-value.ensures.low c.number_behind-value.ensures.high in
    let a : Answers c.args.bytes.now (Ok (c.number_behind-value.result, c.leading_ones-follows.result + 1)) =
    answers_taken c.args.bytes.now c.leading_ones-follows.result c.number_behind-value.result s (omega arith) in
    record { taken = a.taken; cut = a.cut; long = a.long; in_range = λ e. cc }
