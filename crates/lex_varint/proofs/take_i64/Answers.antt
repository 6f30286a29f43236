use Rattle.std.proofs.Common.{◌≡◌, ◌<◌, ◌≤◌, ◌+◌, ◌-◌, ◌*◌, ◌^◌, pos, take, get_or, ltb, length, nat_abs, Ok, Err, to_z, of_z, to_z-of_z, w64, sym, ap, ◌∙◌, subst, arith}
use Rattle.std.proofs.lemmas.List.{length-take-le}
use Rattle.lex_varint.specs.Readings.{with_sign}
use Rattle.lex_varint.specs.declared.VarintFault.TheVariants.{Cut, LongForm, OutOfRange}
use Rattle.lex_varint.proofs.Puts.{table}
use Rattle.lex_varint.proofs.UnsignedFronts.{byte_first}
use Rattle.lex_varint.proofs.SignedFronts.{Stands, Stands-read, Answers, answers_cut, long_at, out_at, taken_from, fits_with, empty_cut, short_cut, high_first, table_low, table_room}
use Rattle.lex_varint.proofs.take_i64.Goals as goal

pub returns-in_default : goal.returns-in_default
returns-in_default c =
    let a : Answers c.args.bytes.now (Err Cut) = answers_cut c.args.bytes.now (empty_cut c.args.bytes.now c.in_default.ensures.cases) in
    record { taken = a.taken; cut = a.cut; long = a.long; out = a.out }

pub returns-then-rest-follows : goal.returns-then-rest-follows
returns-then-rest-follows c =
    let a : Answers c.args.bytes.now (Err Cut) = answers_cut c.args.bytes.now
    (short_cut c.args.bytes.now c.in-Some.first.now c.in-Some.rest.now (ltb c.in-Some.first.now 128) c.turned_byte-first.result c.natural_demand-follows.result
    c.in-Some.ensures.cases.0 (λ i. ltb c.in-Some.first.now 128) c.turned_byte-first.ensures c.natural_demand-follows.ensures c.if-rest-follows.true) in
    record { taken = a.taken; cut = a.cut; long = a.long; out = a.out }

pub overflow_sub-high : goal.overflow_sub-high
overflow_sub-high c =
    let byte : c.in-Some.first.now < 256 = byte_first c.args.bytes.now c.in-Some.first.now c.in-Some.rest.now c.in-Some.ensures.cases.0 (c.type_inv.bytes 0).fits in
    let high : (128 ≤ c.turned_byte-first.result) × (c.turned_byte-first.result < 256) =
    high_first c.in-Some.first.now c.turned_byte-first.result (ltb c.in-Some.first.now 128) byte (λ i. ltb c.in-Some.first.now 128) c.turned_byte-first.ensures in
    subst (λ v. get_or table v 0 ≤ c.turned_byte-first.result) (sym c.min.ensures)
    (table_low c.turned_byte-first.result c.natural_demand-follows.result high.1 high.0 c.natural_demand-follows.ensures)

pub number_behind-number-requires : goal.number_behind-number-requires
number_behind-number-requires c =
    let byte : c.in-Some.first.now < 256 = byte_first c.args.bytes.now c.in-Some.first.now c.in-Some.rest.now c.in-Some.ensures.cases.0 (c.type_inv.bytes 0).fits in
    let high : (128 ≤ c.turned_byte-first.result) × (c.turned_byte-first.result < 256) =
    high_first c.in-Some.first.now c.turned_byte-first.result (ltb c.in-Some.first.now 128) byte (λ i. ltb c.in-Some.first.now 128) c.turned_byte-first.ensures in
    subst (λ v. (c.turned_byte-first.result - get_or table v 0 + 1) * 256 ^ length (take c.natural_demand-follows.result c.in-Some.rest.now) ≤ 2 ^ 64) (sym c.min.ensures)
    (table_room c.turned_byte-first.result c.natural_demand-follows.result (length (take c.natural_demand-follows.result c.in-Some.rest.now)) high.1 high.0 c.natural_demand-follows.ensures
    (length-take-le c.natural_demand-follows.result c.in-Some.rest.now c.if-rest-follows.false))

pub returns-then-natural_tail-follows : goal.returns-then-natural_tail-follows
returns-then-natural_tail-follows c =
    let s : Stands c.args.bytes.now c.natural_demand-follows.result (with_sign (ltb c.in-Some.first.now 128) c.number_behind-number.result) =
    Stands-read c.args.bytes.now c.in-Some.first.now c.in-Some.rest.now (ltb c.in-Some.first.now 128) c.turned_byte-first.result c.natural_demand-follows.result c.number_behind-number.result
    c.in-Some.ensures.cases.0 (λ i. (c.type_inv.bytes i).fits) (λ i. ltb c.in-Some.first.now 128) c.turned_byte-first.ensures c.natural_demand-follows.ensures c.if-rest-follows.false
    c.number_behind-number.ensures.low (c.number_behind-number.ensures.high ∙ ap (λ v. c.turned_byte-first.result - get_or table v 0) c.min.ensures) in
    let a : Answers c.args.bytes.now (Err LongForm) = long_at c.args.bytes.now (ltb c.in-Some.first.now 128) c.natural_demand-follows.result c.number_behind-number.result s (omega arith) in
    record { taken = a.taken; cut = a.cut; long = a.long; out = a.out }

pub returns-in_default-try_from : goal.returns-in_default-try_from
returns-in_default-try_from c =
    let s : Stands c.args.bytes.now c.natural_demand-follows.result (with_sign (ltb c.in-Some.first.now 128) c.number_behind-number.result) =
    Stands-read c.args.bytes.now c.in-Some.first.now c.in-Some.rest.now (ltb c.in-Some.first.now 128) c.turned_byte-first.result c.natural_demand-follows.result c.number_behind-number.result
    c.in-Some.ensures.cases.0 (λ i. (c.type_inv.bytes i).fits) (λ i. ltb c.in-Some.first.now 128) c.turned_byte-first.ensures c.natural_demand-follows.ensures c.if-rest-follows.false
    c.number_behind-number.ensures.low (c.number_behind-number.ensures.high ∙ ap (λ v. c.turned_byte-first.result - get_or table v 0) c.min.ensures) in
    let a : Answers c.args.bytes.now (Err OutOfRange) =
    out_at c.args.bytes.now (ltb c.in-Some.first.now 128) c.natural_demand-follows.result c.number_behind-number.result s (omega arith) c.in_default-try_from.ensures in
    record { taken = a.taken; cut = a.cut; long = a.long; out = a.out }

pub returns : goal.returns
returns c =
    let s : Stands c.args.bytes.now c.natural_demand-follows.result (with_sign (ltb c.in-Some.first.now 128) c.number_behind-number.result) =
    Stands-read c.args.bytes.now c.in-Some.first.now c.in-Some.rest.now (ltb c.in-Some.first.now 128) c.turned_byte-first.result c.natural_demand-follows.result c.number_behind-number.result
    c.in-Some.ensures.cases.0 (λ i. (c.type_inv.bytes i).fits) (λ i. ltb c.in-Some.first.now 128) c.turned_byte-first.ensures c.natural_demand-follows.ensures c.if-rest-follows.false
    c.number_behind-number.ensures.low (c.number_behind-number.ensures.high ∙ ap (λ v. c.turned_byte-first.result - get_or table v 0) c.min.ensures) in
    let number : to_z w64 (of_z w64 c.in-Ok.number) ≡ pos c.number_behind-number.result =
    ap (λ v. to_z w64 (of_z w64 v)) (c.in-Ok.ensures.1) ∙ to_z-of_z (c.in-Ok.ensures.0) in
    let value : c.signed.result ≡ with_sign (ltb c.in-Some.first.now 128) c.number_behind-number.result =
    c.signed.ensures ∙ ap (λ v. with_sign (ltb c.in-Some.first.now 128) (nat_abs v)) number in
    let whole : to_z w64 (of_z w64 c.signed.result) ≡ with_sign (ltb c.in-Some.first.now 128) c.number_behind-number.result =
    ap (λ v. to_z w64 (of_z w64 v)) value ∙ to_z-of_z (fits_with (ltb c.in-Some.first.now 128) c.number_behind-number.result (c.in-Ok.ensures.0)) in
    let a : Answers c.args.bytes.now (Ok (to_z w64 (of_z w64 c.signed.result), c.natural_demand-follows.result + 1)) =
    taken_from c.args.bytes.now (ltb c.in-Some.first.now 128) c.natural_demand-follows.result c.number_behind-number.result (to_z w64 (of_z w64 c.signed.result)) s (omega arith) (c.in-Ok.ensures.0) whole in
    record { taken = a.taken; cut = a.cut; long = a.long; out = a.out }
