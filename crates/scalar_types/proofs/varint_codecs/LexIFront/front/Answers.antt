use Rattle.std.proofs.Common.{◌-◌, length, take, drop, w64, sym, subst, rules}
use Rattle.std.proofs.lemmas.Int.{to_z-of_z}
use Rattle.scalar_types.specs.Fronts.{Begins}
use Rattle.context_model.specs.Varints.{signed_varint}
use Rattle.lex_varint.specs.Readings.{IsSignedAt}
use Rattle.bag_model.specs.Scalars.{IsSigned}
use Rattle.scalar_types.proofs.VarintFronts.{signed_count, signed_begins, signed_at, signed_out, ok_is_no_err}
use Rattle.scalar_types.proofs.varint_codecs.LexIFront.front.Goals as goal

pub slice_bounds-result-count : goal.slice_bounds-result-count
slice_bounds-result-count c =
    let at : IsSignedAt c.args.bytes.now c.in-Ok.number c.in-Ok.count = (c.take_i64.ensures.taken c.in-Ok.number c.in-Ok.count).0 c.in-Ok.is in
    signed_count c.args.bytes.now c.in-Ok.number c.in-Ok.count at

pub slice_bounds-result-start : goal.slice_bounds-result-start
slice_bounds-result-start c =
    let at : IsSignedAt c.args.bytes.now c.in-Ok.number c.in-Ok.count = (c.take_i64.ensures.taken c.in-Ok.number c.in-Ok.count).0 c.in-Ok.is in
    signed_count c.args.bytes.now c.in-Ok.number c.in-Ok.count at

pub returns-then-in_range-clause-found : goal.returns-then-in_range-clause-found
returns-then-in_range-clause-found c =
    let at : IsSignedAt c.args.bytes.now c.in-Ok.number c.in-Ok.count = (c.take_i64.ensures.taken c.in-Ok.number c.in-Ok.count).0 c.in-Ok.is in
    subst (λ n. Begins (IsSigned c.args.self.now.wide) signed_varint c.args.bytes.now n (take (length c.args.bytes.now - c.in-Ok.count) (drop c.in-Ok.count c.args.bytes.now)))
    (sym (to_z-of_z w64 c.in-Ok.number at.fits))
    (signed_begins c.args.self.now.wide c.args.bytes.now c.in-Ok.number c.in-Ok.count at (search rules))

pub returns-else-in_range-clause-none : goal.returns-else-in_range-clause-none
returns-else-in_range-clause-none c =
    let at : IsSignedAt c.args.bytes.now c.in-Ok.number c.in-Ok.count = (c.take_i64.ensures.taken c.in-Ok.number c.in-Ok.count).0 c.in-Ok.is in
    let out : IsSigned c.args.self.now.wide c.in-Ok.number → ⊥ = search (rules, c.if-in_range.ensures) in
    λ _. signed_out c.args.self.now.wide c.args.bytes.now c.in-Ok.number c.in-Ok.count at out

pub returns-in-Err-clause-none : goal.returns-in-Err-clause-none
returns-in-Err-clause-none c = λ _ b.
    ok_is_no_err c.take_i64.result (b.0, length (signed_varint b.0)) c.in-Err.field-0
    ((c.take_i64.ensures.taken b.0 (length (signed_varint b.0))).1 (signed_at c.args.self.now.wide c.args.bytes.now b)) c.in-Err.is
