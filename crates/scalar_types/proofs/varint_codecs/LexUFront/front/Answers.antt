use Rattle.std.proofs.Common.{length, rules}
use Rattle.context_model.specs.Varints.{unsigned_varint}
use Rattle.lex_varint.specs.Readings.{IsUnsignedAt}
use Rattle.bag_model.specs.Scalars.{IsUnsigned}
use Rattle.scalar_types.proofs.VarintFronts.{unsigned_count, unsigned_begins, unsigned_at, unsigned_out, ok_is_no_err}
use Rattle.scalar_types.proofs.varint_codecs.LexUFront.front.Goals as goal

pub slice_bounds-result-count : goal.slice_bounds-result-count
slice_bounds-result-count c =
    let at : IsUnsignedAt c.args.bytes.now c.in-Ok.number c.in-Ok.count = (c.take_u64.ensures.taken c.in-Ok.number c.in-Ok.count).0 c.in-Ok.is in
    unsigned_count c.args.bytes.now c.in-Ok.number c.in-Ok.count at

pub slice_bounds-result-start : goal.slice_bounds-result-start
slice_bounds-result-start c =
    let at : IsUnsignedAt c.args.bytes.now c.in-Ok.number c.in-Ok.count = (c.take_u64.ensures.taken c.in-Ok.number c.in-Ok.count).0 c.in-Ok.is in
    unsigned_count c.args.bytes.now c.in-Ok.number c.in-Ok.count at

pub returns-then-in_range-clause-found : goal.returns-then-in_range-clause-found
returns-then-in_range-clause-found c =
    let at : IsUnsignedAt c.args.bytes.now c.in-Ok.number c.in-Ok.count = (c.take_u64.ensures.taken c.in-Ok.number c.in-Ok.count).0 c.in-Ok.is in
    unsigned_begins c.args.self.now.wide c.args.bytes.now c.in-Ok.number c.in-Ok.count at (search rules)

pub returns-else-in_range-clause-none : goal.returns-else-in_range-clause-none
returns-else-in_range-clause-none c =
    let at : IsUnsignedAt c.args.bytes.now c.in-Ok.number c.in-Ok.count = (c.take_u64.ensures.taken c.in-Ok.number c.in-Ok.count).0 c.in-Ok.is in
    let out : IsUnsigned c.args.self.now.wide c.in-Ok.number → ⊥ = search (rules, c.if-in_range.ensures) in
    λ _. unsigned_out c.args.self.now.wide c.args.bytes.now c.in-Ok.number c.in-Ok.count at out

pub returns-in-Err-clause-none : goal.returns-in-Err-clause-none
returns-in-Err-clause-none c = λ _ b.
    ok_is_no_err c.take_u64.result (b.0, length (unsigned_varint b.0)) c.in-Err.field-0
    ((c.take_u64.ensures.taken b.0 (length (unsigned_varint b.0))).1 (unsigned_at c.args.self.now.wide c.args.bytes.now b)) c.in-Err.is
