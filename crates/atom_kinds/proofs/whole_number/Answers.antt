use Rattle.std.proofs.Common.{◌∙◌, sym, length}
use Rattle.lex_varint.specs.Readings.{IsUnsignedAt}
use Rattle.atom_kinds.proofs.Numbers.{whole_front, front_whole, ok_from, none_from, count_of}
use Rattle.atom_kinds.proofs.whole_number.Goals as goal

pub returns-in_err-number : goal.returns-in_err-number
returns-in_err-number c = rw c.from_residual.ensures
    (λ number (h, e). none_from c.take_u64.result (number, length c.args.bytes.now) (sym c.ok.ensures.value ∙ c.in_err-number.was)
    ((c.take_u64.ensures.taken number (length c.args.bytes.now)).1 (front_whole c.args.bytes.now number h e)))

pub returns-then-count-bytes : goal.returns-then-count-bytes
returns-then-count-bytes c =
    let at : IsUnsignedAt c.args.bytes.now c.in_ok-number.number c.in_ok-number.count =
    (c.take_u64.ensures.taken c.in_ok-number.number c.in_ok-number.count).0 (ok_from c.take_u64.result (c.in_ok-number.number, c.in_ok-number.count) (sym c.ok.ensures.value ∙ c.in_ok-number.was)) in
    (at.fits, whole_front c.args.bytes.now c.in_ok-number.number c.in_ok-number.count at c.if-count-bytes.true)

pub returns-else-count-bytes : goal.returns-else-count-bytes
returns-else-count-bytes c = λ number (h, e).
    c.if-count-bytes.false (count_of c.in_ok-number.number c.in_ok-number.count number (length c.args.bytes.now)
    (sym (ok_from c.take_u64.result (c.in_ok-number.number, c.in_ok-number.count) (sym c.ok.ensures.value ∙ c.in_ok-number.was))
    ∙ (c.take_u64.ensures.taken number (length c.args.bytes.now)).1 (front_whole c.args.bytes.now number h e)))
