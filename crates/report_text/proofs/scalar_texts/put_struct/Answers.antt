use Rattle.std.proofs.Common.{◌++◌, codes, map, ap, length, arith}
use Rattle.std.proofs.lemmas.List.{length-map}
use Rattle.scalar_types.specs.Scalars.{plain_of}
use Rattle.text_model.specs.ScalarTexts.{plain_text}
use Rattle.report_text.proofs.Joined.{next_text, closed}
use Rattle.report_text.proofs.Places.{seen, mapped}
use Rattle.report_text.proofs.scalar_texts.put_struct.Goals as goal

pub loop-at-preserved : goal.loop-at-preserved
loop-at-preserved c =
    let at = c.loop-at.at in
    let fields = c.args.fields.now in
    let field = c.field-item.result in
    next_text (c.args.into.now.items ++ codes "(") c.loop-at.into.items c.put_comma.new.into.items c.put_plain.new.into.items
    (map plain_text fields) at (plain_text (plain_of field)) c.loop-at.invariant c.in_ok-put_comma.ensures.ok c.in_ok-put_plain.ensures.ok
    (mapped plain_text fields at (plain_of field) (seen plain_of c.as_slice-field-items.result.now field fields at c.as_slice-field-items.ensures.values (omega arith) c.field-item.is))

pub returns : goal.returns
returns c =
    let fields = c.args.fields.now in
    let items = c.as_slice-field-items.result.now in
    let whole =
    closed c.args.into.now.items (codes "(") c.loop-at.into.items c.push-2.new.self.items (codes ")") (map plain_text fields) c.loop-at.at c.loop-at.invariant
    (omega (arith, length-map fields plain_text, length-map items plain_of, ap length c.as_slice-field-items.ensures.values))
    c.in_ok-push-2.ensures.items
    in
    record { ok = whole; err = tt }
