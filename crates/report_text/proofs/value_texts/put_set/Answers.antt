use Rattle.std.proofs.Common.{◌++◌, codes, map, arith}
use Rattle.std.proofs.lemmas.List.{length-map}
use Rattle.scalar_types.specs.Scalars.{value_of}
use Rattle.text_model.specs.ScalarTexts.{scalar_text}
use Rattle.report_text.proofs.Joined.{next_text, closed}
use Rattle.report_text.proofs.Places.{answered, mapped}
use Rattle.report_text.proofs.value_texts.put_set.Goals as goal

pub loop-at-preserved : goal.loop-at-preserved
loop-at-preserved c =
    let at = c.loop-at.at in
    let items = c.args.set.now.items in
    let scalar = c.unwrap.result.now in
    next_text (c.args.into.now.items ++ codes "{") c.loop-at.into.items c.put_comma.new.into.items c.put_scalar.new.into.items
    (map scalar_text (map value_of items)) at (scalar_text (value_of scalar)) c.loop-at.invariant c.in_ok-put_comma.ensures.ok c.in_ok-put_scalar.ensures.ok
    (mapped scalar_text (map value_of items) at (value_of scalar) (mapped value_of items at scalar (answered _ c.get.result c.unwrap.result items at c.get.ensures c.unwrap.ensures)))

pub returns : goal.returns
returns c =
    let items = c.args.set.now.items in
    let whole =
    closed c.args.into.now.items (codes "{") c.loop-at.into.items c.push-2.new.self.items (codes "}") (map scalar_text (map value_of items)) c.loop-at.at c.loop-at.invariant
    (omega (arith, length-map (map value_of items) scalar_text, length-map items value_of))
    c.in_ok-push-2.ensures.items
    in
    record { ok = whole; err = tt }
