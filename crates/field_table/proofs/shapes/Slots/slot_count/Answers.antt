use Rattle.std.proofs.Common.{◌≡◌, suc, ◌-◌, ◌<◌, length, get_or, sym, ◌∙◌, ap, arith}
use Rattle.std.proofs.lemmas.List.{get_or_default}
use Rattle.field_table.specs.declared.shapes.Shape.TheViews.{out-Slots}
use Rattle.field_table.specs.Tables.{ends_of, start_at}
use Rattle.field_table.specs.Plain.{kept_bag}
use Rattle.field_table.proofs.Opened.{count_is, open_ends}
use Rattle.field_table.proofs.shapes.Slots.slot_count.Goals as goal

pub returns-then-fields-eq0 : goal.returns-then-fields-eq0
returns-then-fields-eq0 c indexed =
    let s = c.args.self.now in
    let none : 0 ≡ length (out-Slots s).ends.items = omega (arith, (out-Slots s).ends.ok.0) in
    ap (start_at (ends_of (kept_bag s))) none ∙ count_is s indexed

pub returns-else-fields-eq0 : goal.returns-else-fields-eq0
returns-else-fields-eq0 c indexed =
    let s = c.args.self.now in
    let ends = (out-Slots s).ends.items in
    let last = c.len-fields.result - 1 in
    let within : last < length ends = omega (arith, (out-Slots s).ends.ok.0) in
    let next : suc last ≡ length ends = omega (arith, (out-Slots s).ends.ok.0) in
    c.index.ensures ∙ get_or_default ends last c.index.result.now 0 within ∙ ap (λ l. get_or l last 0) (sym (open_ends s))
    ∙ ap (start_at (ends_of (kept_bag s))) next ∙ count_is s indexed
