use Rattle.std.proofs.Common.{◌≡◌, suc, ◌-◌, ◌<◌, length, get_or, sym, ◌∙◌, ap, arith}
use Rattle.std.proofs.lemmas.List.{get_or_default}
use Rattle.field_table.specs.declared.shapes.Shape.TheViews.{out-Slots}
use Rattle.field_table.specs.Tables.{ends_of, start_at}
use Rattle.field_table.specs.Plain.{kept_bag}
use Rattle.field_table.proofs.Opened.{open_ends}
use Rattle.field_table.proofs.Held.{ends_are, start_is}
use Rattle.field_table.proofs.shapes.Slots.slots_before.Goals as goal

pub index-requires : goal.index-requires
index-requires c =
    let s = c.args.self.now in
    omega (arith, (out-Slots s).ends.ok.0, ap length (open_ends s), ends_are s c.requires.ready, c.requires.place)

pub returns-then-place-eq0 : goal.returns-then-place-eq0
returns-then-place-eq0 c =
    let s = c.args.self.now in
    ap (start_at (ends_of (kept_bag s))) (sym c.if-place-eq0.true) ∙ start_is s c.args.place c.requires.ready c.requires.place

pub returns-else-place-eq0 : goal.returns-else-place-eq0
returns-else-place-eq0 c =
    let s = c.args.self.now in
    let ends = (out-Slots s).ends.items in
    let last = c.args.place - 1 in
    let within : last < length ends = omega (arith, ap length (open_ends s), ends_are s c.requires.ready, c.requires.place) in
    let next : suc last ≡ c.args.place = omega arith in
    c.index.ensures ∙ get_or_default ends last c.index.result.now 0 within ∙ ap (λ l. get_or l last 0) (sym (open_ends s))
    ∙ ap (start_at (ends_of (kept_bag s))) next ∙ start_is s c.args.place c.requires.ready c.requires.place
