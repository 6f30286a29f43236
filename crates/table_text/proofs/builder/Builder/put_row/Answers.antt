use Rattle.std.proofs.Common.{◌+◌, refl, sym, ◌∙◌}
use Rattle.table_text.specs.declared.builder.Builder.{Builder}
use Rattle.table_text.specs.Views.{plain_row_of}
use Rattle.table_text.proofs.Growing.{IsGrown, IsNoted, is_next, opened, added}
use Rattle.table_text.proofs.builder.Builder.put_row.Goals as goal

pub returns-in_ok-open : goal.returns-in_ok-open
returns-in_ok-open c =
    let note : IsNoted c.args.self.now c.args.row c.note.new.self =
    record { fields_same = c.in_ok-note.ensures.fields; names = c.in_ok-note.ensures.names; least = c.in_ok-note.ensures.least; level = c.in_ok-note.ensures.level }
    in
    let is : IsGrown c.args.self.now c.open.new.self (plain_row_of c.args.row) =
    opened c.args.self.now c.args.row c.note.new.self (is_next c.args.self.now c.args.row c.requires.sound c.requires.row c.requires.depth c.requires.good) note c.open.new.self
    (sym c.ends_in_bag.ensures ∙ c.if-ends_in_bag.true) c.in_ok-open.ensures.outer c.in_ok-open.ensures.rows c.in_ok-open.ensures.fields c.in_ok-open.ensures.indexed c.in_ok-open.ensures.names
    c.in_ok-open.ensures.least c.in_ok-open.ensures.level
    in
    record { rows = is.rows; sound = is.sound; fresh = is.fresh }

pub returns-in_ok-push : goal.returns-in_ok-push
returns-in_ok-push c =
    let next : Builder = record { outer = c.args.self.now.outer; bag = c.push.new.self; rows = c.args.self.now.rows + 1 } in
    let note : IsNoted c.args.self.now c.args.row c.note.new.self =
    record { fields_same = c.in_ok-note.ensures.fields; names = c.in_ok-note.ensures.names; least = c.in_ok-note.ensures.least; level = c.in_ok-note.ensures.level }
    in
    let is : IsGrown c.args.self.now next (plain_row_of c.args.row) =
    added c.args.self.now c.args.row c.note.new.self (is_next c.args.self.now c.args.row c.requires.sound c.requires.row c.requires.depth c.requires.good) note next
    (sym c.ends_in_bag.ensures ∙ c.if-ends_in_bag.false) refl refl c.in_ok-push.ensures.fields (λ indexed. c.in_ok-push.ensures.indexed indexed c.requires.row.indexed)
    c.in_ok-push.ensures.names c.in_ok-push.ensures.least c.in_ok-push.ensures.level
    in
    record { rows = is.rows; sound = is.sound; fresh = is.fresh }
