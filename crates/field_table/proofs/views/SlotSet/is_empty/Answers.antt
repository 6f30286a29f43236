use Rattle.std.proofs.Common.{sym, ◌∙◌, arith}
use Rattle.field_table.proofs.SlotRanges.{no_slots}
use Rattle.field_table.proofs.views.SlotSet.is_empty.Goals as goal

pub returns : goal.returns
returns c =
    let ranges = c.self.inside.ranges in
    let both = no_slots ranges.items ranges.len c.self.invariant (omega (arith, ranges.ok.0)) in
    (λ yes. sym c.self.view_is ∙ both.0 (sym c.is_empty.ensures ∙ yes), λ none. c.is_empty.ensures ∙ both.1 (c.self.view_is ∙ none))
