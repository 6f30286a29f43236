use Rattle.std.proofs.Common.{◌<◌, All, sym, subst}
use Rattle.field_table.specs.Ranges.{AreSlotRanges}
use Rattle.field_table.proofs.SlotRanges.{ranges_push}
use Rattle.field_table.proofs.views.SlotSet.push_range.Goals as goal

pub invariant_of-self : goal.invariant_of-self
invariant_of-self c =
    subst AreSlotRanges (sym c.in_ok-push.ensures.items) (ranges_push c.self.inside.ranges.items c.args.first c.args.end c.self.invariant c.if-first-end.true
    (subst (All (λ held. held < c.args.first)) (sym c.self.view_is) c.requires.greater))
