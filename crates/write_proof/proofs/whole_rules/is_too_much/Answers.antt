use Rattle.std.proofs.Common.{◌↔◌, Bool, IsTrue, map, arith}
use Rattle.bag_model.specs.Slots.{SlotAt}
use Rattle.bag_model.specs.SlotValues.{HasSlot}
use Rattle.bag_value.specs.Vals.{plain}
use Rattle.write_proof.specs.declared.verdicts.VerifyCode.TheVariants as codes
use Rattle.write_proof.specs.Views.{entry_of}
use Rattle.write_proof.specs.WholeRules.{Applies}
use Rattle.write_proof.proofs.ContributionCalls.{More, ok_so, too_much_told, none_too_much, late_too_much}
use Rattle.write_proof.proofs.whole_rules.is_too_much.Goals as goal

pub returns-then-step-steps : goal.returns-then-step-steps
returns-then-step-steps c =
    let table = c.args.table.now in
    let graph = c.args.graph.now in
    let said = map entry_of c.args.entries.now in
    let v = plain c.args.joined.now in
    ok_so (λ (more : Bool). (at : SlotAt) → HasSlot table c.args.slot at → IsTrue more ↔ More table graph c.args.slot c.known.ensures.table c.known.ensures.graph c.requires.table at c.in-Some.step v)
    (λ (more : Bool). (at : SlotAt) → HasSlot table c.args.slot at → IsTrue more ↔ Applies graph c.args.slot at said codes.TooMuch (entry_of c.args.entry)) c.contributes_more.result
    (λ more told at there. too_much_told table graph c.args.slot c.known.ensures.table c.known.ensures.graph c.requires.table said (entry_of c.args.entry) c.in-Some.step v c.in-Some.ensures c.requires.joined more told at there)
    c.contributes_more.ensures

pub returns-else-step-steps : goal.returns-else-step-steps
returns-else-step-steps c = λ at there. late_too_much c.args.table.now c.args.graph.now c.args.slot c.known.ensures.table c.known.ensures.graph c.requires.table (map entry_of c.args.entries.now) (entry_of c.args.entry) c.in-Some.step c.in-Some.ensures (omega (arith, c.if-step-steps.false, c.steps.ensures)) at

pub returns-in-None : goal.returns-in-None
returns-in-None c = λ at there. none_too_much c.args.table.now c.args.graph.now c.args.slot c.known.ensures.table c.known.ensures.graph c.requires.table (map entry_of c.args.entries.now) (entry_of c.args.entry) c.in-None.ensures at
