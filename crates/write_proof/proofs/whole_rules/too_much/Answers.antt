use Rattle.std.proofs.Common.{get_or}
use Rattle.std.proofs.lemmas.Option.{slice_get-get_or}
use Rattle.write_proof.specs.declared.verdicts.VerifyCode.TheVariants as codes
use Rattle.write_proof.proofs.FirstCalls.{found_here, stays_none, nowhere}
use Rattle.write_proof.proofs.MarkCalls.{first_entry}
use Rattle.write_proof.proofs.whole_rules.too_much.Goals as goal

pub returns-then-is_more : goal.returns-then-is_more
returns-then-is_more c = λ at there.
    let entries = c.args.entries.now in
    let i = c.loop-at.at in
    found_here entries c.args.graph.now c.args.slot at codes.TooMuch i (get_or entries i first_entry) (slice_get-get_or entries i first_entry c.loop-at-test.true) c.in_ok-is_more.is_more
    (c.in_ok-is_more.ensures at there) (c.loop-at.invariant at there) c.if-is_more.true

pub loop-at-preserved : goal.loop-at-preserved
loop-at-preserved c = λ at there.
    let entries = c.args.entries.now in
    let i = c.loop-at.at in
    stays_none entries c.args.graph.now c.args.slot at codes.TooMuch i (get_or entries i first_entry) (slice_get-get_or entries i first_entry c.loop-at-test.true) c.in_ok-is_more.is_more
    (c.in_ok-is_more.ensures at there) (c.loop-at.invariant at there) c.if-is_more.false

pub returns : goal.returns
returns c = λ at there. nowhere c.args.entries.now c.args.graph.now c.args.slot at codes.TooMuch c.loop-at.at c.loop-at-test.false (c.loop-at.invariant at there)
