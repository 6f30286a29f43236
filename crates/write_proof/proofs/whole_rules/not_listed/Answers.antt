use Rattle.std.proofs.Common.{get_or}
use Rattle.std.proofs.lemmas.Option.{slice_get-get_or}
use Rattle.write_proof.specs.declared.verdicts.VerifyCode.TheVariants as codes
use Rattle.write_proof.proofs.FirstCalls.{found_here, stays_none, nowhere}
use Rattle.write_proof.proofs.MarkCalls.{first_entry}
use Rattle.write_proof.proofs.whole_rules.not_listed.Goals as goal

pub returns-then-is_not_listed : goal.returns-then-is_not_listed
returns-then-is_not_listed c = λ graph slot at.
    let entries = c.args.entries.now in
    let i = c.loop-at.at in
    found_here entries graph slot at codes.NotListed i (get_or entries i first_entry) (slice_get-get_or entries i first_entry c.loop-at-test.true) c.is_not_listed.result
    (c.is_not_listed.ensures graph slot at) (c.loop-at.invariant graph slot at) c.if-is_not_listed.true

pub loop-at-preserved : goal.loop-at-preserved
loop-at-preserved c = λ graph slot at.
    let entries = c.args.entries.now in
    let i = c.loop-at.at in
    stays_none entries graph slot at codes.NotListed i (get_or entries i first_entry) (slice_get-get_or entries i first_entry c.loop-at-test.true) c.is_not_listed.result
    (c.is_not_listed.ensures graph slot at) (c.loop-at.invariant graph slot at) c.if-is_not_listed.false

pub returns : goal.returns
returns c = λ graph slot at. nowhere c.args.entries.now graph slot at codes.NotListed c.loop-at.at c.loop-at-test.false (c.loop-at.invariant graph slot at)
