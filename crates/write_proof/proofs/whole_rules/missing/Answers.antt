use Rattle.std.proofs.Common.{get_or}
use Rattle.std.proofs.lemmas.Option.{slice_get-get_or}
use Rattle.write_proof.specs.declared.verdicts.VerifyCode.TheVariants as codes
use Rattle.write_proof.proofs.FirstCalls.{found_here, stays_none, nowhere}
use Rattle.write_proof.proofs.MarkCalls.{first_entry}
use Rattle.write_proof.proofs.whole_rules.missing.Goals as goal

pub returns-then-is_missing : goal.returns-then-is_missing
returns-then-is_missing c = λ slot at.
    let entries = c.args.entries.now in
    let i = c.loop-at.at in
    found_here entries c.args.graph.now slot at codes.Missing i (get_or entries i first_entry) (slice_get-get_or entries i first_entry c.loop-at-test.true) c.is_missing.result
    (c.is_missing.ensures slot at) (c.loop-at.invariant slot at) c.if-is_missing.true

pub loop-at-preserved : goal.loop-at-preserved
loop-at-preserved c = λ slot at.
    let entries = c.args.entries.now in
    let i = c.loop-at.at in
    stays_none entries c.args.graph.now slot at codes.Missing i (get_or entries i first_entry) (slice_get-get_or entries i first_entry c.loop-at-test.true) c.is_missing.result
    (c.is_missing.ensures slot at) (c.loop-at.invariant slot at) c.if-is_missing.false

pub returns : goal.returns
returns c = λ slot at. nowhere c.args.entries.now c.args.graph.now slot at codes.Missing c.loop-at.at c.loop-at-test.false (c.loop-at.invariant slot at)
