use Rattle.std.proofs.Common.{refl}
use Rattle.bag_value.specs.Vals.{plain}
use Rattle.write_proof.specs.Together.{Says, CountsTo}
use Rattle.write_proof.proofs.BelowCalls.{yes_answer, no_answer}
use Rattle.write_proof.proofs.Parts.{in_items}
use Rattle.write_proof.proofs.TogetherCalls.{behind, one_found, none_more, none_found}
use Rattle.write_proof.proofs.together.is_count_said.Goals as goal

pub counts_to-requires : goal.counts_to-requires
counts_to-requires c = c.requires (plain c.other-item.result.now) (in_items behind c.args.others.now c.loop-other.other-index c.other-item.result c.loop-other-test.true c.other-item.is)

pub returns-then-counts_to : goal.returns-then-counts_to
returns-then-counts_to c =
    yes_answer (one_found (λ v. Says v (CountsTo c.args.writer.now c.args.count)) c.args.others.now c.loop-other.other-index c.other-item.result c.loop-other-test.true c.other-item.is (c.if-counts_to.ensures.0 refl))

pub loop-other-preserved : goal.loop-other-preserved
loop-other-preserved c =
    none_more (λ v. Says v (CountsTo c.args.writer.now c.args.count)) c.args.others.now c.loop-other.other-index c.other-item.result c.loop-other-test.true c.other-item.is c.loop-other.invariant
    (λ said. let bad = c.if-counts_to.ensures.1 said in cc bad)

pub returns : goal.returns
returns c = no_answer (none_found (λ v. Says v (CountsTo c.args.writer.now c.args.count)) c.args.others.now c.loop-other.other-index c.loop-other-test.false c.loop-other.invariant)
