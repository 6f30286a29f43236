use Rattle.std.proofs.Common.{ap}
use Rattle.std.proofs.lemmas.Bool.{leb-true, le-leb}
use Rattle.bag_value.specs.Vals.{plain}
use Rattle.write_proof.proofs.BelowCalls.{no_answer}
use Rattle.write_proof.proofs.TogetherCalls.{no_count, count_there, no_writer}
use Rattle.write_proof.proofs.together.counts_to.Goals as goal

pub returns-in-Some : goal.returns-in-Some
returns-in-Some c =
    let there = count_there (plain c.args.value.now) c.in-Counter.counts c.args.writer.now c.args.count c.in-Some.most (ap plain c.in-Counter.is) c.requires c.in-Some.ensures in
    ((λ e. there.1 (leb-true c.args.count c.in-Some.most e)), λ said. le-leb c.args.count c.in-Some.most (there.0 said))

pub returns-in-None : goal.returns-in-None
returns-in-None c = no_answer (no_writer (plain c.args.value.now) c.in-Counter.counts c.args.writer.now c.args.count (ap plain c.in-Counter.is) c.in-None.ensures)

pub returns-in_default : goal.returns-in_default
returns-in_default c = no_answer (no_count c.args.value.now c.args.writer.now c.args.count c.in_default.not-Counter)
