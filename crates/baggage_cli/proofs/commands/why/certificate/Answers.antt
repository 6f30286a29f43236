use Rattle.std.proofs.Common.{inr, ◌<◌, [], length, sym, arith}
use Rattle.std.proofs.lemmas.List.{get_or_read}
use Rattle.baggage_cli.proofs.Explained.{exact_ended, partial_unended}
use Rattle.baggage_cli.proofs.commands.why.certificate.Goals as goal

pub why-requires-clause-ended : goal.why-requires-clause-ended
why-requires-clause-ended c =
    let lists = c.args.lists.now in
    let many = c.requires.run.as_many in
    let within : c.args.step < length lists = (let l = c.requires.step in omega (arith, many, l)) in
    let list = sym (get_or_read lists c.args.step c.index-lists-step.result within c.index-lists-step.is []) in
    exact_ended c.args.table.now lists c.args.step c.args.slot c.index-lists-step.result list c.state_of.result c.state_of.ensures c.in-Exact.is

pub returns-in-Partial : goal.returns-in-Partial
returns-in-Partial c =
    let lists = c.args.lists.now in
    let many = c.requires.run.as_many in
    let within : c.args.step < length lists = (let l = c.requires.step in omega (arith, many, l)) in
    let list = sym (get_or_read lists c.args.step c.index-lists-step.result within c.index-lists-step.is []) in
    inr (
      partial_unended c.args.table.now lists c.args.step c.args.slot c.index-lists-step.result list c.state_of.result c.state_of.ensures c.requires.slot
          (λ exact. let partial = c.in-Partial.is in cc (exact, partial)),
      c.of_input.ensures,
    )

pub returns-in_ok-why-in-Exact : goal.returns-in_ok-why-in-Exact
returns-in_ok-why-in-Exact c =
    let lists = c.args.lists.now in
    let many = c.requires.run.as_many in
    let within : c.args.step < length lists = (let l = c.requires.step in omega (arith, many, l)) in
    let list = sym (get_or_read lists c.args.step c.index-lists-step.result within c.index-lists-step.is []) in
    let ended = exact_ended c.args.table.now lists c.args.step c.args.slot c.index-lists-step.result list c.state_of.result c.state_of.ensures c.in-Exact.is in
    inr (ended, c.in_ok-why-in-Exact.ensures.certificate, c.in_ok-why-in-Exact.ensures.verifies)
