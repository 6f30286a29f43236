use Rattle.std.proofs.Common.{[], get_or, refl, sym, subst, arith}
use Rattle.trace_model.specs.Graphs.{IsRecorded}
use Rattle.write_proof.specs.Used.{AreNewsAt, AreNewsOf}
use Rattle.write_proof.proofs.Newly.{none_parts, news_none, news_taken}
use Rattle.write_proof.proofs.Reached.{place_in, whole_taken}
use Rattle.write_proof.proofs.used.steps_with_news.Goals as goal

pub loop-step-init : goal.loop-step-init
loop-step-init c =
    let table = c.args.table.now in
    let graph = c.args.graph.now in
    let slot = c.args.slot in
    let recorded : IsRecorded table graph = record { table = c.known.ensures.table; sound = c.known.ensures.graph; fits = c.requires.table } in
    record {
      parts = λ at there. rw (c.new.ensures.items, c.new-2.ensures.items) (none_parts table graph recorded slot at there);
      news = λ at there. subst (AreNewsOf graph slot at []) (sym c.new.ensures.items) (news_none table graph recorded slot at there);
    }

pub use_next-requires-clause-step : goal.use_next-requires-clause-step
use_next-requires-clause-step c =
    let ks = c.args.steps.now in
    let i = c.loop-step.step-index in
    c.requires.steps (get_or ks i 0) (place_in i ks (get_or ks i 0) (omega arith) refl)

pub loop-step-preserved : goal.loop-step-preserved
loop-step-preserved c =
    let table = c.args.table.now in
    let graph = c.args.graph.now in
    let ks = c.args.steps.now in
    let i = c.loop-step.step-index in
    let recorded : IsRecorded table graph = record { table = c.known.ensures.table; sound = c.known.ensures.graph; fits = c.requires.table } in
    record {
      parts = c.in_ok-use_next.ensures.parts;
      news = λ at there. news_taken table graph recorded c.args.slot at there ks i c.loop-step.used.steps.items c.use_next.new.used.steps.items c.requires.rises (omega arith) (c.loop-step.invariant.news at there) (c.in_ok-use_next.ensures.next at there);
    }

pub returns : goal.returns
returns c =
    let ks = c.args.steps.now in
    subst (λ seen. AreNewsAt c.args.table.now c.args.graph.now c.args.slot seen c.loop-step.used.steps.items) (whole_taken c.loop-step.step-index ks (omega arith)) c.loop-step.invariant.news
