use Rattle.std.proofs.Common.{◌≡◌, ℕ, ◌<◌, List, [], ◌∷◌, ◌++◌, map, length, sym, ap, ◌∙◌, subst, arith}
use Rattle.std.specs.List.{flat_map}
use Rattle.std.specs.Ordering.{nat_cmp}
use Rattle.std.proofs.lemmas.List.{get_or_read}
use Rattle.context_model.specs.Atoms.{Atom}
use Rattle.context_model.specs.KeyedMerge.{keys_of}
use Rattle.context_model.specs.Orders.{IsIn, Rises}
use Rattle.bag_model.specs.Readings.{PathsOf}
use Rattle.bag_model.specs.Typed.{AreTyped}
use Rattle.trace_model.specs.Faithful.{IsRunStep}
use Rattle.trace_model.specs.Graphs.{IsRecorded}
use Rattle.trace_model.proofs.FaithfulLaws.{runs_are_faithful}
use Rattle.write_proof.specs.declared.reaching.Reach as code
use Rattle.write_proof.specs.Entries.{Reach, Uses, entry_line}
use Rattle.write_proof.specs.Used.{AreNewsAt}
use Rattle.write_proof.specs.Reaching.{pairs_of}
use Rattle.write_proof.proofs.Complete.{certificates_verify}
use Rattle.write_proof.proofs.Written.{way_rises, way_within, written}
use Rattle.write_proof.proofs.certificates.why.Goals as goal

-- The steps on the way, as they are handed on.
way_is : (reaching handed : List code.Reach) (way steps : List ℕ) (n : ℕ) → handed ≡ reaching → way ≡ keys_of (pairs_of handed) ++ n ∷ [] → steps ≡ way → steps ≡ keys_of (pairs_of reaching) ++ n ∷ []
way_is reaching handed way steps n same is seen = seen ∙ is ∙ ap (λ (l : List code.Reach). keys_of (pairs_of l) ++ n ∷ []) same

pub steps_with_news-requires-clause-rises : goal.steps_with_news-requires-clause-rises
steps_with_news-requires-clause-rises c =
    let reaching = c.in_ok-reaching.reaching.items in
    let is = way_is reaching c.as_slice.result.now c.in_ok-way.way.items c.as_slice-2.result.now c.args.step c.as_slice.ensures.value c.in_ok-way.ensures c.as_slice-2.ensures.value in
    subst (Rises nat_cmp) (sym is) (way_rises c.args.graph.now c.known.ensures.graph c.args.step (pairs_of reaching) c.in_ok-reaching.ensures)

pub steps_with_news-requires-clause-steps : goal.steps_with_news-requires-clause-steps
steps_with_news-requires-clause-steps c =
    let reaching = c.in_ok-reaching.reaching.items in
    let is = way_is reaching c.as_slice.result.now c.in_ok-way.way.items c.as_slice-2.result.now c.args.step c.as_slice.ensures.value c.in_ok-way.ensures c.as_slice-2.ensures.value in
    λ w i. way_within c.args.graph.now c.known.ensures.graph c.args.step (pairs_of reaching) c.in_ok-reaching.ensures c.requires.step w (subst (IsIn w) is i)

pub put_value_line-requires-clause-typed : goal.put_value_line-requires-clause-typed
put_value_line-requires-clause-typed c =
    let table = c.args.table.now in
    let graph = c.args.graph.now in
    let lists = c.args.lists.now in
    let recorded : IsRecorded table graph = record { table = c.known.ensures.table; sound = c.known.ensures.graph; fits = c.requires.table } in
    let ran : IsRunStep table graph lists c.args.step = record { recorded = recorded; run = c.requires.run; within = c.requires.step } in
    let many = c.requires.run.as_many in
    let within : c.args.step < length lists = (let l = c.requires.step in omega (arith, many, l)) in
    subst (λ (l : List Atom). AreTyped table (PathsOf l) []) (sym (get_or_read lists c.args.step c.index-lists-step.result within c.index-lists-step.is [])) (runs_are_faithful table graph lists c.args.step ran).typed

pub returns-clause-certificate : goal.returns-clause-certificate
returns-clause-certificate c =
    let table = c.args.table.now in
    let graph = c.args.graph.now in
    let lists = c.args.lists.now in
    let n = c.args.step in
    let slot = c.args.slot in
    let recorded : IsRecorded table graph = record { table = c.known.ensures.table; sound = c.known.ensures.graph; fits = c.requires.table } in
    let many = c.requires.run.as_many in
    let within : n < length lists = (let l = c.requires.step in omega (arith, many, l)) in
    let reaching = c.in_ok-reaching.reaching.items in
    let is = way_is reaching c.as_slice.result.now c.in_ok-way.way.items c.as_slice-2.result.now n c.as_slice.ensures.value c.in_ok-way.ensures c.as_slice-2.ensures.value in
    let news = subst (λ (seen : List ℕ). AreNewsAt table graph slot seen c.in_ok-used.used.items) is c.in_ok-used.ensures in
    let third = c.in_ok-put_reaching.ensures ∙ ap (λ (l : List code.Reach). c.put_value_line.new.into.items ++ flat_map entry_line (map (λ pair. Reach pair.0 pair.1) (pairs_of l))) c.as_slice-3.ensures.value in
    let last = c.in_ok-put_used.ensures ∙ ap (λ (l : List ℕ). c.put_reaching.new.into.items ++ flat_map entry_line (map Uses l)) c.as_slice-4.ensures.value in
    written table graph lists n slot c.index-lists-step.result (pairs_of reaching) c.in_ok-used.used.items c.new-text.result.items c.put_why.new.into.items c.put_value_line.new.into.items c.put_reaching.new.into.items c.put_used.new.into.items
    recorded c.requires.slot c.in_ok-reaching.ensures news (get_or_read lists n c.index-lists-step.result within c.index-lists-step.is []) c.new-text.ensures.items c.in_ok-put_why.ensures c.in_ok-put_value_line.ensures third last

pub returns-clause-verifies : goal.returns-clause-verifies
returns-clause-verifies c =
    let table = c.args.table.now in
    let graph = c.args.graph.now in
    let lists = c.args.lists.now in
    let n = c.args.step in
    let slot = c.args.slot in
    let recorded : IsRecorded table graph = record { table = c.known.ensures.table; sound = c.known.ensures.graph; fits = c.requires.table } in
    let ran : IsRunStep table graph lists n = record { recorded = recorded; run = c.requires.run; within = c.requires.step } in
    certificates_verify table graph lists n slot c.put_used.new.into.items ran c.known-2.ensures.few c.requires.ended (returns-clause-certificate c)
