use Rattle.std.proofs.Common.{◌≡◌, sym, ◌∙◌, ap, subst, IfOk}
use Rattle.std.specs.Option.{option_to_list}
use Rattle.context_model.specs.Orders.{atom_cmp}
use Rattle.context_model.specs.GreedyMerge.{greedy_merge}
use Rattle.context_model.specs.Merged.{merge_of}
use Rattle.lex_merge.proofs.Standing.{merge_of-one}
use Rattle.lex_merge.proofs.many.merge_next.Goals as goal

pub returns-in-Some-clause-one_by_one : goal.returns-in-Some-clause-one_by_one
returns-in-Some-clause-one_by_one c =
    let first = c.args.first in
    let alone = ap (greedy_merge atom_cmp first) (sym (merge_of-one c.in-Some.second)) in
    let both = ap (λ second. greedy_merge atom_cmp first (merge_of (option_to_list second))) (sym c.in-Some.is) in
    subst (λ list. IfOk c.merge.result (λ merged. merged ≡ list)) (alone ∙ both) c.merge.ensures.greedy

pub returns-in-None-clause-one_by_one : goal.returns-in-None-clause-one_by_one
returns-in-None-clause-one_by_one c = sym (merge_of-one c.args.first) ∙ ap (λ second. greedy_merge atom_cmp c.args.first (merge_of (option_to_list second))) (sym c.in-None.is)
