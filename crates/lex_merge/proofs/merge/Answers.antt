use Rattle.std.proofs.Common.{◌≡◌, List, [], ◌∷◌, sym, subst, ◌∙◌, ap}
use Rattle.context_model.specs.Atoms.{Atom}
use Rattle.context_model.specs.Orders.{atom_cmp}
use Rattle.context_model.specs.WellFormed.{IsWellFormed}
use Rattle.context_model.specs.GreedyMerge.{greedy_merge}
use Rattle.context_model.specs.Merged.{IsMerged}
use Rattle.context_model.proofs.MergedLaws.{merges_greedily}
use Rattle.lex_merge.proofs.merge.Goals as goal

-- The greedy merge of the lists of two contexts is the merge of the contexts.
is_merged : (a b x y merged : List Atom) → merged ≡ greedy_merge atom_cmp x y → x ≡ a → y ≡ b → IsWellFormed a → IsWellFormed b → IsMerged (a ∷ b ∷ []) merged
is_merged a b x y merged is is_a is_b well_a well_b =
    let greedy : merged ≡ greedy_merge atom_cmp a b = is ∙ ap (λ list. greedy_merge atom_cmp list y) is_a ∙ ap (greedy_merge atom_cmp a) is_b in
    subst (IsMerged (a ∷ b ∷ [])) (sym greedy) (merges_greedily a b well_a well_b)

pub of-requires : goal.of-requires
of-requires c =
    (is_merged c.args.a.now c.args.b.now c.list.result.now c.list-2.result.now c.in_ok-merged.merged c.in_ok-merged.ensures c.list.ensures.list c.list-2.ensures.list c.list.ensures.well_formed c.list-2.ensures.well_formed).well_formed

pub returns-clause-merged : goal.returns-clause-merged
returns-clause-merged c =
    is_merged c.args.a.now c.args.b.now c.list.result.now c.list-2.result.now c.of.result (c.of.ensures ∙ c.in_ok-merged.ensures) c.list.ensures.list c.list-2.ensures.list c.list.ensures.well_formed c.list-2.ensures.well_formed
