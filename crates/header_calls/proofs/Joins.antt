-- What is ended in an extract, and what is read of it.
use Rattle.std.proofs.Common.{◌≡◌, inl, inr, ◌↔◌, ℕ, zero, List, [], ◌∷◌, ◌++◌, map, Option, None, Some, refl, sym, ap, ◌∙◌, subst}
use Rattle.std.specs.List.{AllByRecursion}
use Rattle.context_model.specs.Atoms.{Atom}
use Rattle.context_model.specs.Ended.{IsEnded}
use Rattle.context_model.specs.GreedyMerge.{greedy_merge}
use Rattle.context_model.specs.Merged.{IsMerged, merge_of}
use Rattle.context_model.specs.Orders.{Path, atom_cmp}
use Rattle.context_model.specs.WellFormed.{IsWellFormed}
use Rattle.context_model.proofs.MergedLaws.{has_one_merge, merges_few, merges_greedily, merges_in_groups, merges_one_by_one}
use Rattle.context_model.proofs.MergedMarkers.{ends_with_each}
use Rattle.bag_model.specs.Shapes.{Nodes}
use Rattle.bag_model.specs.Values.{Values}
use Rattle.bag_model.specs.Joins.{join_values}
use Rattle.bag_model.specs.Readings.{SaysValues}
use Rattle.bag_model.proofs.MergeReadingLaws.{merges_read_as_joins}
use Rattle.header_text.specs.Parts.{all_parts}
use Rattle.header_text.specs.Reading.{counted_context, lost_list}
use Rattle.header_text.proofs.Lost.{well_formed}
use Rattle.header_calls.specs.declared.extracting.Absent.{Absent}
use Rattle.header_calls.specs.declared.extracting.Absent.TheVariants.{Empty, Lost}
use Rattle.header_calls.specs.Values.{AreReadingsOf, lost_of}
use Rattle.header_calls.specs.Extracting.{AreComing, IsExtractOf}
use Rattle.header_calls.specs.Laws.{ExtractsAreJoins, SayValues, join_from}

-- Nothing is ended in the lost context.
nothing_ended : (s : Path) → IsEnded lost_list s → ⊥
nothing_ended s (inl none) = none (inl refl)
nothing_ended s (inr (q, i, beyond)) = i

formed : (parts : List (List ℕ)) (rs : List (Option (List Atom))) → AreReadingsOf parts rs → AllByRecursion IsWellFormed (map counted_context rs)
formed [] [] are = tt
formed [] (r ∷ rs) are = absurd are
formed (p ∷ parts) [] are = absurd are
formed (p ∷ parts) (Some list ∷ rs) are = (are.0.2.1, formed parts rs are.1)
formed (p ∷ parts) (None ∷ rs) are = (well_formed, formed parts rs are.1)

-- What counts for each part is well formed.
coming_formed : (absent : Absent) (parts : List (List ℕ)) (rs : List (Option (List Atom))) → AreComing absent parts rs → AllByRecursion IsWellFormed (map counted_context rs)
coming_formed Empty parts rs come = formed parts rs come
coming_formed Lost [] rs come = subst (λ (one : List (Option (List Atom))). AllByRecursion IsWellFormed (map counted_context one)) (sym come) (well_formed, tt)
coming_formed Lost (part ∷ parts) rs come = formed (part ∷ parts) rs come

ended_each : (absent : Absent) (values : List (List ℕ)) (list : List Atom) (parts gone : ℕ) (s : Path) (extract : IsExtractOf absent values list parts gone)
    → IsEnded list s ↔ AllByRecursion (λ one. IsEnded one s) (map counted_context extract.readings)
ended_each absent values list parts gone s extract =
    ends_with_each (map counted_context extract.readings) list s (coming_formed absent (all_parts values) extract.readings extract.come) extract.merged

-- Where something is ended in what each part carries, none is lost.
none_lost : (rs : List (Option (List Atom))) (s : Path) → AllByRecursion (λ one. IsEnded one s) (map counted_context rs) → lost_of rs ≡ zero
none_lost [] s all = refl
none_lost (Some list ∷ rs) s all = none_lost rs s all.1
none_lost (None ∷ rs) s all = absurd (nothing_ended s all.0)

-- What is read of a merge of one or more lists is the join of what is read of them.
said : (nodes : Nodes) (lists : List (List Atom)) (vs : Values) (more : List Values) (list : List Atom) → AllByRecursion IsWellFormed lists → IsMerged lists list
    → SayValues nodes lists (vs ∷ more) → SaysValues nodes list (join_from vs more)
said nodes [] vs more list form merged says = absurd says
said nodes (l ∷ []) vs [] list form merged says =
    subst (λ (x : List Atom). SaysValues nodes x vs) (sym (has_one_merge (l ∷ []) list l merged (merges_few.one l form.0))) says.0
said nodes (l ∷ []) vs (w ∷ more) list form merged says = absurd says.1
said nodes (l ∷ k ∷ lists) vs [] list form merged says = absurd says.1
said nodes (l ∷ k ∷ lists) vs (w ∷ more) list form merged says =
    let rest = merge_of (k ∷ lists) in
    let rest_merged = merges_one_by_one (k ∷ lists) form.1 in
    let both = greedy_merge atom_cmp l rest in
    let all = merges_in_groups (l ∷ []) (k ∷ lists) l rest (merges_few.one l form.0) rest_merged in
    let two = merges_greedily l rest form.0 rest_merged.well_formed in
    let same = has_one_merge (l ∷ k ∷ lists) list both merged all in
    subst (λ (x : List Atom). SaysValues nodes x (join_values vs (join_from w more))) (sym same)
    (merges_read_as_joins.joins nodes l rest both vs (join_from w more) two says.0 (said nodes (k ∷ lists) w more rest form.1 rest_merged says.1))

pub extracts_are_joins : ExtractsAreJoins
extracts_are_joins = record {
  ended = ended_each;
  none_lost = λ absent values list parts gone s extract ended. extract.lost_are ∙ none_lost extract.readings s ((ended_each absent values list parts gone s extract).0 ended);
  joins = λ absent values list parts gone extract nodes vs more says.
      said nodes (map counted_context extract.readings) vs more list (coming_formed absent (all_parts values) extract.readings extract.come) extract.merged says;
}
