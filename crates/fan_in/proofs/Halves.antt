-- The merge of two halves.
use Rattle.std.proofs.Common.{◌≡◌, ℕ, List, [], ◌++◌, get_or, IfOk, Result, sym, ap, ◌∙◌, subst}
use Rattle.std.proofs.lemmas.List.{map-append}
use Rattle.std.proofs.lemmas.Result.{IfOk-weaker}
use Rattle.context_model.specs.Atoms.{Atom}
use Rattle.context_model.specs.Orders.{atom_cmp}
use Rattle.context_model.specs.GreedyMerge.{greedy_merge}
use Rattle.context_model.specs.Merged.{IsMerged, MergesInGroups}
use Rattle.fan_in.specs.Pools.{lists_at_places}

-- The greedy merge of the merges of both halves is the merge of all places.
halves_merge : MergesInGroups → (pool : List (List Atom)) (places left right : List ℕ) (a b merged : List Atom) → places ≡ left ++ right
    → IsMerged (lists_at_places pool left) a → IsMerged (lists_at_places pool right) b → merged ≡ greedy_merge atom_cmp a b → IsMerged (lists_at_places pool places) merged
halves_merge groups pool places left right a b merged cut of_a of_b is =
    let split : lists_at_places pool left ++ lists_at_places pool right ≡ lists_at_places pool places = sym (map-append (λ place. get_or pool place []) left right) ∙ ap (lists_at_places pool) (sym cut) in
    subst (λ (lists : List (List Atom)). IsMerged lists merged) split
    (subst (IsMerged (lists_at_places pool left ++ lists_at_places pool right)) (sym is) (groups (lists_at_places pool left) (lists_at_places pool right) a b of_a of_b))

pub halves_if_ok : {E : Type 0} → MergesInGroups → (pool : List (List Atom)) (places left right : List ℕ) (a b : List Atom) (result : Result (List Atom) E) → places ≡ left ++ right
    → IsMerged (lists_at_places pool left) a → IsMerged (lists_at_places pool right) b → IfOk result (λ merged. merged ≡ greedy_merge atom_cmp a b) → IfOk result (IsMerged (lists_at_places pool places))
halves_if_ok groups pool places left right a b result cut of_a of_b is =
    IfOk-weaker result (λ merged. merged ≡ greedy_merge atom_cmp a b) (IsMerged (lists_at_places pool places)) (λ merged. halves_merge groups pool places left right a b merged cut of_a of_b) is
