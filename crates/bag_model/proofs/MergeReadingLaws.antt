-- A merge of typed lists is typed, and says the join of what its lists say.
use Rattle.std.proofs.Common.{inl, inr, List, [], ◌∷◌, ◌++◌, subst, append_assoc}
use Rattle.std.specs.List.{AllByRecursion}
use Rattle.context_model.specs.Atoms.{Atom}
use Rattle.context_model.specs.Kinds.{atom_of}
use Rattle.context_model.specs.Kinds.Kind.{Keyed}
use Rattle.context_model.specs.Orders.{Path, IsIn}
use Rattle.context_model.specs.Paths.{paths}
use Rattle.context_model.specs.Merged.{SomeHasPath, IsMerged}
use Rattle.context_model.proofs.GreedyElements.{All-at}
use Rattle.context_model.proofs.MergedLaws.{SomeHasPath-list}
use Rattle.bag_model.specs.Shapes.{Nodes}
use Rattle.bag_model.specs.Values.{Values}
use Rattle.bag_model.specs.Joins.{join_values}
use Rattle.bag_model.specs.Readings.{PathsOf, SaysValues}
use Rattle.bag_model.specs.Typed.{AreTyped}
use Rattle.bag_model.specs.MergeReadings.{MergesReadAsJoins}
use Rattle.context_model.proofs.PlacesOf.{front_is_path}
use Rattle.bag_model.proofs.PathSets.{Both, AnyOf, SameBelow, HasKeyHeaders}
use Rattle.bag_model.proofs.Unions.{ReadsEach-alike, ReadsEach-union}
use Rattle.bag_model.proofs.Uniqueness.{ReadsEach-unique}
use Rattle.bag_model.proofs.TypedLaws.{AreTyped-fewer, AreTyped-any}

-- A path below a key of a list needs the key's header.
pub PathsOf-headers : (list : List Atom) → HasKeyHeaders (PathsOf list)
PathsOf-headers list q key a r i =
    front_is_path list q (a ∷ r) (atom_of (Keyed _ key)) (subst (λ p. IsIn p (paths list)) (append_assoc q (atom_of (Keyed _ key) ∷ []) (a ∷ r)) i)

-- the paths of one of some lists
abbrev one_of : (lists : List (List Atom)) → (list : List Atom) × IsIn list lists → Path → Type 0
one_of lists i = PathsOf i.0

merged_typed : (nodes : Nodes) (lists : List (List Atom)) (merged : List Atom) → IsMerged lists merged
    → AllByRecursion (λ list. AreTyped nodes (PathsOf list) []) lists → AreTyped nodes (PathsOf merged) []
merged_typed nodes lists merged m each =
    AreTyped-fewer nodes (PathsOf merged) (AnyOf (one_of lists)) []
    (λ p b bytes i. let s = SomeHasPath-list lists (p ++ (b ∷ bytes) ∷ []) ((m.exact (p ++ (b ∷ bytes) ∷ [])).0 i) in ((s.0, s.1), s.2))
    (AreTyped-any nodes ((list : List Atom) × IsIn list lists) (one_of lists) [] (λ i. PathsOf-headers i.0)
    (λ i b. All-at (λ list. AreTyped nodes (PathsOf list) []) lists i.0 each i.1))

-- the paths of a merge of two lists are those of both
merge_same : (a b merged : List Atom) → IsMerged (a ∷ b ∷ []) merged → SameBelow [] (Both (PathsOf a) (PathsOf b)) (PathsOf merged)
merge_same a b merged m = (
  (λ p c bytes i. (m.exact (p ++ (c ∷ bytes) ∷ [])).1 (elim i [ inl j ↦ inl j | inr j ↦ inr (inl j) ])),
  (λ p c bytes i. by (p ++ (c ∷ bytes) ∷ []) ((m.exact (p ++ (c ∷ bytes) ∷ [])).0 i)),
)
  where
    by : (p : Path) → SomeHasPath (a ∷ b ∷ []) p → Both (PathsOf a) (PathsOf b) p
    by p (inl j) = inl j
    by p (inr (inl j)) = inr j
    by p (inr (inr none)) = elim none [ ]

merged_joins : (nodes : Nodes) (a b merged : List Atom) (v w : Values) → IsMerged (a ∷ b ∷ []) merged
    → SaysValues nodes a v → SaysValues nodes b w → SaysValues nodes merged (join_values v w)
merged_joins nodes a b merged v w m r s =
    ReadsEach-alike nodes (Both (PathsOf a) (PathsOf b)) (PathsOf merged) [] (join_values v w) (merge_same a b merged m)
    (ReadsEach-union nodes (PathsOf a) (PathsOf b) [] v w (PathsOf-headers a) (PathsOf-headers b) r s)

pub merges_read_as_joins : MergesReadAsJoins
merges_read_as_joins = record {
  typed = merged_typed;
  joins = merged_joins;
  one = λ nodes list v w r s. ReadsEach-unique nodes (PathsOf list) [] v w r s;
}
