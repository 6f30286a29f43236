-- The markers of a merge are those of its lists, and a path is ended in a merge exactly where it is ended in each list.
use Rattle.std.proofs.Common.{◌≡◌, ◌↔◌, List, [], ◌∷◌, ◌++◌, take, Some, sym, ap, ◌∙◌, subst}
use Rattle.std.specs.List.{AllByRecursion}
use Rattle.context_model.specs.Atoms.{Atom}
use Rattle.context_model.specs.Orders.{Path, IsIn}
use Rattle.context_model.specs.Paths.{depth_after, path_after, paths, last_path_after}
use Rattle.context_model.specs.WellFormed.{IsWellFormed}
use Rattle.context_model.specs.Ended.{IsEnded}
use Rattle.context_model.specs.Merged.{IsMerged}
use Rattle.context_model.specs.MarkerPlaces.{HasMarkerBehind}
use Rattle.context_model.specs.MergedMarkers.{KeepsMarkers, KeepsMarkersBehind, EndsWithEach}
use Rattle.context_model.proofs.GreedyElements.{All-at, All-from}
use Rattle.context_model.proofs.Following.{path_after-marker}
use Rattle.context_model.proofs.Places.{path_of_place, StandsThere, place_of}
use Rattle.context_model.proofs.EndedLaws.{ends_at_markers}
use Rattle.context_model.proofs.MergedLaws.{same_end, merged_path, keeps_atoms}

pub keeps_markers : KeepsMarkers
keeps_markers lists a = keeps_atoms lists a []

-- a marker comes after the atom with the path q exactly where q with a marker is a path
pub HasMarkerBehind-path : (list : List Atom) (q : Path) → HasMarkerBehind list q ↔ IsIn (q ++ [] ∷ []) (paths list)
HasMarkerBehind-path list q = (there, back)
  where
    there : HasMarkerBehind list q → IsIn (q ++ [] ∷ []) (paths list)
    there m = subst (λ p. IsIn p (paths list)) (path_after-marker (last_path_after [] (take m.place list)) ∙ ap (λ p. p ++ [] ∷ []) m.behind) (path_of_place [] list m.place [] m.there)

    back : IsIn (q ++ [] ∷ []) (paths list) → HasMarkerBehind list q
    back i =
        let s : StandsThere [] list (q ++ [] ∷ []) = place_of [] list (q ++ [] ∷ []) i in
        let before : Path = last_path_after [] (take s.place list) in
        let marker : s.atom ≡ [] = sym (same_end q (take (depth_after before s.atom) before) [] s.atom s.path_is).1 in
        let here : q ++ [] ∷ [] ≡ before ++ [] ∷ [] = s.path_is ∙ ap (path_after before) marker ∙ path_after-marker before in
        record { place = s.place; there = s.there ∙ ap (λ x. Some x) marker; behind = sym (same_end q before [] [] here).0 }

pub keeps_markers_behind : KeepsMarkersBehind
keeps_markers_behind lists a q f = (there, back)
  where
    there : HasMarkerBehind a q → (list : List Atom) × IsIn list lists × HasMarkerBehind list q
    there m = let s = (merged_path lists a (q ++ [] ∷ []) f).0 ((HasMarkerBehind-path a q).0 m) in (s.0, s.1, (HasMarkerBehind-path s.0 q).1 s.2)

    back : (list : List Atom) × IsIn list lists × HasMarkerBehind list q → HasMarkerBehind a q
    back s = (HasMarkerBehind-path a q).1 ((merged_path lists a (q ++ [] ∷ []) f).1 (s.0, s.1, (HasMarkerBehind-path s.0 q).0 s.2))

-- ---- ended

pub ends_with_each : EndsWithEach
ends_with_each lists a s each f = (there, back)
  where
    there : IsEnded a s → AllByRecursion (λ list. IsEnded list s) lists
    there e = All-from _ lists (λ list m. (ends_at_markers list s (All-at IsWellFormed lists list each m)).1 (λ q i. (ends_at_markers a s f.well_formed).0 e q ((merged_path lists a (q ++ [] ∷ []) f).1 (list, m, i))))

    back : AllByRecursion (λ list. IsEnded list s) lists → IsEnded a s
    back all = (ends_at_markers a s f.well_formed).1 (λ q i.
        let t = (merged_path lists a (q ++ [] ∷ []) f).0 i in
        (ends_at_markers t.0 s (All-at IsWellFormed lists t.0 each t.1)).0 (All-at (λ list. IsEnded list s) lists t.0 all t.1) q t.2)

-- what is ended in a merge is ended in each list
pub IsEnded-fewer : (lists : List (List Atom)) (a list : List Atom) (s : Path) → AllByRecursion IsWellFormed lists → IsMerged lists a → IsIn list lists → IsEnded a s → IsEnded list s
IsEnded-fewer lists a list s each f among e = All-at (λ l. IsEnded l s) lists list ((ends_with_each lists a s each f).0 e) among
