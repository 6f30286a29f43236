-- The first marker of a list, and the atoms before it: among the paths of a list, and in a merge.
use Rattle.std.proofs.Common.{◌≡◌, ℕ, inl, inr, ◌↔◌, List, [], ◌∷◌, ◌++◌, take, Ordering, Less, Equal, Greater, sym, refl, ap, ◌∙◌, subst}
use Rattle.std.specs.Cmp.{tied_itself}
use Rattle.std.specs.Ordering.{ordering_then, ordering_reverse}
use Rattle.context_model.specs.Atoms.{Atom}
use Rattle.context_model.specs.Orders.{Path, atom_cmp, path_cmp, IsIn}
use Rattle.context_model.specs.Paths.{depth_after, path_after, paths_after, paths, last_path_after}
use Rattle.context_model.specs.WellFormed.{IsWellFormed}
use Rattle.context_model.specs.Ended.{HasMarker, front_of, IsBeyond}
use Rattle.context_model.specs.MarkerPlaces.{HasMarkerBehind, HasFirstMarkerBehind, EndsAtFirstMarker}
use Rattle.context_model.specs.MergedMarkers.{HasLeastFirstMarker, KeepsFirstMarker, KeepsFronts}
use Rattle.context_model.proofs.OrderLaws.{paths_total, paths_anti}
use Rattle.context_model.proofs.GreedyElements.{All-at}
use Rattle.context_model.proofs.Following.{Follows, IsWellFormed-follows, path_after-marker}
use Rattle.context_model.proofs.Places.{marker_at}
use Rattle.context_model.proofs.Beyond.{IsBeyond-later}
use Rattle.context_model.proofs.EndedLaws.{ends_at_markers}
use Rattle.context_model.proofs.MergedLaws.{same_end, merged_path}
use Rattle.context_model.proofs.MergedMarkers.{HasMarkerBehind-path}

-- ---- the order of paths

never_before : (p : Path) → path_cmp p p ≡ Less → ⊥
never_before p l = let clash : Less ≡ Equal = sym l ∙ tied_itself paths_total p in cc

-- a marker after each of two paths keeps their order
marker_less : (p q : Path) → path_cmp p q ≡ Less → path_cmp (p ++ [] ∷ []) (q ++ [] ∷ []) ≡ Less
marker_less [] [] l = let clash : Equal ≡ Less = l in cc
marker_less [] ([] ∷ []) l = refl
marker_less [] ([] ∷ y ∷ q) l = refl
marker_less [] ((b ∷ bytes) ∷ q) l = refl
marker_less (x ∷ p) [] l = let clash : Greater ≡ Less = l in cc
marker_less (x ∷ p) (y ∷ q) l = by (atom_cmp x y) l (marker_less p q)
  where
    by : (r : Ordering) → ordering_then r (path_cmp p q) ≡ Less → (path_cmp p q ≡ Less → path_cmp (p ++ [] ∷ []) (q ++ [] ∷ []) ≡ Less) → ordering_then r (path_cmp (p ++ [] ∷ []) (q ++ [] ∷ [])) ≡ Less
    by Less l deeper = refl
    by Equal l deeper = deeper l
    by Greater l deeper = cc

-- each path of a list that follows q comes after q
pub follows_after : (q : Path) (list : List Atom) (p : Path) → Follows q list → IsIn p (paths_after q list) → path_cmp q p ≡ Less
follows_after q [] p f none = elim none [ ]
follows_after q (a ∷ list) p f (inl e) = subst (λ v. path_cmp q v ≡ Less) (sym e) f.0.later
follows_after q (a ∷ list) p f (inr i) = paths_total.trans q (path_after q a) p f.0.later (follows_after (path_after q a) list p f.1 i)

-- the path of an atom that is no marker isn't a path with a marker after it
no_marker : (p q : Path) (b : ℕ) (bytes : List ℕ) → p ++ [] ∷ [] ≡ path_after q (b ∷ bytes) → ⊥
no_marker p q b bytes e = let same : [] ≡ b ∷ bytes = (same_end p (take (depth_after q (b ∷ bytes)) q) [] (b ∷ bytes) e).1 in cc

-- ---- the first marker is the least one

-- The marker after q is the least: q with a marker is one of the paths, and no lesser path with a
-- marker is.
abbrev pub IsLeastMarker : List Path → Path → Type 0
IsLeastMarker ps q = IsIn (q ++ [] ∷ []) ps × ((p : Path) → IsIn (p ++ [] ∷ []) ps → path_cmp p q ≡ Less → ⊥)

first_is_least : (q : Path) (list : List Atom) → Follows q list → HasMarker list → IsLeastMarker (paths_after q list) (last_path_after q (front_of list))
first_is_least q [] f none = elim none [ ]
first_is_least q ([] ∷ list) f m = (inl (sym (path_after-marker q)), least)
  where
    least : (p : Path) → IsIn (p ++ [] ∷ []) (paths_after q ([] ∷ list)) → path_cmp p q ≡ Less → ⊥
    least p (inl e) l = never_before q (subst (λ v. path_cmp v q ≡ Less) ((same_end p q [] [] (e ∙ path_after-marker q)).0) l)
    least p (inr i) l =
        let up : path_cmp (p ++ [] ∷ []) (path_after q []) ≡ Less = subst (λ v. path_cmp (p ++ [] ∷ []) v ≡ Less) (sym (path_after-marker q)) (marker_less p q l) in
        never_before (p ++ [] ∷ []) (paths_total.trans (p ++ [] ∷ []) (path_after q []) (p ++ [] ∷ []) up (follows_after (path_after q []) list (p ++ [] ∷ []) f.1 i))
first_is_least q ((b ∷ bytes) ∷ list) f (inl e) = cc
first_is_least q ((b ∷ bytes) ∷ list) f (inr m) = by (first_is_least (path_after q (b ∷ bytes)) list f.1 m)
  where
    by : IsLeastMarker (paths_after (path_after q (b ∷ bytes)) list) (last_path_after (path_after q (b ∷ bytes)) (front_of list))
        → IsLeastMarker (paths_after q ((b ∷ bytes) ∷ list)) (last_path_after (path_after q (b ∷ bytes)) (front_of list))
    by rest = (inr rest.0, λ p i l. elim i [ inl e ↦ no_marker p q b bytes e | inr j ↦ rest.1 p j l ])

pub first-least : (list : List Atom) (q : Path) → IsWellFormed list → HasFirstMarkerBehind list q → IsLeastMarker (paths list) q
first-least list q w first = subst (IsLeastMarker (paths list)) first.behind (first_is_least [] list (IsWellFormed-follows list w) first.marker)

pub first-from_least : (list : List Atom) (q : Path) → IsWellFormed list → IsLeastMarker (paths list) q → HasFirstMarkerBehind list q
first-from_least list q w least = record { marker = marker; behind = by (path_cmp (last_path_after [] (front_of list)) q) refl }
  where
    marker : HasMarker list
    marker = let m : HasMarkerBehind list q = (HasMarkerBehind-path list q).1 least.0 in marker_at list m.place m.there

    also : IsLeastMarker (paths list) (last_path_after [] (front_of list))
    also = first_is_least [] list (IsWellFormed-follows list w) marker

    by : (r : Ordering) → path_cmp (last_path_after [] (front_of list)) q ≡ r → last_path_after [] (front_of list) ≡ q
    by Less e = absurd (least.1 (last_path_after [] (front_of list)) also.0 e)
    by Equal e = paths_anti (last_path_after [] (front_of list)) q e
    by Greater e = absurd (also.1 q least.0 (paths_total.antisymm q (last_path_after [] (front_of list)) ∙ ap ordering_reverse e))

pub ends_at_first_marker : EndsAtFirstMarker
ends_at_first_marker list s q w first = (
  (λ e. (ends_at_markers list s w).0 e q least.0),
  λ b. (ends_at_markers list s w).1 (λ p i. by p b (least.1 p i) (path_cmp q p) refl),
)
  where
    least : IsLeastMarker (paths list) q
    least = first-least list q w first

    by : (p : Path) → IsBeyond s q → (path_cmp p q ≡ Less → ⊥) → (r : Ordering) → path_cmp q p ≡ r → IsBeyond s p
    by p b n Less e = IsBeyond-later s q p b e
    by p b n Equal e = subst (IsBeyond s) (paths_anti q p e) b
    by p b n Greater e = absurd (n (paths_total.antisymm p q ∙ ap ordering_reverse e))

pub keeps_first_marker : KeepsFirstMarker
keeps_first_marker lists a q each f = (there, back)
  where
    there : HasFirstMarkerBehind a q → HasLeastFirstMarker lists q
    there first =
        let l : IsLeastMarker (paths a) q = first-least a q f.well_formed first in
        let s = (merged_path lists a (q ++ [] ∷ []) f).0 l.0 in
        record {
          list = s.0;
          among = s.1;
          first = first-from_least s.0 q (All-at IsWellFormed lists s.0 each s.1) (s.2, λ p i. l.1 p ((merged_path lists a (p ++ [] ∷ []) f).1 (s.0, s.1, i)));
          least = λ other p among mark. l.1 p ((merged_path lists a (p ++ [] ∷ []) f).1 (other, among, (first-least other p (All-at IsWellFormed lists other each among) mark).0));
        }

    lesser : (p q r : Path) → (path_cmp p r ≡ Less → ⊥) → path_cmp p q ≡ Less → path_cmp r q ≡ Less
    lesser p q r n l = by (path_cmp p r) refl
      where
        by : (o : Ordering) → path_cmp p r ≡ o → path_cmp r q ≡ Less
        by Less e = absurd (n e)
        by Equal e = subst (λ v. path_cmp v q ≡ Less) (paths_anti p r e) l
        by Greater e = paths_total.trans r p q (paths_total.antisymm r p ∙ ap ordering_reverse e) l

    back : HasLeastFirstMarker lists q → HasFirstMarkerBehind a q
    back first = first-from_least a q f.well_formed (
      (merged_path lists a (q ++ [] ∷ []) f).1 (first.list, first.among, (first-least first.list q (All-at IsWellFormed lists first.list each first.among) first.first).0),
      λ p i l. (
          let s = (merged_path lists a (p ++ [] ∷ []) f).0 i in
          let m : HasMarkerBehind s.0 p = (HasMarkerBehind-path s.0 p).1 s.2 in
          let r : Path = last_path_after [] (front_of s.0) in
          let mark : HasFirstMarkerBehind s.0 r = record { marker = marker_at s.0 m.place m.there; behind = refl } in
          let low : IsLeastMarker (paths s.0) r = first-least s.0 r (All-at IsWellFormed lists s.0 each s.1) mark in
          first.least s.0 r s.1 mark (lesser p q r (low.1 p s.2) l)
          ),
    )

-- ---- the atoms before the first marker

-- The path is one of them and comes before each path that ends in a marker.
abbrev pub IsBeforeMarkers : List Path → Path → Type 0
IsBeforeMarkers ps p = IsIn p ps × ((q : Path) → IsIn (q ++ [] ∷ []) ps → path_cmp p (q ++ [] ∷ []) ≡ Less)

in_front : (q : Path) (list : List Atom) (p : Path) → Follows q list → IsIn p (paths_after q (front_of list)) → IsBeforeMarkers (paths_after q list) p
in_front q [] p f none = elim none [ ]
in_front q ([] ∷ list) p f none = elim none [ ]
in_front q ((b ∷ bytes) ∷ list) p f (inl e) =
    (inl e, λ r i. elim i [ inl h ↦ absurd (no_marker r q b bytes h) | inr j ↦ subst (λ v. path_cmp v (r ++ [] ∷ []) ≡ Less) (sym e) (follows_after (path_after q (b ∷ bytes)) list (r ++ [] ∷ []) f.1 j) ])
in_front q ((b ∷ bytes) ∷ list) p f (inr i) =
    let rest : IsBeforeMarkers (paths_after (path_after q (b ∷ bytes)) list) p = in_front (path_after q (b ∷ bytes)) list p f.1 i in
    (inr rest.0, λ r j. elim j [ inl h ↦ absurd (no_marker r q b bytes h) | inr k ↦ rest.1 r k ])

to_front : (q : Path) (list : List Atom) (p : Path) → Follows q list → IsBeforeMarkers (paths_after q list) p → IsIn p (paths_after q (front_of list))
to_front q [] p f b = b.0
to_front q ([] ∷ list) p f b = absurd (by b.0)
  where
    before : path_cmp p (path_after q []) ≡ Less
    before = subst (λ v. path_cmp p v ≡ Less) (sym (path_after-marker q)) (b.1 q (inl (sym (path_after-marker q))))

    by : IsIn p (paths_after q ([] ∷ list)) → ⊥
    by (inl e) = never_before p (subst (λ v. path_cmp p v ≡ Less) (sym e) before)
    by (inr i) = never_before p (paths_total.trans p (path_after q []) p before (follows_after (path_after q []) list p f.1 i))
to_front q ((c ∷ bytes) ∷ list) p f b = elim b.0 [ inl e ↦ inl e | inr i ↦ inr (to_front (path_after q (c ∷ bytes)) list p f.1 (i, λ r j. b.1 r (inr j))) ]

-- in a well-formed list the paths before the first marker are those before each path that ends in one
pub front-paths : (list : List Atom) (p : Path) → IsWellFormed list → IsIn p (paths (front_of list)) ↔ IsBeforeMarkers (paths list) p
front-paths list p w = ((λ i. in_front [] list p (IsWellFormed-follows list w) i), λ b. to_front [] list p (IsWellFormed-follows list w) b)

pub keeps_fronts : KeepsFronts
keeps_fronts lists a p f = (
  (λ i. let b = (front-paths a p f.well_formed).0 i in ((f.exact p).0 b.0, λ q s. b.1 q ((f.exact (q ++ [] ∷ [])).1 s))),
  λ s. (front-paths a p f.well_formed).1 ((f.exact p).1 s.0, λ q i. s.1 q ((f.exact (q ++ [] ∷ [])).0 i)),
)
