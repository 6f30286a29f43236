-- Where a walk below a path stops, all that follows is beyond the path.
use Rattle.std.proofs.Common.{◌≡◌, ℕ, zero, suc, ◌+◌, ◌<◌, ◌≤◌, ◌↔◌, Bool, true, false, cond, List, [], ◌∷◌, ◌++◌, length, take, drop, slice_get, Some, Ordering, Less, Greater, Equal, sym, refl, ap, ◌∙◌, subst, arith, inl, inr, le_refl, length-append, append_assoc, take-append-drop}
use Rattle.std.specs.Ordering.{ordering_then, ordering_reverse}
use Rattle.std.proofs.lemmas.Bool.{cases_order}
use Rattle.std.proofs.lemmas.Cmp.{tied_itself}
use Rattle.std.proofs.lemmas.List.{append-nil}
use Rattle.std.proofs.lemmas.Option.{get_or_from_slice_get}
use Rattle.context_model.specs.Atoms.{Atom}
use Rattle.context_model.specs.Orders.{Path, atom_cmp, path_cmp, IsIn}
use Rattle.context_model.specs.Paths.{is_header, level, header_count, depth_after, path_after, atom_at, path_before, path_at, paths}
use Rattle.context_model.specs.Ended.{IsBelow, IsBeyond, IsEnded, front_of}
use Rattle.context_model.specs.WellFormed.{IsWellFormed}
use Rattle.context_model.proofs.OrderLaws.{atoms_total, atoms_anti, paths_total}
use Rattle.context_model.proofs.PathPlaces.{header_path, depth-length, length_at}
use Rattle.context_model.proofs.Places.{IsEnded-at, IsEnded-nowhere, front_of-take, marker_at}
use Rattle.context_model.proofs.PlacesOf.{path_at-next, path_there, paths_rise, place_of_path, IsAtPlace, last_is, front_is_path}
use Rattle.context_model.proofs.Beyond.{header_greater}
use Rattle.bag_walks.specs.Parts.{IsBehind, StaysBelow, IsSegment, IsInside}
use Rattle.bag_walks.specs.Searches.{IsSought, IsFirstBeyond}
use Rattle.bag_walks.proofs.Inside.{fits_there, inside_along}
use Rattle.bag_walks.proofs.Bridge.{no_less, longer, not_before, header_later}

-- ---- ended, by the place where a walk stops

pub atom_there : (list : List Atom) (k : ℕ) → k < length list → slice_get list k ≡ Some (atom_at list k)
atom_there [] k within = absurd (omega arith)
atom_there (a ∷ list) zero within = refl
atom_there (a ∷ list) (suc k) within = atom_there list k (omega arith)

-- With its first marker at a place, a list is ended at s exactly where the paths beyond s begin before that place.
pub ended_by_place : (list : List Atom) (s : Path) (to marker : ℕ) → IsWellFormed list → IsFirstBeyond list s to → ((k : ℕ) → k < marker → slice_get list k ≡ Some [] → ⊥)
    → slice_get list marker ≡ Some [] → marker < length list → IsEnded list s ↔ (to < marker)
ended_by_place list s to marker w first none is within = (
  λ ended. elim (cases_order to marker) [
    | inl same ↦ absurd (nowhere (omega arith) ended)
    | inr (inl less) ↦ less
    | inr (inr more) ↦ absurd (nowhere (omega arith) ended)
  ],
  λ less. IsEnded-at list s marker to (atom_at list to) front less (atom_there list to (omega arith)) (subst (IsBeyond s) (path_at-next list to (omega arith)) (first.there (omega arith))),
)
  where
    front : front_of list ≡ take marker list
    front = front_of-take list marker none (inl is)

    same_path : (i : ℕ) (a : Atom) → i < marker → slice_get list i ≡ Some a → path_after (path_before list i) a ≡ path_at list i
    same_path i a less there = sym (path_at-next list i (omega arith) ∙ ap (path_after (path_before list i)) (get_or_from_slice_get list i a [] there))

    nowhere : marker ≤ to → IsEnded list s → ⊥
    nowhere l ended = IsEnded-nowhere list s marker (marker_at list marker is) front
        (λ i a less there beyond. first.before i (omega arith) (subst (IsBeyond s) (same_path i a less there) beyond)) ended

-- ---- beyond a path

-- What comes after everything below q is beyond it.
beyond_all_below : (q p : Path) → ((z : Atom) (r : Path) → path_cmp (q ++ z ∷ r) p ≡ Less) → IsBeyond q p
beyond_all_below q p f = (
  paths_total.trans q (q ++ [] ∷ []) p (longer q [] []) (f [] []),
  λ (rest, e). by rest e,
)
  where
    by : (rest : Path) → p ≡ q ++ rest → ⊥
    by [] e = no_less q (paths_total.trans q (q ++ [] ∷ []) q (longer q [] []) (subst (λ v. path_cmp (q ++ [] ∷ []) v ≡ Less) (e ∙ append-nil q) (f [] [])))
    by (z ∷ r) e = no_less p (subst (λ v. path_cmp v p ≡ Less) (sym e) (f z r))

-- What is before a place after q isn't beyond q.
not_beyond_before : (list : List Atom) (q : Path) (from k : ℕ) → IsBehind list q from → k < from → IsBeyond q (path_at list k) → ⊥
not_beyond_before list q zero k behind less beyond = absurd (omega arith)
not_beyond_before list q (suc from) k behind less beyond = elim (cases_order from k) [
  | inl same ↦ no_less q (subst (λ v. path_cmp q v ≡ Less) (ap (path_at list) (sym same) ∙ last) beyond.0)
  | inr (inl after) ↦ absurd (omega arith)
  | inr (inr before) ↦ no_less q (paths_total.trans q (path_at list k) q beyond.0
      (subst (λ v. path_cmp (path_at list k) v ≡ Less) last (paths_rise list behind.well_formed k from before (omega (arith, behind.within)))))
]
  where
    last : path_at list from ≡ q
    last = ap (path_before list) (let e : from + 1 ≡ suc from = omega arith in e) ∙ behind.path

-- What is below q has a path that begins with it.
below_inside : (list : List Atom) (q : Path) (from to k : ℕ) → IsBehind list q from → StaysBelow list (length q) from to → from ≤ k → k < to → IsBelow q (path_at list k)
below_inside list q from to k behind stays l m =
    let inside : IsInside list q (k + 1) = inside_along list q from to behind stays (k + 1) (omega arith) (omega arith) in
    (drop (length q) (path_at list k), sym (take-append-drop (length q) (path_at list k)) ∙ ap (λ v. v ++ drop (length q) (path_at list k)) inside.front)

-- The end of what is below s is the first place beyond s.
pub segment_is_first : (list : List Atom) (s : Path) (from to : ℕ) → IsBehind list s from → IsSegment list (length s) from to → IsFirstBeyond list s to
segment_is_first list s from to behind segment = record {
  within = segment.part.within;
  before = λ k less beyond. elim (cases_order k from) [
    | inl same ↦ beyond.1 (below_inside list s from to k behind segment.part (omega arith) less)
    | inr (inl before) ↦ not_beyond_before list s from k behind before beyond
    | inr (inr after) ↦ beyond.1 (below_inside list s from to k behind segment.part (omega arith) less)
  ];
  there = λ here.
      let (header, shallow) = segment.ends here in
      let inside : IsInside list s to = inside_along list s from to behind segment.part to segment.part.rises (le_refl to) in
      beyond_all_below s (path_at list to) (λ z r. header_later list s r z to behind.well_formed here inside header (omega (arith, shallow)) (λ same. absurd (omega (arith, shallow, same))));
}

-- ---- a header that isn't there

-- A header of the level below q that is open at a place is before it, or there.
open_header_there : (list : List Atom) (q r : Path) (b : Atom) (from k : ℕ) → IsBehind list q from → k < length list → path_at list k ≡ q ++ b ∷ r
    → (j : ℕ) × (from ≤ j) × (j ≤ k) × (atom_at list j ≡ b) × (path_at list j ≡ q ++ b ∷ [])
open_header_there list q r b from k behind within is =
    let in_list : IsIn (q ++ b ∷ []) (paths list) = front_is_path list q r b (subst (λ p. IsIn p (paths list)) is (path_there list k within)) in
    let at : IsAtPlace list (q ++ b ∷ []) = place_of_path list (q ++ b ∷ []) in_list in
    (at.place, not_before list q [] b from at.place behind at.within at.path, up_to at.place at.within at.path r is, last_is list at.place q b at.within at.path, at.path)
  where
    no_later : (j : ℕ) → path_at list j ≡ q ++ b ∷ [] → (r : Path) → path_at list k ≡ q ++ b ∷ r → path_cmp (path_at list k) (path_at list j) ≡ Less → ⊥
    no_later j path [] is less = no_less (path_at list k) (subst (λ v. path_cmp (path_at list k) v ≡ Less) (path ∙ sym is) less)
    no_later j path (c ∷ r) is less =
        let below : path_cmp (q ++ b ∷ []) (q ++ b ∷ c ∷ r) ≡ Less = ap (path_cmp (q ++ b ∷ [])) (sym (append_assoc q (b ∷ []) (c ∷ r))) ∙ longer (q ++ b ∷ []) r c in
        no_less (path_at list k) (paths_total.trans (path_at list k) (path_at list j) (path_at list k) less
        (subst (λ v. path_cmp (path_at list j) v ≡ Less) (sym is) (subst (λ v. path_cmp v (q ++ b ∷ c ∷ r) ≡ Less) (sym path) below)))

    up_to : (j : ℕ) → j < length list → path_at list j ≡ q ++ b ∷ [] → (r : Path) → path_at list k ≡ q ++ b ∷ r → j ≤ k
    up_to j below path r is = elim (cases_order j k) [
      | inl same ↦ omega arith
      | inr (inl before) ↦ omega arith
      | inr (inr after) ↦ absurd (no_later j path r is (paths_rise list behind.well_formed k j after below))
    ]

-- The level of a header is the number of headers before it in its path.
level_there : (list : List Atom) (q : Path) (j : ℕ) (b : Atom) → IsWellFormed list → j < length list → atom_at list j ≡ b → path_at list j ≡ q ++ b ∷ [] → is_header b ≡ true → level b ≡ length q
level_there list q j b w within is path header =
    let p = path_before list j in
    let own : is_header (atom_at list j) ≡ true = ap is_header is ∙ header in
    let most = depth-length p (atom_at list j) (fits_there list j w within).level in
    let long : length (take (level (atom_at list j)) p ++ atom_at list j ∷ []) ≡ level (atom_at list j) + 1 =
    length_at (level (atom_at list j)) p (atom_at list j) (header_depth p (atom_at list j) own most) in
    let same : take (level (atom_at list j)) p ++ atom_at list j ∷ [] ≡ q ++ b ∷ [] = sym (header_path p (atom_at list j) own) ∙ sym (path_at-next list j within) ∙ path in
    let count : level (atom_at list j) + 1 ≡ length (q ++ b ∷ []) = sym long ∙ ap length same in
    let own_level : level (atom_at list j) ≡ level b = ap level is in
    omega (arith, count, own_level, length-append q (b ∷ []))
  where
    header_depth : (p : Path) (a : Atom) → is_header a ≡ true → depth_after p a ≤ length p → level a ≤ length p
    header_depth p [] e l = cc
    header_depth p (c ∷ bytes) e l = subst (λ v. cond v (level (c ∷ bytes)) (header_count p) ≤ length p) e l

-- Where a search for a header below q stops and the header isn't there, the paths beyond it begin.
pub absent_is_first : (list : List Atom) (q : Path) (h : Atom) (from to : ℕ) → IsBehind list q from → is_header h ≡ true → IsSought list (length q) h from to
    → (to < length list → level (atom_at list to) ≡ length q → atom_at list to ≡ h → ⊥) → IsFirstBeyond list (q ++ h ∷ []) to
absent_is_first list q h from to behind header sought other = record {
  within = sought.before.stays.within;
  before = before;
  there = there;
}
  where
    before_h : (b : Atom) (r : Path) → atom_cmp b h ≡ Less → path_cmp (q ++ b ∷ r) (q ++ h ∷ []) ≡ Less
    before_h b r less = same_front q
      where
        same_front : (s : Path) → path_cmp (s ++ b ∷ r) (s ++ h ∷ []) ≡ Less
        same_front [] = ap (λ o. ordering_then o (path_cmp r [])) less
        same_front (x ∷ s) = ap (λ o. ordering_then o (path_cmp (s ++ b ∷ r) (s ++ h ∷ []))) (tied_itself atoms_total x) ∙ same_front s

    less_not_beyond : (p : Path) → path_cmp p (q ++ h ∷ []) ≡ Less → IsBeyond (q ++ h ∷ []) p → ⊥
    less_not_beyond p less beyond = no_less p (paths_total.trans p (q ++ h ∷ []) p less beyond.0)

    first_atom : (k : ℕ) → k < to → (b : Atom) (r : Path) → path_at list k ≡ q ++ b ∷ r → (c : Bool) → is_header b ≡ c → atom_cmp b h ≡ Less
    first_atom k less b r is true e =
        let (j, from_on, up_to, atom, path) = open_header_there list q r b from k behind (omega (arith, sought.before.stays.within)) is in
        let within : j < length list = omega (arith, up_to, sought.before.stays.within) in
        let own : level b ≡ length q = level_there list q j b behind.well_formed within atom path e in
        subst (λ v. atom_cmp v h ≡ Less) atom ((sought.before.passed j from_on (omega (arith, up_to)) (ap is_header atom ∙ e)).1 (ap level atom ∙ own))
    first_atom k less b r is false e = atoms_total.antisymm b h ∙ ap ordering_reverse (header_greater h b header e)

    before : (k : ℕ) → k < to → IsBeyond (q ++ h ∷ []) (path_at list k) → ⊥
    before k less beyond = elim (cases_order k from) [
      | inl same ↦ inside (omega arith)
      | inr (inl early) ↦ not_beyond_before list q from k behind early (beyond_q beyond)
      | inr (inr after) ↦ inside (omega arith)
    ]
      where
        by : (r : Path) → path_at list k ≡ q ++ r → ⊥
        by [] is = no_less q (paths_total.trans q (q ++ h ∷ []) q (longer q [] h) (subst (λ v. path_cmp (q ++ h ∷ []) v ≡ Less) (is ∙ append-nil q) beyond.0))
        by (b ∷ r) is = less_not_beyond (path_at list k) (subst (λ v. path_cmp v (q ++ h ∷ []) ≡ Less) (sym is) (before_h b r (first_atom k less b r is (is_header b) refl))) beyond

        inside : from ≤ k → ⊥
        inside l = let (r, is) = below_inside list q from to k behind sought.before.stays l less in by r is

        beyond_q : IsBeyond (q ++ h ∷ []) (path_at list k) → IsBeyond q (path_at list k)
        beyond_q b = (paths_total.trans q (q ++ h ∷ []) (path_at list k) (longer q [] h) b.0, λ (rest, is). by rest is)

    there : to < length list → IsBeyond (q ++ h ∷ []) (path_at list to)
    there here =
        let (e, few, least) = sought.stops here in
        let inside : IsInside list q to = inside_along list q from to behind sought.before.stays to sought.before.stays.rises (le_refl to) in
        let less : level (atom_at list to) ≡ length q → atom_cmp h (atom_at list to) ≡ Less = λ own. strictly (atom_at list to) (other here own) (least own) in
        beyond_all_below (q ++ h ∷ []) (path_at list to) (λ z r. subst (λ v. path_cmp v (path_at list to) ≡ Less) (sym (append_assoc q (h ∷ []) (z ∷ r)))
        (header_later list q (z ∷ r) h to behind.well_formed here inside e few less))
      where
        strictly : (a : Atom) → (a ≡ h → ⊥) → (atom_cmp h a ≡ Greater → ⊥) → atom_cmp h a ≡ Less
        strictly a apart not_greater = by (atom_cmp h a) refl
          where
            by : (o : Ordering) → atom_cmp h a ≡ o → atom_cmp h a ≡ Less
            by Less e = e
            by Equal e = absurd (apart (sym (atoms_anti h a e)))
            by Greater e = absurd (not_greater e)
