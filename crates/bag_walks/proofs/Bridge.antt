-- Between the paths of a list and the places where their atoms are.
use Rattle.std.proofs.Common.{◌≡◌, ℕ, zero, suc, ◌+◌, ◌<◌, ◌≤◌, ◌↔◌, true, List, [], ◌∷◌, ◌++◌, length, take, slice_get, Some, Less, Equal, sym, refl, ap, ◌∙◌, subst, arith, inl, inr, le_refl, append_assoc}
use Rattle.std.specs.Ordering.{ordering_then, ordering_reverse}
use Rattle.std.proofs.lemmas.Bool.{cases_order}
use Rattle.std.proofs.lemmas.Cmp.{tied_itself}
use Rattle.std.proofs.lemmas.List.{take-take, take-append-le}
use Rattle.context_model.specs.Atoms.{Atom}
use Rattle.context_model.specs.Orders.{Path, atom_cmp, path_cmp, IsIn}
use Rattle.context_model.specs.Paths.{is_header, level, header_count, atom_at, path_before, path_at, paths}
use Rattle.context_model.specs.WellFormed.{IsWellFormed}
use Rattle.context_model.proofs.OrderLaws.{atoms_total, paths_total}
use Rattle.context_model.proofs.PathPlaces.{header_path, later_place}
use Rattle.context_model.proofs.PlacesOf.{path_at-next, path_there, paths_rise, place_of_path, IsAtPlace, last_is, front_is_path}
use Rattle.context_model.proofs.Beyond.{header_greater}
use Rattle.bag_model.specs.Readings.{PathsOf, datum_path}
use Rattle.bag_walks.specs.Parts.{IsBehind, IsDataPart, StaysBelow, IsSegment, IsInside, Stands}
use Rattle.bag_walks.proofs.Inside.{fits_there, inside_along, no_header_stays, data_count, datum_there, header_there}

-- ---- orders of paths

-- No path comes before itself.
pub no_less : (p : Path) → path_cmp p p ≡ Less → ⊥
no_less p h = let clash : Equal ≡ Less = sym (tied_itself paths_total p) ∙ h in cc

-- A path doesn't come after a longer one that begins with it.
pub longer : (q r : Path) (a : Atom) → path_cmp q (q ++ a ∷ r) ≡ Less
longer [] r a = refl
longer (x ∷ q) r a = ap (λ o. ordering_then o (path_cmp q (q ++ a ∷ r))) (tied_itself atoms_total x) ∙ longer q r a

not_itself : (q r : Path) (a : Atom) → q ≡ q ++ a ∷ r → ⊥
not_itself q r a e = no_less q (ap (path_cmp q) e ∙ longer q r a)

-- Of a place and a later or equal one the path of the later doesn't come first.
not_after : (list : List Atom) (to k : ℕ) (p : Path) → IsWellFormed list → to ≤ k → k < length list → path_at list k ≡ p → path_cmp p (path_at list to) ≡ Less → ⊥
not_after list to k p w l within is less = elim (cases_order to k) [
  | inl same ↦ no_less p (ap (path_cmp p) (sym is ∙ ap (path_at list) (sym same)) ∙ less)
  | inr (inl before) ↦ no_less p (paths_total.trans p (path_at list to) p less (ap (path_cmp (path_at list to)) (sym is) ∙ paths_rise list w to k before within))
  | inr (inr after) ↦ absurd (omega arith)
]

-- ---- places and paths

-- What is before a place has no path below that of the atom before it.
pub not_before : (list : List Atom) (q r : Path) (a : Atom) (from k : ℕ) → IsBehind list q from → k < length list → path_at list k ≡ q ++ a ∷ r → from ≤ k
not_before list q r a zero k behind within is = omega arith
not_before list q r a (suc from) k behind within is = elim (cases_order from k) [
  | inl same ↦ absurd (not_itself q r a (sym (before same) ∙ is))
  | inr (inl less) ↦ less
  | inr (inr more) ↦ absurd (no_less q (paths_total.trans q (q ++ a ∷ r) q (longer q r a) (ap (λ p. path_cmp p q) (sym is)
      ∙ ap (path_cmp (path_at list k)) (sym last) ∙ paths_rise list behind.well_formed k from more (omega (arith, behind.within)))))
]
  where
    last : path_at list from ≡ q
    last = ap (path_before list) (let e : from + 1 ≡ suc from = omega arith in e) ∙ behind.path

    before : from ≡ k → path_at list k ≡ q
    before same = ap (path_at list) (sym same) ∙ last

take_longer : (n : ℕ) (q r : Path) → n ≤ length q → take n (q ++ r) ≡ take n q
take_longer n q r l = take-append-le n q r l

get_longer : (n : ℕ) (q r : Path) (x : Atom) → slice_get q n ≡ Some x → slice_get (q ++ r) n ≡ Some x
get_longer n [] r x e = cc
get_longer zero (y ∷ q) r x e = e
get_longer (suc n) (y ∷ q) r x e = get_longer n q r x e

get_end : (q r : Path) (z : Atom) → slice_get (q ++ z ∷ r) (length q) ≡ Some z
get_end [] r z = refl
get_end (x ∷ q) r z = get_end q r z

get_there : (n : ℕ) (q : Path) → n < length q → (x : Atom) × (slice_get q n ≡ Some x)
get_there n [] l = absurd (omega arith)
get_there zero (x ∷ q) l = (x, refl)
get_there (suc n) (x ∷ q) l = get_there n q (omega arith)

get_front : (n m : ℕ) (p : Path) (x : Atom) → slice_get (take m p) n ≡ Some x → slice_get p n ≡ Some x
get_front n zero p x e = cc
get_front n (suc m) [] x e = cc
get_front zero (suc m) (y ∷ p) x e = e
get_front (suc n) (suc m) (y ∷ p) x e = get_front n m p x e

-- A header of a level up to that of q comes later than any path below q whose next atom is less.
pub header_later : (list : List Atom) (q r : Path) (z : Atom) (to : ℕ) → IsWellFormed list → to < length list → IsInside list q to → is_header (atom_at list to) ≡ true
    → level (atom_at list to) ≤ length q → (level (atom_at list to) ≡ length q → atom_cmp z (atom_at list to) ≡ Less) → path_cmp (q ++ z ∷ r) (path_at list to) ≡ Less
header_later list q r z to w within inside header few less =
    ap (path_cmp (q ++ z ∷ r)) (path_at-next list to within ∙ header_path p a header ∙ ap (λ v. v ++ a ∷ []) same_front) ∙ elim (cases_order n (length q)) [
      | inl same ↦ (later_place n (q ++ z ∷ r) a z (ap (slice_get (q ++ z ∷ r)) same ∙ get_end q r z)).1 (less same)
      | inr (inl shorter) ↦ inner (get_there n q shorter)
      | inr (inr longer) ↦ absurd (omega arith)
    ]
  where
    p : Path
    p = path_before list to

    a : Atom
    a = atom_at list to

    n : ℕ
    n = level (atom_at list to)

    same_front : take n p ≡ take n (q ++ z ∷ r)
    same_front = sym (take-take n (length q) p few) ∙ ap (take n) inside.front ∙ sym (take_longer n q (z ∷ r) few)

    inner : (x : Atom) × (slice_get q n ≡ Some x) → path_cmp (q ++ z ∷ r) (take n (q ++ z ∷ r) ++ a ∷ []) ≡ Less
    inner (x, e) =
        let in_front : slice_get p n ≡ Some x = get_front n (length q) p x (ap (λ v. slice_get v n) inside.front ∙ e) in
        let later : path_cmp p (take n p ++ a ∷ []) ≡ Less = ap (path_cmp p) (sym (header_path p a header)) ∙ (fits_there list to w within).later in
        (later_place n (q ++ z ∷ r) a x (get_longer n q (z ∷ r) x e)).1 ((later_place n p a x in_front).0 later)

-- ---- data

-- A datum comes before every header.
pub datum_is_less : (x : List ℕ) (h : Atom) → is_header h ≡ true → atom_cmp (0 ∷ x) h ≡ Less
datum_is_less x h e = atoms_total.antisymm (0 ∷ x) h ∙ ap ordering_reverse (header_greater h (0 ∷ x) e refl)

-- A datum has the path q and then itself exactly where it is among the data after q.
pub data_are : (list : List Atom) (q : Path) (from to : ℕ) (x : List ℕ) → IsBehind list q from → IsDataPart list from to → PathsOf list (datum_path q x) ↔ Stands list (0 ∷ x) from to
data_are list q from to x behind its = (to_place, from_place)
  where
    from_place : Stands list (0 ∷ x) from to → PathsOf list (datum_path q x)
    from_place s =
        subst (λ p. IsIn p (paths list)) (datum_there list q from to s.place x behind its.part s.from_on s.up_to s.atom)
        (path_there list s.place (omega (arith, s.up_to, its.part.within)))

    stands : (k : ℕ) → k < length list → path_at list k ≡ q ++ (0 ∷ x) ∷ [] → to ≤ k → ⊥
    stands k within is l =
        let here : to < length list = omega arith in
        let header : is_header (atom_at list to) ≡ true = its.ends here in
        let count : header_count (path_before list to) ≡ length q = data_count list q from to behind its.part to its.part.rises (le_refl to) in
        let few : level (atom_at list to) ≤ header_count (path_before list to) = (fits_there list to behind.well_formed here).level header in
        let inside : IsInside list q to = inside_along list q from to behind (no_header_stays list (length q) from to its.part) to its.part.rises (le_refl to) in
        not_after list to k (q ++ (0 ∷ x) ∷ []) behind.well_formed l within is
        (header_later list q [] (0 ∷ x) to behind.well_formed here inside header (omega (arith, few, count)) (λ own. datum_is_less x (atom_at list to) header))

    to_place : PathsOf list (datum_path q x) → Stands list (0 ∷ x) from to
    to_place i =
        let at : IsAtPlace list (q ++ (0 ∷ x) ∷ []) = place_of_path list (q ++ (0 ∷ x) ∷ []) i in
        record {
          place = at.place;
          from_on = not_before list q [] (0 ∷ x) from at.place behind at.within at.path;
          up_to = elim (cases_order at.place to) [
            | inl same ↦ absurd (stands at.place at.within at.path (omega arith))
            | inr (inl less) ↦ less
            | inr (inr more) ↦ absurd (stands at.place at.within at.path (omega arith))
          ];
          atom = last_is list at.place q (0 ∷ x) at.within at.path;
        }

-- ---- headers

-- A header below q that would come before the one at a place, or before the end, is before that
-- place.
pub earlier_stands : (list : List Atom) (q : Path) (from to : ℕ) (h : Atom) → IsBehind list q from → StaysBelow list (length q) from to
    → (to < length list → (is_header (atom_at list to) ≡ true) × (level (atom_at list to) ≤ length q) × (level (atom_at list to) ≡ length q → atom_cmp h (atom_at list to) ≡ Less))
    → PathsOf list (q ++ h ∷ []) → Stands list h from to
earlier_stands list q from to h behind stays later i =
    let at : IsAtPlace list (q ++ h ∷ []) = place_of_path list (q ++ h ∷ []) i in
    record {
      place = at.place;
      from_on = not_before list q [] h from at.place behind at.within at.path;
      up_to = elim (cases_order at.place to) [
        | inl same ↦ absurd (stands at.place at.within at.path (omega arith))
        | inr (inl less) ↦ less
        | inr (inr more) ↦ absurd (stands at.place at.within at.path (omega arith))
      ];
      atom = last_is list at.place q h at.within at.path;
    }
  where
    stands : (k : ℕ) → k < length list → path_at list k ≡ q ++ h ∷ [] → to ≤ k → ⊥
    stands k within is l =
        let here : to < length list = omega arith in
        let (header, few, less) = later here in
        let inside : IsInside list q to = inside_along list q from to behind stays to stays.rises (le_refl to) in
        not_after list to k (q ++ h ∷ []) behind.well_formed l within is (header_later list q [] h to behind.well_formed here inside header few less)

-- A header of the level below q has the path q and then itself exactly where it is below q.
pub headers_are : (list : List Atom) (q : Path) (from to : ℕ) (h : Atom) → IsBehind list q from → IsSegment list (length q) from to → is_header h ≡ true → level h ≡ length q
    → PathsOf list (q ++ h ∷ []) ↔ Stands list h from to
headers_are list q from to h behind segment header own = (
  earlier_stands list q from to h behind segment.part (λ here. let (e, l) = segment.ends here in (e, omega (arith, l), λ same. absurd (omega (arith, l, same)))),
  λ s. subst (λ p. IsIn p (paths list))
      (header_there list q s.place (omega (arith, s.up_to, segment.part.within)) (inside_along list q from to behind segment.part s.place s.from_on (omega (arith, s.up_to)))
      (ap is_header s.atom ∙ header) (ap level s.atom ∙ own) ∙ ap (λ a. q ++ a ∷ []) s.atom)
      (path_there list s.place (omega (arith, s.up_to, segment.part.within))),
)

-- Where a path isn't one of the list, none below it is.
pub none_below : (list : List Atom) (q : Path) (h : Atom) → (PathsOf list (q ++ h ∷ []) → ⊥) → (r : Path) → PathsOf list ((q ++ h ∷ []) ++ r) → ⊥
none_below list q h none r i = none (front_is_path list q r h (subst (λ p. IsIn p (paths list)) (append_assoc q (h ∷ []) r) i))
