-- What is at a slot and below it, as a list of its own.
use Rattle.std.proofs.Common.{◌≡◌, ◌⊎◌, inl, inr, ℕ, zero, suc, ◌+◌, ◌-◌, ◌<◌, ◌≤◌, List, [], ◌∷◌, ◌++◌, length, take, drop, Less, sym, refl, ap, ◌∙◌, subst, arith, append_assoc, append-nil, take-append-drop}
use Rattle.std.specs.Prelude.{slice_range}
use Rattle.std.specs.List.{AllByRecursion}
use Rattle.std.proofs.lemmas.Bool.{cases_lt}
use Rattle.std.proofs.lemmas.List.{take-take, length-take-le, length-drop}
use Rattle.context_model.specs.Atoms.{Atom}
use Rattle.context_model.specs.Kinds.{HasKind}
use Rattle.context_model.specs.Orders.{Path, path_cmp, IsIn}
use Rattle.context_model.specs.Paths.{path_after, paths_after, paths, last_path_after, path_before, path_at}
use Rattle.context_model.specs.WellFormed.{IsWellFormed}
use Rattle.context_model.specs.Ended.{IsBelow}
use Rattle.context_model.specs.Merged.{SomeHasPath}
use Rattle.context_model.proofs.Following.{Follows, Follows-append, Follows-front, Follows-back, IsWellFormed-follows, IsWellFormed-from, last_path_after-append, kinds_front, kinds_back, kinds_append}
use Rattle.context_model.proofs.MergedLaws.{SomeHasPath-append}
use Rattle.context_model.proofs.PlacesOf.{path_there, place_of_path, paths_rise}
use Rattle.bag_model.specs.Shapes.{Nodes}
use Rattle.bag_model.specs.Slots.{SlotAt, slots_of}
use Rattle.bag_model.specs.Tables.{IsTable}
use Rattle.bag_model.specs.Readings.{PathsOf}
use Rattle.bag_walks.specs.Parts.{IsBehind, IsSegment}
use Rattle.bag_walks.specs.Searches.{IsFirstBeyond}
use Rattle.bag_walks.proofs.Bridge.{not_before}
use Rattle.bag_walks.proofs.Inside.{inside_along}
use Rattle.bag_walks.proofs.Stops.{segment_is_first}
use Rattle.keep_calls.specs.declared.others.Others.{Others}
use Rattle.keep_calls.specs.Kept.{GoesTo}
use Rattle.keep_calls.specs.Walk.{HoldUpTo}
use Rattle.keep_calls.proofs.PathLists.{Alone, follows_alone, fields_alone, paths_own, paths_some}
use Rattle.keep_calls.proofs.SlotGaps.{own, few, own_kinds, never_before, below_itself, fronts_meet}
use Rattle.keep_calls.proofs.GapParts.{beyond_on}
use Rattle.keep_calls.proofs.KeptLaws.{front_there}

-- ---- lists end to end

alone_last : (q p : Path) → Alone q p → last_path_after q p ≡ q ++ p
alone_last q [] h = sym (append-nil q)
alone_last q (a ∷ p) h = ap (λ v. last_path_after v p) h.0 ∙ alone_last (q ++ a ∷ []) p h.2 ∙ append_assoc q (a ∷ []) p

paths_there : (r : Path) (xs ys : List Atom) (q : Path) → IsIn q (paths_after r (xs ++ ys)) → IsIn q (paths_after r xs) ⊎ IsIn q (paths_after (last_path_after r xs) ys)
paths_there r [] ys q i = inr i
paths_there r (x ∷ xs) ys q (inl e) = inl (inl e)
paths_there r (x ∷ xs) ys q (inr i) = elim (paths_there (path_after r x) xs ys q i) [ inl j ↦ inl (inr j) | inr j ↦ inr j ]

paths_back : (r : Path) (xs ys : List Atom) (q : Path) → IsIn q (paths_after r xs) ⊎ IsIn q (paths_after (last_path_after r xs) ys) → IsIn q (paths_after r (xs ++ ys))
paths_back r [] ys q (inl none) = elim none [ ]
paths_back r [] ys q (inr i) = i
paths_back r (x ∷ xs) ys q (inl (inl e)) = inl e
paths_back r (x ∷ xs) ys q (inl (inr i)) = inr (paths_back (path_after r x) xs ys q (inl i))
paths_back r (x ∷ xs) ys q (inr i) = inr (paths_back (path_after r x) xs ys q (inr i))

after_there : (r : Path) (list : List Atom) (q : Path) → IsIn q (paths_after r list) → (k : ℕ) × (k < length list) × (q ≡ last_path_after r (take (suc k) list))
after_there r [] q none = elim none [ ]
after_there r (a ∷ list) q (inl e) = (0, omega arith, e)
after_there r (a ∷ list) q (inr i) = let s = after_there (path_after r a) list q i in (suc s.0, omega (arith, s.1), s.2)

after_back : (r : Path) (list : List Atom) (k : ℕ) → k < length list → IsIn (last_path_after r (take (suc k) list)) (paths_after r list)
after_back r [] k l = absurd (omega arith)
after_back r (a ∷ list) zero l = inl refl
after_back r (a ∷ list) (suc k) l = inr (after_back (path_after r a) list k (omega arith))

take_more_of : (m n : ℕ) (xs : List Atom) → take (m + n) xs ≡ take m xs ++ take n (drop m xs)
take_more_of zero n xs = ap (λ k. take k xs) (let e : zero + n ≡ n = omega arith in e)
take_more_of (suc m) n [] = ap (λ k. take k []) (let e : suc m + n ≡ suc (m + n) = omega arith in e) ∙ none n
  where
    none : (n : ℕ) → let e : List Atom = [] in e ≡ take n []
    none zero = refl
    none (suc n) = refl
take_more_of (suc m) n (x ∷ xs) = ap (λ k. take k (x ∷ xs)) (let e : suc m + n ≡ suc (m + n) = omega arith in e) ∙ ap (λ v. x ∷ v) (take_more_of m n xs)

-- The path of a place after another.
path_further : (list : List Atom) (m k : ℕ) → path_at list (m + k) ≡ last_path_after (path_before list m) (take (suc k) (drop m list))
path_further list m k =
    ap (λ n. last_path_after [] (take n list)) (let e : m + k + 1 ≡ m + suc k = omega arith in e)
    ∙ ap (last_path_after []) (take_more_of m (suc k) list) ∙ last_path_after-append [] (take m list) (take (suc k) (drop m list))

-- ---- the part of a slot

module _ (nodes : Nodes) (table : IsTable nodes) (list : List Atom) (slot : SlotAt) (i : IsIn slot (slots_of nodes)) (behind stop : ℕ)
    (b : IsBehind list (own slot) behind) (segment : IsSegment list (length (own slot)) behind stop) where
  abbrev piece : List Atom
  piece = own slot ++ slice_range list behind stop

  alone : Alone [] (own slot)
  alone = fields_alone [] 0 slot.numbers refl refl (omega (arith, few nodes table slot i))

  split : take behind list ++ (slice_range list behind stop ++ drop (stop - behind) (drop behind list)) ≡ list
  split = ap (λ v. take behind list ++ v) (take-append-drop (stop - behind) (drop behind list)) ∙ take-append-drop behind list

  follows : Follows (own slot) (slice_range list behind stop)
  follows =
      let all : Follows [] (take behind list ++ (slice_range list behind stop ++ drop (stop - behind) (drop behind list))) = subst (Follows []) (sym split) (IsWellFormed-follows list b.well_formed) in
      subst (λ v. Follows v (slice_range list behind stop)) b.path
      (Follows-front (path_before list behind) (slice_range list behind stop) (drop (stop - behind) (drop behind list)) (Follows-back [] (take behind list) _ all))

  kinds : AllByRecursion HasKind (slice_range list behind stop)
  kinds =
      let all : AllByRecursion HasKind (take behind list ++ (slice_range list behind stop ++ drop (stop - behind) (drop behind list))) = subst (AllByRecursion HasKind) (sym split) b.well_formed.kinds in
      kinds_front (slice_range list behind stop) (drop (stop - behind) (drop behind list)) (kinds_back (take behind list) _ all)

  pub part_well_formed : IsWellFormed (own slot ++ slice_range list behind stop)
  part_well_formed =
      IsWellFormed-from (own slot ++ slice_range list behind stop) (kinds_append (own slot) (slice_range list behind stop) (own_kinds nodes table slot i) kinds)
      (Follows-append [] (own slot) (slice_range list behind stop) (follows_alone [] (own slot) alone) (subst (λ v. Follows v (slice_range list behind stop)) (sym (alone_last [] (own slot) alone)) follows))

  long : length (slice_range list behind stop) ≡ stop - behind
  long = length-take-le (stop - behind) (drop behind list) (let e : length (drop behind list) ≡ length list - behind = length-drop behind list in omega (arith, segment.part.within, segment.part.rises, e))

  -- the paths of what follows the headers are those of the places
  rest_there : (q : Path) → IsIn q (paths_after (own slot) (slice_range list behind stop)) → (place : ℕ) × (behind ≤ place) × (place < stop) × (q ≡ path_at list place)
  rest_there q j =
      let s = after_there (own slot) (slice_range list behind stop) q j in
      let l : s.0 < stop - behind = omega (arith, s.1, long) in (
        behind + s.0,
        omega arith,
        omega (arith, l),
        s.2 ∙ ap (last_path_after (own slot)) (take-take (suc s.0) (stop - behind) (drop behind list) (omega (arith, l)))
            ∙ ap (λ v. last_path_after v (take (suc s.0) (drop behind list))) (sym b.path) ∙ sym (path_further list behind s.0),
      )

  rest_back : (place : ℕ) → behind ≤ place → place < stop → IsIn (path_at list place) (paths_after (own slot) (slice_range list behind stop))
  rest_back place l m =
      subst (λ v. IsIn v (paths_after (own slot) (slice_range list behind stop)))
      (ap (last_path_after (own slot)) (take-take (suc (place - behind)) (stop - behind) (drop behind list) (omega (arith, l, m)))
      ∙ ap (λ v. last_path_after v (take (suc (place - behind)) (drop behind list))) (sym b.path) ∙ sym (path_further list behind (place - behind))
      ∙ ap (path_at list) (let e : behind + (place - behind) ≡ place = omega (arith, l) in e))
      (after_back (own slot) (slice_range list behind stop) (place - behind) (omega (arith, long, l, m)))

  -- what is there is below the slot
  below_slot : (place : ℕ) → behind ≤ place → place < stop → IsBelow (own slot) (path_at list place)
  below_slot place l m =
      let inside = inside_along list (own slot) behind stop b segment.part (place + 1) (omega (arith, l)) (omega (arith, m)) in
      (drop (length (own slot)) (path_at list place), sym (take-append-drop (length (own slot)) (path_at list place)) ∙ ap (λ v. v ++ drop (length (own slot)) (path_at list place)) inside.front)

  module _ (header : ℕ) (next : behind ≡ header + 1) where
    at_header : path_at list header ≡ own slot
    at_header = ap (path_before list) (sym next) ∙ b.path

    header_within : header < length list
    header_within = omega (arith, next, b.within)

    from_header : (place : ℕ) → header ≤ place → place < stop → IsBelow (own slot) (path_at list place)
    from_header place l m = elim (cases_lt header place) [
      | inl less ↦ below_slot place (omega (arith, next, less)) m
      | inr more ↦ subst (λ n. IsBelow (own slot) (path_at list n)) (let e : header ≡ place = omega (arith, l, more) in e) (subst (IsBelow (own slot)) (sym at_header) (below_itself (own slot)))
    ]

    -- a path below the slot, and the slot's own, is that of one of these places
    place_below : (q : Path) → PathsOf list q → IsBelow (own slot) q → (place : ℕ) × (header ≤ place) × (place < stop) × (q ≡ path_at list place)
    place_below q j below =
        let at = place_of_path list q j in
        (at.place, lower at.place at.within below at.path, upper at.place at.within (cases_lt at.place stop) at.path, sym at.path)
      where
        first : IsFirstBeyond list (own slot) stop
        first = segment_is_first list (own slot) behind stop b segment

        lower : (k : ℕ) → k < length list → IsBelow (own slot) q → path_at list k ≡ q → header ≤ k
        lower k w ([], e) f = elim (cases_lt k header) [
          | inl less ↦ (let rise = paths_rise list b.well_formed k header less header_within in
              absurd (never_before (own slot) (subst (λ v. path_cmp v (own slot) ≡ Less) (f ∙ e ∙ append-nil (own slot)) (subst (λ v. path_cmp (path_at list k) v ≡ Less) at_header rise))))
          | inr more ↦ more
        ]
        lower k w (a ∷ r, e) f = omega (arith, next, not_before list (own slot) r a behind k b w (f ∙ e))

        upper : (k : ℕ) → k < length list → (k < stop) ⊎ (stop ≤ k) → path_at list k ≡ q → k < stop
        upper k w (inl less) f = less
        upper k w (inr more) f = absurd ((beyond_on list (own slot) stop k b.well_formed first more w).1 (subst (IsBelow (own slot)) (sym f) below))

    module _ (others : Others) (pieces : List (List Atom)) (h : HoldUpTo nodes others list header pieces) where
      goes_there : (q : Path) → IsIn q (paths (own slot ++ slice_range list behind stop)) → (place : ℕ) × (place < stop) × GoesTo nodes others (path_at list place) q
      goes_there q j = by (paths_there [] (own slot) (slice_range list behind stop) q j)
        where
          by : IsIn q (paths (own slot)) ⊎ IsIn q (paths_after (last_path_after [] (own slot)) (slice_range list behind stop)) → (place : ℕ) × (place < stop) × GoesTo nodes others (path_at list place) q
          by (inl k) =
              let s = (paths_own (own slot) q alone).0 k in
              (header, omega (arith, next, segment.part.rises), (path_at list header, inl ((slot, i, from_header header (omega arith) (omega (arith, next, segment.part.rises))), refl), s.0, subst (IsBelow q) (sym at_header) s.1))
          by (inr k) =
              let s = rest_there q (subst (λ v. IsIn q (paths_after v (slice_range list behind stop))) (alone_last [] (own slot) alone) k) in
              (s.0, s.2, (path_at list s.0, inl ((slot, i, below_slot s.0 s.1 s.2), refl), paths_some (last_path_after [] (own slot)) (slice_range list behind stop) q k, subst (λ v. IsBelow v (path_at list s.0)) (sym s.3) (below_itself (path_at list s.0))))

      comes_back : (q : Path) (place : ℕ) → header ≤ place → place < stop → GoesTo nodes others (path_at list place) q → IsIn q (paths (own slot ++ slice_range list behind stop))
      comes_back q place l m (t, inr s, some, below) = absurd (s.0 (slot, i, from_header place l m))
      comes_back q place l m (t, inl s, some, below) = by (from_header place l m) (subst (IsBelow q) s.1 below)
        where
          at : PathsOf list (path_at list place)
          at = path_there list place (omega (arith, m, segment.part.within))

          by : IsBelow (own slot) (path_at list place) → IsBelow q (path_at list place) → IsIn q (paths (own slot ++ slice_range list behind stop))
          by (r, e) (u, f) = paths_back [] (own slot) (slice_range list behind stop) q (elim (fronts_meet q u (own slot) r (sym f ∙ e)) [
            | inl under ↦ (let s = place_below q (front_there list (path_at list place) q at some (u, f)) under in there s.0 s.1 s.2 s.3)
            | inr over ↦ inl ((paths_own (own slot) q alone).1 (some, over))
          ])
            where
              there : (k : ℕ) → header ≤ k → k < stop → q ≡ path_at list k → IsIn q (paths (own slot)) ⊎ IsIn q (paths_after (last_path_after [] (own slot)) (slice_range list behind stop))
              there k low high same = elim (cases_lt header k) [
                | inl less ↦ inr (subst (λ v. IsIn q (paths_after v (slice_range list behind stop))) (sym (alone_last [] (own slot) alone))
                    (subst (λ v. IsIn v (paths_after (own slot) (slice_range list behind stop))) (sym same) (rest_back k (omega (arith, next, less)) high)))
                | inr more ↦ inl ((paths_own (own slot) q alone).1 (some, subst (λ v. IsBelow v (own slot)) (sym (same ∙ ap (path_at list) (let e : k ≡ header = omega (arith, low, more) in e) ∙ at_header)) (below_itself (own slot))))
              ]

      -- The part of a slot adds all that the paths at the slot and below it go to.
      pub part_added : HoldUpTo nodes others list stop (pieces ++ (own slot ++ slice_range list behind stop) ∷ [])
      part_added q = ((λ j. there ((SomeHasPath-append pieces (piece ∷ []) q).0 j)), λ s. (SomeHasPath-append pieces (piece ∷ []) q).1 (back s (cases_lt s.0 header)))
        where
          there : SomeHasPath pieces q ⊎ SomeHasPath (piece ∷ []) q → (place : ℕ) × (place < stop) × GoesTo nodes others (path_at list place) q
          there (inl j) = let s = (h q).0 j in (s.0, omega (arith, s.1, next, segment.part.rises), s.2)
          there (inr (inl j)) = goes_there q j
          there (inr (inr none)) = elim none [ ]

          back : (s : (place : ℕ) × (place < stop) × GoesTo nodes others (path_at list place) q) → (s.0 < header) ⊎ (header ≤ s.0) → SomeHasPath pieces q ⊎ SomeHasPath (piece ∷ []) q
          back s (inl less) = inl ((h q).1 (s.0, less, s.2))
          back s (inr more) = inr (inl (comes_back q s.0 more s.1 s.2))
