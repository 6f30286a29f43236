-- The plain program computes what is kept.
use Rattle.std.proofs.Common.{◌≡◌, ◌⊎◌, inl, inr, ◌||◌, Bool, true, false, not, cond, List, [], ◌∷◌, ◌++◌, Option, Some, None, Ordering, Less, Equal, Greater, sym, refl, ap, ◌∙◌, subst, flat_map}
use Rattle.std.specs.List.{AllByRecursion, list_any}
use Rattle.std.specs.Ordering.{ordering_reverse}
use Rattle.std.proofs.lemmas.Cmp.{tied_itself}
use Rattle.context_model.specs.Atoms.{Atom}
use Rattle.context_model.specs.Kinds.{HasKind}
use Rattle.context_model.specs.Orders.{Path, atom_cmp, path_cmp, IsIn, by_order}
use Rattle.context_model.specs.Paths.{paths}
use Rattle.context_model.specs.WellFormed.{IsWellFormed}
use Rattle.context_model.specs.Ended.{IsBelow, field_path}
use Rattle.context_model.specs.Merged.{SomeHasPath, last_atom, merge_of}
use Rattle.context_model.proofs.OrderLaws.{atoms_total, atoms_anti, paths_total, paths_anti}
use Rattle.context_model.proofs.GreedyElements.{All-from}
use Rattle.context_model.proofs.Following.{kinds_append, marker_kind}
use Rattle.context_model.proofs.MergedLaws.{HasPaths-alike, SomeHasPath-list, SomeHasPath-of, merges_one_by_one}
use Rattle.bag_model.specs.Shapes.{Nodes}
use Rattle.bag_model.specs.Slots.{SlotAt, slots_of}
use Rattle.bag_model.specs.Tables.{IsTable}
use Rattle.bag_model.specs.Readings.{PathsOf}
use Rattle.bag_model.proofs.Finite.{in_append, in_append_first, in_append_second}
use Rattle.keep_calls.specs.declared.others.Others.{Others}
use Rattle.keep_calls.specs.declared.others.Others.TheVariants.{Cut, Unsaid}
use Rattle.keep_calls.specs.Kept.{IsKeptPath, IsOnTheWay, IsSlotBefore, IsGap, gap_mark, IsToldOf, Becomes, GoesTo, IsKeptOf, is_below, later_slot, gap_of, is_marker, is_told, becoming, kept_list}
use Rattle.keep_calls.proofs.PathLists.{Alone, paths_alone, paths_kinds, alone_well_formed, paths_own, fields_marked}
use Rattle.keep_calls.proofs.SlotGaps.{own, next_few, next_kinds, never_before, one_gap}

-- ---- tests

is_below_there : (s q : Path) → is_below s q ≡ true → IsBelow s q
is_below_there [] q e = (q, refl)
is_below_there (a ∷ s) [] e = cc
is_below_there (a ∷ s) (b ∷ q) e = by (atom_cmp a b) refl e (is_below_there s q)
  where
    by : (o : Ordering) → atom_cmp a b ≡ o → by_order o false (is_below s q) false ≡ true → (is_below s q ≡ true → IsBelow s q) → IsBelow (a ∷ s) (b ∷ q)
    by Less o e deeper = cc
    by Equal o e deeper = let d = deeper e in (d.0, λ i. sym (atoms_anti a b o) i ∷ d.1 i)
    by Greater o e deeper = cc

is_below_back : (s q : Path) → IsBelow s q → is_below s q ≡ true
is_below_back [] q b = refl
is_below_back (a ∷ s) [] (rest, e) = cc
is_below_back (a ∷ s) (b ∷ q) (rest, e) =
    let same : a ≡ b = cc in
    let tail : q ≡ s ++ rest = cc in
    ap (λ v. by_order v false (is_below s q) false) (ap (atom_cmp a) (sym same) ∙ tied_itself atoms_total a) ∙ is_below_back s q (rest, tail)

module _ {A : Type 0} (test : A → Bool) where
  any_there : (xs : List A) → list_any test xs ≡ true → (x : A) × IsIn x xs × (test x ≡ true)
  any_there [] e = cc
  any_there (x ∷ xs) e = by (test x) refl e (any_there xs)
    where
      by : (b : Bool) → test x ≡ b → (b || list_any test xs) ≡ true → (list_any test xs ≡ true → (y : A) × IsIn y xs × (test y ≡ true)) → (y : A) × IsIn y (x ∷ xs) × (test y ≡ true)
      by true f g rest = (x, inl refl, f)
      by false f g rest = let s = rest g in (s.0, inr s.1, s.2)

  any_back : (xs : List A) (x : A) → IsIn x xs → test x ≡ true → list_any test xs ≡ true
  any_back [] x none e = elim none [ ]
  any_back (y ∷ xs) x (inl same) e = ap (λ b. b || list_any test xs) (ap test (sym same) ∙ e)
  any_back (y ∷ xs) x (inr i) e = by (test y) (any_back xs x i e)
    where
      by : (b : Bool) → list_any test xs ≡ true → (b || list_any test xs) ≡ true
      by true f = refl
      by false f = f

module _ {A B : Type 0} (f : A → List B) where
  flat_there : (xs : List A) (y : B) → IsIn y (flat_map f xs) → (x : A) × IsIn x xs × IsIn y (f x)
  flat_there [] y none = elim none [ ]
  flat_there (x ∷ xs) y i = by (in_append y (f x) (flat_map f xs) i) (flat_there xs y)
    where
      by : IsIn y (f x) ⊎ IsIn y (flat_map f xs) → (IsIn y (flat_map f xs) → (z : A) × IsIn z xs × IsIn y (f z)) → (z : A) × IsIn z (x ∷ xs) × IsIn y (f z)
      by (inl j) rest = (x, inl refl, j)
      by (inr j) rest = let s = rest j in (s.0, inr s.1, s.2)

  flat_back : (xs : List A) (x : A) (y : B) → IsIn x xs → IsIn y (f x) → IsIn y (flat_map f xs)
  flat_back [] x y none j = elim none [ ]
  flat_back (z ∷ xs) x y (inl e) j = in_append_first y (f z) (flat_map f xs) (subst (λ v. IsIn y (f v)) e j)
  flat_back (z ∷ xs) x y (inr i) j = in_append_second y (f z) (flat_map f xs) (flat_back xs x y i j)

-- ---- gaps

-- The last of these slots before a path, or none.
abbrev IsGapAmong : List SlotAt → Path → Option SlotAt → Type 0
IsGapAmong slots p None = (other : SlotAt) → IsIn other slots → IsSlotBefore p other → ⊥
IsGapAmong slots p (Some slot) =
    IsIn slot slots × IsSlotBefore p slot × ((other : SlotAt) → IsIn other slots → IsSlotBefore p other → path_cmp (own slot) (own other) ≡ Less → ⊥)

module _ (slot : SlotAt) (slots : List SlotAt) (p : Path) where
  clash : (o : Ordering) → path_cmp (own slot) p ≡ o → (o ≡ Less → ⊥) → (other : SlotAt) → other ≡ slot → IsSlotBefore p other → ⊥
  clash o e n other same l = n (sym e ∙ subst (λ (s : SlotAt). path_cmp (own s) p ≡ Less) same l)

  passed : (g : Option SlotAt) (o : Ordering) → path_cmp (own slot) p ≡ o → (o ≡ Less → ⊥) → IsGapAmong slots p g → IsGapAmong (slot ∷ slots) p g
  passed None o e n rest = λ other i l. elim i [ inl same ↦ clash o e n other same l | inr j ↦ rest other j l ]
  passed (Some g) o e n rest = (inr rest.0, rest.1, λ other i l m. elim i [ inl same ↦ clash o e n other same l | inr j ↦ rest.2 other j l m ])

  own_of : (other : SlotAt) → other ≡ slot → path_cmp (own slot) (own other) ≡ Less → ⊥
  own_of other same m = never_before (own slot) (subst (λ (s : SlotAt). path_cmp (own slot) (own s) ≡ Less) same m)

  later : (g : SlotAt) (o : Ordering) → path_cmp (own slot) (own g) ≡ o → path_cmp (own slot) p ≡ Less → IsGapAmong slots p (Some g) → IsGapAmong (slot ∷ slots) p (Some (by_order o g slot slot))
  later g Less m e rest = (
    inr rest.0,
    rest.1,
    λ other i l k. elim i [
      | inl same ↦ never_before (own slot) (paths_total.trans (own slot) (own g) (own slot) m (subst (λ (s : SlotAt). path_cmp (own g) (own s) ≡ Less) same k))
      | inr j ↦ rest.2 other j l k
    ],
  )
  later g Equal m e rest = (
    inl refl,
    e,
    λ other i l k. elim i [
      | inl same ↦ own_of other same k
      | inr j ↦ rest.2 other j l (subst (λ v. path_cmp v (own other) ≡ Less) (paths_anti (own slot) (own g) m) k)
    ],
  )
  later g Greater m e rest = (
    inl refl,
    e,
    λ other i l k. elim i [
      | inl same ↦ own_of other same k
      | inr j ↦ rest.2 other j l (paths_total.trans (own g) (own slot) (own other) (paths_total.antisymm (own g) (own slot) ∙ ap ordering_reverse m) k)
    ],
  )

  found : (g : Option SlotAt) → path_cmp (own slot) p ≡ Less → IsGapAmong slots p g → IsGapAmong (slot ∷ slots) p (Some (later_slot slot g))
  found None e rest = (inl refl, e, λ other i l k. elim i [ inl same ↦ own_of other same k | inr j ↦ rest other j l ])
  found (Some g) e rest = later g (path_cmp (own slot) (own g)) refl e rest

  one_more : (g : Option SlotAt) (o : Ordering) → path_cmp (own slot) p ≡ o → IsGapAmong slots p g → IsGapAmong (slot ∷ slots) p (by_order o (Some (later_slot slot g)) g g)
  one_more g Less e rest = found g e rest
  one_more g Equal e rest = passed g Equal e (λ c. cc) rest
  one_more g Greater e rest = passed g Greater e (λ c. cc) rest

gap_among : (slots : List SlotAt) (p : Path) → IsGapAmong slots p (gap_of slots p)
gap_among [] p = λ other none l. none
gap_among (slot ∷ slots) p = one_more slot slots p (gap_of slots p) (path_cmp (own slot) p) refl (gap_among slots p)

gap_there : (nodes : Nodes) (p : Path) (g : Option SlotAt) → IsGapAmong (slots_of nodes) p g → IsGap nodes p g
gap_there nodes p None f = f
gap_there nodes p (Some slot) f = f

pub gap_is : (nodes : Nodes) (p : Path) → IsGap nodes p (gap_of (slots_of nodes) p)
gap_is nodes p = gap_there nodes p (gap_of (slots_of nodes) p) (gap_among (slots_of nodes) p)

-- ---- what becomes of a path

module _ (nodes : Nodes) where
  is_kept : Path → Bool
  is_kept p = list_any (λ slot. is_below (field_path slot.numbers) p) (slots_of nodes)

  kept_there : (p : Path) → list_any (λ slot. is_below (field_path slot.numbers) p) (slots_of nodes) ≡ true → IsKeptPath nodes p
  kept_there p e = let s = any_there (λ (slot : SlotAt). is_below (field_path slot.numbers) p) (slots_of nodes) e in (s.0, s.1, is_below_there (own s.0) p s.2)

  kept_back : (p : Path) → IsKeptPath nodes p → list_any (λ slot. is_below (field_path slot.numbers) p) (slots_of nodes) ≡ true
  kept_back p (slot, i, b) = any_back (λ (slot : SlotAt). is_below (field_path slot.numbers) p) (slots_of nodes) slot i (is_below_back (own slot) p b)

  way_there : (p : Path) → list_any (λ slot. is_below p (field_path slot.numbers)) (slots_of nodes) ≡ true → IsOnTheWay nodes p
  way_there p e = let s = any_there (λ (slot : SlotAt). is_below p (field_path slot.numbers)) (slots_of nodes) e in (s.0, s.1, is_below_there p (own s.0) s.2)

  way_back : (p : Path) → IsOnTheWay nodes p → list_any (λ slot. is_below p (field_path slot.numbers)) (slots_of nodes) ≡ true
  way_back p (slot, i, b) = any_back (λ (slot : SlotAt). is_below p (field_path slot.numbers)) (slots_of nodes) slot i (is_below_back p (own slot) b)

  told_there : (others : Others) (p : Path) → is_told others (slots_of nodes) p ≡ true → IsToldOf others nodes p
  told_there Cut p e = λ way. let clash : not true ≡ true = ap not (sym (way_back p way)) ∙ e in cc
  told_there Unsaid p e = by (last_atom p) e
    where
      by : (a : Atom) → is_marker a ≡ true → a ≡ []
      by [] f = refl
      by (b ∷ bytes) f = cc

  told_back : (others : Others) (p : Path) → IsToldOf others nodes p → is_told others (slots_of nodes) p ≡ true
  told_back Cut p told = by (list_any (λ slot. is_below p (field_path slot.numbers)) (slots_of nodes)) (way_there p)
    where
      by : (b : Bool) → (b ≡ true → IsOnTheWay nodes p) → not b ≡ true
      by true f = absurd (told (f refl))
      by false f = refl
  told_back Unsaid p told = ap is_marker told

  pub becoming_there : (others : Others) (p t : Path) → IsIn t (becoming others (slots_of nodes) p) → Becomes others nodes p t
  becoming_there others p t i =
      by (list_any (λ slot. is_below (field_path slot.numbers) p) (slots_of nodes)) (is_told others (slots_of nodes) p) (kept_there p) (kept_back p) (told_there others p) i
    where
      by : (b c : Bool) → (b ≡ true → IsKeptPath nodes p) → (IsKeptPath nodes p → b ≡ true) → (c ≡ true → IsToldOf others nodes p)
          → IsIn t (cond b (p ∷ []) (cond c (gap_mark (gap_of (slots_of nodes) p) ∷ []) [])) → Becomes others nodes p t
      by true c f g h (inl e) = inl (f refl, e)
      by true c f g h (inr none) = elim none [ ]
      by false true f g h (inl e) = inr ((λ k. let bad : false ≡ true = g k in cc), h refl, (gap_of (slots_of nodes) p, gap_is nodes p, e))
      by false true f g h (inr none) = elim none [ ]
      by false false f g h none = elim none [ ]

  pub becoming_back : (others : Others) (p t : Path) → IsTable nodes → Becomes others nodes p t → IsIn t (becoming others (slots_of nodes) p)
  becoming_back others p t table s =
      by (list_any (λ slot. is_below (field_path slot.numbers) p) (slots_of nodes)) (is_told others (slots_of nodes) p) (kept_there p) (kept_back p) (told_back others p) s
    where
      by : (b c : Bool) → (b ≡ true → IsKeptPath nodes p) → (IsKeptPath nodes p → b ≡ true) → (IsToldOf others nodes p → c ≡ true) → Becomes others nodes p t
          → IsIn t (cond b (p ∷ []) (cond c (gap_mark (gap_of (slots_of nodes) p) ∷ []) []))
      by true c f g h (inl k) = inl k.1
      by true c f g h (inr m) = absurd (m.0 (f refl))
      by false c f g h (inl k) = let bad : false ≡ true = g k.0 in cc
      by false true f g h (inr m) = inl (m.2.2 ∙ ap gap_mark (one_gap nodes table p m.2.0 (gap_of (slots_of nodes) p) m.2.1 (gap_is nodes p)))
      by false false f g h (inr m) = let bad : false ≡ true = h m.1 in cc

-- ---- the list

module _ (nodes : Nodes) (table : IsTable nodes) where
  pub mark_alone : (p : Path) (gap : Option SlotAt) → IsGap nodes p gap → Alone [] (gap_mark gap) × AllByRecursion HasKind (gap_mark gap)
  mark_alone p None g = ((refl, (λ e. cc), tt), (marker_kind, tt))
  mark_alone p (Some slot) g = (
    fields_marked _ (next_few nodes table slot g.0),
    kinds_append _ ([] ∷ []) (next_kinds nodes table slot g.0) (marker_kind, tt),
  )

  -- What becomes of a path of a well-formed list is a well-formed list of its own.
  becomes_alone : (others : Others) (list : List Atom) (p t : Path) → IsWellFormed list → PathsOf list p → Becomes others nodes p t → Alone [] t × AllByRecursion HasKind t
  becomes_alone others list p t w i (inl k) = subst (λ v. Alone [] v × AllByRecursion HasKind v) (sym k.1) (paths_alone list p w i, paths_kinds list p w i)
  becomes_alone others list p t w i (inr m) = subst (λ v. Alone [] v × AllByRecursion HasKind v) (sym m.2.2) (mark_alone p m.2.0 m.2.1)

  pub plain_kept : (others : Others) (list : List Atom) → IsWellFormed list → IsKeptOf nodes others list (kept_list nodes others list)
  plain_kept others list w =
      HasPaths-alike (SomeHasPath lists) (λ q. (p : Path) × PathsOf list p × GoesTo nodes others p q) (merge_of lists) (λ q. (there q, back q))
      (merges_one_by_one lists (All-from IsWellFormed lists (λ l i. let a = alone l i in alone_well_formed l a.0 a.1)))
    where
      lists : List (List Atom)
      lists = flat_map (becoming others (slots_of nodes)) (paths list)

      alone : (l : List Atom) → IsIn l lists → Alone [] l × AllByRecursion HasKind l
      alone l i =
          let s = flat_there (becoming others (slots_of nodes)) (paths list) l i in
          becomes_alone others list s.0 l w s.1 (becoming_there nodes others s.0 l s.2)

      there : (q : Path) → SomeHasPath lists q → (p : Path) × PathsOf list p × GoesTo nodes others p q
      there q h =
          let l = SomeHasPath-list lists q h in
          let s = flat_there (becoming others (slots_of nodes)) (paths list) l.0 l.1 in
          let b = (paths_own l.0 q (alone l.0 l.1).0).0 l.2 in
          (s.0, s.1, (l.0, becoming_there nodes others s.0 l.0 s.2, b.0, b.1))

      back : (q : Path) → (p : Path) × PathsOf list p × GoesTo nodes others p q → SomeHasPath lists q
      back q (p, i, (t, becomes, some, below)) =
          SomeHasPath-of lists t q (flat_back (becoming others (slots_of nodes)) (paths list) p t i (becoming_back nodes others p t table becomes))
          ((paths_own t q (becomes_alone others list p t w i becomes).0).1 (some, below))

-- A path is kept, or it isn't.
pub kept_or_other : (nodes : Nodes) (p : Path) → IsKeptPath nodes p ⊎ (IsKeptPath nodes p → ⊥)
kept_or_other nodes p = by (list_any (λ slot. is_below (field_path slot.numbers) p) (slots_of nodes)) (kept_there nodes p) (kept_back nodes p)
  where
    by : (b : Bool) → (b ≡ true → IsKeptPath nodes p) → (IsKeptPath nodes p → b ≡ true) → IsKeptPath nodes p ⊎ (IsKeptPath nodes p → ⊥)
    by true f g = inl (f refl)
    by false f g = inr (λ k. let clash : false ≡ true = g k in cc)
