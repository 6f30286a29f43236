-- The laws of what is kept.
use Rattle.std.proofs.Common.{◌≡◌, ◌⊎◌, inl, inr, List, [], ◌∷◌, ◌++◌, Option, Some, None, Less, sym, refl, ap, ◌∙◌, subst, append_assoc}
use Rattle.std.specs.Prelude.{◌≢◌}
use Rattle.std.specs.List.{AllByRecursion}
use Rattle.std.specs.Ordering.{ordering_reverse}
use Rattle.context_model.specs.Atoms.{Atom}
use Rattle.context_model.specs.Kinds.{HasKind}
use Rattle.context_model.specs.Orders.{Path, path_cmp, IsIn}
use Rattle.context_model.specs.Ended.{IsBelow, IsBeyond, IsEnded, IsEndedAtMarkers, AreHeaders}
use Rattle.context_model.specs.Merged.{SomeHasPath, last_atom}
use Rattle.context_model.proofs.OrderLaws.{paths_total}
use Rattle.context_model.proofs.Beyond.{IsBeyond-later, beyond_none}
use Rattle.context_model.proofs.EndedLaws.{before_marker, ends_at_markers}
use Rattle.context_model.proofs.Following.{later_below}
use Rattle.context_model.proofs.MergedLaws.{same_end, HasPaths-unique, HasPaths-alike}
use Rattle.context_model.proofs.PlacesOf.{front_is_path}
use Rattle.bag_model.specs.Shapes.{Nodes}
use Rattle.bag_model.specs.Slots.{SlotAt, slots_of}
use Rattle.bag_model.specs.Tables.{IsTable}
use Rattle.bag_model.specs.Readings.{PathsOf}
use Rattle.bag_model.proofs.PathSets.{SameBelow}
use Rattle.bag_model.proofs.Unions.{Reads-alike}
use Rattle.bag_model.proofs.TypedLaws.{IsTyped-fewer}
use Rattle.keep_calls.specs.declared.others.Others.{Others}
use Rattle.keep_calls.specs.declared.others.Others.TheVariants.{Cut, Unsaid}
use Rattle.keep_calls.specs.Kept.{IsKeptPath, IsOnTheWay, IsGap, gap_mark, IsToldOf, Becomes, GoesTo, IsKeptOf}
use Rattle.keep_calls.specs.Laws.{KeepsList, KeepsContexts, AreKeptOf, KeepMerges, KeepsOnce, SaysTheSame, KeptSlotsSayTheSame, IsSlotOrNone, IsToldByTable, NothingElseLeaves, UnsaidIsAsExact, CutsAreTold}
use Rattle.keep_calls.proofs.PathLists.{paths_kinds, paths_some}
use Rattle.keep_calls.proofs.SlotGaps.{last_atom-end, own, next, below_itself, below_onwards, fronts_meet, front_or_whole, IsUpTo, same_or_before, no_marker_among, next_headers, own_before_next, one_gap, told_off_way, marker_told, mark_upto, next_other, mark_other, next_gap, mark_gap, first_gap, first_other}
use Rattle.keep_calls.proofs.NextHeaders.{next_front}
use Rattle.keep_calls.proofs.PlainKept.{plain_kept, gap_is, kept_or_other}
use Rattle.keep_calls.proofs.ReadAlike.{SaysAlike, turned, Reads-says, says_alike}

pub keeps_contexts : KeepsContexts
keeps_contexts = record {
  some = λ nodes others list t w. plain_kept nodes t others list w;
  one = λ nodes others list a b f g. HasPaths-unique (λ q. (p : Path) × PathsOf list p × GoesTo nodes others p q) a b f g;
}

-- ---- merges

module _ (nodes : Nodes) (others : Others) where
  -- q is gone to by a path of some list.
  abbrev SomeGoesTo : List (List Atom) → Path → Type 0
  SomeGoesTo lists q = (p : Path) × SomeHasPath lists p × GoesTo nodes others p q

  each_there : (lists keeps : List (List Atom)) (q : Path) → AreKeptOf nodes others lists keeps → SomeHasPath keeps q → SomeGoesTo lists q
  each_there [] [] q k none = elim none [ ]
  each_there [] (x ∷ keeps) q k h = elim k [ ]
  each_there (list ∷ lists) [] q k h = elim k [ ]
  each_there (list ∷ lists) (kept ∷ keeps) q k (inl i) = let s = (k.0.exact q).0 i in (s.0, inl s.1, s.2)
  each_there (list ∷ lists) (kept ∷ keeps) q k (inr h) = let s = each_there lists keeps q k.1 h in (s.0, inr s.1, s.2)

  each_back : (lists keeps : List (List Atom)) (q p : Path) → AreKeptOf nodes others lists keeps → SomeHasPath lists p → GoesTo nodes others p q → SomeHasPath keeps q
  each_back [] keeps q p k none g = elim none [ ]
  each_back (list ∷ lists) [] q p k h g = elim k [ ]
  each_back (list ∷ lists) (kept ∷ keeps) q p k (inl i) g = inl ((k.0.exact q).1 (p, i, g))
  each_back (list ∷ lists) (kept ∷ keeps) q p k (inr h) g = inr (each_back lists keeps q p k.1 h g)

pub keep_merges : KeepMerges
keep_merges nodes others lists keeps merged kept m k = (
  λ f. HasPaths-alike (λ q. (p : Path) × PathsOf merged p × GoesTo nodes others p q) (SomeHasPath keeps) kept (λ q. (there q, back q)) f,
  λ f. HasPaths-alike (SomeHasPath keeps) (λ q. (p : Path) × PathsOf merged p × GoesTo nodes others p q) kept (λ q. (back q, there q)) f,
)
  where
    there : (q : Path) → (p : Path) × PathsOf merged p × GoesTo nodes others p q → SomeHasPath keeps q
    there q s = each_back nodes others lists keeps q s.0 k ((m.exact s.0).0 s.1) s.2

    back : (q : Path) → SomeHasPath keeps q → (p : Path) × PathsOf merged p × GoesTo nodes others p q
    back q h = let s = each_there nodes others lists keeps q k h in (s.0, (m.exact s.0).1 s.1, s.2)

-- ---- paths

-- A path that isn't empty ends with an atom.
last_of : (q : Path) → q ≢ [] → (r : Path) × (a : Atom) × (q ≡ r ++ a ∷ [])
last_of [] some = absurd (some refl)
last_of (a ∷ []) some = ([], a, refl)
last_of (a ∷ b ∷ q) some = let s = last_of (b ∷ q) (λ e. cc) in (a ∷ s.0, s.1, ap (λ v. a ∷ v) s.2)

-- A prefix of a path of a list is a path of it.
pub front_there : (list : List Atom) (p q : Path) → PathsOf list p → q ≢ [] → IsBelow q p → PathsOf list q
front_there list p q i some (rest, e) =
    let s = last_of q some in
    subst (PathsOf list) (sym s.2) (front_is_path list s.0 rest s.1 (subst (PathsOf list) (e ∙ ap (λ v. v ++ rest) s.2 ∙ append_assoc s.0 (s.1 ∷ []) rest) i))

mark_some : (gap : Option SlotAt) → gap_mark gap ≢ []
mark_some None e = cc
mark_some (Some slot) e = by (next slot) e
  where
    by : (q : Path) → q ++ [] ∷ [] ≡ [] → ⊥
    by [] f = cc
    by (x ∷ q) f = cc

kept_onwards : (nodes : Nodes) (p t : Path) → IsKeptPath nodes p → IsBelow p t → IsKeptPath nodes t
kept_onwards nodes p t (slot, i, b) below = (slot, i, below_onwards (own slot) p t b below)

-- ---- marks

module _ (nodes : Nodes) (table : IsTable nodes) (p : Path) (kinds : AllByRecursion HasKind p) (other : IsKeptPath nodes p → ⊥) where
  -- A mark isn't kept, and is the mark of its own gap.
  mark_unkept : (gap : Option SlotAt) → IsGap nodes p gap → IsKeptPath nodes (gap_mark gap) → ⊥
  mark_unkept None g k = first_other nodes table k
  mark_unkept (Some slot) g k = mark_other nodes table p kinds other slot g k

  mark_same : (gap : Option SlotAt) → IsGap nodes p gap → IsGap nodes (gap_mark gap) gap
  mark_same None g = first_gap nodes table
  mark_same (Some slot) g = mark_gap nodes table p kinds other slot g

  -- A part of a mark that doesn't lead to a slot has the same gap.
  part_same : (gap : Option SlotAt) (q : Path) → IsGap nodes p gap → q ≢ [] → IsBelow q (gap_mark gap) → (IsOnTheWay nodes q → ⊥) → IsGap nodes q gap
  part_same None q g some (rest, e) off = elim (front_or_whole q rest [] [] e) [
    | inl whole ↦ subst (λ v. IsGap nodes v None) (sym whole) (first_gap nodes table)
    | inr (r, f) ↦ absurd (none q r some f)
  ]
    where
      none : (q r : Path) → q ≢ [] → [] ≡ q ++ r → ⊥
      none [] r n f = n refl
      none (x ∷ q) r n f = cc
  part_same (Some slot) q g some (rest, e) off = elim (front_or_whole q rest (next slot) [] e) [
    | inl whole ↦ subst (λ v. IsGap nodes v (Some slot)) (sym whole) (mark_gap nodes table p kinds other slot g)
    | inr below ↦ elim (next_front 0 slot.numbers q below) [
      | inl same ↦ subst (λ v. IsGap nodes v (Some slot)) (sym same) (next_gap nodes table p kinds other slot g)
      | inr (a, r, f) ↦ absurd (off (slot, g.0, (a ∷ r, f)))
    ]
  ]

mark_told : (nodes : Nodes) (table : IsTable nodes) (others : Others) (gap : Option SlotAt) → IsToldOf others nodes (gap_mark gap)
mark_told nodes table others None = marker_told nodes table others []
mark_told nodes table others (Some slot) = marker_told nodes table others (next slot)

module _ (nodes : Nodes) (others : Others) (list kept : List Atom) (k : KeepsList nodes others list kept) where
  kinds_of : (p : Path) → PathsOf list p → AllByRecursion HasKind p
  kinds_of p i = paths_kinds list p k.well_formed i

  -- A path of the list that is kept stays,
  stays : (p : Path) → IsKeptPath nodes p → PathsOf list p → PathsOf kept p
  stays p h i = (k.holds.exact p).1 (p, i, (p, inl (h, refl), paths_some [] list p i, below_itself p))

  -- and otherwise its mark is there, if it is told of.
  marked : (p : Path) (gap : Option SlotAt) → PathsOf list p → (IsKeptPath nodes p → ⊥) → IsToldOf others nodes p → IsGap nodes p gap → PathsOf kept (gap_mark gap)
  marked p gap i other told g = (k.holds.exact (gap_mark gap)).1 (p, i, (gap_mark gap, inr (other, told, (gap, g, refl)), mark_some gap, below_itself (gap_mark gap)))

  came : (q : Path) → IsKeptPath nodes q → (p : Path) × PathsOf list p × GoesTo nodes others p q → PathsOf list q
  came q h (p, i, (t, inl s, some, below)) = front_there list p q i some (subst (IsBelow q) s.1 below)
  came q h (p, i, (t, inr s, some, below)) =
      absurd (mark_unkept nodes k.table p (kinds_of p i) s.0 s.2.0 s.2.1 (kept_onwards nodes q (gap_mark s.2.0) h (subst (IsBelow q) s.2.2 below)))

  -- A path at a slot or below it was there.
  was_there : (q : Path) → IsKeptPath nodes q → PathsOf kept q → PathsOf list q
  was_there q h i = came q h ((k.holds.exact q).0 i)

  same_below : (slot : SlotAt) → IsIn slot (slots_of nodes) → SameBelow (own slot) (PathsOf kept) (PathsOf list)
  same_below slot j = (
    λ p b bytes i. was_there (own slot ++ (p ++ (b ∷ bytes) ∷ [])) (slot, j, (p ++ (b ∷ bytes) ∷ [], refl)) i,
    λ p b bytes i. stays (own slot ++ (p ++ (b ∷ bytes) ∷ [])) (slot, j, (p ++ (b ∷ bytes) ∷ [], refl)) i,
  )

  says_the_same : SaysTheSame nodes list kept
  says_the_same = record {
    paths = λ p h. ((λ i. was_there p h i), λ i. stays p h i);
    reads = λ slot v j. let s = same_below slot j in
        ((λ r. Reads-alike slot.shape (PathsOf kept) (PathsOf list) (own slot) v s r), λ r. Reads-alike slot.shape (PathsOf list) (PathsOf kept) (own slot) v (s.1, s.0) r);
    typed = λ slot j. let s = same_below slot j in
        ((λ r. IsTyped-fewer slot.shape (PathsOf list) (PathsOf kept) (own slot) s.1 r), λ r. IsTyped-fewer slot.shape (PathsOf kept) (PathsOf list) (own slot) s.0 r);
  }

  -- ---- nothing else

  gap_slot : (p : Path) (gap : Option SlotAt) → IsGap nodes p gap → IsSlotOrNone nodes gap
  gap_slot p None g = tt
  gap_slot p (Some slot) g = g.0

  only : (q : Path) → (p : Path) × PathsOf list p × GoesTo nodes others p q → (IsKeptPath nodes q × PathsOf list q) ⊎ IsToldByTable nodes q
  only q (p, i, (t, inr s, some, below)) = inr (inr (s.2.0, gap_slot p s.2.0 s.2.1, subst (IsBelow q) s.2.2 below))
  only q (p, i, (t, inl s, some, below)) = by s.0 (subst (IsBelow q) s.1 below)
    where
      by : IsKeptPath nodes p → IsBelow q p → (IsKeptPath nodes q × PathsOf list q) ⊎ IsToldByTable nodes q
      by (slot, j, (r, e)) (u, f) = elim (fronts_meet q u (own slot) r (sym f ∙ e)) [
        | inl under ↦ inl ((slot, j, under), front_there list p q i some (u, f))
        | inr over ↦ inr (inl (slot, j, over))
      ]

  -- ---- once

  again : (p t : Path) → PathsOf list p → Becomes others nodes p t → Becomes others nodes t t
  again p t i (inl s) = inl (subst (IsKeptPath nodes) (sym s.1) s.0, refl)
  again p t i (inr s) =
      subst (λ v. Becomes others nodes v v) (sym s.2.2)
      (inr (mark_unkept nodes k.table p (kinds_of p i) s.0 s.2.0 s.2.1, mark_told nodes k.table others s.2.0, (s.2.0, mark_same nodes k.table p (kinds_of p i) s.0 s.2.0 s.2.1, refl)))

  becoming_some : (q t : Path) → q ≢ [] → IsBelow q t → t ≢ []
  becoming_some [] t some b e = some refl
  becoming_some (x ∷ q) t some (r, f) e = cc

  once_there : (q : Path) → (p : Path) × PathsOf list p × GoesTo nodes others p q → (p : Path) × PathsOf kept p × GoesTo nodes others p q
  once_there q (p, i, (t, becomes, some, below)) =
      (t, (k.holds.exact t).1 (p, i, (t, becomes, becoming_some q t some below, below_itself t)), (t, again p t i becomes, some, below))

  -- what a part of what a path becomes becomes itself is a part of that
  once_part : (p t q s : Path) → PathsOf list p → Becomes others nodes p t → q ≢ [] → IsBelow q t → Becomes others nodes q s → IsBelow s t
  once_part p t q s i becomes some below (inl h) = subst (λ v. IsBelow v t) (sym h.1) below
  once_part p t q s i (inl f) some below (inr h) = absurd (by f.0 (subst (IsBelow q) f.1 below))
    where
      by : IsKeptPath nodes p → IsBelow q p → ⊥
      by (slot, j, (r, e)) (u, g) = elim (fronts_meet q u (own slot) r (sym g ∙ e)) [
        | inl under ↦ h.0 (slot, j, under)
        | inr over ↦ told_off_way nodes k.table others q some h.1 (slot, j, over)
      ]
  once_part p t q s i (inr f) some below (inr h) =
      let part : IsGap nodes q f.2.0 =
      part_same nodes k.table p (kinds_of p i) f.0 f.2.0 q f.2.1 some (subst (IsBelow q) f.2.2 below) (told_off_way nodes k.table others q some h.1) in
      let same : s ≡ t = h.2.2 ∙ ap gap_mark (one_gap nodes k.table q h.2.0 f.2.0 h.2.1 part) ∙ sym f.2.2 in
      subst (λ v. IsBelow v t) (sym same) (below_itself t)

  once_back : (q : Path) → (p : Path) × PathsOf kept p × GoesTo nodes others p q → PathsOf kept q
  once_back q (p, i, (s, becomes, some, below)) = by ((k.holds.exact p).0 i)
    where
      by : (o : Path) × PathsOf list o × GoesTo nodes others o p → PathsOf kept q
      by (o, j, (t, from, there, under)) = (k.holds.exact q).1 (o, j, (t, from, some, below_onwards q s t below (once_part o t p s j from there under becomes)))

  kept_again : IsKeptOf nodes others kept kept
  kept_again = record { well_formed = k.holds.well_formed; exact = λ q. ((λ i. once_there q ((k.holds.exact q).0 i)), λ s. once_back q s) }

  -- ---- ended

  module _ (s : Path) (ended : IsEnded kept s) where
    at_markers : IsEndedAtMarkers kept s
    at_markers = (ends_at_markers kept s k.holds.well_formed).0 ended

    -- where a mark is there, the path that it tells of is beyond s
    beyond_told : (p : Path) (gap : Option SlotAt) → PathsOf list p → (IsKeptPath nodes p → ⊥) → IsToldOf others nodes p → IsGap nodes p gap → IsBeyond s p
    beyond_told p None i other told g = absurd (beyond_none s (at_markers [] (marked p None i other told g)))
    beyond_told p (Some slot) i other told g =
        let b : IsBeyond s (next slot) = at_markers (next slot) (marked p (Some slot) i other told g) in
        elim (same_or_before (next slot) p (mark_upto nodes k.table p (kinds_of p i) other slot g)) [
          | inl same ↦ subst (IsBeyond s) same b
          | inr less ↦ IsBeyond-later s (next slot) p b less
        ]

    marker_beyond : (q : Path) (gap : Option SlotAt) → PathsOf list (q ++ [] ∷ []) → (IsKeptPath nodes (q ++ [] ∷ []) → ⊥) → IsGap nodes (q ++ [] ∷ []) gap → IsBeyond s q
    marker_beyond q None i other g = absurd (beyond_none s (at_markers [] (marked (q ++ [] ∷ []) None i other (marker_told nodes k.table others q) g)))
    marker_beyond q (Some slot) i other g =
        let b : IsBeyond s (next slot) = at_markers (next slot) (marked (q ++ [] ∷ []) (Some slot) i other (marker_told nodes k.table others q) g) in
        elim (same_or_before (next slot) (q ++ [] ∷ []) (mark_upto nodes k.table (q ++ [] ∷ []) (kinds_of (q ++ [] ∷ []) i) other slot g)) [
          | inl same ↦ absurd (no_marker_among q [] (subst AreHeaders same (next_headers nodes k.table slot g.0)))
          | inr less ↦ elim (same_or_before (next slot) q (λ greater. before_marker (next slot) q less greater)) [
            | inl same ↦ subst (IsBeyond s) same b
            | inr before ↦ IsBeyond-later s (next slot) q b before
          ]
        ]

    ended_there : IsEnded list s
    ended_there = (ends_at_markers list s k.well_formed).1 (λ q i. elim (kept_or_other nodes (q ++ [] ∷ [])) [
      | inl h ↦ at_markers q (stays (q ++ [] ∷ []) h i)
      | inr other ↦ marker_beyond q _ i other (gap_is nodes (q ++ [] ∷ []))
    ])

pub keeps_once : KeepsOnce
keeps_once nodes others list kept k = kept_again nodes others list kept k

pub kept_slots_say_the_same : KeptSlotsSayTheSame
kept_slots_say_the_same nodes others list kept k = says_the_same nodes others list kept k

pub nothing_else_leaves : NothingElseLeaves
nothing_else_leaves nodes others list kept k p i = only nodes others list kept k p ((k.holds.exact p).0 i)

-- ---- where others are cut off

module _ (nodes : Nodes) (list kept : List Atom) (k : KeepsList nodes Cut list kept) where
  whole_below : (s p : Path) → IsEnded kept s → IsBelow s p → PathsOf list p → (IsOnTheWay nodes p → ⊥) → PathsOf kept p
  whole_below s p e below i off = elim (kept_or_other nodes p) [
    | inl h ↦ stays nodes Cut list kept k p h i
    | inr other ↦ absurd ((beyond_told nodes Cut list kept k s e p _ i other off (gap_is nodes p)).1 below)
  ]

  alike_below : (s : Path) → IsEnded kept s → SaysAlike s (PathsOf kept) (PathsOf list)
  alike_below s e = says_alike nodes Cut list kept k s (λ p i. nothing_else_leaves nodes Cut list kept k p i) (λ p below i off. whole_below s p e below i off)

pub cuts_are_told : CutsAreTold
cuts_are_told nodes list kept k = record {
  ended = λ s e. ended_there nodes Cut list kept k s e;
  whole = λ s p e below i off. whole_below nodes list kept k s p e below i off;
  reads = λ shape s v e. let a = alike_below nodes list kept k s e in (
    (λ r. Reads-says shape (PathsOf kept) (PathsOf list) s v a r),
    λ r. Reads-says shape (PathsOf list) (PathsOf kept) s v (turned s (PathsOf kept) (PathsOf list) a) r,
  );
}

-- ---- where others go unsaid

module _ (nodes : Nodes) (list kept : List Atom) (k : KeepsList nodes Unsaid list kept) (slot : SlotAt) (j : IsIn slot (slots_of nodes)) (ended : IsEnded list (own slot)) where
  was_beyond : IsEndedAtMarkers list (own slot)
  was_beyond = (ends_at_markers list (own slot) k.well_formed).0 ended

  -- a slot before a path is before the mark of its gap, and the mark's header isn't below it
  mark_beyond : (p : Path) (gap : Option SlotAt) (q : Path) → AllByRecursion HasKind p → (IsKeptPath nodes p → ⊥) → IsGap nodes p gap → path_cmp (own slot) p ≡ Less
      → IsBelow (q ++ [] ∷ []) (gap_mark gap) → IsBeyond (own slot) q
  mark_beyond p None q kinds other g less below = absurd (g slot j less)
  mark_beyond p (Some last) q kinds other g less (rest, e) = elim (front_or_whole (q ++ [] ∷ []) rest (next last) [] e) [
    | inl whole ↦ subst (IsBeyond (own slot)) (sym (same_end q (next last) [] [] whole).0) (before, λ under. next_other nodes k.table p kinds other last g (slot, j, under))
    | inr (r, f) ↦ absurd (no_marker_among q r (subst AreHeaders (f ∙ append_assoc q ([] ∷ []) r) (next_headers nodes k.table last g.0)))
  ]
    where
      up_to : IsUpTo (own slot) (own last)
      up_to greater = g.2 slot j less (paths_total.antisymm (own last) (own slot) ∙ ap ordering_reverse greater)

      before : path_cmp (own slot) (next last) ≡ Less
      before = elim (same_or_before (own slot) (own last) up_to) [
        | inl same ↦ subst (λ v. path_cmp v (next last) ≡ Less) (sym same) (own_before_next nodes k.table last g.0)
        | inr l ↦ paths_total.trans (own slot) (own last) (next last) l (own_before_next nodes k.table last g.0)
      ]

  comes_beyond : (q : Path) → (p : Path) × PathsOf list p × GoesTo nodes Unsaid p (q ++ [] ∷ []) → IsBeyond (own slot) q
  comes_beyond q (p, i, (t, inl s, some, below)) = was_beyond q (front_there list p (q ++ [] ∷ []) i some (subst (IsBelow (q ++ [] ∷ [])) s.1 below))
  comes_beyond q (p, i, (t, inr s, some, below)) =
      let e = last_of p (paths_some [] list p i) in
      let marker : e.1 ≡ [] = sym (last_atom-end e.0 e.1) ∙ ap last_atom (sym e.2) ∙ s.1 in
      let is : p ≡ e.0 ++ [] ∷ [] = e.2 ∙ ap (λ a. e.0 ++ a ∷ []) marker in
      let b : IsBeyond (own slot) e.0 = was_beyond e.0 (subst (PathsOf list) is i) in
      let later : path_cmp (own slot) (e.0 ++ [] ∷ []) ≡ Less = paths_total.trans (own slot) e.0 (e.0 ++ [] ∷ []) b.0 (later_below e.0 []) in
      let less : path_cmp (own slot) p ≡ Less = subst (λ v. path_cmp (own slot) v ≡ Less) (sym is) later in
      mark_beyond p s.2.0 q (paths_kinds list p k.well_formed i) s.0 s.2.1 less (subst (IsBelow (q ++ [] ∷ [])) s.2.2 below)

  stays_ended : IsEnded kept (own slot)
  stays_ended = (ends_at_markers kept (own slot) k.holds.well_formed).1 (λ q i. comes_beyond q ((k.holds.exact (q ++ [] ∷ [])).0 i))

pub unsaid_is_as_exact : UnsaidIsAsExact
unsaid_is_as_exact nodes list kept k slot j = ((λ e. ended_there nodes Unsaid list kept k (own slot) e), λ e. stays_ended nodes list kept k slot j e)
