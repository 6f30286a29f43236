-- The gaps between the slots of a table, and their marks.
use Rattle.std.proofs.Common.{◌≡◌, ◌⊎◌, inl, inr, ℕ, ◌<◌, ◌≤◌, true, false, List, [], ◌∷◌, ◌++◌, length, map, Option, Some, None, Ordering, Less, Equal, Greater, sym, refl, ap, ◌∙◌, subst, arith, append_assoc, append-nil}
use Rattle.std.specs.Prelude.{◌≢◌}
use Rattle.std.specs.List.{AllByRecursion}
use Rattle.std.specs.Ordering.{ordering_then, ordering_reverse}
use Rattle.std.proofs.lemmas.Cmp.{tied_itself}
use Rattle.context_model.specs.Atoms.{Atom}
use Rattle.context_model.specs.Kinds.{HasKind}
use Rattle.context_model.specs.Orders.{Path, path_cmp, IsIn}
use Rattle.context_model.specs.Ended.{IsBelow, AreHeaders, field_path}
use Rattle.context_model.specs.Merged.{last_atom}
use Rattle.context_model.proofs.OrderLaws.{atoms_total, paths_total, paths_anti}
use Rattle.context_model.proofs.FieldPaths.{field_path-headers}
use Rattle.context_model.proofs.Following.{later_below}
use Rattle.context_model.proofs.EndedLaws.{before_marker}
use Rattle.bag_model.specs.Shapes.{Shape, Nodes, Taint, Scalar, Set, Counter, Map, Bag, no_node, node}
use Rattle.bag_model.specs.Slots.{SlotAt, slots_in, slots_of, within}
use Rattle.bag_model.specs.Tables.{IsShape, AreFields, IsTable, levels}
use Rattle.bag_model.proofs.Finite.{in_append}
use Rattle.bag_model.proofs.SlotsBelow.{in_map, slots_levels}
use Rattle.bag_model.proofs.GoneDataLaws.{slots_apart}
use Rattle.keep_calls.specs.declared.others.Others.{Others}
use Rattle.keep_calls.specs.declared.others.Others.TheVariants.{Cut, Unsaid}
use Rattle.keep_calls.specs.Kept.{IsKeptPath, IsOnTheWay, IsGap, next_numbers, IsToldOf}
use Rattle.keep_calls.specs.Walk.{IsSmall}
use Rattle.keep_calls.proofs.NextHeaders.{small_wide, next_wide, next_length, fields_kinds, next_later, next_least, next_front}

-- ---- prefixes and the order of paths

pub below_itself : (p : Path) → IsBelow p p
below_itself p = ([], sym (append-nil p))

pub below_onwards : (a b c : Path) → IsBelow a b → IsBelow b c → IsBelow a c
below_onwards a b c (r, e) (s, f) = (r ++ s, f ∙ ap (λ v. v ++ s) e ∙ append_assoc a r s)

-- Of two prefixes of a path one is a prefix of the other.
pub fronts_meet : (p r s t : Path) → p ++ r ≡ s ++ t → IsBelow s p ⊎ IsBelow p s
fronts_meet p r [] t e = inl (p, refl)
fronts_meet [] r (y ∷ s) t e = inr (y ∷ s, refl)
fronts_meet (x ∷ p) r (y ∷ s) t e =
    let same : x ≡ y = cc in
    let tail : p ++ r ≡ s ++ t = cc in
    elim (fronts_meet p r s t tail) [
      | inl (u, f) ↦ inl (u, λ i. same i ∷ f i)
      | inr (u, f) ↦ inr (u, λ i. sym same i ∷ f i)
    ]

-- A prefix of a path with an atom after it is that, or a prefix of the path.
pub front_or_whole : (s r q : Path) (a : Atom) → q ++ a ∷ [] ≡ s ++ r → (s ≡ q ++ a ∷ []) ⊎ IsBelow s q
front_or_whole [] r q a e = inr (q, refl)
front_or_whole (x ∷ []) r [] a e = let same : x ≡ a = cc in inl (ap (λ v. v ∷ []) same)
front_or_whole (x ∷ y ∷ s) r [] a e = cc
front_or_whole (x ∷ s) r (z ∷ q) a e =
    let same : x ≡ z = cc in
    let tail : q ++ a ∷ [] ≡ s ++ r = cc in
    elim (front_or_whole s r q a tail) [
      | inl whole ↦ inl (λ i. same i ∷ whole i)
      | inr (u, f) ↦ inr (u, λ i. sym same i ∷ f i)
    ]

pub never_before : (p : Path) → path_cmp p p ≡ Less → ⊥
never_before p l = let clash : Less ≡ Equal = sym l ∙ tied_itself paths_total p in cc

pub front_before : (q : Path) (a : Atom) (r : Path) → path_cmp q (q ++ a ∷ r) ≡ Less
front_before [] a r = refl
front_before (x ∷ q) a r = ap (λ o. ordering_then o (path_cmp q (q ++ a ∷ r))) (tied_itself atoms_total x) ∙ front_before q a r

-- The first path isn't after the second.
abbrev pub IsUpTo : Path → Path → Type 0
IsUpTo p q = path_cmp p q ≡ Greater → ⊥

pub same_or_before : (p q : Path) → IsUpTo p q → (p ≡ q) ⊎ (path_cmp p q ≡ Less)
same_or_before p q n = by (path_cmp p q) refl
  where
    by : (o : Ordering) → path_cmp p q ≡ o → (p ≡ q) ⊎ (path_cmp p q ≡ Less)
    by Less e = inr e
    by Equal e = inl (paths_anti p q e)
    by Greater e = absurd (n e)

-- ---- headers

pub headers_front : (q r : Path) → AreHeaders (q ++ r) → AreHeaders q
headers_front [] r h = tt
headers_front (a ∷ q) r h = (h.0, headers_front q r h.1)

pub no_marker_among : (q r : Path) → AreHeaders (q ++ [] ∷ r) → ⊥
no_marker_among [] r h = let clash : false ≡ true = h.0 in cc
no_marker_among (a ∷ q) r h = no_marker_among q r h.1

last_header : (q : Path) → AreHeaders q → q ≢ [] → last_atom q ≡ [] → ⊥
last_header [] h some e = some refl
last_header ([] ∷ []) h some e = let clash : false ≡ true = h.0 in cc
last_header ((b ∷ bytes) ∷ []) h some e = cc
last_header (a ∷ c ∷ q) h some e = last_header (c ∷ q) h.1 (λ f. cc) e

pub last_atom-end : (q : Path) (a : Atom) → last_atom (q ++ a ∷ []) ≡ a
last_atom-end [] a = refl
last_atom-end (x ∷ []) a = refl
last_atom-end (x ∷ y ∷ q) a = last_atom-end (y ∷ q) a

-- ---- slots

none_small : (shape : Shape) (slot : SlotAt) → IsIn slot (record { names = []; numbers = []; shape = shape } ∷ []) → AllByRecursion IsSmall slot.numbers
none_small shape slot (inl e) = subst (λ (s : SlotAt). AllByRecursion IsSmall s.numbers) (sym e) tt
none_small shape slot (inr none) = elim none [ ]

mutual
  slot_small : (shape : Shape) (slot : SlotAt) → IsShape shape → IsIn slot (slots_in shape) → AllByRecursion IsSmall slot.numbers
  slot_small Taint slot w i = none_small Taint slot i
  slot_small (Scalar pick kind) slot w i = none_small (Scalar pick kind) slot i
  slot_small (Set kind) slot w i = none_small (Set kind) slot i
  slot_small Counter slot w i = none_small Counter slot i
  slot_small (Map kind shape) slot w i = none_small (Map kind shape) slot i
  slot_small (Bag nodes) slot w i = slots_small nodes slot w i

  pub slots_small : (nodes : Nodes) (slot : SlotAt) → AreFields nodes → IsIn slot (slots_of nodes) → AllByRecursion IsSmall slot.numbers
  slots_small no_node slot w none = elim none [ ]
  slots_small (node name number shape nodes) slot w i =
      by (in_append slot (map (within name number) (slots_in shape)) (slots_of nodes) i) (λ inner j. slot_small shape inner w.2 j) (λ j. slots_small nodes slot w.4 j)
    where
      by : IsIn slot (map (within name number) (slots_in shape)) ⊎ IsIn slot (slots_of nodes) → ((inner : SlotAt) → IsIn inner (slots_in shape) → AllByRecursion IsSmall inner.numbers)
          → (IsIn slot (slots_of nodes) → AllByRecursion IsSmall slot.numbers) → AllByRecursion IsSmall slot.numbers
      by (inl j) own rest =
          let s = in_map (within name number) (slots_in shape) slot j in
          subst (λ (x : SlotAt). AllByRecursion IsSmall x.numbers) (sym s.2) (w.1, own s.0 s.1)
      by (inr j) own rest = rest j

-- A slot has a number.
pub slots_some : (nodes : Nodes) (slot : SlotAt) → IsIn slot (slots_of nodes) → 0 < length slot.numbers
slots_some no_node slot none = elim none [ ]
slots_some (node name number shape nodes) slot i = by (in_append slot (map (within name number) (slots_in shape)) (slots_of nodes) i) (λ j. slots_some nodes slot j)
  where
    by : IsIn slot (map (within name number) (slots_in shape)) ⊎ IsIn slot (slots_of nodes) → (IsIn slot (slots_of nodes) → 0 < length slot.numbers) → 0 < length slot.numbers
    by (inl j) rest = let s = in_map (within name number) (slots_in shape) slot j in subst (λ (x : SlotAt). 0 < length x.numbers) (sym s.2) (omega arith)
    by (inr j) rest = rest j

-- The path of a slot, and the header next after it.
abbrev pub own : SlotAt → Path
own slot = field_path slot.numbers

abbrev pub next : SlotAt → Path
next slot = field_path (next_numbers slot.numbers)

module _ (nodes : Nodes) (t : IsTable nodes) where
  module _ (slot : SlotAt) (i : IsIn slot (slots_of nodes)) where
    pub few : length slot.numbers ≤ 16
    few = let l : length slot.numbers ≤ levels nodes = slots_levels nodes slot i in omega (arith, t.shallow)

    pub small : AllByRecursion IsSmall slot.numbers
    small = slots_small nodes slot t.well_formed i

    pub own_headers : AreHeaders (own slot)
    own_headers = field_path-headers 0 slot.numbers (omega (arith, few))

    pub own_kinds : AllByRecursion HasKind (own slot)
    own_kinds = fields_kinds 0 slot.numbers (omega (arith, few)) (small_wide slot.numbers small)

    pub next_few : length (next_numbers slot.numbers) ≤ 16
    next_few = omega (arith, few, next_length slot.numbers)

    pub next_headers : AreHeaders (next slot)
    next_headers = field_path-headers 0 (next_numbers slot.numbers) (omega (arith, next_few))

    pub next_kinds : AllByRecursion HasKind (next slot)
    next_kinds = fields_kinds 0 (next_numbers slot.numbers) (omega (arith, next_few)) (next_wide slot.numbers small)

    pub own_before_next : path_cmp (own slot) (next slot) ≡ Less
    own_before_next = next_later 0 slot.numbers (slots_some nodes slot i) small

  -- Of two slots neither is below the other.
  pub alike : (a b : SlotAt) → IsIn a (slots_of nodes) → IsIn b (slots_of nodes) → IsBelow (own a) (own b) → b ≡ a
  alike a b i j (rest, e) = slots_apart nodes [] a b rest t.well_formed i j e

  pub no_more : (a b : SlotAt) (x : Atom) (r : Path) → IsIn a (slots_of nodes) → IsIn b (slots_of nodes) → own b ≡ own a ++ x ∷ r → ⊥
  no_more a b x r i j e =
      let same : b ≡ a = alike a b i j (x ∷ r, e) in
      never_before (own a) (subst (λ v. path_cmp (own a) v ≡ Less) (sym e ∙ ap own same) (front_before (own a) x r))

  -- The header next after a slot isn't after a later slot.
  pub next_upto : (slot other : SlotAt) → IsIn slot (slots_of nodes) → IsIn other (slots_of nodes) → path_cmp (own slot) (own other) ≡ Less → IsUpTo (next slot) (own other)
  next_upto slot other i j l =
      next_least 0 slot.numbers (own other) (slots_some nodes slot i) (omega (arith, few slot i)) (small slot i) (own_kinds other j) l
      (λ b. never_before (own slot) (subst (λ (s : SlotAt). path_cmp (own slot) (own s) ≡ Less) (alike slot other i j b) l))

  -- A path has one gap.
  pub one_gap : (p : Path) (g h : Option SlotAt) → IsGap nodes p g → IsGap nodes p h → g ≡ h
  one_gap p None None f k = refl
  one_gap p None (Some b) f k = absurd (f b k.0 k.1)
  one_gap p (Some a) None f k = absurd (k a f.0 f.1)
  one_gap p (Some a) (Some b) f k = by (path_cmp (own a) (own b)) refl
    where
      by : (o : Ordering) → path_cmp (own a) (own b) ≡ o → Some a ≡ Some b
      by Less e = absurd (f.2 b k.0 k.1 e)
      by Equal e = ap Some (alike b a k.0 f.0 ([], paths_anti (own a) (own b) e ∙ sym (append-nil (own b))))
      by Greater e = absurd (k.2 a f.0 f.1 (paths_total.antisymm (own b) (own a) ∙ ap ordering_reverse e))

  -- A path of which a mark tells doesn't lead to a slot.
  pub told_off_way : (others : Others) (p : Path) → p ≢ [] → IsToldOf others nodes p → IsOnTheWay nodes p → ⊥
  told_off_way Cut p some told way = told way
  told_off_way Unsaid p some told (slot, i, (rest, e)) = last_header p (headers_front p rest (subst AreHeaders e (own_headers slot i))) some told

  -- Of a marker a mark tells.
  pub marker_told : (others : Others) (q : Path) → IsToldOf others nodes (q ++ [] ∷ [])
  marker_told Cut q = λ (slot, i, (rest, e)). no_marker_among q rest (subst AreHeaders (e ∙ append_assoc q ([] ∷ []) rest) (own_headers slot i))
  marker_told Unsaid q = last_atom-end q []

  -- The gap of a path that isn't kept.
  module _ (p : Path) (kinds : AllByRecursion HasKind p) (other_path : IsKeptPath nodes p → ⊥) (slot : SlotAt) (gap : IsGap nodes p (Some slot)) where
    -- Its mark's header isn't after the path.
    pub mark_upto : IsUpTo (next slot) p
    mark_upto = next_least 0 slot.numbers p (slots_some nodes slot gap.0) (omega (arith, few slot gap.0)) (small slot gap.0) kinds gap.1 (λ b. other_path (slot, gap.0, b))

    -- The header is no slot's,
    no_slot : (other : SlotAt) → IsIn other (slots_of nodes) → own other ≡ next slot → ⊥
    no_slot other j e = elim (same_or_before (next slot) p mark_upto) [
      | inl same ↦ other_path (other, j, ([], sym same ∙ sym e ∙ sym (append-nil (own other))))
      | inr less ↦ gap.2 other j (subst (λ v. path_cmp v p ≡ Less) (sym e) less) (subst (λ v. path_cmp (own slot) v ≡ Less) (sym e) (own_before_next slot gap.0))
    ]

    -- and neither it nor the mark is kept.
    pub next_other : IsKeptPath nodes (next slot) → ⊥
    next_other (other, j, (rest, e)) = elim (next_front 0 slot.numbers (own other) (rest, e)) [
      | inl whole ↦ no_slot other j whole
      | inr (a, r, f) ↦ no_more other slot a r j gap.0 f
    ]

    pub mark_other : IsKeptPath nodes (next slot ++ [] ∷ []) → ⊥
    mark_other (other, j, (rest, e)) = elim (front_or_whole (own other) rest (next slot) [] e) [
      | inl whole ↦ no_marker_among (next slot) [] (subst AreHeaders whole (own_headers other j))
      | inr below ↦ next_other (other, j, below)
    ]

    -- Both have the same gap.
    pub next_gap : IsGap nodes (next slot) (Some slot)
    next_gap = (
      gap.0,
      own_before_next slot gap.0,
      λ other j l m. elim (same_or_before (next slot) (own other) (next_upto slot other gap.0 j m)) [
        | inl same ↦ never_before (own other) (subst (λ v. path_cmp (own other) v ≡ Less) same l)
        | inr less ↦ never_before (own other) (paths_total.trans (own other) (next slot) (own other) l less)
      ],
    )

    pub mark_gap : IsGap nodes (next slot ++ [] ∷ []) (Some slot)
    mark_gap = (
      gap.0,
      paths_total.trans (own slot) (next slot) (next slot ++ [] ∷ []) (own_before_next slot gap.0) (later_below (next slot) []),
      λ other j l m.
          elim (same_or_before (next slot) (own other) (next_upto slot other gap.0 j m)) [
            | inl same ↦ no_slot other j (sym same)
            | inr less ↦ before_marker (own other) (next slot) l (paths_total.antisymm (own other) (next slot) ∙ ap ordering_reverse less)
          ],
    )

  -- The mark before all slots.
  pub first_gap : IsGap nodes ([] ∷ []) None
  first_gap other j l = by (own other) l (some other j)
    where
      some : (other : SlotAt) → IsIn other (slots_of nodes) → own other ≡ [] → ⊥
      some other j e = numbers other.numbers (slots_some nodes other j) e
        where
          numbers : (numbers : List ℕ) → 0 < length numbers → field_path numbers ≡ [] → ⊥
          numbers [] l e = omega (arith, l)
          numbers (number ∷ more) l e = cc

      by : (q : Path) → path_cmp q ([] ∷ []) ≡ Less → (q ≡ [] → ⊥) → ⊥
      by [] e n = n refl
      by ([] ∷ []) e n = let clash : Equal ≡ Less = e in cc
      by ([] ∷ x ∷ q) e n = let clash : Greater ≡ Less = e in cc
      by ((b ∷ bytes) ∷ q) e n = let clash : Greater ≡ Less = e in cc

  pub first_other : IsKeptPath nodes ([] ∷ []) → ⊥
  first_other (slot, i, (rest, e)) = by slot.numbers (slots_some nodes slot i) e
    where
      by : (numbers : List ℕ) → 0 < length numbers → [] ∷ [] ≡ field_path numbers ++ rest → ⊥
      by [] l f = omega (arith, l)
      by (number ∷ numbers) l f = cc
