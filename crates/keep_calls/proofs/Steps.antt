-- Where the gap before a slot lies, and where the next one begins.
use Rattle.std.proofs.Common.{◌≡◌, ◌⊎◌, inl, inr, ◌↔◌, ℕ, zero, suc, ◌+◌, ◌-◌, ◌<◌, ◌≤◌, List, [], ◌∷◌, ◌++◌, length, take, slice_get, Option, Some, None, Ordering, Less, Equal, Greater, sym, refl, ap, ◌∙◌, subst, arith}
use Rattle.std.specs.Prelude.{◌≢◌}
use Rattle.std.specs.Ordering.{ordering_reverse}
use Rattle.std.proofs.lemmas.Bool.{cases_lt, cases_order}
use Rattle.std.proofs.lemmas.List.{length-take-le}
use Rattle.std.proofs.Common.{length-append}
use Rattle.std.proofs.lemmas.Option.{slice_get_within}
use Rattle.context_model.specs.Atoms.{Atom}
use Rattle.context_model.specs.Orders.{Path, path_cmp, IsIn}
use Rattle.context_model.specs.Paths.{depth_after, atom_at, path_before, path_at}
use Rattle.context_model.specs.WellFormed.{IsWellFormed}
use Rattle.context_model.specs.Ended.{IsBelow, IsBeyond, field_path}
use Rattle.context_model.specs.Merged.{SomeHasPath, IsMerged, last_atom}
use Rattle.context_model.proofs.OrderLaws.{paths_total, paths_anti}
use Rattle.context_model.proofs.Beyond.{IsBeyond-later, beyond_none, between_below}
use Rattle.context_model.proofs.FieldPaths.{length-field_path}
use Rattle.context_model.proofs.Following.{kinds_append, marker_kind}
use Rattle.context_model.proofs.MergedLaws.{HasPaths-alike}
use Rattle.context_model.proofs.PlacesOf.{path_at-next, paths_rise, path_there, place_of_path}
use Rattle.bag_model.specs.Shapes.{Nodes}
use Rattle.bag_model.specs.Slots.{SlotAt, slots_of}
use Rattle.bag_model.specs.Tables.{IsTable}
use Rattle.bag_model.specs.Readings.{PathsOf}
use Rattle.bag_model.proofs.SlotsBelow.{get_in}
use Rattle.bag_walks.specs.Parts.{IsBehind}
use Rattle.bag_walks.specs.Searches.{IsFirstBeyond}
use Rattle.bag_walks.specs.Slots.{IsSpanOf}
use Rattle.bag_walks.proofs.Stops.{segment_is_first}
use Rattle.keep_calls.specs.declared.others.Others.{Others}
use Rattle.keep_calls.specs.declared.others.Others.TheVariants.{Cut, Unsaid}
use Rattle.keep_calls.specs.Kept.{IsOnTheWay, gap_mark, GoesTo, IsKeptOf}
use Rattle.keep_calls.specs.Walk.{slot_before, IsGapStart, IsGapPart, IsSomeTold, HoldUpTo, AreShared, IsHeaderToSlot, LeadOn, IsLevelShared, HasMarkerAmong}
use Rattle.keep_calls.proofs.NextHeaders.{small_wide}
use Rattle.keep_calls.proofs.PathLists.{paths_some, alone_well_formed, fields_marked}
use Rattle.keep_calls.proofs.SlotGaps.{last_atom-end, own, few, next_few, next_kinds, small, slots_some, never_before, alike}
use Rattle.keep_calls.proofs.SlotOrder.{slots_rise}
use Rattle.keep_calls.proofs.GapParts.{in_place, not_before_front, beyond_earlier}
use Rattle.keep_calls.proofs.KeptLaws.{front_there}
use Rattle.keep_calls.proofs.WayTests.{Parts, parts_at, between_parts, beyond_parts, IsWay, all_lead, one_leads_off}

-- ---- spans

module _ (nodes : Nodes) (table : IsTable nodes) (list : List Atom) (w : IsWellFormed list) where
  -- What is beyond a slot is beyond each slot before.
  beyond_before : (i j : ℕ) (a b : SlotAt) (p : Path) → slice_get (slots_of nodes) i ≡ Some a → slice_get (slots_of nodes) j ≡ Some b → i < j → IsBeyond (own b) p → IsBeyond (own a) p
  beyond_before i j a b p e f less beyond =
      let rise = slots_rise nodes i j a b table.well_formed e f less in
      IsBeyond-later (own a) (own b) p
      (rise, λ under. never_before (own a) (subst (λ (s : SlotAt). path_cmp (own a) (own s) ≡ Less) (alike nodes table a b (get_in (slots_of nodes) i a e) (get_in (slots_of nodes) j b f) under) rise))
      beyond.0

  beyond_slot : (i j : ℕ) (a b : SlotAt) → slice_get (slots_of nodes) i ≡ Some a → slice_get (slots_of nodes) j ≡ Some b → i < j → IsBeyond (own a) (own b)
  beyond_slot i j a b e f less =
      let rise = slots_rise nodes i j a b table.well_formed e f less in
      (rise, λ under. never_before (own a) (subst (λ (s : SlotAt). path_cmp (own a) (own s) ≡ Less) (alike nodes table a b (get_in (slots_of nodes) i a e) (get_in (slots_of nodes) j b f) under) rise))

  start_within : (slot from : ℕ) → IsGapStart nodes list slot from → from ≤ length list
  start_within zero from start = omega (arith, start)
  start_within (suc slot) from start = start.2.within

  -- a place whose path is beyond the slot before isn't before the gap's start
  start_upto : (slot from k : ℕ) → IsGapStart nodes list slot from → k < length list → ((i : ℕ) (a : SlotAt) → slot ≡ suc i → slice_get (slots_of nodes) i ≡ Some a → IsBeyond (own a) (path_at list k)) → from ≤ k
  start_upto zero from k start l f = omega (arith, start)
  start_upto (suc slot) from k start l f = elim (cases_lt k from) [
    | inl less ↦ absurd (start.2.before k less (f slot start.0 refl start.1))
    | inr more ↦ more
  ]

  module _ (slot from : ℕ) (at : SlotAt) (there : slice_get (slots_of nodes) slot ≡ Some at) (start : IsGapStart nodes list slot from) where
    numbers_some : own at ≢ []
    numbers_some e =
        let l = length-field_path 0 at.numbers in
        let some = slots_some nodes at (get_in (slots_of nodes) slot at there) in
        omega (arith, ap length e, l, some)

    -- The slot's header is there: the place after it isn't the first.
    pub behind_some : (behind : ℕ) → IsBehind list (own at) behind → 1 ≤ behind
    behind_some zero b = absurd (numbers_some (sym b.path))
    behind_some (suc behind) b = omega arith

    header_path_at : (behind header : ℕ) → behind ≡ header + 1 → IsBehind list (own at) behind → path_at list header ≡ own at
    header_path_at behind header e b = ap (path_before list) (sym e) ∙ b.path

    -- The gap before a slot that is there,
    pub gap_present : (behind header stop : ℕ) → behind ≡ header + 1 → IsSpanOf list (own at) (Some behind) stop → IsGapPart nodes list slot from header
    gap_present behind header stop e (b, s) = record {
      table = table;
      well_formed = w;
      rises = start_upto slot from header start (omega (arith, e, b.within)) (λ i a same f.
          subst (IsBeyond (own a)) (sym (header_path_at behind header e b)) (beyond_slot i slot a at f there (omega (arith, same))));
      within = omega (arith, e, b.within);
      starts = start;
      before = λ other place f l.
          let is : Some at ≡ Some other = sym there ∙ f in
          let same : at ≡ other = cc is in
          subst (λ (s : SlotAt). path_cmp (path_at list place) (own s) ≡ Less) same
          (subst (λ v. path_cmp (path_at list place) v ≡ Less) (header_path_at behind header e b) (paths_rise list w place header l (omega (arith, e, b.within))));
    }

    -- and before one that isn't.
    pub gap_absent : (stop : ℕ) → IsSpanOf list (own at) None stop → IsGapPart nodes list slot from stop
    gap_absent stop (none, first) = record {
      table = table;
      well_formed = w;
      rises = by (cases_lt stop (length list));
      within = first.within;
      starts = start;
      before = λ other place f l.
          let is : Some at ≡ Some other = sym there ∙ f in
          let same : at ≡ other = cc is in
          subst (λ (s : SlotAt). path_cmp (path_at list place) (own s) ≡ Less) same (earlier place l (path_cmp (path_at list place) (own at)) refl);
    }
      where
        by : (stop < length list) ⊎ (length list ≤ stop) → from ≤ stop
        by (inl less) = start_upto slot from stop start less (λ i a same f. beyond_before i slot a at (path_at list stop) f there (omega (arith, same)) (first.there less))
        by (inr more) = omega (arith, more, start_within slot from start)

        here : (place : ℕ) → place < stop → PathsOf list (path_at list place)
        here place l = path_there list place (omega (arith, l, first.within))

        earlier : (place : ℕ) → place < stop → (o : Ordering) → path_cmp (path_at list place) (own at) ≡ o → path_cmp (path_at list place) (own at) ≡ Less
        earlier place l Less e = e
        earlier place l Equal e = absurd (none (subst (PathsOf list) (paths_anti (path_at list place) (own at) e) (here place l)))
        earlier place l Greater e =
            absurd (first.before place l (paths_total.antisymm (own at) (path_at list place) ∙ ap ordering_reverse e, λ under. none (front_there list (path_at list place) (own at) (here place l) numbers_some under)))

  -- Where the part of a slot ends, the next gap begins.
  pub next_start : (slot : ℕ) (at : SlotAt) (from : Option ℕ) (stop : ℕ) → slice_get (slots_of nodes) slot ≡ Some at → IsSpanOf list (own at) from stop → IsGapStart nodes list (suc slot) stop
  next_start slot at None stop there span = (at, there, span.1)
  next_start slot at (Some behind) stop there span = (at, there, segment_is_first list (own at) behind stop span.0 span.1)

  -- After the last slot the gap goes on up to the end.
  pub gap_last : (slot from : ℕ) → length (slots_of nodes) ≤ slot → IsGapStart nodes list slot from → IsGapPart nodes list slot from (length list)
  gap_last slot from all start = record {
    table = table;
    well_formed = w;
    rises = start_within slot from start;
    within = omega arith;
    starts = start;
    before = λ at place e l. absurd (let less = slice_get_within (slots_of nodes) slot at e in omega (arith, less, all));
  }

-- ---- all of the list

hold_all : (nodes : Nodes) (others : Others) (list : List Atom) (pieces : List (List Atom)) → HoldUpTo nodes others list (length list) pieces
    → (q : Path) → SomeHasPath pieces q ↔ ((p : Path) × PathsOf list p × GoesTo nodes others p q)
hold_all nodes others list pieces h q = (
  λ s. let t = (h q).0 s in (path_at list t.0, path_there list t.0 t.1, t.2),
  λ (p, i, goes). let at = place_of_path list p i in (h q).1 (at.place, at.within, subst (λ v. GoesTo nodes others v q) (sym at.path) goes),
)

-- The merge of pieces that hold all is what is kept.
pub merged_kept : (nodes : Nodes) (others : Others) (list kept : List Atom) (pieces : List (List Atom)) → HoldUpTo nodes others list (length list) pieces → IsMerged pieces kept → IsKeptOf nodes others list kept
merged_kept nodes others list kept pieces h m =
    HasPaths-alike (SomeHasPath pieces) (λ q. (p : Path) × PathsOf list p × GoesTo nodes others p q) kept (hold_all nodes others list pieces h) m

-- Before the first place there is no path.
pub hold_none : (nodes : Nodes) (others : Others) (list : List Atom) → HoldUpTo nodes others list 0 []
hold_none nodes others list q = ((λ none. absurd none), λ s. absurd (omega (arith, s.1)))

-- ---- which atoms are told of

marker_last : (list : List Atom) (k : ℕ) → k < length list → last_atom (path_at list k) ≡ atom_at list k
marker_last list k l = ap last_atom (path_at-next list k l) ∙ last_atom-end (take (depth_after (path_before list k) (atom_at list k)) (path_before list k)) (atom_at list k)

pub told_unsaid : (nodes : Nodes) (list : List Atom) (from to : ℕ) → to ≤ length list → HasMarkerAmong list from to ↔ IsSomeTold Unsaid nodes list from to
told_unsaid nodes list from to within = (
  λ s. record { place = s.0; from_on = s.1; up_to = s.2; told = marker_last list s.0 (omega (arith, s.2, within)) ∙ s.3 },
  λ t. (t.place, t.from_on, t.up_to, sym (marker_last list t.place (omega (arith, t.up_to, within))) ∙ t.told),
)

-- a prefix of one atom more than a list
take_one_more : (u : Path) (y : Atom) (s : Path) → take (suc (length u)) (u ++ y ∷ s) ≡ u ++ y ∷ []
take_one_more [] y s = refl
take_one_more (x ∷ u) y s = ap (λ v. x ∷ v) (take_one_more u y s)

some_path : (p : Path) → p ≢ [] → (z : Atom) × (t : Path) × (p ≡ z ∷ t)
some_path [] n = absurd (n refl)
some_path (z ∷ t) n = (z, t, refl)

module _ (nodes : Nodes) (list : List Atom) (slot from to : ℕ) (g : IsGapPart nodes list slot from to) where
  -- A header in the gap that leads to a slot leads to the next one.
  way_next : (k : ℕ) (b : SlotAt) → from ≤ k → k < to → slice_get (slots_of nodes) slot ≡ Some b → IsOnTheWay nodes (path_at list k) → IsBelow (path_at list k) (own b)
  way_next k b l m e (other, j, (rest, f)) = by (in_place (slots_of nodes) other j)
    where
      up : (i : ℕ) → slice_get (slots_of nodes) i ≡ Some other → slot < i → path_cmp (own b) (path_at list k ++ rest) ≡ Greater → ⊥
      up i h less greater =
          let rise : path_cmp (own b) (own other) ≡ Less = slots_rise nodes slot i b other g.table.well_formed e h less in
          let clash : Less ≡ Greater = sym (subst (λ v. path_cmp (own b) v ≡ Less) f rise) ∙ greater in
          cc

      down : path_cmp (path_at list k) (own b) ≡ Greater → ⊥
      down greater = let clash : Less ≡ Greater = sym (g.before b k e m) ∙ greater in cc

      by : (i : ℕ) × (slice_get (slots_of nodes) i ≡ Some other) → IsBelow (path_at list k) (own b)
      by (i, h) = elim (cases_order i slot) [
        | inl same ↦ (let is : Some b ≡ Some other = sym e ∙ ap (slice_get (slots_of nodes)) (sym same) ∙ h in
            let one : b ≡ other = cc is in
            (rest, ap own one ∙ f))
        | inr (inl less) ↦ absurd (not_before_front (path_at list k) rest (subst (λ v. path_cmp v (path_at list k) ≡ Less) f (beyond_earlier nodes list slot from to g k l m i other h less).0))
        | inr (inr more) ↦ between_below (path_at list k) (own b) rest down (up i h more)
      ]

  -- After the last slot nothing leads to one.
  pub told_last : length (slots_of nodes) ≤ slot → (from < to) ↔ IsSomeTold Cut nodes list from to
  told_last all = (
    λ l. record {
      place = from;
      from_on = omega arith;
      up_to = l;
      told = λ (other, j, (rest, f)).
          let at = in_place (slots_of nodes) other j in
          let less = slice_get_within (slots_of nodes) at.0 other at.1 in
          not_before_front (path_at list from) rest (subst (λ v. path_cmp v (path_at list from) ≡ Less) f (beyond_earlier nodes list slot from to g from (omega arith) l at.0 other at.1 (omega (arith, less, all))).0);
    },
    λ t. omega (arith, t.from_on, t.up_to),
  )

  module _ (b : SlotAt) (there : slice_get (slots_of nodes) slot ≡ Some b) where
    among : IsIn b (slots_of nodes)
    among = get_in (slots_of nodes) slot b there

    way_from : (n count : ℕ) → slot ≡ n → IsGapStart nodes list n from → IsLevelShared (slots_of nodes) n count → IsWay list b.numbers count from to
    way_from zero count same start shared = record {
      well_formed = g.well_formed;
      within = g.within;
      few = few nodes g.table b among;
      some = omega (arith, shared, slots_some nodes b among);
      inside = λ k l m.
          let s = some_path (path_at list k) (paths_some [] list (path_at list k) (path_there list k (omega (arith, m, g.within)))) in
          (s.0, s.1, subst (λ c. path_at list k ≡ take c (own b) ++ s.0 ∷ s.1) (sym shared) s.2);
      outside = λ under. none b.numbers (slots_some nodes b among)
          (subst (λ n. IsBelow (take (suc n) (own b)) (path_before list 0)) shared (subst (λ n. IsBelow (take (suc count) (own b)) (path_before list n)) start under));
    }
      where
        none : (numbers : List ℕ) → 0 < length numbers → IsBelow (take 1 (field_path numbers)) [] → ⊥
        none [] l s = omega (arith, l)
        none (number ∷ numbers) l (r, e) = cc
    way_from (suc n) count same start shared = record {
      well_formed = g.well_formed;
      within = g.within;
      few = few nodes g.table b among;
      some = room;
      inside = λ k l m. between_parts front parts.x parts.y parts.r parts.s (path_at list k)
          (subst (λ v. IsBeyond v (path_at list k)) parts.first (beyond_earlier nodes list slot from to g k l m n start.0 start.1 (omega (arith, same))))
          (subst (λ v. path_cmp (path_at list k) v ≡ Less) parts.second (g.before b k there m));
      outside = λ under. last from start.2 (subst (λ v. IsBeyond v (path_before list from)) (sym parts.first)
          (beyond_parts front parts.x parts.y parts.r (path_before list from) parts.less (subst (λ v. IsBelow v (path_before list from)) one_more under)));
    }
      where
        a : SlotAt
        a = start.0

        b_there : slice_get (slots_of nodes) (suc n) ≡ Some b
        b_there = subst (λ m. slice_get (slots_of nodes) m ≡ Some b) same there

        rise : path_cmp (own start.0) (own b) ≡ Less
        rise = slots_rise nodes n (suc n) start.0 b g.table.well_formed start.1 b_there (omega arith)

        front : Path
        front = take count (own b)

        are : AreShared start.0.numbers b.numbers count
        are = shared start.0 b start.1 b_there

        parts : Parts (own start.0) (own b) (take count (own b))
        parts =
            parts_at 0 start.0.numbers b.numbers count are
            (small_wide start.0.numbers (small nodes g.table start.0 (get_in (slots_of nodes) n start.0 start.1))) (small_wide b.numbers (small nodes g.table b among)) rise
            (λ under. never_before (own start.0) (subst (λ (s : SlotAt). path_cmp (own start.0) (own s) ≡ Less) (alike nodes g.table start.0 b (get_in (slots_of nodes) n start.0 start.1) among under) rise))

        front_long : length (take count (own b)) ≡ count
        front_long = length-take-le count (own b) (omega (arith, are.second, length-field_path 0 b.numbers))

        room : count < length b.numbers
        room = omega (arith, front_long, length-field_path 0 b.numbers, ap length parts.second, length-append (take count (own b)) (parts.y ∷ parts.s))

        one_more : take (suc count) (own b) ≡ take count (own b) ++ parts.y ∷ []
        one_more = ap (take (suc count)) parts.second ∙ subst (λ m. take (suc m) (take count (own b) ++ parts.y ∷ parts.s) ≡ take count (own b) ++ parts.y ∷ []) front_long (take_one_more (take count (own b)) parts.y parts.s)

        last : (f : ℕ) → IsFirstBeyond list (own start.0) f → IsBeyond (own start.0) (path_before list f) → ⊥
        last zero first beyond = beyond_none (own start.0) beyond
        last (suc f) first beyond = first.before f (omega arith) (subst (λ m. IsBeyond (own start.0) (path_before list m)) (let e : suc f ≡ f + 1 = omega arith in e) beyond)

    -- Some atom before the slot doesn't lead to it exactly where they cease to be its headers.
    pub told_cut : (count end : ℕ) → IsLevelShared (slots_of nodes) slot count → from ≤ end → end ≤ to → LeadOn list b.numbers count from end
        → (end < to → IsHeaderToSlot list b.numbers (count + (end - from)) end → ⊥) → (end < to) ↔ IsSomeTold Cut nodes list from to
    told_cut count end shared low high lead stops = (there_told, back)
      where
        way : IsWay list b.numbers count from to
        way = way_from slot count refl g.starts shared

        place : from + (end - from) ≡ end
        place = omega (arith, low)

        there_told : end < to → IsSomeTold Cut nodes list from to
        there_told less = record {
          place = end;
          from_on = low;
          up_to = less;
          told = λ leads. one_leads_off list b.numbers count from to way (end - from) (omega (arith, place, less))
              (subst (LeadOn list b.numbers count from) (sym place) lead)
              (λ h. stops less (subst (IsHeaderToSlot list b.numbers (count + (end - from))) place h))
              (subst (λ n. IsBelow (path_at list n) (own b)) (sym place) (way_next end b low less there leads));
        }

        back : IsSomeTold Cut nodes list from to → end < to
        back t = elim (cases_lt end to) [
          | inl less ↦ less
          | inr more ↦ absurd (t.told (b, among, all_lead list b.numbers count from to way (subst (LeadOn list b.numbers count from) (let e : end ≡ to = omega (arith, high, more) in e) lead) t.place t.from_on t.up_to))
        ]

-- ---- marks

-- The mark of a gap is a well-formed list.
pub mark_well_formed : (nodes : Nodes) (slot : ℕ) → IsTable nodes → slot ≤ length (slots_of nodes) → IsWellFormed (gap_mark (slot_before (slots_of nodes) slot))
mark_well_formed nodes slot table within = by slot within
  where
    known : (gap : Option SlotAt) → ((at : SlotAt) → gap ≡ Some at → IsIn at (slots_of nodes)) → IsWellFormed (gap_mark gap)
    known None f = alone_well_formed ([] ∷ []) (refl, (λ e. cc), tt) (marker_kind, tt)
    known (Some at) f =
        let i = f at refl in
        alone_well_formed (gap_mark (Some at)) (fields_marked _ (next_few nodes table at i)) (kinds_append _ ([] ∷ []) (next_kinds nodes table at i) (marker_kind, tt))

    by : (n : ℕ) → n ≤ length (slots_of nodes) → IsWellFormed (gap_mark (slot_before (slots_of nodes) n))
    by zero l = known None (λ at e. absurd (cc e))
    by (suc n) l = known (slice_get (slots_of nodes) n) (λ at e. get_in (slots_of nodes) n at e)
