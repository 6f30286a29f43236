-- Fields of a bag, as the list has them: what is below each, one after the other.
use Rattle.std.proofs.Common.{◌≡◌, ℕ, zero, suc, ◌+◌, ◌<◌, ◌≤◌, ◌⊎◌, inl, inr, true, List, [], ◌∷◌, ◌++◌, length, Some, Less, refl, sym, ap, ◌∙◌, subst, arith, append_assoc}
use Rattle.std.specs.List.{slice_get}
use Rattle.std.proofs.lemmas.Bool.{cases_order}
use Rattle.context_model.specs.Atoms.{Atom}
use Rattle.context_model.specs.Kinds.{atom_of}
use Rattle.context_model.specs.Kinds.Kind.{Indexed}
use Rattle.context_model.specs.Orders.{Path, atom_cmp}
use Rattle.context_model.specs.Paths.{is_header, level, atom_at, path_before, path_at}
use Rattle.context_model.proofs.PlacesOf.{place_of_path}
use Rattle.bag_model.specs.Readings.{node_path, PathsOf}
use Rattle.bag_model.specs.Shapes.{Nodes, Field, fields, no_node, node}
use Rattle.bag_model.specs.Tables.{IsShape, AreFields, levels, levels_under}
use Rattle.bag_model.specs.Typed.{AreTyped, Misspells, SomeMisspells}
use Rattle.bag_model.proofs.IllTyped.{Misspells-below, typed_where_none_misspells}
use Rattle.bag_model.proofs.LayoutLaws.{field_wide}
use Rattle.bag_model.proofs.PathLaws.{is_field}
use Rattle.bag_model.proofs.SlotsBelow.{get_in}
use Rattle.bag_walks.specs.Parts.{IsBehind, StaysBelow, IsSegment, Stands}
use Rattle.bag_walks.proofs.Bridge.{headers_are, earlier_stands}
use Rattle.bag_walks.proofs.Sets.{index_header}
use Rattle.bag_walks.proofs.Turns.{index_order, stays_whole, stays_higher, stays_over, segment_whole, header_below, level_below}
use Rattle.bag_scan.specs.Headers.{PassesNoField, IsFieldFound, HasNoField}
use Rattle.bag_scan.proofs.FieldHeaders.{one_field}
use Rattle.field_table.proofs.Held.{levels_there}
use Rattle.field_table.proofs.Numbers.{numbers_rise}
use Rattle.bag_typed.specs.Walk.{HasNone, IsFirstOfPaths}
use Rattle.bag_typed.proofs.Orders.{StandsUnder, no_greater_before, header_of_under}

-- ---- fields by their places

-- What misspells in some field misspells in the one at a place.
pub misspells_at : (nodes : Nodes) (q p : Path) → SomeMisspells nodes q p → (i : ℕ) × (f : Field) × (slice_get (fields nodes) i ≡ Some f) × Misspells f.shape (node_path q f.number) p
misspells_at no_node q p m = absurd m
misspells_at (node name number shape nodes) q p (inl m) = (0, record { name = name; number = number; shape = shape }, refl, m)
misspells_at (node name number shape nodes) q p (inr m) = let (i, f, at, n) = misspells_at nodes q p m in (suc i, f, at, n)

pub misspells_some : (nodes : Nodes) (q p : Path) (i : ℕ) (f : Field) → slice_get (fields nodes) i ≡ Some f → Misspells f.shape (node_path q f.number) p → SomeMisspells nodes q p
misspells_some no_node q p i f at m = absurd (cc at)
misspells_some (node name number shape nodes) q p zero f at m =
    let same : f ≡ record { name = name; number = number; shape = shape } = cc at in
    inl (subst (λ (g : Field). Misspells g.shape (node_path q g.number) p) same m)
misspells_some (node name number shape nodes) q p (suc i) f at m = inr (misspells_some nodes q p i f at m)

-- The header of a field after q.
abbrev pub field_header : Path → Field → Atom
field_header q f = atom_of (Indexed (length q) f.number)

-- and its greater one
header_order : (nodes : Nodes) (q : Path) (i j : ℕ) (f g : Field) → AreFields nodes → i < j → slice_get (fields nodes) i ≡ Some f → slice_get (fields nodes) j ≡ Some g
    → atom_cmp (field_header q f) (field_header q g) ≡ Less
header_order nodes q i j f g h l at also =
    index_order (length q) f.number g.number (numbers_rise nodes i j f g h l at also) (field_wide nodes g h (get_in (fields nodes) j g also))

-- What misspells in a field is under its header.
under_header : (q p : Path) (f : Field) → Misspells f.shape (node_path q f.number) p → StandsUnder q (field_header q f) p
under_header q p f m =
    let s = Misspells-below f.shape (node_path q f.number) p m in
    (s.0 ∷ s.1, s.2 ∙ append_under s.0 s.1)
  where
    append_under : (a : Atom) (r : Path) → node_path q f.number ++ a ∷ r ≡ q ++ field_header q f ∷ a ∷ r
    append_under a r = append_assoc q (field_header q f ∷ []) (a ∷ r)

-- ---- a walk over the fields

-- A walk below q has come from the first place to the second, and nothing misspells in the fields
-- whose headers are there.
pub record ClearsFields (nodes : Nodes) (list : List Atom) (q : Path) (from to : ℕ) : Type 0 where
  pub stays : StaysBelow list (length q) from to
  pub clear : (i : ℕ) (f : Field) → slice_get (fields nodes) i ≡ Some f → Stands list (field_header q f) from to → HasNone list (Misspells f.shape (node_path q f.number))

-- The header of the next field is right before a place: what a call on the field asks for, where
-- the walk comes where nothing misspells in it, and that the first that does is the first in any.
pub record FieldTurn (nodes : Nodes) (list : List Atom) (q : Path) (from depth : ℕ) (f : Field) (start : ℕ) : Type 0 where
  pub starts : IsBehind list (path_before list start) start
  pub deeper : length (path_before list start) ≡ depth + 1
  pub shape : IsShape f.shape
  pub room : depth + 1 + levels_under f.shape ≤ 16
  pub more : (next : ℕ) → HasNone list (Misspells f.shape (path_before list start)) → IsSegment list (depth + 1) start next → ClearsFields nodes list q from next
  pub fault : (first : ℕ) → IsFirstOfPaths list (Misspells f.shape (path_before list start)) first → IsFirstOfPaths list (SomeMisspells nodes q) first

module _ (nodes : Nodes) (list : List Atom) (q : Path) (from : ℕ) (behind : IsBehind list q from) (are : AreFields nodes) (few : length q + levels nodes ≤ 16) where
  header_is : (i : ℕ) (f : Field) → slice_get (fields nodes) i ≡ Some f → (is_header (field_header q f) ≡ true) × (level (field_header q f) ≡ length q)
  header_is i f there = index_header (length q) f.number (omega (arith, few, levels_there nodes i f there))

  -- There is no other field on the way to the next one.
  fields_passed : (at to : ℕ) → ClearsFields nodes list q from at → PassesNoField nodes list (length q) at to → ClearsFields nodes list q from to
  fields_passed at to clears passes = record {
    stays = stays_whole list (length q) from at to clears.stays passes.stays;
    clear = λ i f there s. elim (cases_order s.place at) [
      | inl same ↦ absurd (passes.none s.place i f (omega arith) s.up_to (record { there = there; is = s.atom }))
      | inr (inl before) ↦ clears.clear i f there (record { place = s.place; from_on = s.from_on; up_to = before; atom = s.atom })
      | inr (inr after) ↦ absurd (passes.none s.place i f (omega arith) s.up_to (record { there = there; is = s.atom }))
    ];
  }

  -- Where the walk has come to the end of what is below q, nothing misspells in any field.
  fields_end : (stop : ℕ) → ClearsFields nodes list q from stop → IsSegment list (length q) from stop → HasNone list (SomeMisspells nodes q)
  fields_end stop clears segment = record {
    none = λ k within m.
        let (i, f, there, here) = misspells_at nodes q (path_at list k) m in
        let header = header_is i f there in
        let s : Stands list (field_header q f) from stop = (headers_are list q from stop (field_header q f) behind segment header.0 header.1).0
        (header_of_under list q (field_header q f) k within (under_header q (path_at list k) f here)) in
        (clears.clear i f there s).none k within here;
  }

  module _ (place i : ℕ) (f : Field) (start : ℕ) (clears : ClearsFields nodes list q from place) (found : IsFieldFound nodes list (length q) place i f start) where
    abbrev at : ℕ
    at = found.place

    come : ClearsFields nodes list q from at
    come = fields_passed place at clears found.before

    head : (is_header (field_header q f) ≡ true) × (level (field_header q f) ≡ length q)
    head = header_is i f found.header.there

    own : level (atom_at list at) ≡ length q
    own = ap level found.header.is ∙ head.1

    over : StaysBelow list (length q) from start
    over = subst (StaysBelow list (length q) from) (sym found.next) (stays_over list (length q) from at come.stays found.within own)

    below : IsBehind list (node_path q f.number) start
    below =
        subst (IsBehind list (node_path q f.number)) (sym found.next)
        (header_below list q from at (field_header q f) behind come.stays found.within found.header.is head.0 head.1)

    one : (j : ℕ) (g : Field) → slice_get (fields nodes) j ≡ Some g → atom_at list at ≡ field_header q g → f ≡ g
    one j g also is =
        let same : i ≡ j = one_field nodes (length q) (atom_at list at) i j f g are found.header (record { there = also; is = is }) in
        cc (found.header.there, also, same)

    -- Where nothing misspells in this field either, the walk goes on after it.
    fields_more : (next : ℕ) → HasNone list (Misspells f.shape (node_path q f.number)) → IsSegment list (length q + 1) start next → ClearsFields nodes list q from next
    fields_more next none segment = record {
      stays = stays_whole list (length q) from start next over (stays_higher list (length q + 1) (length q) start next (omega arith) segment.part);
      clear = λ j g also s. elim (cases_order s.place at) [
        | inl same ↦ subst (λ (x : Field). HasNone list (Misspells x.shape (node_path q x.number))) (one j g also (ap (atom_at list) (sym same) ∙ s.atom)) none
        | inr (inl before) ↦ come.clear j g also (record { place = s.place; from_on = s.from_on; up_to = before; atom = s.atom })
        | inr (inr after) ↦ absurd (deeper j g also s after)
      ];
    }
      where
        deeper : (j : ℕ) (g : Field) → slice_get (fields nodes) j ≡ Some g → (s : Stands list (field_header q g) from next) → at < s.place → ⊥
        deeper j g also s after =
            let header = header_is j g also in
            let deep = segment.part.deep s.place (omega (arith, after, found.next)) s.up_to (ap is_header s.atom ∙ header.0) in
            let same : level (atom_at list s.place) ≡ length q = ap level s.atom ∙ header.1 in
            absurd (omega (arith, deep, same))

    -- The first that misspells in this field is the first that does in any.
    fields_fault : (first : ℕ) → IsFirstOfPaths list (Misspells f.shape (node_path q f.number)) first → IsFirstOfPaths list (SomeMisspells nodes q) first
    fields_fault first fault = record {
      within = fault.within;
      is = misspells_some nodes q (path_at list first) i f found.header.there fault.is;
      first = λ k less m. let (j, g, also, here) = misspells_at nodes q (path_at list k) m in by k less j g also here (cases_order j i);
    }
      where
        by : (k : ℕ) → k < first → (j : ℕ) (g : Field) → slice_get (fields nodes) j ≡ Some g → Misspells g.shape (node_path q g.number) (path_at list k) → (j ≡ i) ⊎ ((j < i) ⊎ (i < j)) → ⊥
        by k less j g also here (inl same) =
            let alike : g ≡ f = cc (found.header.there, also, same) in
            fault.first k less (subst (λ (x : Field). Misspells x.shape (node_path q x.number) (path_at list k)) alike here)
        by k less j g also here (inr (inl before)) =
            let inner : k < length list = omega (arith, less, fault.within) in
            let order = header_order nodes q j i g f are before also found.header.there in
            let s : Stands list (field_header q g) from at = earlier_stands list q from at (field_header q g) behind come.stays
            (λ here. (ap is_header found.header.is ∙ head.0, omega (arith, own), λ same. subst (λ a. atom_cmp (field_header q g) a ≡ Less) (sym found.header.is) order))
            (header_of_under list q (field_header q g) k inner (under_header q (path_at list k) g here)) in
            (come.clear j g also s).none k inner here
        by k less j g also here (inr (inr after)) =
            no_greater_before list q (field_header q f) (field_header q g) k first behind.well_formed fault.within (under_header q (path_at list first) f fault.is)
            (under_header q (path_at list k) g here) (header_order nodes q i j f g are after found.header.there also) less

    own_turn : FieldTurn nodes list q from (length q) f start
    own_turn = record {
      starts = subst (λ p. IsBehind list p start) (sym below.path) below;
      deeper = level_below list q (length q) start (field_header q f) refl below;
      shape = (is_field nodes i f are found.header.there).1;
      room = omega (arith, few, levels_there nodes i f found.header.there);
      more = λ next none. fields_more next (subst (λ p. HasNone list (Misspells f.shape p)) below.path none);
      fault = λ first fault. fields_fault first (subst (λ p. IsFirstOfPaths list (Misspells f.shape p) first) below.path fault);
    }

-- ---- one turn of a walk over the fields

module _ (nodes : Nodes) (list : List Atom) (q : Path) (from depth : ℕ) (same : length q ≡ depth) (behind : IsBehind list q from) (are : AreFields nodes) (few : depth + levels nodes ≤ 16)
    (place : ℕ) (clears : ClearsFields nodes list q from place) where
  -- There is no further field.
  pub field_end : (stop : ℕ) → HasNoField nodes list depth place stop → HasNone list (SomeMisspells nodes q)
  field_end stop none =
      let own : HasNoField nodes list (length q) place stop = subst (λ d. HasNoField nodes list d place stop) (sym same) none in
      let room : length q + levels nodes ≤ 16 = subst (λ d. d + levels nodes ≤ 16) (sym same) few in
      fields_end nodes list q from behind are room stop (fields_passed nodes list q from behind are room place stop clears own.before) (segment_whole list (length q) from place stop clears.stays own.segment)

  pub field_turn : (i : ℕ) (f : Field) (start : ℕ) → IsFieldFound nodes list depth place i f start → FieldTurn nodes list q from depth f start
  field_turn i f start =
      subst (λ d. d + levels nodes ≤ 16 → IsFieldFound nodes list d place i f start → FieldTurn nodes list q from d f start) same
      (λ room found. own_turn nodes list q from behind are room place i f start clears found) few

-- ---- whole tables

-- Where nothing misspells the list is typed.
pub typed_from : (nodes : Nodes) (list : List Atom) → HasNone list (SomeMisspells nodes []) → AreTyped nodes (PathsOf list) []
typed_from nodes list has = (typed_where_none_misspells nodes list).1 (λ p i m.
    let at = place_of_path list p i in
    has.none at.place at.within (subst (SomeMisspells nodes []) (sym at.path) m))
