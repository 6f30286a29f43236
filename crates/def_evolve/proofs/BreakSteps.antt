-- All breaks step by step: at a field itself, inside a map, and field by field.
use Rattle.std.proofs.Common.{◌≡◌, ◌≢◌, ◌⊎◌, inl, inr, ◌↔◌, IsTrue, ℕ, ◌+◌, ◌≤◌, Bool, true, false, if◌then◌else◌, List, [], ◌∷◌, ◌++◌, append-nil, length, map, Some, None, Less, Equal, Greater, nat_cmp, refl, sym, ap, ◌∙◌, subst, subst₂, arith}
use Rattle.std.specs.List.{slice_get}
use Rattle.std.specs.Result.{IfOk}
use Rattle.std.specs.declared.result.Result.{Result}
use Rattle.std.proofs.lemmas.Result.{IfOk-weaker}
use Rattle.std.specs.Ordering.{ordering_then, on}
use Rattle.std.specs.Cmp.{IsTotalOrder, nat_cmp_is, tied_itself}
use Rattle.std.proofs.lemmas.Cmp.{nat_cmp_total, on_total}
use Rattle.context_model.specs.Orders.{IsIn, Rises}
use Rattle.context_model.proofs.Rising.{Rises-before}
use Rattle.bag_model.specs.declared.Pick.{Pick}
use Rattle.bag_model.specs.declared.Pick.TheVariants.{Least, Greatest}
use Rattle.bag_model.specs.Scalars.{ScalarKind}
use Rattle.bag_model.specs.Shapes.{Shape, Nodes, Field, Taint, Scalar, Set, Counter, Map, Bag, fields}
use Rattle.bag_model.specs.Tables.{AreFields}
use Rattle.bag_model.proofs.Finite.{in_append, in_append_first, in_append_second}
use Rattle.bag_model.proofs.SlotsBelow.{in_map}
use Rattle.trace_model.proofs.SlotParts.{map_in}
use Rattle.field_table.specs.Tables.{FindsNumber}
use Rattle.def_evolve.specs.declared.verdicts.Change.{Change}
use Rattle.def_evolve.specs.declared.verdicts.Change.TheVariants as changes
use Rattle.def_evolve.specs.declared.verdicts.Part.{Part}
use Rattle.def_evolve.specs.declared.verdicts.Part.TheVariants.{Number, MapValue}
use Rattle.def_evolve.specs.Widening.{Widens}
use Rattle.def_evolve.specs.Breaks.{part_rank, way_cmp, variant_of, StepsTo, LeadsAlong, Differs, IsBreak, IsFirstBreak, Fits}
use Rattle.def_evolve.specs.BreakLists.{BreakAt, own_break, break_behind, values_name, StepsBy, IsToldBreak, IsTold, break_cmp, AreBreaks}
use Rattle.def_evolve.proofs.Fitting.{FitsInside}
use Rattle.def_evolve.proofs.FieldPlaces.{nodes_from_place, node_there, nodes_end, get_in, later_number, none_numbered, one_numbered}
use Rattle.def_evolve.proofs.OneVerdict.{ways_total, one_change}
use Rattle.def_evolve.proofs.RisingLists.{rises_append}

-- ---- what doesn't break

-- Shapes that fit don't differ.
not_differ : (old new : Shape) (change : Change) → FitsInside old new → Differs change old new → ⊥
not_differ Taint Taint changes.Shape f d = d refl
not_differ Counter Counter changes.Shape f d = d refl
not_differ (Set kind) (Set other) changes.Shape f d = d refl
not_differ (Map key shape) (Map other more) changes.Shape f d = d refl
not_differ (Bag nodes) (Bag others) changes.Shape f d = d refl
not_differ (Scalar pick kind) (Scalar own other) changes.Shape f d = d (one pick own f.0)
  where
    one : (pick own : Pick) → own ≡ pick → variant_of (Scalar pick kind) ≡ variant_of (Scalar own other)
    one Least Least e = refl
    one Greatest Greatest e = refl
    one Least Greatest e = absurd (cc e)
    one Greatest Least e = absurd (cc e)
not_differ (Map key shape) (Map other more) changes.Key f d = d f.0
not_differ (Scalar pick kind) (Scalar own other) changes.Kind f d = d.1 f.1
not_differ (Set kind) (Set other) changes.Kind f d = d f
not_differ old new changes.Shape f d = f
not_differ old new changes.Key f d = search (f, d)
not_differ old new changes.Kind f d = search (f, d)

-- What fits inside fits.
pub fits_from : (old new : Shape) → FitsInside old new → Fits old new
fits_from old new f [] change x = not_differ old new change f (subst (λ (b : Shape). Differs change old b) (sym x.3) (subst (λ (a : Shape). Differs change a x.1) (sym x.2) x.4))
fits_from (Map key shape) (Map other more) f (MapValue ∷ way) change x =
    f.1 way change (x.0, x.1, subst (λ (s : Shape). LeadsAlong s way x.0) (sym x.2.1) x.2.2, subst (λ (s : Shape). LeadsAlong s way x.1) (sym x.3.1) x.3.2, x.4)
fits_from (Bag nodes) (Bag others) f (Number number ∷ way) change x =
    let a = x.2.1 in
    let b = x.3.1 in
    f a.0 b.0 a.1 b.1 (b.2 ∙ sym a.2) way change
    (x.0, x.1, subst (λ (s : Shape). LeadsAlong s way x.0) (sym a.3) x.2.2, subst (λ (s : Shape). LeadsAlong s way x.1) (sym b.3) x.3.2, x.4)
fits_from old new f (part ∷ way) change x = search (f, x.2.1, x.3.1)

-- ---- the field itself

-- No way leads on from both.
abbrev pub EndHere : Shape → Shape → Type 0
EndHere old new = (part : Part) (a b : Shape) → StepsTo old part a → StepsTo new part b → ⊥

-- So it is with shapes of two variants.
pub apart_end : (old new : Shape) → variant_of old ≢ variant_of new → EndHere old new
apart_end (Bag nodes) (Bag others) d part a b s t = d refl
apart_end (Map key shape) (Map other more) d part a b s t = d refl
apart_end old new d (Number number) a b s t = search (s, t)
apart_end old new d MapValue a b s t = search (s, t)

-- What is neither a map nor a bag.
abbrev pub IsLeaf : Shape → Type 0
IsLeaf (Map key shape) = ⊥
IsLeaf (Bag nodes) = ⊥
IsLeaf other = Unit {0}

-- No way leads on from it.
pub leaf_end : (old new : Shape) → IsLeaf old → EndHere old new
leaf_end (Map key shape) new leaf part a b s t = leaf
leaf_end (Bag nodes) new leaf part a b s t = leaf
leaf_end old new leaf (Number number) a b s t = s
leaf_end old new leaf MapValue a b s t = s

-- A break where no way leads on is at the field itself.
at_end : (old new : Shape) (way : List Part) (change : Change) → EndHere old new → IsBreak old new way change → (way ≡ []) × Differs change old new
at_end old new [] change end x = (refl, subst (λ (b : Shape). Differs change old b) (sym x.3) (subst (λ (a : Shape). Differs change a x.1) (sym x.2) x.4))
at_end old new (part ∷ way) change end x = absurd (end part x.2.0 x.3.0 x.2.1 x.3.1)

own_told : (old new : Shape) (change : Change) → Differs change old new → IsToldBreak old new (own_break change old new)
own_told old new change d = record { breaks = (old, new, refl, refl, d); before = refl; behind = refl }

-- Where they fit, there is none.
pub no_breaks : (old new : Shape) → Fits old new → AreBreaks old new []
no_breaks old new fits = record { rises = tt; each = λ told i. elim i [ ]; all = λ way change x. absurd (fits way change x) }

-- Where a field fits, and no way leads on, there is no break; where it differs, it is the only one.
pub own_breaks : (old new : Shape) (change : Change) (fits : Bool) → EndHere old new → (fits ≡ true → FitsInside old new) → (fits ≡ false → Differs change old new)
    → AreBreaks old new (if fits then [] else own_break change old new ∷ [])
own_breaks old new change true end f d = no_breaks old new (fits_from old new (f refl))
own_breaks old new change false end f d = record {
  rises = tt;
  each = λ told i. elim i [ inl e ↦ subst (IsToldBreak old new) (sym e) (own_told old new change (d refl)) | inr none ↦ elim none [ ] ];
  all = λ way its x. let own = at_end old new way its end x in (own_break change old new, inl refl, sym own.0, one_change old new change its (d refl) own.1);
}

-- The same of what a call answers.
pub own_told_at : {V E : Type 0} (view : V → List BreakAt) (x y old new : Shape) (change : Change) (fits : Bool) (r : Result V E) → x ≡ old → y ≡ new → EndHere old new
    → (fits ≡ true → FitsInside old new) → (fits ≡ false → Differs change old new)
    → IfOk r (λ found. view found ≡ (if fits then [] else own_break change x y ∷ [])) → IfOk r (λ found. AreBreaks x y (view found))
own_told_at view x y old new change fits r e g end f d answer =
    IfOk-weaker r (λ found. view found ≡ (if fits then [] else own_break change x y ∷ [])) (λ found. AreBreaks x y (view found)) (λ found is. subst (AreBreaks x y) (sym is) all) answer
  where
    all : AreBreaks x y (if fits then [] else own_break change x y ∷ [])
    all = subst₂ (λ a b. AreBreaks a b (if fits then [] else own_break change a b ∷ [])) (sym e) (sym g) (own_breaks old new change fits end f d)

-- ---- inside others

parts_total : IsTotalOrder (on part_rank nat_cmp)
parts_total = on_total part_rank nat_cmp_total

-- After one part ways are in the same order.
behind_order : (part : Part) (a b : List Part) → way_cmp (part ∷ a) (part ∷ b) ≡ way_cmp a b
behind_order part a b = ap (λ r. ordering_then r (way_cmp a b)) (tied_itself parts_total part)

rises_behind : (part : Part) (name other : List ℕ) (list : List BreakAt) → Rises break_cmp list → Rises break_cmp (map (break_behind part name other) list)
rises_behind part name other [] r = tt
rises_behind part name other (x ∷ []) r = tt
rises_behind part name other (x ∷ y ∷ xs) r = (behind_order part x.way y.way ∙ r.0, rises_behind part name other (y ∷ xs) r.1)

-- A break seen from the fields around.
module _ (old new own next : Shape) (part : Part) (name other : List ℕ) (s : StepsTo old part own) (t : StepsTo new part next) (by_name : StepsBy old part name own) (by_other : StepsBy new part other next) where
  told_behind : (told : BreakAt) → IsToldBreak own next told → IsToldBreak old new (break_behind part name other told)
  told_behind told b = record {
    breaks = let x = b.breaks in (x.0, x.1, (own, s, x.2), (next, t, x.3), x.4);
    before = (own, by_name, b.before);
    behind = (next, by_other, b.behind);
  }

  each_behind : (list : List BreakAt) (told : BreakAt) → ((told : BreakAt) → IsIn told list → IsToldBreak own next told) → IsIn told (map (break_behind part name other) list) → IsToldBreak old new told
  each_behind list told each i =
      let s = in_map (break_behind part name other) list told i in
      subst (IsToldBreak old new) (sym s.2) (told_behind s.0 (each s.0 s.1))

is_told_behind : (part : Part) (name other : List ℕ) (list : List BreakAt) (way : List Part) (change : Change) → IsTold list way change → IsTold (map (break_behind part name other) list) (part ∷ way) change
is_told_behind part name other list way change s =
    (break_behind part name other s.0, map_in (break_behind part name other) list s.0 s.1, ap (λ w. part ∷ w) s.2, s.3)

is_told_first : (list more : List BreakAt) (way : List Part) (change : Change) → IsTold list way change → IsTold (list ++ more) way change
is_told_first list more way change s = (s.0, in_append_first s.0 list more s.1, s.2, s.3)

is_told_second : (list more : List BreakAt) (way : List Part) (change : Change) → IsTold more way change → IsTold (list ++ more) way change
is_told_second list more way change s = (s.0, in_append_second s.0 list more s.1, s.2, s.3)

-- ---- inside a map

keys_breaks : (key other : ScalarKind) (shape more : Shape) (change : Change) → Differs change (Map key shape) (Map other more) → (change ≡ changes.Key) × (Widens key other → ⊥)
keys_breaks key other shape more changes.Shape d = absurd (d refl)
keys_breaks key other shape more changes.Key d = (refl, d)
keys_breaks key other shape more changes.Kind d = absurd d

module _ (key other : ScalarKind) (shape more : Shape) (inner : List BreakAt) (a : AreBreaks shape more inner) where
  abbrev old_map : Shape
  old_map = Map key shape

  abbrev new_map : Shape
  new_map = Map other more

  abbrev deeper : List BreakAt
  deeper = map (break_behind MapValue values_name values_name) inner

  deeper_each : (told : BreakAt) → IsIn told deeper → IsToldBreak old_map new_map told
  deeper_each told i = each_behind old_map new_map shape more MapValue values_name values_name refl refl (refl, refl) (refl, refl) inner told a.each i

  -- a break is at the keys, or inside
  deeper_all : (front : List BreakAt) → ((Widens key other → ⊥) → IsTold front [] changes.Key) → (way : List Part) (change : Change) → IsBreak old_map new_map way change → IsTold (front ++ deeper) way change
  deeper_all front own [] change x =
      let k = keys_breaks key other shape more change (subst (λ (b : Shape). Differs change old_map b) (sym x.3) (subst (λ (a : Shape). Differs change a x.1) (sym x.2) x.4)) in
      subst (IsTold (front ++ deeper) []) (sym k.0) (is_told_first front deeper [] changes.Key (own k.1))
  deeper_all front own (MapValue ∷ way) change x =
      is_told_second front deeper (MapValue ∷ way) change (is_told_behind MapValue values_name values_name inner way change (a.all way change
      (x.0, x.1, subst (λ (s : Shape). LeadsAlong s way x.0) (sym x.2.1) x.2.2, subst (λ (s : Shape). LeadsAlong s way x.1) (sym x.3.1) x.3.2, x.4)))
  deeper_all front own (Number number ∷ way) change x = absurd x.2.1

  -- All breaks of a map: that of its keys, and those of its values.
  pub map_breaks : (fits : Bool) → IsTrue fits ↔ Widens key other → AreBreaks (Map key shape) (Map other more) ((if fits then [] else own_break changes.Key (Map key shape) (Map other more) ∷ []) ++ map (break_behind MapValue values_name values_name) inner)
  map_breaks true w = record {
    rises = rises_behind MapValue values_name values_name inner a.rises;
    each = deeper_each;
    all = deeper_all [] (λ n. absurd (n (w.0 refl)));
  }
  map_breaks false w = record {
    rises = rises_append break_cmp (own_break changes.Key old_map new_map ∷ []) deeper tt (rises_behind MapValue values_name values_name inner a.rises) before;
    each = λ told i. elim i [ inl e ↦ subst (IsToldBreak old_map new_map) (sym e) (own_told old_map new_map changes.Key (λ widens. let e : false ≡ true = w.1 widens in cc)) | inr j ↦ deeper_each told j ];
    all = deeper_all (own_break changes.Key old_map new_map ∷ []) (λ n. (own_break changes.Key old_map new_map, inl refl, refl, refl));
  }
    where
      before : (x y : BreakAt) → IsIn x (own_break changes.Key old_map new_map ∷ []) → IsIn y deeper → break_cmp x y ≡ Less
      before x y (inl e) j =
          let s = in_map (break_behind MapValue values_name values_name) inner y j in
          subst (λ (u : BreakAt). break_cmp u y ≡ Less) (sym e) (subst (λ (u : BreakAt). break_cmp (own_break changes.Key old_map new_map) u ≡ Less) (sym s.2) refl)
      before x y (inr none) j = elim none [ ]

-- ---- field by field

-- A break inside one of some fields.
pub record IsBreakOf (list : List Field) (others : Nodes) (way : List Part) (change : Change) : Type 0 where
  pub field : Field
  pub there : IsIn field list
  pub other : Field
  pub beside : IsIn other (fields others)
  pub numbered : other.number ≡ field.number
  pub rest : List Part
  pub is : way ≡ Number field.number ∷ rest
  pub breaks : IsBreak field.shape other.shape rest change

bags_alike : (nodes others : Nodes) (change : Change) → Differs change (Bag nodes) (Bag others) → ⊥
bags_alike nodes others changes.Shape d = d refl
bags_alike nodes others changes.Key d = d
bags_alike nodes others changes.Kind d = d

bag_break : (nodes others : Nodes) (way : List Part) (change : Change) → IsBreak (Bag nodes) (Bag others) way change → IsBreakOf (fields nodes) others way change
bag_break nodes others [] change x =
    absurd (bags_alike nodes others change (subst (λ (b : Shape). Differs change (Bag nodes) b) (sym x.3) (subst (λ (a : Shape). Differs change a x.1) (sym x.2) x.4)))
bag_break nodes others (Number number ∷ way) change x =
    let a = x.2.1 in
    let b = x.3.1 in
    record {
      field = a.0;
      there = a.1;
      other = b.0;
      beside = b.1;
      numbered = b.2 ∙ sym a.2;
      rest = way;
      is = ap (λ n. Number n ∷ way) (sym a.2);
      breaks = (x.0, x.1, subst (λ (s : Shape). LeadsAlong s way x.0) (sym a.3) x.2.2, subst (λ (s : Shape). LeadsAlong s way x.1) (sym b.3) x.3.2, x.4);
    }
bag_break nodes others (MapValue ∷ way) change x = absurd x.2.1

bag_back : (nodes others : Nodes) (a b : Field) (way : List Part) (change : Change) → IsIn a (fields nodes) → IsIn b (fields others) → b.number ≡ a.number → IsBreak a.shape b.shape way change
    → IsBreak (Bag nodes) (Bag others) (Number a.number ∷ way) change
bag_back nodes others a b way change i j e x = (x.0, x.1, (a.shape, (a, i, refl, refl), x.2), (b.shape, (b, j, e, refl), x.3), x.4)

-- These are all breaks of the fields before this place of a bag: each other break is one of the fields from it on, and comes
-- after them.
pub record BreaksUpTo (nodes others : Nodes) (i : ℕ) (list : List BreakAt) : Type 0 where
  pub rises : Rises break_cmp list
  pub each : (told : BreakAt) → IsIn told list → IsToldBreak (Bag nodes) (Bag others) told
  pub all : (way : List Part) (change : Change) → IsBreak (Bag nodes) (Bag others) way change
      → IsTold list way change ⊎ IsBreakOf (fields (nodes_from_place i nodes)) others way change
  pub before : (told : BreakAt) (f : Field) (rest : List Part) → IsIn told list → IsIn f (fields (nodes_from_place i nodes))
      → way_cmp told.way (Number f.number ∷ rest) ≡ Less

pub breaks_begin : (nodes others : Nodes) → BreaksUpTo nodes others 0 []
breaks_begin nodes others = record {
  rises = tt;
  each = λ told i. elim i [ ];
  all = λ way change x. inr (bag_break nodes others way change x);
  before = λ told f rest i j. elim i [ ];
}

-- After the last field there is none.
pub breaks_end : (nodes others : Nodes) (i : ℕ) (list : List BreakAt) → length (fields nodes) ≤ i → BreaksUpTo nodes others i list → AreBreaks (Bag nodes) (Bag others) list
breaks_end nodes others i list l up = record { rises = up.rises; each = up.each; all = λ way change x. by way change (up.all way change x) }
  where
    by : (way : List Part) (change : Change) → IsTold list way change ⊎ IsBreakOf (fields (nodes_from_place i nodes)) others way change → IsTold list way change
    by way change (inl s) = s
    by way change (inr b) = elim (subst (λ (n : Nodes). IsIn b.field (fields n)) (nodes_end nodes i l) b.there) [ ]

module _ (nodes others : Nodes) (ok : AreFields nodes) (also : AreFields others) (i : ℕ) (list : List BreakAt) (f : Field) (at : slice_get (fields nodes) i ≡ Some f) (up : BreaksUpTo nodes others i list) where
  -- a break is one of the field at the place, or of those after it
  split : (way : List Part) (change : Change) (b : IsBreakOf (fields (nodes_from_place i nodes)) others way change) → (b.field ≡ f) ⊎ IsIn b.field (fields (nodes_from_place (i + 1) nodes))
  split way change b = subst (λ (n : Nodes). IsIn b.field (fields n)) (node_there nodes i f at) b.there

  here : IsIn f (fields (nodes_from_place i nodes))
  here = subst (λ (n : Nodes). IsIn f (fields n)) (sym (node_there nodes i f at)) (inl refl)

  later : (g : Field) → IsIn g (fields (nodes_from_place (i + 1) nodes)) → IsIn g (fields (nodes_from_place i nodes))
  later g j = subst (λ (n : Nodes). IsIn g (fields n)) (sym (node_there nodes i f at)) (inr j)

  -- With more breaks, among which are all of the field at this place, these are all up to the next.
  onwards : (more : List BreakAt) → Rises break_cmp (list ++ more) → ((told : BreakAt) → IsIn told more → IsToldBreak (Bag nodes) (Bag others) told)
      → ((g : Field) (way : List Part) (change : Change) → IsIn g (fields others) → g.number ≡ f.number → IsBreak f.shape g.shape way change → IsTold more (Number f.number ∷ way) change)
      → ((told : BreakAt) (g : Field) (rest : List Part) → IsIn told more → IsIn g (fields (nodes_from_place (i + 1) nodes)) → way_cmp told.way (Number g.number ∷ rest) ≡ Less)
      → BreaksUpTo nodes others (i + 1) (list ++ more)
  onwards more rises each all before = record {
    rises = rises;
    each = λ told j. elim (in_append told list more j) [ inl k ↦ up.each told k | inr k ↦ each told k ];
    all = λ way change x. by way change (up.all way change x);
    before = λ told g rest j k. elim (in_append told list more j) [ inl m ↦ up.before told g rest m (later g k) | inr m ↦ before told g rest m k ];
  }
    where
      own : (way : List Part) (change : Change) (b : IsBreakOf (fields (nodes_from_place i nodes)) others way change) → b.field ≡ f → IsTold more way change
      own way change b e =
          subst (λ w. IsTold more w change) (ap (λ (g : Field). Number g.number ∷ b.rest) (sym e) ∙ sym b.is)
          (all b.other b.rest change b.beside (subst (λ (g : Field). b.other.number ≡ g.number) e b.numbered) (subst (λ (g : Field). IsBreak g.shape b.other.shape b.rest change) e b.breaks))

      by : (way : List Part) (change : Change) → IsTold list way change ⊎ IsBreakOf (fields (nodes_from_place i nodes)) others way change
          → IsTold (list ++ more) way change ⊎ IsBreakOf (fields (nodes_from_place (i + 1) nodes)) others way change
      by way change (inl s) = inl (is_told_first list more way change s)
      by way change (inr b) = elim (split way change b) [
        | inl e ↦ inl (is_told_second list more way change (own way change b e))
        | inr j ↦ inr (record { field = b.field; there = j; other = b.other; beside = b.beside; numbered = b.numbered; rest = b.rest; is = b.is; breaks = b.breaks })
      ]

  -- A field with no partner has no break.
  pub no_partner : FindsNumber (fields others) f.number None → BreaksUpTo nodes others (i + 1) list
  no_partner none = subst (BreaksUpTo nodes others (i + 1)) (append-nil list)
      (onwards [] (subst (Rises break_cmp) (sym (append-nil list)) up.rises) (λ told j. elim j [ ]) (λ g way change j e b. absurd (none_numbered others f.number g none j e)) (λ told g rest j k. elim j [ ]))

  module _ (place : ℕ) (g : Field) (found : FindsNumber (fields others) f.number (Some (place, g))) (inner : List BreakAt) (a : AreBreaks f.shape g.shape inner) where
    abbrev deeper_in : List BreakAt
    deeper_in = map (break_behind (Number f.number) f.name g.name) inner

    mine : IsIn f (fields nodes)
    mine = get_in (fields nodes) i f at

    its : IsIn g (fields others)
    its = get_in (fields others) place g found.0

    its_by : IsIn (record { name = g.name; number = f.number; shape = g.shape }) (fields others)
    its_by = subst (λ n. IsIn (record { name = g.name; number = n; shape = g.shape }) (fields others)) found.1 its

    apart : (x y : BreakAt) → IsIn x list → IsIn y deeper_in → break_cmp x y ≡ Less
    apart x y j k =
        let s = in_map (break_behind (Number f.number) f.name g.name) inner y k in
        subst (λ (u : BreakAt). break_cmp x u ≡ Less) (sym s.2) (up.before x f s.0.way j here)

    after : (told : BreakAt) (h : Field) (rest : List Part) → IsIn told deeper_in → IsIn h (fields (nodes_from_place (i + 1) nodes)) → way_cmp told.way (Number h.number ∷ rest) ≡ Less
    after told h rest j k =
        let s = in_map (break_behind (Number f.number) f.name g.name) inner told j in
        let more = later_number nodes i f h ok at k in
        let less : nat_cmp (f.number + 1) (h.number + 1) ≡ Less = sym (nat_cmp_is (f.number + 1) (h.number + 1) Less (omega (arith, more))) in
        let same : ordering_then (nat_cmp (f.number + 1) (h.number + 1)) (way_cmp s.0.way rest) ≡ Less = ap (λ r. ordering_then r (way_cmp s.0.way rest)) less in
        subst (λ (u : BreakAt). way_cmp u.way (Number h.number ∷ rest) ≡ Less) (sym s.2) same

    -- A field with a partner has those that are inside both.
    pub partner : BreaksUpTo nodes others (i + 1) (list ++ map (break_behind (Number f.number) f.name g.name) inner)
    partner = onwards deeper_in (rises_append break_cmp list deeper_in up.rises (rises_behind (Number f.number) f.name g.name inner a.rises) apart)
        (λ told j. each_behind (Bag nodes) (Bag others) f.shape g.shape (Number f.number) f.name g.name (f, mine, refl, refl) (g, its, found.1, refl) mine its_by inner told a.each j)
        (λ h way change j e b. is_told_behind (Number f.number) f.name g.name inner way change (a.all way change (subst (λ (k : Field). IsBreak f.shape k.shape way change) (one_numbered others f.number place g h also found j e) b)))
        after

-- ---- the first of them

-- The first of all breaks comes before each other.
pub first_told : (old new : Shape) (told : BreakAt) (list : List BreakAt) → AreBreaks old new (told ∷ list) → IsFirstBreak old new told.way told.change
first_told old new told list a = record { breaks = (a.each told (inl refl)).breaks; first = λ way its x. by way (a.all way its x) }
  where
    by : {its : Change} (way : List Part) → IsTold (told ∷ list) way its → way_cmp told.way way ≢ Greater
    by way s = subst (λ w. way_cmp told.way w ≢ Greater) s.2 (there s.0 s.1)
      where
        there : (other : BreakAt) → IsIn other (told ∷ list) → way_cmp told.way other.way ≢ Greater
        there other (inl e) greater = let tie : way_cmp told.way other.way ≡ Equal = ap (λ (u : BreakAt). way_cmp told.way u.way) e ∙ tied_itself ways_total told.way in let clash : Greater ≡ Equal = sym greater ∙ tie in cc
        there other (inr j) greater = let less : way_cmp told.way other.way ≡ Less = Rises-before break_cmp (on_total (λ (u : BreakAt). u.way) ways_total) told list a.rises other j in let clash : Greater ≡ Less = sym greater ∙ less in cc

-- Where there is none, the shapes fit.
pub none_told : (old new : Shape) → AreBreaks old new [] → Fits old new
none_told old new a way change x = elim (a.all way change x).1 [ ]

-- ---- the first item of a list

pub none_first : {A : Type 0} (xs : List A) → None ≡ slice_get xs 0 → xs ≡ []
none_first [] e = refl
none_first (x ∷ xs) e = absurd (cc e)

pub some_first : {A : Type 0} (xs : List A) (x : A) → Some x ≡ slice_get xs 0 → (rest : List A) × (xs ≡ x ∷ rest)
some_first [] x e = absurd (cc e)
some_first (y ∷ xs) x e = let same : x ≡ y = cc e in (xs, ap (λ z. z ∷ xs) (sym same))
