-- What a table with some of the slots of another one does.
use Rattle.std.proofs.Common.{◌≡◌, ◌↔◌, inl, inr, ℕ, zero, suc, List, [], ◌∷◌, Some, refl, sym, ap, ◌∙◌, subst}
use Rattle.std.specs.List.{slice_get}
use Rattle.context_model.specs.Atoms.{Atom}
use Rattle.context_model.specs.Ended.{field_path}
use Rattle.context_model.specs.Orders.{Path, IsIn}
use Rattle.bag_model.specs.Encodings.{IsEncoding}
use Rattle.bag_model.specs.NormalForm.{Keeping, HoldsData, IsSuperseded, IsNormalOf}
use Rattle.bag_model.specs.Readings.{PathsOf}
use Rattle.bag_model.specs.Shapes.{Nodes}
use Rattle.bag_model.specs.Slots.{SlotAt, slots_of}
use Rattle.bag_model.specs.SlotValues.{HasSlot, only}
use Rattle.bag_model.specs.Tables.{IsTable}
use Rattle.bag_model.specs.Typed.{IsTyped, AreTyped}
use Rattle.bag_model.specs.Values.{Value, IsOfShape, AreOfShapes}
use Rattle.bag_model.specs.Views.{View, All}
use Rattle.bag_model.proofs.EachSlot.{only_fits}
use Rattle.bag_model.proofs.LayoutLaws.{encodings_read_back}
use Rattle.bag_model.proofs.SlotsBelow.{get_in}
use Rattle.bag_encode.specs.Values.{atoms, field_atoms}
use Rattle.bag_encode.proofs.EncodingLaws.{IsEncoding-atoms}
use Rattle.bag_encode.proofs.SlotTrees.{slot_trees, only_trees}
use Rattle.trace_model.proofs.SlotParts.{slot_typed, typed_by_fields, from_slots}
use Rattle.step_calls.specs.Excerpts.{AreLikeSlots, IsExcerpt}
use Rattle.step_calls.specs.Laws.{ExcerptsAreViews, ExcerptsAreTyped, ExcerptsWriteAlike}

-- Data are read alike at slots that are alike.
alike_data : (a b : SlotAt) → AreLikeSlots a b → (keep : Keeping) (place : Path) → HoldsData a.shape (field_path a.numbers) keep place → HoldsData b.shape (field_path b.numbers) keep place
alike_data a b alike keep place h =
    subst (λ (numbers : List ℕ). HoldsData b.shape (field_path numbers) keep place) alike.numbers
    (subst (λ shape. HoldsData shape (field_path a.numbers) keep place) alike.shape h)

-- A path that is superseded for the view is so for the excerpt, and back.
module _ (nodes : Nodes) (view : View) (excerpt : Nodes) (is : IsExcerpt nodes view excerpt) (P : Path → Type 0) (p : Path) where
  into_excerpt : IsSuperseded nodes view P p → IsSuperseded excerpt All P p
  into_excerpt s =
      let k = is.whole s.slot s.at s.knows s.there in
      record {
        slot = k.0;
        at = k.1;
        knows = tt;
        there = k.2;
        place = s.place;
        keep = s.keep;
        holds = alike_data s.at k.1 k.3 s.keep s.place s.holds;
        mine = s.mine;
        other = s.other;
        is = s.is;
        stands = s.stands;
        way = s.way;
      }

  out_of_excerpt : IsSuperseded excerpt All P p → IsSuperseded nodes view P p
  out_of_excerpt s =
      let k = is.only s.slot s.at s.there in
      record {
        slot = k.0;
        at = k.1;
        knows = k.2;
        there = k.3;
        place = s.place;
        keep = s.keep;
        holds = alike_data s.at k.1 (record { numbers = sym (k.4).numbers; shape = sym (k.4).shape }) s.keep s.place s.holds;
        mine = s.mine;
        other = s.other;
        is = s.is;
        stands = s.stands;
        way = s.way;
      }

pub excerpts_are_views : ExcerptsAreViews
excerpts_are_views nodes view excerpt list normal is = (
  λ n. record {
    gone = n.gone;
    rises = n.rises;
    exact = λ place. (
      λ i. let s = (n.exact place).0 i in (s.0, into_excerpt nodes view excerpt is (PathsOf list) _ s.1),
      λ s. (n.exact place).1 (s.0, out_of_excerpt nodes view excerpt is (PathsOf list) _ s.1),
    );
    left = n.left;
  },
  λ n. record {
    gone = n.gone;
    rises = n.rises;
    exact = λ place. (
      λ i. let s = (n.exact place).0 i in (s.0, out_of_excerpt nodes view excerpt is (PathsOf list) _ s.1),
      λ s. (n.exact place).1 (s.0, into_excerpt nodes view excerpt is (PathsOf list) _ s.1),
    );
    left = n.left;
  },
)

in_get : {A : Type 0} (xs : List A) (x : A) → IsIn x xs → (i : ℕ) × (slice_get xs i ≡ Some x)
in_get [] x i = absurd i
in_get (y ∷ xs) x (inl e) = (0, ap (λ z. Some z) (sym e))
in_get (y ∷ xs) x (inr i) = let s = in_get xs x i in (suc s.0, s.1)

pub excerpts_are_typed : ExcerptsAreTyped
excerpts_are_typed nodes view excerpt list is typed =
    from_slots (λ shape q. IsTyped shape (PathsOf list) q) (λ other q. AreTyped other (PathsOf list) q) (typed_by_fields (PathsOf list)) excerpt []
    (λ also i. by also (in_get (slots_of excerpt) also i))
  where
    by : (also : SlotAt) → (other : ℕ) × HasSlot excerpt other also → IsTyped also.shape (PathsOf list) (field_path also.numbers)
    by also found =
        let k = is.only found.0 also found.1 in
        let own : IsTyped (k.1).shape (PathsOf list) (field_path (k.1).numbers) = slot_typed nodes (PathsOf list) [] k.1 (get_in (slots_of nodes) k.0 k.1 k.3) typed in
        subst (λ (numbers : List ℕ). IsTyped also.shape (PathsOf list) (field_path numbers)) (k.4).numbers
        (subst (λ shape. IsTyped shape (PathsOf list) (field_path (k.1).numbers)) (k.4).shape own)

-- ---- encodings

-- The encoding of a value at a slot is that of the numbers and the shape.
own_atoms : (nodes : Nodes) (slot : ℕ) (at : SlotAt) (v : Value) (list : List Atom) → IsTable nodes → HasSlot nodes slot at → IsOfShape at.shape v
    → IsEncoding nodes (only nodes slot v) list ↔ (list ≡ atoms (slot_trees 0 at.numbers at.shape v))
own_atoms nodes slot at v list table there shape = (
  λ e. (encodings_read_back).one nodes (only nodes slot v) list (field_atoms nodes 0 (only nodes slot v)) e made ∙ same,
  λ e. subst (IsEncoding nodes (only nodes slot v)) (sym (e ∙ sym same)) made,
)
  where
    shapes : AreOfShapes nodes (only nodes slot v)
    shapes = (only_fits).shapes nodes slot at v there shape

    made : IsEncoding nodes (only nodes slot v) (field_atoms nodes 0 (only nodes slot v))
    made = IsEncoding-atoms nodes (only nodes slot v) table shapes

    same : field_atoms nodes 0 (only nodes slot v) ≡ atoms (slot_trees 0 at.numbers at.shape v)
    same = ap atoms (only_trees nodes 0 slot at v there)

alike_atoms : (a b : SlotAt) (v : Value) → AreLikeSlots a b → atoms (slot_trees 0 a.numbers a.shape v) ≡ atoms (slot_trees 0 b.numbers b.shape v)
alike_atoms a b v alike = (λ i. atoms (slot_trees 0 (alike.numbers i) (alike.shape i) v))

pub excerpts_write_alike : ExcerptsWriteAlike
excerpts_write_alike nodes excerpt slot other at also v list table excerpted there here alike shape =
    let own = own_atoms nodes slot at v list table there shape in
    let new = own_atoms excerpt other also v list excerpted here (subst (λ s. IsOfShape s v) alike.shape shape) in
    let same = alike_atoms at also v alike in
    (λ e. new.1 (own.0 e ∙ same), λ e. own.1 (new.0 e ∙ sym same))
