-- The truth of a slot is the least value above all that is contributed to it.
use Rattle.std.proofs.Common.{◌≡◌, ◌⊎◌, ◌≢◌, inl, inr, ℕ, zero, suc, ◌<◌, length, Some, refl, sym, ap, ◌∙◌, subst, arith}
use Rattle.context_model.specs.Ended.{field_path}
use Rattle.bag_model.specs.Shapes.{Shape, Nodes}
use Rattle.bag_model.specs.Values.{Value, Values, bottom, IsOfShape, AreOfShapes}
use Rattle.bag_model.specs.Joins.{IsValueBelow}
use Rattle.bag_model.specs.Slots.{SlotAt}
use Rattle.bag_model.specs.SlotValues.{only, with_slot, HasSlot, HasSlotValue, SaysSlot}
use Rattle.bag_model.specs.Views.{View}
use Rattle.bag_model.specs.Readings.{PathsOf, SaysValues}
use Rattle.bag_model.proofs.BelowLaws.{below-both_ways, below-bottom}
use Rattle.bag_model.proofs.EachSlot.{slots_read_apart, only_fits}
use Rattle.bag_model.proofs.Existence.{all_lists_say}
use Rattle.bag_model.proofs.PlacedSlots.{slots_have_values, with_slot_fits, below_at_slots}
use Rattle.bag_model.proofs.Uniqueness.{Reads-unique}
use Rattle.trace_model.specs.Graphs.{Act, Start, Recv, Set, Branch, Forward, Trim, Join, Graph, view_at, IsActOf, IsRecorded}
use Rattle.trace_model.specs.Truth.{Adds, IsAdded, AreValuesBelow, IsTruth, IsTruthAt}
use Rattle.trace_model.specs.Contributions.{Contributes, IsContributed, IsLeastAbove, TruthsAreContributed}
use Rattle.trace_model.proofs.TruthLaws.{act_sums, has_one_truth}

-- ---- what is least

-- There is one least value above some.
pub least_one : (shape : Shape) (D : Value → Type 0) (v w : Value) → IsLeastAbove shape D v → IsLeastAbove shape D w → v ≡ w
least_one shape D v w p q = below-both_ways shape v w p.of_shape q.of_shape (p.lowest w q.of_shape q.all) (q.lowest v p.of_shape p.all)

-- It is the same for others that are as many.
pub least_alike : (shape : Shape) (D E : Value → Type 0) (v : Value) → ((x : Value) → D x → E x) → ((x : Value) → E x → D x) → IsLeastAbove shape D v → IsLeastAbove shape E v
least_alike shape D E v f g p = record {
  of_shape = p.of_shape;
  all = λ x e. p.all x (g x e);
  lowest = λ y q h. p.lowest y q (λ x d. h x (f x d));
}

-- ---- a choice

same_or_not : (a b : ℕ) → (a ≡ b) ⊎ (a ≢ b)
same_or_not zero zero = inl refl
same_or_not zero (suc b) = inr (λ e. omega (arith, e))
same_or_not (suc a) zero = inr (λ e. omega (arith, e))
same_or_not (suc a) (suc b) = elim (same_or_not a b) [ inl e ↦ inl (ap (λ n. suc n) e) | inr n ↦ inr (λ e. n (omega (arith, e))) ]

some_one : (v w : Value) → Some v ≡ Some w → v ≡ w
some_one v w e = cc

module _ (nodes : Nodes) (slot : ℕ) (at : SlotAt) (there : HasSlot nodes slot at) where
  -- what a write has at the slot
  written_there : (view : View) (parent own : ℕ) (v u : Value) → IsActOf nodes view (Set parent own v) → HasSlotValue nodes (only nodes own v) slot u → (own ≡ slot) ⊎ (own ≢ slot)
      → Contributes slot at (Set parent own v) u
  written_there view parent own v u may h (inl e) =
      inl (e, some_one u v (sym h ∙ subst (λ n. HasSlotValue nodes (only nodes n v) slot v) (sym e) ((only_fits).own nodes slot at v there)))
  written_there view parent own v u may h (inr n) =
      inr (n, some_one u (bottom at.shape) (sym h ∙ (only_fits).others nodes own may.at v slot at may.there there (λ e. n (sym e))))

  -- what an addition has at the slot is contributed by its act
  added_there : (view : View) (act : Act) (vs : Values) (u : Value) → IsActOf nodes view act → Adds nodes vs act → HasSlotValue nodes vs slot u → Contributes slot at act u
  added_there view Start vs u may d h = absurd d
  added_there view (Recv received) vs u may d h =
      let s = (slots_read_apart).slot nodes received vs slot at d there in
      subst (SaysSlot received at) (some_one s.0 u (sym s.1 ∙ h)) s.2
  added_there view (Set parent own v) vs u may d h = written_there view parent own v u may (subst (λ ws. HasSlotValue nodes ws slot u) d h) (same_or_not own slot)
  added_there view (Branch parent) vs u may d h = absurd d
  added_there view (Forward parent) vs u may d h = absurd d
  added_there view (Trim parent budget) vs u may d h = absurd d
  added_there view (Join parents) vs u may d h = absurd d

  -- the value is that of an addition at the slot
  abbrev IsOfAddition : Act → Value → Type 0
  IsOfAddition act x = (vs : Values) × Adds nodes vs act × HasSlotValue nodes vs slot x

  -- what an act contributes is bottom, or what an addition has there
  contributed_there : (act : Act) (x : Value) → Contributes slot at act x → (x ≡ bottom at.shape) ⊎ IsOfAddition act x
  contributed_there Start x c = inl c
  contributed_there (Recv received) x c = inr (by (all_lists_say nodes received))
    where
      by : (vs : Values) × SaysValues nodes received vs → IsOfAddition (Recv received) x
      by said =
          let s = (slots_read_apart).slot nodes received said.0 slot at said.1 there in
          (said.0, said.1, subst (HasSlotValue nodes said.0 slot) (Reads-unique at.shape (PathsOf received) (field_path at.numbers) s.0 x s.2 c) s.1)
  contributed_there (Set parent own v) x (inl e) =
      inr (only nodes own v, refl, subst (λ u. HasSlotValue nodes (only nodes own v) slot u) (sym e.1) (subst (λ n. HasSlotValue nodes (only nodes n v) slot v) (sym e.0) ((only_fits).own nodes slot at v there)))
  contributed_there (Set parent own v) x (inr n) = inl n.1
  contributed_there (Branch parent) x c = inl c
  contributed_there (Forward parent) x c = inl c
  contributed_there (Trim parent budget) x c = inl c
  contributed_there (Join parents) x c = inl c

  module _ (graph : Graph) (recorded : IsRecorded nodes graph) (n : ℕ) where
    -- what an act of the graph adds is of the table's shapes
    added_shapes : (vs : Values) → IsAdded nodes graph n vs → AreOfShapes nodes vs
    added_shapes vs r = (act_sums nodes (view_at graph (r.step).service) (r.step).act recorded.table ((recorded.fits).acts r.from r.step r.there)).1.shapes vs r.does

    module _ (truth : Values) (t : IsTruth nodes graph n truth) (v : Value) (has : HasSlotValue nodes truth slot v) where
      v_shape : IsOfShape at.shape v
      v_shape =
          let s = slots_have_values nodes truth slot at t.shapes there in
          subst (IsOfShape at.shape) (some_one s.0 v (sym s.1 ∙ has)) s.2

      above_there : (x : Value) → IsContributed graph n slot at x → IsValueBelow x v
      above_there x r = by (contributed_there (r.step).act x r.does)
        where
          by : (x ≡ bottom at.shape) ⊎ IsOfAddition (r.step).act x → IsValueBelow x v
          by (inl e) = subst (λ u. IsValueBelow u v) (sym e) (below-bottom at.shape v v_shape)
          by (inr d) =
              let added : IsAdded nodes graph n d.0 = record { from = r.from; step = r.step; there = r.there; reaches = r.reaches; does = d.1 } in
              (below_at_slots nodes d.0 truth (added_shapes d.0 added) t.shapes).0 (t.all d.0 added) slot x v d.2 has

      module _ (y : Value) (shape : IsOfShape at.shape y) (above : (x : Value) → IsContributed graph n slot at x → IsValueBelow x y) where
        -- the truth with y at the slot
        abbrev other : Values
        other = with_slot nodes slot y truth

        other_shapes : AreOfShapes nodes other
        other_shapes = (with_slot_fits).shapes nodes slot at y truth there shape t.shapes

        other_has : HasSlotValue nodes other slot y
        other_has = (with_slot_fits).own nodes slot at y truth there t.shapes

        below_other : (vs : Values) → IsAdded nodes graph n vs → AreValuesBelow vs other
        below_other vs r = (below_at_slots nodes vs other (added_shapes vs r) other_shapes).1 (λ place u w d e. by place u w d e (same_or_not place slot))
          where
            by : (place : ℕ) (u w : Value) → HasSlotValue nodes vs place u → HasSlotValue nodes other place w → (place ≡ slot) ⊎ (place ≢ slot) → IsValueBelow u w
            by place u w d e (inl same) =
                let here : HasSlotValue nodes vs slot u = subst (λ m. HasSlotValue nodes vs m u) same d in
                let own : y ≡ w = some_one y w (sym other_has ∙ subst (λ m. HasSlotValue nodes other m w) same e) in
                subst (IsValueBelow u) own (above u (record {
                  from = r.from;
                  step = r.step;
                  there = r.there;
                  reaches = r.reaches;
                  does = added_there (view_at graph (r.step).service) (r.step).act vs u ((recorded.fits).acts r.from r.step r.there) r.does here;
                }))
            by place u w d e (inr apart) =
                (below_at_slots nodes vs truth (added_shapes vs r) t.shapes).0 (t.all vs r) place u w d ((with_slot_fits).others nodes slot y truth place w t.shapes apart e)

        lowest_there : IsValueBelow v y
        lowest_there = (below_at_slots nodes truth other t.shapes other_shapes).0 (t.least other other_shapes below_other) slot v y has other_has

      truth_least : IsLeastAbove at.shape (IsContributed graph n slot at) v
      truth_least = record { of_shape = v_shape; all = above_there; lowest = lowest_there }

    module _ (within : n < length graph.steps) (v : Value) where
      contributed_truth : IsLeastAbove at.shape (IsContributed graph n slot at) v → IsTruthAt nodes graph n slot v
      contributed_truth least =
          let t = (has_one_truth).some nodes graph n recorded within in
          let s = slots_have_values nodes t.0 slot at (t.1).shapes there in
          let same = least_one at.shape (IsContributed graph n slot at) s.0 v (truth_least t.0 t.1 s.0 s.1) least in
          subst (IsTruthAt nodes graph n slot) same (record { truth = t.0; is = t.1; there = s.1 })

pub truths_are_contributed : TruthsAreContributed
truths_are_contributed nodes graph n slot at v recorded within there = (
  (λ t. truth_least nodes slot at there graph recorded n t.truth t.is v t.there),
  λ least. contributed_truth nodes slot at there graph recorded n within v least,
)
