-- What steps contribute to a slot, and joins of that.
use Rattle.std.proofs.Common.{◌≡◌, inl, inr, ℕ, List, [], ◌∷◌, ◌++◌, Option, Some, None, refl, sym, ◌∙◌, subst}
use Rattle.std.specs.List.{slice_get}
use Rattle.context_model.specs.Ended.{field_path}
use Rattle.bag_model.specs.Joins.{join, IsValueBelow}
use Rattle.bag_model.specs.Readings.{PathsOf, SaysValues}
use Rattle.bag_model.specs.Shapes.{Nodes}
use Rattle.bag_model.specs.Slots.{SlotAt}
use Rattle.bag_model.specs.SlotValues.{HasSlot, SaysSlot}
use Rattle.bag_model.specs.Values.{Value, Values, bottom, IsOfShape}
use Rattle.bag_model.specs.Views.{View}
use Rattle.bag_model.proofs.BelowLaws.{below-itself, below-both_ways, below-onwards, below-first, below-second, below-least, below-bottom}
use Rattle.bag_model.proofs.EachSlot.{slots_read_apart}
use Rattle.bag_model.proofs.Existence.{all_lists_say}
use Rattle.bag_model.proofs.Finite.{in_append, in_append_first, in_append_second}
use Rattle.bag_model.proofs.OfShape.{IsOfShape-bottom, IsOfShape-join, Reads-shape}
use Rattle.bag_model.proofs.Uniqueness.{Reads-unique}
use Rattle.trace_model.proofs.ReachLaws.{one_step}
use Rattle.trace_model.specs.Contributions.{Contributes, IsLeastAbove}
use Rattle.trace_model.specs.Graphs.{Act, Start, Recv, Set, Branch, Forward, Trim, Join, Step, Graph, HasStep, view_at, IsActOf, IsRecorded}
use Rattle.write_proof.specs.WholeRules.{StepContributes, IsOfSteps}
use Rattle.write_proof.proofs.Decided.{same_number}

some_slot : (a b : SlotAt) → Some a ≡ Some b → a ≡ b
some_slot a b e = cc

module _ (nodes : Nodes) (slot : ℕ) (at : SlotAt) (there : HasSlot nodes slot at) where
  -- What an act contributes is of the slot's shape.
  pub contributed_shape : (view : View) (act : Act) (x : Value) → IsActOf nodes view act → Contributes slot at act x → IsOfShape at.shape x
  contributed_shape view Start x may c = subst (IsOfShape at.shape) (sym c) (IsOfShape-bottom at.shape)
  contributed_shape view (Recv received) x may c = Reads-shape at.shape (PathsOf received) (field_path at.numbers) x c
  contributed_shape view (Set parent own v) x may (inl e) =
      let here : HasSlot nodes slot may.at = subst (λ n. HasSlot nodes n may.at) e.0 may.there in
      let same : may.at ≡ at = some_slot may.at at (sym here ∙ there) in
      subst (IsOfShape at.shape) (sym e.1) (subst (λ (a : SlotAt). IsOfShape a.shape v) same may.shape)
  contributed_shape view (Set parent own v) x may (inr n) = subst (IsOfShape at.shape) (sym n.1) (IsOfShape-bottom at.shape)
  contributed_shape view (Branch parent) x may c = subst (IsOfShape at.shape) (sym c) (IsOfShape-bottom at.shape)
  contributed_shape view (Forward parent) x may c = subst (IsOfShape at.shape) (sym c) (IsOfShape-bottom at.shape)
  contributed_shape view (Trim parent budget) x may c = subst (IsOfShape at.shape) (sym c) (IsOfShape-bottom at.shape)
  contributed_shape view (Join parents) x may c = subst (IsOfShape at.shape) (sym c) (IsOfShape-bottom at.shape)

  -- An act contributes something.
  pub contributed_some : (act : Act) → (x : Value) × Contributes slot at act x
  contributed_some Start = (bottom at.shape, refl)
  contributed_some (Recv received) = by (all_lists_say nodes received)
    where
      by : (vs : Values) × SaysValues nodes received vs → (x : Value) × SaysSlot received at x
      by said = let s = (slots_read_apart).slot nodes received said.0 slot at said.1 there in (s.0, s.2)
  contributed_some (Set parent own v) = elim (same_number own slot) [ inl e ↦ (v, inl (e, refl)) | inr n ↦ (bottom at.shape, inr (n, refl)) ]
  contributed_some (Branch parent) = (bottom at.shape, refl)
  contributed_some (Forward parent) = (bottom at.shape, refl)
  contributed_some (Trim parent budget) = (bottom at.shape, refl)
  contributed_some (Join parents) = (bottom at.shape, refl)

  -- An act contributes one value.
  pub contributed_one : (act : Act) (x y : Value) → Contributes slot at act x → Contributes slot at act y → x ≡ y
  contributed_one Start x y c d = c ∙ sym d
  contributed_one (Recv received) x y c d = Reads-unique at.shape (PathsOf received) (field_path at.numbers) x y c d
  contributed_one (Set parent own v) x y (inl c) (inl d) = c.1 ∙ sym d.1
  contributed_one (Set parent own v) x y (inl c) (inr d) = absurd (d.0 c.0)
  contributed_one (Set parent own v) x y (inr c) (inl d) = absurd (c.0 d.0)
  contributed_one (Set parent own v) x y (inr c) (inr d) = c.1 ∙ sym d.1
  contributed_one (Branch parent) x y c d = c ∙ sym d
  contributed_one (Forward parent) x y c d = c ∙ sym d
  contributed_one (Trim parent budget) x y c d = c ∙ sym d
  contributed_one (Join parents) x y c d = c ∙ sym d

  pub step_one : (graph : Graph) (w : ℕ) (x y : Value) → StepContributes graph slot at w x → StepContributes graph slot at w y → x ≡ y
  step_one graph w x y c d =
      let same : c.0 ≡ d.0 = one_step graph w c.0 d.0 c.1 d.1 in
      contributed_one (d.0).act x y (subst (λ (s : Step). Contributes slot at s.act x) same c.2) d.2

  module _ (graph : Graph) (recorded : IsRecorded nodes graph) where
    pub step_shape : (w : ℕ) (x : Value) → StepContributes graph slot at w x → IsOfShape at.shape x
    step_shape w x c = contributed_shape (view_at graph (c.0).service) (c.0).act x ((recorded.fits).acts w c.0 c.1) c.2

    -- ---- joins of what steps contribute

    abbrev Joined : List ℕ → Value → Type 0
    Joined steps joined = IsLeastAbove at.shape (IsOfSteps graph slot at steps) joined

    pub join_none : Joined [] (bottom at.shape)
    join_none = record {
      of_shape = IsOfShape-bottom at.shape;
      all = λ x c. absurd c.1;
      lowest = λ y p f. below-bottom at.shape y p;
    }

    join_skipped : (w : ℕ) (steps : List ℕ) (joined : Value) → slice_get graph.steps w ≡ None → Joined steps joined → Joined (w ∷ steps) joined
    join_skipped w steps joined none j = record {
      of_shape = j.of_shape;
      all = λ x c. elim c.1 [ inl e ↦ absurd (missing (c.2).0 (subst (λ v. HasStep graph v (c.2).0) e (c.2).1)) | inr i ↦ j.all x (c.0, i, c.2) ];
      lowest = λ y p f. j.lowest y p (λ x c. f x (c.0, inr c.1, c.2));
    }
      where
        missing : (step : Step) → HasStep graph w step → ⊥
        missing step has = let clash : None ≡ Some step = sym none ∙ has in cc

    join_more : (w : ℕ) (steps : List ℕ) (own joined : Value) → StepContributes graph slot at w own → Joined steps joined → Joined (w ∷ steps) (join own joined)
    join_more w steps own joined o j = record {
      of_shape = IsOfShape-join at.shape own joined p j.of_shape;
      all = λ x c. elim c.1 [
        | inl e ↦ subst (λ v. IsValueBelow v (join own joined)) (sym (step_one graph w x own (subst (λ v. StepContributes graph slot at v x) e c.2) o)) (below-first at.shape own joined p j.of_shape)
        | inr i ↦ below-onwards at.shape x joined (join own joined) (step_shape c.0 x c.2) j.of_shape both (j.all x (c.0, i, c.2)) (below-second at.shape own joined p j.of_shape)
      ];
      lowest = λ y q f. below-least at.shape own joined y p j.of_shape q (f own (w, inl refl, o)) (j.lowest y q (λ x c. f x (c.0, inr c.1, c.2)));
    }
      where
        p : IsOfShape at.shape own
        p = step_shape w own o

        both : IsOfShape at.shape (join own joined)
        both = IsOfShape-join at.shape own joined p j.of_shape

    -- What some steps contribute has a join.
    pub join_some : (steps : List ℕ) → (joined : Value) × Joined steps joined
    join_some [] = (bottom at.shape, join_none)
    join_some (w ∷ steps) = by (slice_get graph.steps w) refl (join_some steps)
      where
        by : (found : Option Step) → slice_get graph.steps w ≡ found → (joined : Value) × Joined steps joined → (joined : Value) × Joined (w ∷ steps) joined
        by None e j = (j.0, join_skipped w steps j.0 e j.1)
        by (Some step) e j = let own = contributed_some step.act in (join own.0 j.0, join_more w steps own.0 j.0 (step, e, own.1) j.1)

    -- The join of what steps of two lists contribute is that of both.
    pub join_both : (steps others : List ℕ) (a b : Value) → Joined steps a → Joined others b → Joined (steps ++ others) (join a b)
    join_both steps others a b p q = record {
      of_shape = both;
      all = λ x c. elim (in_append c.0 steps others c.1) [
        | inl i ↦ below-onwards at.shape x a (join a b) (step_shape c.0 x c.2) p.of_shape both (p.all x (c.0, i, c.2)) (below-first at.shape a b p.of_shape q.of_shape)
        | inr i ↦ below-onwards at.shape x b (join a b) (step_shape c.0 x c.2) q.of_shape both (q.all x (c.0, i, c.2)) (below-second at.shape a b p.of_shape q.of_shape)
      ];
      lowest = λ y o f. below-least at.shape a b y p.of_shape q.of_shape o
          (p.lowest y o (λ x c. f x (c.0, in_append_first c.0 steps others c.1, c.2)))
          (q.lowest y o (λ x c. f x (c.0, in_append_second c.0 steps others c.1, c.2)));
    }
      where
        both : IsOfShape at.shape (join a b)
        both = IsOfShape-join at.shape a b p.of_shape q.of_shape

    -- The join of what one step contributes is that.
    pub join_single : (w : ℕ) (own : Value) → StepContributes graph slot at w own → Joined (w ∷ []) own
    join_single w own o = record {
      of_shape = step_shape w own o;
      all = λ x c. elim c.1 [
        | inl e ↦ subst (λ v. IsValueBelow v own) (sym (step_one graph w x own (subst (λ v. StepContributes graph slot at v x) e c.2) o)) (below-itself at.shape own (step_shape w own o))
        | inr i ↦ absurd i
      ];
      lowest = λ y p f. f own (w, inl refl, o);
    }

    -- What some steps contribute has one join.
    pub join_one : (steps : List ℕ) (a b : Value) → Joined steps a → Joined steps b → a ≡ b
    join_one steps a b p q = below-both_ways at.shape a b p.of_shape q.of_shape (p.lowest b q.of_shape q.all) (q.lowest a p.of_shape p.all)
