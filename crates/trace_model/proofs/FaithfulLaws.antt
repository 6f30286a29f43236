-- The lists of a run are faithful.
use Rattle.std.proofs.Common.{◌≡◌, ◌≢◌, inl, inr, ℕ, ◌<◌, List, [], ◌∷◌, ◌++◌, map, Some, refl, sym, ap, ◌∙◌, subst, append_assoc, arith}
use Rattle.std.specs.List.{slice_get}
use Rattle.context_model.specs.declared.Form.{Form}
use Rattle.context_model.specs.Atoms.{Atom}
use Rattle.context_model.specs.Orders.{Path, IsIn}
use Rattle.context_model.specs.WellFormed.{IsWellFormed}
use Rattle.context_model.specs.Ended.{HasMarker, IsEnded, field_path}
use Rattle.context_model.specs.Merged.{last_atom}
use Rattle.context_model.proofs.GreedyElements.{All-from}
use Rattle.context_model.proofs.MergedMarkers.{IsEnded-fewer}
use Rattle.bag_model.specs.Shapes.{Nodes}
use Rattle.bag_model.specs.Values.{Value, Values}
use Rattle.bag_model.specs.Joins.{join, IsValueBelow}
use Rattle.bag_model.specs.Slots.{SlotAt, slots_of}
use Rattle.bag_model.specs.SlotValues.{only, slot_values, HasSlot, SaysSlot}
use Rattle.bag_model.specs.Tables.{IsTable}
use Rattle.bag_model.specs.Views.{View}
use Rattle.bag_model.specs.Readings.{Reads, PathsOf, SaysValues}
use Rattle.bag_model.specs.Typed.{AreTyped}
use Rattle.bag_model.specs.Encodings.{AreUsed, IsForeign}
use Rattle.bag_model.specs.NormalForm.{IsNormalOf}
use Rattle.bag_model.proofs.PathSets.{Both, FewerBelow}
use Rattle.bag_model.proofs.TypedLaws.{AreTyped-fewer}
use Rattle.bag_model.proofs.Covering.{Reads-covers, ReadsEach-covers}
use Rattle.bag_model.proofs.ForeignLaws.{InLayouts-used}
use Rattle.bag_model.proofs.Unions.{Reads-alike, Reads-union}
use Rattle.bag_model.proofs.Uniqueness.{Reads-unique, ReadsEach-unique}
use Rattle.bag_model.proofs.MergeReadingLaws.{PathsOf-headers}
use Rattle.bag_model.proofs.SlotsBelow.{in_map, get_in}
use Rattle.bag_model.proofs.NormalFormLaws.{normal_form_keeps}
use Rattle.bag_model.proofs.EachSlot.{ReadsSlot, each_slot-at, ReadsEach-slots}
use Rattle.trace_model.specs.Graphs.{Act, Start, Recv, Set, Branch, Forward, Trim, Join, Step, Graph, parents_of, HasStep, view_at, form_at}
use Rattle.trace_model.specs.Runs.{list_at, parents_lists, Gives}
use Rattle.trace_model.specs.Truth.{IsAdded, IsTruth, IsTruthAt, WasCut, ReceivesForeign, IsForeignOf, AreReachedAlike}
use Rattle.trace_model.specs.Faithful.{IsRunStep, IsFaithful, RunsAreFaithful, EndsInParents, AlikeStepsSayTheSame}
use Rattle.trace_model.proofs.ReachLaws.{reached_so}
use Rattle.trace_model.proofs.LayoutFronts.{EndsPlainly}
use Rattle.trace_model.proofs.PlainEnds.{ends_plainly}
use Rattle.trace_model.proofs.SlotParts.{map_in, slots_covered, slot_typed}
use Rattle.trace_model.proofs.Telling.{Tells, trimmed_ended}
use Rattle.trace_model.proofs.Arrivals.{Carries, Arrives, run_tells}
use Rattle.trace_model.proofs.TruthLaws.{Sums, arriving_sums, sum_is_truth, arriving_typed, truth_alike}

-- ---- foreign paths

module _ (nodes : Nodes) (p : Path) where
  foreign_of : (act : Act) → last_atom p ≢ [] → (AreUsed nodes [] p → ⊥) → Carries nodes p act → ReceivesForeign nodes p act
  foreign_of Start plain unused c = c
  foreign_of (Recv received) plain unused c = (c, plain, unused)
  foreign_of (Set parent slot v) plain unused c = unused (InLayouts-used nodes [] (only nodes slot v) p c)
  foreign_of (Branch parent) plain unused c = c
  foreign_of (Forward parent) plain unused c = c
  foreign_of (Trim parent budget) plain unused c = c
  foreign_of (Join parents) plain unused c = c

  foreign_parts : (act : Act) → ReceivesForeign nodes p act → Carries nodes p act × (last_atom p ≢ []) × (AreUsed nodes [] p → ⊥)
  foreign_parts Start f = absurd f
  foreign_parts (Recv received) f = f
  foreign_parts (Set parent slot v) f = absurd f
  foreign_parts (Branch parent) f = absurd f
  foreign_parts (Forward parent) f = absurd f
  foreign_parts (Trim parent budget) f = absurd f
  foreign_parts (Join parents) f = absurd f

-- ---- one step

fewer_anywhere : (P Q : Path → Type 0) (q : Path) → FewerBelow [] P Q → FewerBelow q P Q
fewer_anywhere P Q q f p b bytes i =
    let one : (q ++ p) ++ (b ∷ bytes) ∷ [] ≡ q ++ (p ++ (b ∷ bytes) ∷ []) = append_assoc q p ((b ∷ bytes) ∷ []) in
    subst Q one (f (q ++ p) b bytes (subst P (sym one) i))

module _ (nodes : Nodes) (graph : Graph) (lists : List (List Atom)) (n : ℕ) (s : IsRunStep nodes graph lists n) where
  abbrev the_list : List Atom
  the_list = list_at lists n

  abbrev arriving : Path → Type 0
  arriving = Arrives nodes graph n

  tells : Tells nodes the_list arriving (WasCut graph lists n)
  tells = run_tells nodes graph lists s.recorded s.run n s.within

  sums : (truth : Values) × Sums nodes arriving (IsAdded nodes graph n) truth
  sums = arriving_sums nodes graph s.recorded n s.within

  typed : AreTyped nodes arriving []
  typed = arriving_typed nodes graph s.recorded n

  -- a slot has a truth, and what arrives says it
  slot_truth : (slot : ℕ) (at : SlotAt) → HasSlot nodes slot at → (v : Value) × IsTruthAt nodes graph n slot v × Reads at.shape arriving (field_path at.numbers) v
  slot_truth slot at there = by sums
    where
      by : (truth : Values) × Sums nodes arriving (IsAdded nodes graph n) truth → (v : Value) × IsTruthAt nodes graph n slot v × Reads at.shape arriving (field_path at.numbers) v
      by t =
          let e = each_slot-at (ReadsSlot arriving []) 0 (slots_of nodes) (slot_values nodes t.0) slot at (ReadsEach-slots nodes arriving [] t.0 0 (t.1).reads) there in
          (e.0, record { truth = t.0; is = sum_is_truth nodes graph s.recorded n t.0 t.1; there = e.1 }, e.2)

  exact_there : (slot : ℕ) (at : SlotAt) (v : Value) → HasSlot nodes slot at → SaysSlot the_list at v → IsEnded the_list (field_path at.numbers) → IsTruthAt nodes graph n slot v
  exact_there slot at v there says ended =
      let t = slot_truth slot at there in
      let i = get_in (slots_of nodes) slot at there in
      let r = Reads-covers at.shape (PathsOf the_list) arriving (field_path at.numbers) v (slot_typed nodes arriving [] at i typed) ((tells).covers at i ended) says in
      subst (IsTruthAt nodes graph n slot) (Reads-unique at.shape arriving (field_path at.numbers) t.0 v t.2 r) t.1

  below_there : (slot : ℕ) (at : SlotAt) (v : Value) → HasSlot nodes slot at → SaysSlot the_list at v → (truth : Value) × IsTruthAt nodes graph n slot truth × IsValueBelow v truth
  below_there slot at v there says = by (slot_truth slot at there) sums
    where
      by : (truth : Value) × IsTruthAt nodes graph n slot truth × Reads at.shape arriving (field_path at.numbers) truth → (truth : Values) × Sums nodes arriving (IsAdded nodes graph n) truth
          → (truth : Value) × IsTruthAt nodes graph n slot truth × IsValueBelow v truth
      by t d = (
        t.0,
        t.1,
        Reads-unique at.shape arriving (field_path at.numbers) (join v t.0) t.0
            (Reads-alike at.shape (Both (PathsOf the_list) arriving) arriving (field_path at.numbers) (join v t.0) (
              (λ p b bytes i. elim i [ inl j ↦ fewer_anywhere (PathsOf the_list) arriving (field_path at.numbers) (tells).arrived p b bytes j | inr a ↦ a ]),
              λ p b bytes a. inr a,
            )
            (Reads-union at.shape (PathsOf the_list) arriving (field_path at.numbers) v t.0 (PathsOf-headers the_list) (d.1).headers says t.2))
            t.2,
      )

  whole_there : (HasMarker the_list → ⊥) → (vs : Values) → SaysValues nodes the_list vs → IsTruth nodes graph n vs
  whole_there none vs says =
      let r = ReadsEach-covers nodes (PathsOf the_list) arriving [] vs typed (slots_covered nodes (PathsOf the_list) arriving [] (λ at i. (tells).covers at i (inl none))) says in
      let t = sums in
      subst (IsTruth nodes graph n) (ReadsEach-unique nodes arriving [] t.0 vs (t.1).reads r) (sum_is_truth nodes graph s.recorded n t.0 t.1)

  received_there : (p : Path) → IsForeign nodes the_list p → IsForeignOf nodes graph n p
  received_there p f = by (ends_plainly p f.1)
    where
      by : EndsPlainly p → IsForeignOf nodes graph n p
      by e = reached_so graph n (λ step. Carries nodes p step.act) (λ step. ReceivesForeign nodes p step.act) (λ step c. foreign_of nodes p step.act f.1 f.2 c)
          (subst arriving (sym e.3) ((tells).arrived e.0 e.1 e.2 (subst (PathsOf the_list) e.3 f.0)))

  kept_there : (HasMarker the_list → ⊥) → (p : Path) → IsForeignOf nodes graph n p → IsForeign nodes the_list p
  kept_there none p r = by (foreign_parts nodes p (r.step).act r.does)
    where
      here : last_atom p ≢ [] → (AreUsed nodes [] p → ⊥) → EndsPlainly p → IsForeign nodes the_list p
      here plain unused e = (
        subst (PathsOf the_list) (sym e.3) ((tells).unused none e.0 e.1 e.2 (λ u. unused (subst (AreUsed nodes []) (sym e.3) u))
            (subst arriving e.3 (reached_so graph n (λ step. ReceivesForeign nodes p step.act) (λ step. Carries nodes p step.act) (λ step f. (foreign_parts nodes p step.act f).0) r))),
        plain,
        unused,
      )

      by : Carries nodes p (r.step).act × (last_atom p ≢ []) × (AreUsed nodes [] p → ⊥) → IsForeign nodes the_list p
      by f = here f.1 f.2 (ends_plainly p f.1)

  faithful_there : IsFaithful nodes graph lists n
  faithful_there = record {
    well_formed = (tells).well_formed;
    typed = AreTyped-fewer nodes (PathsOf the_list) arriving [] (tells).arrived typed;
    marked = (tells).marked;
    exact = exact_there;
    below = below_there;
    whole = whole_there;
    received = received_there;
    foreign = λ none p. (received_there p, kept_there none p);
  }

pub runs_are_faithful : RunsAreFaithful
runs_are_faithful nodes graph lists n s = faithful_there nodes graph lists n s

-- ---- ended before

-- a slot that is ended in a normal form is ended in the list
normal_ended : (nodes : Nodes) (view : View) (list normal : List Atom) (at : SlotAt) → IsTable nodes → IsWellFormed list → IsNormalOf nodes view list normal → IsIn at (slots_of nodes)
    → IsEnded normal (field_path at.numbers) → IsEnded list (field_path at.numbers)
normal_ended nodes view list normal at table w n i e = (((normal_form_keeps).lists nodes view list normal table w n).ended at i).0 e

module _ (nodes : Nodes) (table : IsTable nodes) (lists : List (List Atom)) (at : SlotAt) (i : IsIn at (slots_of nodes)) where
  abbrev EndedIn : List Atom → Type 0
  EndedIn list = IsEnded list (field_path at.numbers)

  only_parent : (own parent : ℕ) → IsIn parent (own ∷ []) → EndedIn (list_at lists own) → EndedIn (list_at lists parent)
  only_parent own parent (inl e) f = subst (λ m. EndedIn (list_at lists m)) (sym e) f
  only_parent own parent (inr none) f = elim none [ ]

  ended_parent : (form : Form) (view : View) (act : Act) (list : List Atom) → Gives nodes form view act (parents_lists lists act) list
      → ((parent : ℕ) → IsIn parent (parents_of act) → IsWellFormed (list_at lists parent))
      → (parent : ℕ) → IsIn parent (parents_of act) → EndedIn list → EndedIn (list_at lists parent)
  ended_parent form view Start list g w parent j e = elim j [ ]
  ended_parent form view (Recv received) list g w parent j e = elim j [ ]
  ended_parent form view (Set own slot v) list g w parent j e = only_parent own parent j
      (IsEnded-fewer (list_at lists own ∷ g.written ∷ []) (g.normal).merged (list_at lists own) (field_path at.numbers) (w own (inl refl), ((g.encoding).well_formed, tt)) (g.normal).merge (inl refl)
      (normal_ended nodes view (g.normal).merged list at table ((g.normal).merge).well_formed (g.normal).normal i e))
  ended_parent form view (Branch own) list g w parent j e = only_parent own parent j (subst EndedIn g e)
  ended_parent form view (Forward own) list g w parent j e = only_parent own parent j (normal_ended nodes view (list_at lists own) list at table (w own (inl refl)) g i e)
  ended_parent form view (Trim own budget) list g w parent j e =
      only_parent own parent j (trimmed_ended form (list_at lists own) budget (field_path at.numbers) (w own (inl refl)) (subst EndedIn g e))
  ended_parent form view (Join parents) list g w parent j e =
      IsEnded-fewer (map (list_at lists) parents) g.merged (list_at lists parent) (field_path at.numbers)
      (All-from IsWellFormed (map (list_at lists) parents) (λ l k. let m = in_map (list_at lists) parents l k in subst IsWellFormed (sym m.2) (w m.0 m.1)))
      g.merge (map_in (list_at lists) parents parent j) (normal_ended nodes view g.merged list at table (g.merge).well_formed g.normal i e)

-- the lists of a step's parents are well formed
pub parents_well_formed : (nodes : Nodes) (graph : Graph) (lists : List (List Atom)) (n : ℕ) (step : Step) → IsRunStep nodes graph lists n → HasStep graph n step
    → (parent : ℕ) → IsIn parent (parents_of step.act) → IsWellFormed (list_at lists parent)
parents_well_formed nodes graph lists n step s there parent i =
    let earlier : parent < n = ((s.recorded).sound).earlier n parent step there i in
    (run_tells nodes graph lists s.recorded s.run parent (omega (arith, earlier, s.within))).well_formed

pub ends_in_parents : EndsInParents
ends_in_parents nodes graph lists n parent slot step at s there i has e =
    ended_parent nodes (s.recorded).table lists at (get_in (slots_of nodes) slot at has) (form_at graph step.service) (view_at graph step.service) step.act (list_at lists n)
    ((s.run).each n step s.within there) (parents_well_formed nodes graph lists n step s there) parent i e

-- ---- two steps that are reached alike

pub alike_steps_say_the_same : AlikeStepsSayTheSame
alike_steps_say_the_same = record {
  whole = λ nodes graph other lists others n m vs ws s t alike none no says tell.
      truth_alike nodes graph other n m vs ws alike (whole_there nodes graph lists n s none vs says) (whole_there nodes other others m t no ws tell);
  slot = λ nodes graph other lists others n m place at v w s t alike has e f says tell.
      one nodes graph other n m place v w alike (exact_there nodes graph lists n s place at v has says e) (exact_there nodes other others m t place at w has tell f);
}
  where
    some_one : (v w : Value) → Some v ≡ Some w → v ≡ w
    some_one v w e = cc

    one : (nodes : Nodes) (graph other : Graph) (n m place : ℕ) (v w : Value) → AreReachedAlike nodes graph n other m → IsTruthAt nodes graph n place v → IsTruthAt nodes other m place w → v ≡ w
    one nodes graph other n m place v w alike a b =
        let same : a.truth ≡ b.truth = truth_alike nodes graph other n m a.truth b.truth alike a.is b.is in
        some_one v w (sym a.there ∙ ap (λ vs. slice_get (slot_values nodes vs) place) same ∙ b.there)
