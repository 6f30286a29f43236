-- The paths that arrive at a step: those of all writes and received lists that reach it.
use Rattle.std.proofs.Common.{◌≡◌, ◌⊎◌, inl, inr, ℕ, zero, suc, ◌<◌, List, [], ◌∷◌, length, map, Some, true, false, Bool, refl, sym, subst, arith}
use Rattle.std.specs.List.{slice_get}
use Rattle.context_model.specs.declared.Form.{Form}
use Rattle.context_model.specs.Atoms.{Atom}
use Rattle.context_model.specs.Orders.{Path, IsIn}
use Rattle.context_model.specs.Framing.{size_of}
use Rattle.context_model.specs.Ended.{HasMarker}
use Rattle.context_model.specs.Trimmed.{trimmed}
use Rattle.context_model.specs.Merged.{SomeHasPath, IsMerged}
use Rattle.context_model.proofs.MergedLaws.{SomeHasPath-list, SomeHasPath-of}
use Rattle.bag_model.specs.Shapes.{Nodes}
use Rattle.bag_model.specs.Values.{Value}
use Rattle.bag_model.specs.SlotValues.{only}
use Rattle.bag_model.specs.Tables.{IsTable}
use Rattle.bag_model.specs.Views.{View}
use Rattle.bag_model.specs.Readings.{PathsOf}
use Rattle.bag_model.specs.Encodings.{InLayouts}
use Rattle.bag_model.proofs.PathSets.{AnyOf}
use Rattle.bag_model.proofs.SlotsBelow.{in_map}
use Rattle.trace_model.specs.Graphs.{Act, Start, Recv, Set, Branch, Forward, Trim, Join, Step, Graph, parents_of, HasStep, view_at, IsActOf, IsRecorded, form_at}
use Rattle.trace_model.specs.Runs.{list_at, parents_lists, Gives, IsRun}
use Rattle.trace_model.specs.Truth.{IsReachedBy, Cuts, WasCut, CutsIn}
use Rattle.trace_model.proofs.ReachLaws.{reached_split, reached_joined}
use Rattle.trace_model.proofs.SlotParts.{map_in}
use Rattle.trace_model.proofs.Telling.{Tells, NoPath, PathsOfEach, Tells-received, Tells-empty, Tells-encoded, Tells-same, Tells-union, Tells-normal, Tells-trimmed}

-- An act brings the path: a write the layout of its value, and a received list its own paths.
abbrev pub Carries : Nodes → Path → Act → Type 0
Carries nodes p Start = ⊥
Carries nodes p (Recv received) = PathsOf received p
Carries nodes p (Set parent slot v) = InLayouts nodes [] (only nodes slot v) p
Carries nodes p (Branch parent) = ⊥
Carries nodes p (Forward parent) = ⊥
Carries nodes p (Trim parent budget) = ⊥
Carries nodes p (Join parents) = ⊥

-- A step that reaches n brings the path.
abbrev pub Arrives : Nodes → Graph → ℕ → Path → Type 0
Arrives nodes graph n p = IsReachedBy graph n (λ step. Carries nodes p step.act)

-- ---- places of lists

pub get_within : {A : Type 0} (xs : List A) (n : ℕ) → n < length xs → (x : A) × (slice_get xs n ≡ Some x)
get_within [] n l = absurd (omega (arith, l))
get_within (x ∷ xs) zero l = (x, refl)
get_within (x ∷ xs) (suc n) l = get_within xs n (omega (arith, l))

pub within_get : {A : Type 0} (xs : List A) (n : ℕ) (x : A) → slice_get xs n ≡ Some x → n < length xs
within_get [] n x e = absurd (cc e)
within_get (y ∷ xs) zero x e = omega arith
within_get (y ∷ xs) (suc n) x e = let l = within_get xs n x e in omega (arith, l)

-- ---- what an act gives tells of what it brings and of what its parents tell of

abbrev two_lists : List Atom → List Atom → Bool → List Atom
two_lists a b true = a
two_lists a b false = b

abbrev two_sets : (Path → Type 0) → (Path → Type 0) → Bool → Path → Type 0
two_sets P Q true = P
two_sets P Q false = Q

abbrev two_facts : Type 0 → Type 0 → Bool → Type 0
two_facts C D true = C
two_facts C D false = D

-- something holds of a parent
abbrev OfParent : (ℕ → Type 0) → Act → Type 0
OfParent T act = (parent : ℕ) × IsIn parent (parents_of act) × T parent

of_one : (T : ℕ → Type 0) (parent : ℕ) → (m : ℕ) × IsIn m (parent ∷ []) × T m → T parent
of_one T parent s = elim s.1 [ inl e ↦ subst T e s.2 | inr none ↦ elim none [ ] ]

module _ (nodes : Nodes) (table : IsTable nodes) (form : Form) (lists : List (List Atom)) (A : ℕ → Path → Type 0) (C : ℕ → Type 0) where
  abbrev Told : Act → Path → Type 0
  Told act p = Carries nodes p act ⊎ OfParent (λ parent. A parent p) act

  abbrev CutThere : Act → Type 0
  CutThere act = CutsIn form lists act ⊎ OfParent C act

  -- the parent's list itself, or its normal form
  tells_parent : (act : Act) (parent : ℕ) (list : List Atom) → (parents_of act ≡ parent ∷ []) → ((p : Path) → Carries nodes p act → ⊥) → (CutsIn form lists act → ⊥)
      → Tells nodes list (A parent) (C parent) → Tells nodes list (Told act) (CutThere act)
  tells_parent act parent list one none uncut t = Tells-same nodes list (A parent) (Told act) (C parent) (CutThere act)
      (λ p. ((λ a. inr (parent, here, a)), λ s. elim s [ inl c ↦ absurd (none p c) | inr d ↦ back (λ m. A m p) d ]))
      ((λ c. inr (parent, here, c)), λ s. elim s [ inl c ↦ absurd (uncut c) | inr d ↦ back C d ]) t
    where
      here : IsIn parent (parents_of act)
      here = subst (IsIn parent) (sym one) (inl refl)

      back : (T : ℕ → Type 0) → OfParent T act → T parent
      back T d = of_one T parent (d.0, subst (IsIn d.0) one d.1, d.2)

  -- what a write's two lists tell of
  abbrev write_sets : ℕ → ℕ → Value → Bool → Path → Type 0
  write_sets parent slot v = two_sets (A parent) (InLayouts nodes [] (only nodes slot v))

  abbrev write_facts : ℕ → Bool → Type 0
  write_facts parent = two_facts (C parent) ⊥

  tells_write : (parent slot : ℕ) (v : Value) (written merged : List Atom) → IsMerged (list_at lists parent ∷ written ∷ []) merged
      → Tells nodes (list_at lists parent) (A parent) (C parent) → Tells nodes written (InLayouts nodes [] (only nodes slot v)) ⊥
      → Tells nodes merged (Told (Set parent slot v)) (CutThere (Set parent slot v))
  tells_write parent slot v written merged m t u = Tells-same nodes merged (AnyOf (write_sets parent slot v)) (Told (Set parent slot v)) ((i : Bool) × write_facts parent i) (CutThere (Set parent slot v))
      (λ p. ((λ s. told p s.0 s.1), λ s. any p s)) ((λ s. cut s.0 s.1), λ s. some s)
      (Tells-union nodes Bool (two_lists (list_at lists parent) written) (write_sets parent slot v) (write_facts parent) merged m.well_formed (λ p. ((λ i. there p ((m.exact p).0 i)), λ s. (m.exact p).1 (back p s.0 s.1))) each)
    where
      each : (i : Bool) → Tells nodes (two_lists (list_at lists parent) written i) (write_sets parent slot v i) (write_facts parent i)
      each true = t
      each false = u

      there : (p : Path) → SomeHasPath (list_at lists parent ∷ written ∷ []) p → AnyOf (PathsOfEach (two_lists (list_at lists parent) written)) p
      there p (inl i) = (true, i)
      there p (inr (inl i)) = (false, i)
      there p (inr (inr none)) = elim none [ ]

      back : (p : Path) (i : Bool) → PathsOf (two_lists (list_at lists parent) written i) p → SomeHasPath (list_at lists parent ∷ written ∷ []) p
      back p true i = inl i
      back p false i = inr (inl i)

      told : (p : Path) (i : Bool) → write_sets parent slot v i p → Told (Set parent slot v) p
      told p true a = inr (parent, inl refl, a)
      told p false a = inl a

      any : (p : Path) → Told (Set parent slot v) p → AnyOf (write_sets parent slot v) p
      any p (inl a) = (false, a)
      any p (inr s) = (true, of_one (λ m. A m p) parent s)

      cut : (i : Bool) → write_facts parent i → CutThere (Set parent slot v)
      cut true c = inr (parent, inl refl, c)
      cut false none = absurd none

      some : CutThere (Set parent slot v) → (i : Bool) × write_facts parent i
      some (inl none) = absurd none
      some (inr s) = (true, of_one C parent s)

  -- one of the parents of a join, its list, and the paths that it tells of
  abbrev OneOf : List ℕ → Type 0
  OneOf parents = (parent : ℕ) × IsIn parent parents

  abbrev given : (parents : List ℕ) → OneOf parents → List Atom
  given parents i = list_at lists i.0

  abbrev join_sets : (parents : List ℕ) → OneOf parents → Path → Type 0
  join_sets parents i = A i.0

  tells_join : (parents : List ℕ) (merged : List Atom) → IsMerged (map (list_at lists) parents) merged
      → ((parent : ℕ) → IsIn parent parents → Tells nodes (list_at lists parent) (A parent) (C parent)) → Tells nodes merged (Told (Join parents)) (CutThere (Join parents))
  tells_join parents merged m t = Tells-same nodes merged (AnyOf (join_sets parents)) (Told (Join parents)) ((i : OneOf parents) × C i.0) (CutThere (Join parents))
      (λ p. ((λ s. inr (s.0.0, s.0.1, s.1)), λ s. any p s)) ((λ s. inr (s.0.0, s.0.1, s.1)), λ s. some s)
      (Tells-union nodes (OneOf parents) (given parents) (join_sets parents) (λ i. C i.0) merged m.well_formed (λ p. ((λ i. there p ((m.exact p).0 i)), λ s. (m.exact p).1 (back p s.0 s.1))) (λ i. t i.0 i.1))
    where
      there : (p : Path) → SomeHasPath (map (list_at lists) parents) p → AnyOf (PathsOfEach (given parents)) p
      there p s =
          let l = SomeHasPath-list (map (list_at lists) parents) p s in
          let i = in_map (list_at lists) parents l.0 l.1 in
          ((i.0, i.1), subst (λ x. PathsOf x p) i.2 l.2)

      back : (p : Path) (i : OneOf parents) → PathsOf (given parents i) p → SomeHasPath (map (list_at lists) parents) p
      back p i j = SomeHasPath-of (map (list_at lists) parents) (given parents i) p (map_in (list_at lists) parents i.0 i.1) j

      any : (p : Path) → Told (Join parents) p → AnyOf (join_sets parents) p
      any p (inl none) = absurd none
      any p (inr s) = ((s.0, s.1), s.2)

      some : CutThere (Join parents) → (i : OneOf parents) × C i.0
      some (inl none) = absurd none
      some (inr s) = ((s.0, s.1), s.2)

  -- What an act gives.
  act_tells : (view : View) (act : Act) (list : List Atom) → IsActOf nodes view act → Gives nodes form view act (parents_lists lists act) list
      → ((parent : ℕ) → IsIn parent (parents_of act) → Tells nodes (list_at lists parent) (A parent) (C parent)) → Tells nodes list (Told act) (CutThere act)
  act_tells view Start list may g t = subst (λ l. Tells nodes l (Told Start) (CutThere Start)) (sym g) (Tells-same nodes [] NoPath (Told Start) ⊥ (CutThere Start)
      (λ p. ((λ none. absurd none), λ s. elim s [ inl none ↦ none | inr d ↦ d.1 ])) ((λ none. absurd none), λ s. elim s [ inl none ↦ none | inr d ↦ d.1 ]) (Tells-empty nodes))
  act_tells view (Recv received) list may g t = Tells-same nodes list (PathsOf received) (Told (Recv received)) (HasMarker received) (CutThere (Recv received))
      (λ p. ((λ i. inl i), λ s. elim s [ inl i ↦ i | inr d ↦ absurd d.1 ])) ((λ m. inl m), λ s. elim s [ inl m ↦ m | inr d ↦ absurd d.1 ])
      (Tells-normal nodes view received list (PathsOf received) (HasMarker received) table g (Tells-received nodes received may.well_formed))
  act_tells view (Set parent slot v) list may g t = Tells-normal nodes view (g.normal).merged list (Told (Set parent slot v)) (CutThere (Set parent slot v)) table (g.normal).normal
      (tells_write parent slot v g.written (g.normal).merged (g.normal).merge (t parent (inl refl)) (Tells-encoded nodes (only nodes slot v) g.written g.encoding))
  act_tells view (Branch parent) list may g t = tells_parent (Branch parent) parent list refl (λ p none. none) (λ none. none) (subst (λ l. Tells nodes l (A parent) (C parent)) (sym g) (t parent (inl refl)))
  act_tells view (Forward parent) list may g t =
      tells_parent (Forward parent) parent list refl (λ p none. none) (λ none. none) (Tells-normal nodes view (list_at lists parent) list (A parent) (C parent) table g (t parent (inl refl)))
  act_tells view (Trim parent budget) list may g t = subst (λ l. Tells nodes l (Told (Trim parent budget)) (CutThere (Trim parent budget))) (sym g)
      (Tells-same nodes (trimmed form (list_at lists parent) budget) (A parent) (Told (Trim parent budget)) ((budget < size_of form (list_at lists parent)) ⊎ C parent) (CutThere (Trim parent budget))
      (λ p. ((λ a. inr (parent, inl refl, a)), λ s. elim s [ inl none ↦ absurd none | inr d ↦ of_one (λ m. A m p) parent d ]))
      ((λ s. elim s [ inl over ↦ inl over | inr c ↦ inr (parent, inl refl, c) ]), λ s. elim s [ inl over ↦ inl over | inr d ↦ inr (of_one C parent d) ])
      (Tells-trimmed nodes form (list_at lists parent) budget (A parent) (C parent) (t parent (inl refl))))
  act_tells view (Join parents) list may g t =
      Tells-normal nodes view g.merged list (Told (Join parents)) (CutThere (Join parents)) table g.normal (tells_join parents g.merged g.merge t)

-- ---- the lists of a run

module _ (nodes : Nodes) (graph : Graph) (lists : List (List Atom)) (recorded : IsRecorded nodes graph) (run : IsRun nodes graph lists) where
  -- a list of a run tells of all that arrives at its step
  abbrev TellsAt : ℕ → Type 0
  TellsAt n = Tells nodes (list_at lists n) (Arrives nodes graph n) (WasCut graph lists n)

  step_tells : (n : ℕ) (step : Step) → HasStep graph n step → ((parent : ℕ) → IsIn parent (parents_of step.act) → TellsAt parent) → TellsAt n
  step_tells n step there t = Tells-same nodes (list_at lists n) (Told nodes recorded.table (form_at graph step.service) lists (Arrives nodes graph) (WasCut graph lists) step.act) (Arrives nodes graph n)
      (CutThere nodes recorded.table (form_at graph step.service) lists (Arrives nodes graph) (WasCut graph lists) step.act) (WasCut graph lists n)
      (λ p. (reached_joined graph n step there (λ step. Carries nodes p step.act), reached_split graph n step there (λ step. Carries nodes p step.act)))
      (reached_joined graph n step there (Cuts graph lists), reached_split graph n step there (Cuts graph lists))
      (act_tells nodes recorded.table (form_at graph step.service) lists (Arrives nodes graph) (WasCut graph lists) (view_at graph step.service) step.act (list_at lists n)
      ((recorded.fits).acts n step there) (run.each n step (within_get graph.steps n step there) there) t)

  tells_before : (bound n : ℕ) → n < bound → n < length graph.steps → TellsAt n
  tells_before zero n less within = absurd (omega (arith, less))
  tells_before (suc bound) n less within =
      let s = get_within graph.steps n within in
      step_tells n s.0 s.1 (λ parent i.
      let earlier : parent < n = (recorded.sound).earlier n parent s.0 s.1 i in
      tells_before bound parent (omega (arith, earlier, less)) (omega (arith, earlier, within)))

  -- The list of each step tells of all that arrives there.
  pub run_tells : (n : ℕ) → n < length graph.steps → TellsAt n
  run_tells n within = tells_before (suc n) n (omega arith) within
