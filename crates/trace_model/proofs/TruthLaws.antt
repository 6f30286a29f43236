-- The truth at a step: there is one, and it is what the paths that arrive say.
use Rattle.std.proofs.Common.{◌≡◌, ◌⊎◌, inl, inr, ◌↔◌, ℕ, zero, suc, ◌<◌, List, [], ◌∷◌, length, refl, sym, ap, subst, arith}
use Rattle.context_model.specs.Orders.{Path, IsIn}
use Rattle.bag_model.specs.Shapes.{Nodes, Bag}
use Rattle.bag_model.specs.Values.{Value, Values, Bag, bottoms, AreOfShapes}
use Rattle.bag_model.specs.Joins.{join_values}
use Rattle.bag_model.specs.SlotValues.{only}
use Rattle.bag_model.specs.Tables.{IsTable}
use Rattle.bag_model.specs.Views.{View}
use Rattle.bag_model.specs.Readings.{PathsOf, ReadsEach}
use Rattle.bag_model.specs.Typed.{AreTyped}
use Rattle.bag_model.specs.Encodings.{InLayouts}
use Rattle.bag_model.proofs.PathSets.{Both, AnyOf, HasKeyHeaders}
use Rattle.bag_model.proofs.TypedLaws.{AreTyped-fewer, AreTyped-any}
use Rattle.bag_model.proofs.Unions.{ReadsEach-alike, ReadsEach-union}
use Rattle.bag_model.proofs.Uniqueness.{ReadsEach-unique}
use Rattle.bag_model.proofs.Existence.{typed_lists_say}
use Rattle.bag_model.proofs.OfShape.{AreOfShapes-bottom, AreOfShapes-join, ReadsEach-shapes, ReadsEach-none}
use Rattle.bag_model.proofs.BelowLaws.{below-itself, below-both_ways, below-onwards, below-first, below-second, below-least, below-bottom}
use Rattle.bag_model.proofs.LayoutLaws.{ReadsEach-layout, AreTyped-layout}
use Rattle.bag_model.proofs.MergeReadingLaws.{PathsOf-headers}
use Rattle.bag_model.proofs.EachSlot.{only_fits}
use Rattle.trace_model.specs.Graphs.{Act, Start, Recv, Set, Branch, Forward, Trim, Join, Step, Graph, parents_of, HasStep, view_at, IsActOf, IsRecorded}
use Rattle.trace_model.specs.Truth.{IsReachedBy, Adds, IsAdded, AreValuesBelow, IsTruth, HasOneTruth, join_all, TruthIsJoin, AreReachedAlike}
use Rattle.trace_model.proofs.ReachLaws.{reached_split, reached_joined}
use Rattle.trace_model.proofs.LayoutFronts.{InLayouts-headers}
use Rattle.trace_model.proofs.Telling.{NoPath}
use Rattle.trace_model.proofs.Arrivals.{Carries, Arrives, get_within}

-- ---- the order of the values of a bag

values_of : Value → Values → Values
values_of (Bag vs) ws = vs
values_of v ws = ws

abbrev bag : Values → Value
bag vs = Bag vs

bag_one : (vs ws : Values) → bag vs ≡ bag ws → vs ≡ ws
unfolding values_of
bag_one vs ws e = ap (λ v. values_of v vs) e

module _ (nodes : Nodes) where
  pub values_itself : (vs : Values) → AreOfShapes nodes vs → AreValuesBelow vs vs
  values_itself vs p = bag_one (join_values vs vs) vs (below-itself (Bag nodes) (Bag vs) p)

  pub values_both_ways : (vs ws : Values) → AreOfShapes nodes vs → AreOfShapes nodes ws → AreValuesBelow vs ws → AreValuesBelow ws vs → vs ≡ ws
  values_both_ways vs ws p q f g = bag_one vs ws (below-both_ways (Bag nodes) (Bag vs) (Bag ws) p q (ap bag f) (ap bag g))

  values_onwards : (us vs ws : Values) → AreOfShapes nodes us → AreOfShapes nodes vs → AreOfShapes nodes ws → AreValuesBelow us vs → AreValuesBelow vs ws → AreValuesBelow us ws
  values_onwards us vs ws p q r f g = bag_one (join_values us ws) ws (below-onwards (Bag nodes) (Bag us) (Bag vs) (Bag ws) p q r (ap bag f) (ap bag g))

  values_first : (vs ws : Values) → AreOfShapes nodes vs → AreOfShapes nodes ws → AreValuesBelow vs (join_values vs ws)
  values_first vs ws p q = bag_one (join_values vs (join_values vs ws)) (join_values vs ws) (below-first (Bag nodes) (Bag vs) (Bag ws) p q)

  values_second : (vs ws : Values) → AreOfShapes nodes vs → AreOfShapes nodes ws → AreValuesBelow ws (join_values vs ws)
  values_second vs ws p q = bag_one (join_values ws (join_values vs ws)) (join_values vs ws) (below-second (Bag nodes) (Bag vs) (Bag ws) p q)

  values_least : (us vs ws : Values) → AreOfShapes nodes us → AreOfShapes nodes vs → AreOfShapes nodes ws → AreValuesBelow us ws → AreValuesBelow vs ws → AreValuesBelow (join_values us vs) ws
  values_least us vs ws p q r f g = bag_one (join_values (join_values us vs) ws) ws (below-least (Bag nodes) (Bag us) (Bag vs) (Bag ws) p q r (ap bag f) (ap bag g))

  values_bottom : (vs : Values) → AreOfShapes nodes vs → AreValuesBelow (bottoms nodes) vs
  values_bottom vs p = bag_one (join_values (bottoms nodes) vs) vs (below-bottom (Bag nodes) (Bag vs) p)

  -- The paths P say these values, which are the join of all additions D.
  pub record Sums (P : Path → Type 0) (D : Values → Type 0) (sum : Values) : Type 0 where
    pub headers : HasKeyHeaders P
    pub reads : ReadsEach nodes P [] sum
    pub shapes : (vs : Values) → D vs → AreOfShapes nodes vs
    pub all : (vs : Values) → D vs → AreValuesBelow vs sum
    pub least : (ws : Values) → AreOfShapes nodes ws → ((vs : Values) → D vs → AreValuesBelow vs ws) → AreValuesBelow sum ws

  pub sum_shapes : (P : Path → Type 0) (D : Values → Type 0) (sum : Values) → Sums P D sum → AreOfShapes nodes sum
  sum_shapes P D sum s = ReadsEach-shapes nodes P [] sum s.reads

  -- no addition
  abbrev NoValues : Values → Type 0
  NoValues vs = ⊥

  sums_none : Sums NoPath NoValues (bottoms nodes)
  sums_none = record {
    headers = λ q key a r none. none;
    reads = ReadsEach-none nodes NoPath [] (λ r none. none);
    shapes = λ vs none. absurd none;
    all = λ vs none. absurd none;
    least = λ ws p f. values_bottom ws p;
  }

  sums_one : (P : Path → Type 0) (D : Values → Type 0) (vs : Values) → HasKeyHeaders P → ReadsEach nodes P [] vs → D vs → ((ws : Values) → D ws → ws ≡ vs) → Sums P D vs
  sums_one P D vs h r d one = record {
    headers = h;
    reads = r;
    shapes = λ ws e. subst (AreOfShapes nodes) (sym (one ws e)) shapes;
    all = λ ws e. subst (λ u. AreValuesBelow u vs) (sym (one ws e)) (values_itself vs shapes);
    least = λ ws p f. f vs d;
  }
    where
      shapes : AreOfShapes nodes vs
      shapes = ReadsEach-shapes nodes P [] vs r

  -- the additions of both
  abbrev EitherOf : (Values → Type 0) → (Values → Type 0) → Values → Type 0
  EitherOf D E vs = D vs ⊎ E vs

  sums_both : (P Q : Path → Type 0) (D E : Values → Type 0) (vs ws : Values) → Sums P D vs → Sums Q E ws → Sums (Both P Q) (EitherOf D E) (join_values vs ws)
  sums_both P Q D E vs ws s t = record {
    headers = λ q key a r i. elim i [ inl j ↦ inl (s.headers q key a r j) | inr j ↦ inr (t.headers q key a r j) ];
    reads = ReadsEach-union nodes P Q [] vs ws s.headers t.headers s.reads t.reads;
    shapes = λ us i. elim i [ inl d ↦ s.shapes us d | inr e ↦ t.shapes us e ];
    all = λ us i. elim i [
      | inl d ↦ values_onwards us vs (join_values vs ws) (s.shapes us d) p both (s.all us d) (values_first vs ws p q)
      | inr e ↦ values_onwards us ws (join_values vs ws) (t.shapes us e) q both (t.all us e) (values_second vs ws p q)
    ];
    least = λ us r f. values_least vs ws us p q r (s.least us r (λ x d. f x (inl d))) (t.least us r (λ x e. f x (inr e)));
  }
    where
      p : AreOfShapes nodes vs
      p = sum_shapes P D vs s

      q : AreOfShapes nodes ws
      q = sum_shapes Q E ws t

      both : AreOfShapes nodes (join_values vs ws)
      both = AreOfShapes-join nodes vs ws p q

  sums_same : (P Q : Path → Type 0) (D E : Values → Type 0) (vs : Values) → ((p : Path) → P p ↔ Q p) → ((ws : Values) → D ws ↔ E ws) → Sums P D vs → Sums Q E vs
  sums_same P Q D E vs f g s = record {
    headers = λ q key a r i. (f _).0 (s.headers q key a r ((f _).1 i));
    reads = ReadsEach-alike nodes P Q [] vs ((λ p b bytes i. (f _).0 i), λ p b bytes i. (f _).1 i) s.reads;
    shapes = λ ws e. s.shapes ws ((g ws).1 e);
    all = λ ws e. s.all ws ((g ws).1 e);
    least = λ ws p h. s.least ws p (λ us d. h us ((g us).0 d));
  }

-- ---- what an act brings, and what it adds

-- what a sound act brings says what it adds
pub act_sums : (nodes : Nodes) (view : View) (act : Act) → IsTable nodes → IsActOf nodes view act → (sum : Values) × Sums nodes (λ p. Carries nodes p act) (λ vs. Adds nodes vs act) sum
act_sums nodes view Start table may = (bottoms nodes, sums_none nodes)
act_sums nodes view (Recv received) table may = by (typed_lists_say nodes received may.typed)
  where
    by : (vs : Values) × ReadsEach nodes (PathsOf received) [] vs → (sum : Values) × Sums nodes (PathsOf received) (λ vs. ReadsEach nodes (PathsOf received) [] vs) sum
    by s = (s.0, sums_one nodes (PathsOf received) (λ vs. ReadsEach nodes (PathsOf received) [] vs) s.0 (PathsOf-headers received) s.1 s.1 (λ ws r. ReadsEach-unique nodes (PathsOf received) [] ws s.0 r s.1))
act_sums nodes view (Set parent slot v) table may = (
  only nodes slot v,
  sums_one nodes (InLayouts nodes [] (only nodes slot v)) (λ vs. vs ≡ only nodes slot v) (only nodes slot v) (InLayouts-headers nodes (only nodes slot v))
      (ReadsEach-layout nodes (InLayouts nodes [] (only nodes slot v)) [] (only nodes slot v) table.well_formed ((only_fits).shapes nodes slot may.at v may.there may.shape)
      (λ f i. ((λ p b bytes l. l), λ p b bytes l. l))) refl (λ ws e. e),
)
act_sums nodes view (Branch parent) table may = (bottoms nodes, sums_none nodes)
act_sums nodes view (Forward parent) table may = (bottoms nodes, sums_none nodes)
act_sums nodes view (Trim parent budget) table may = (bottoms nodes, sums_none nodes)
act_sums nodes view (Join parents) table may = (bottoms nodes, sums_none nodes)

pub nothing_typed : (nodes : Nodes) → AreTyped nodes NoPath []
nothing_typed nodes = AreTyped-fewer nodes NoPath (AnyOf none) [] (λ p b bytes i. absurd i) (AreTyped-any nodes ⊥ none [] (λ i. absurd i) (λ i. absurd i))
  where
    none : ⊥ → Path → Type 0
    none i p = ⊥

-- What a sound act brings is typed.
pub act_typed : (nodes : Nodes) (view : View) (act : Act) → IsTable nodes → IsActOf nodes view act → AreTyped nodes (λ p. Carries nodes p act) []
act_typed nodes view Start table may = nothing_typed nodes
act_typed nodes view (Recv received) table may = may.typed
act_typed nodes view (Set parent slot v) table may =
    AreTyped-layout nodes (InLayouts nodes [] (only nodes slot v)) [] (only nodes slot v) table.well_formed ((only_fits).shapes nodes slot may.at v may.there may.shape)
    (λ f i. ((λ p b bytes l. l), λ p b bytes l. l))
act_typed nodes view (Branch parent) table may = nothing_typed nodes
act_typed nodes view (Forward parent) table may = nothing_typed nodes
act_typed nodes view (Trim parent budget) table may = nothing_typed nodes
act_typed nodes view (Join parents) table may = nothing_typed nodes

-- ---- the truth at each step

module _ (nodes : Nodes) (graph : Graph) (recorded : IsRecorded nodes graph) where
  -- what arrives at a step says the join of all that is added on the way
  abbrev SumsAt : ℕ → Type 0
  SumsAt n = (truth : Values) × Sums nodes (Arrives nodes graph n) (IsAdded nodes graph n) truth

  -- one of some steps has the path, or adds the values
  abbrev SomeArrives : List ℕ → Path → Type 0
  SomeArrives parents p = (parent : ℕ) × IsIn parent parents × Arrives nodes graph parent p

  abbrev SomeAdds : List ℕ → Values → Type 0
  SomeAdds parents vs = (parent : ℕ) × IsIn parent parents × IsAdded nodes graph parent vs

  first_or_rest : (T : ℕ → Type 0) (parent : ℕ) (parents : List ℕ) → (T parent ⊎ ((m : ℕ) × IsIn m parents × T m)) ↔ ((m : ℕ) × IsIn m (parent ∷ parents) × T m)
  first_or_rest T parent parents = (
    (λ s. elim s [ inl t ↦ (parent, inl refl, t) | inr d ↦ (d.0, inr d.1, d.2) ]),
    λ s. elim s.1 [ inl e ↦ inl (subst T e s.2) | inr i ↦ inr (s.0, i, s.2) ],
  )

  parents_sum : (parents : List ℕ) → ((parent : ℕ) → IsIn parent parents → SumsAt parent) → (sum : Values) × Sums nodes (SomeArrives parents) (SomeAdds parents) sum
  parents_sum [] f = (
    bottoms nodes,
    sums_same nodes NoPath (SomeArrives []) (NoValues nodes) (SomeAdds []) (bottoms nodes) (λ p. ((λ none. absurd none), λ s. s.1)) (λ vs. ((λ none. absurd none), λ s. s.1)) (sums_none nodes),
  )
  parents_sum (parent ∷ parents) f =
      let s = f parent (inl refl) in
      let t = parents_sum parents (λ m i. f m (inr i)) in (
        join_values s.0 t.0,
        sums_same nodes (Both (Arrives nodes graph parent) (SomeArrives parents)) (SomeArrives (parent ∷ parents)) (EitherOf nodes (IsAdded nodes graph parent) (SomeAdds parents)) (SomeAdds (parent ∷ parents))
            (join_values s.0 t.0) (λ p. first_or_rest (λ m. Arrives nodes graph m p) parent parents) (λ vs. first_or_rest (λ m. IsAdded nodes graph m vs) parent parents)
            (sums_both nodes (Arrives nodes graph parent) (SomeArrives parents) (IsAdded nodes graph parent) (SomeAdds parents) s.0 t.0 s.1 t.1),
      )

  step_sums : (n : ℕ) (step : Step) → HasStep graph n step → ((parent : ℕ) → IsIn parent (parents_of step.act) → SumsAt parent) → SumsAt n
  step_sums n step there f = by (act_sums nodes (view_at graph step.service) step.act recorded.table ((recorded.fits).acts n step there)) (parents_sum (parents_of step.act) f)
    where
      by : (own : Values) × Sums nodes (λ p. Carries nodes p step.act) (λ vs. Adds nodes vs step.act) own
          → (rest : Values) × Sums nodes (SomeArrives (parents_of step.act)) (SomeAdds (parents_of step.act)) rest → SumsAt n
      by s t = (
        join_values s.0 t.0,
        sums_same nodes (Both (λ p. Carries nodes p step.act) (SomeArrives (parents_of step.act))) (Arrives nodes graph n) (EitherOf nodes (λ vs. Adds nodes vs step.act) (SomeAdds (parents_of step.act)))
            (IsAdded nodes graph n) (join_values s.0 t.0)
            (λ p. (reached_joined graph n step there (λ step. Carries nodes p step.act), reached_split graph n step there (λ step. Carries nodes p step.act)))
            (λ vs. (reached_joined graph n step there (λ step. Adds nodes vs step.act), reached_split graph n step there (λ step. Adds nodes vs step.act)))
            (sums_both nodes (λ p. Carries nodes p step.act) (SomeArrives (parents_of step.act)) (λ vs. Adds nodes vs step.act) (SomeAdds (parents_of step.act)) s.0 t.0 s.1 t.1),
      )

  sums_before : (bound n : ℕ) → n < bound → n < length graph.steps → SumsAt n
  sums_before zero n less within = absurd (omega (arith, less))
  sums_before (suc bound) n less within =
      let s = get_within graph.steps n within in
      step_sums n s.0 s.1 (λ parent i.
      let earlier : parent < n = (recorded.sound).earlier n parent s.0 s.1 i in
      sums_before bound parent (omega (arith, earlier, less)) (omega (arith, earlier, within)))

  -- What arrives at a step says the truth there.
  pub arriving_sums : (n : ℕ) → n < length graph.steps → SumsAt n
  arriving_sums n within = sums_before (suc n) n (omega arith) within

  pub sum_is_truth : (n : ℕ) (truth : Values) → Sums nodes (Arrives nodes graph n) (IsAdded nodes graph n) truth → IsTruth nodes graph n truth
  sum_is_truth n truth s = record { shapes = sum_shapes nodes (Arrives nodes graph n) (IsAdded nodes graph n) truth s; all = s.all; least = s.least }

  -- ---- what arrives is typed

  -- what a step that reaches n brings
  abbrev BroughtBy : (n : ℕ) → IsReachedBy graph n (λ (step : Step). Unit {0}) → Path → Type 0
  BroughtBy n r p = Carries nodes p (r.step).act

  pub arriving_typed : (n : ℕ) → AreTyped nodes (Arrives nodes graph n) []
  arriving_typed n =
      AreTyped-fewer nodes (Arrives nodes graph n) (AnyOf (BroughtBy n)) []
      (λ p b bytes a. (record { from = a.from; step = a.step; there = a.there; reaches = a.reaches; does = tt }, a.does))
      (AreTyped-any nodes (IsReachedBy graph n (λ (step : Step). Unit {0})) (BroughtBy n) []
      (λ r. (act_sums nodes (view_at graph (r.step).service) (r.step).act recorded.table ((recorded.fits).acts r.from r.step r.there)).1.headers)
      (λ r below. act_typed nodes (view_at graph (r.step).service) (r.step).act recorded.table ((recorded.fits).acts r.from r.step r.there)))

-- Two steps that are reached alike have one truth.
pub truth_alike : (nodes : Nodes) (graph other : Graph) (n m : ℕ) (a b : Values) → AreReachedAlike nodes graph n other m → IsTruth nodes graph n a → IsTruth nodes other m b → a ≡ b
truth_alike nodes graph other n m a b alike s t =
    values_both_ways nodes a b s.shapes t.shapes (s.least b t.shapes (λ vs d. t.all vs ((alike vs).0 d))) (t.least a s.shapes (λ vs d. s.all vs ((alike vs).1 d)))

pub has_one_truth : HasOneTruth
has_one_truth = record {
  some = λ nodes graph n recorded within. let s = arriving_sums nodes graph recorded n within in (s.0, sum_is_truth nodes graph recorded n s.0 s.1);
  one = λ nodes graph n a b s t. truth_alike nodes graph graph n n a b (λ vs. ((λ d. d), λ d. d)) s t;
}

-- ---- the truth as a join

module _ (nodes : Nodes) where
  all_shapes : (added : List Values) → ((vs : Values) → IsIn vs added → AreOfShapes nodes vs) → AreOfShapes nodes (join_all nodes added)
  all_shapes [] p = AreOfShapes-bottom nodes
  all_shapes (vs ∷ added) p = AreOfShapes-join nodes vs (join_all nodes added) (p vs (inl refl)) (all_shapes added (λ ws i. p ws (inr i)))

  below_all : (added : List Values) → ((vs : Values) → IsIn vs added → AreOfShapes nodes vs) → (vs : Values) → IsIn vs added → AreValuesBelow vs (join_all nodes added)
  below_all [] p vs i = elim i [ ]
  below_all (ws ∷ added) p vs (inl e) = subst (λ u. AreValuesBelow u (join_values ws (join_all nodes added))) (sym e)
      (values_first nodes ws (join_all nodes added) (p ws (inl refl)) (all_shapes added (λ us i. p us (inr i))))
  below_all (ws ∷ added) p vs (inr i) =
      let rest = all_shapes added (λ us j. p us (inr j)) in
      let own = p ws (inl refl) in
      values_onwards nodes vs (join_all nodes added) (join_values ws (join_all nodes added)) (p vs (inr i)) rest (AreOfShapes-join nodes ws (join_all nodes added) own rest)
      (below_all added (λ us j. p us (inr j)) vs i) (values_second nodes ws (join_all nodes added) own rest)

  all_below : (added : List Values) → ((vs : Values) → IsIn vs added → AreOfShapes nodes vs) → (ws : Values) → AreOfShapes nodes ws
      → ((vs : Values) → IsIn vs added → AreValuesBelow vs ws) → AreValuesBelow (join_all nodes added) ws
  all_below [] p ws q f = values_bottom nodes ws q
  all_below (vs ∷ added) p ws q f = values_least nodes vs (join_all nodes added) ws (p vs (inl refl)) (all_shapes added (λ us i. p us (inr i))) q
      (f vs (inl refl)) (all_below added (λ us i. p us (inr i)) ws q (λ us i. f us (inr i)))

pub truth_is_join : TruthIsJoin
truth_is_join nodes graph n truth added recorded t same = truth_alike nodes graph graph n n truth (join_all nodes added) (λ vs. ((λ d. d), λ d. d)) t (record {
  shapes = all_shapes nodes added shapes;
  all = λ vs d. below_all nodes added shapes vs ((same vs).1 d);
  least = λ ws p f. all_below nodes added shapes ws p (λ vs i. f vs ((same vs).0 i));
})
  where
    shapes : (vs : Values) → IsIn vs added → AreOfShapes nodes vs
    shapes vs i =
        let r = (same vs).0 i in
        (act_sums nodes (view_at graph (r.step).service) (r.step).act recorded.table ((recorded.fits).acts r.from r.step r.there)).1.shapes vs r.does
