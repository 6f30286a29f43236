-- The common paths of two fields as a list, by recursion over the old one.
use Rattle.std.proofs.Common.{◌≡◌, ◌≢◌, inl, inr, ◌↔◌, ℕ, ◌+◌, ◌<◌, ◌≤◌, if◌then◌else◌, Bool, true, false, List, [], ◌∷◌, ◌++◌, length, map, Some, None, Less, nat_cmp, refl, sym, ap, ap₂, ◌∙◌, subst, arith, eqb, eqb-true, eq-eqb, length-append}
use Rattle.std.specs.List.{slice_get}
use Rattle.std.specs.Ordering.{ordering_then}
use Rattle.std.specs.Cmp.{nat_cmp_is, tied_itself}
use Rattle.std.specs.Cmp.Lexicographic.{slice_cmp}
use Rattle.std.proofs.lemmas.Cmp.{nat_cmp_total}
use Rattle.std.proofs.lemmas.List.{length-map}
use Rattle.context_model.specs.Orders.{IsIn, Rises}
use Rattle.context_model.proofs.GreedyElements.{All-at}
use Rattle.bag_model.specs.Shapes.{Shape, Nodes, Field, Taint, Scalar, Set, Counter, Map, Bag, no_node, node, fields}
use Rattle.bag_model.specs.Slots.{SlotAt, slots_in, slots_of, within}
use Rattle.bag_model.specs.Tables.{IsShape, AreFields, nodes_under, node_count}
use Rattle.bag_model.proofs.Finite.{in_append, in_append_first, in_append_second}
use Rattle.bag_model.proofs.SlotsBelow.{in_map}
use Rattle.field_table.specs.Tables.{FindsNumber}
use Rattle.trace_model.proofs.SlotParts.{map_in}
use Rattle.def_evolve.specs.Common.{IsSlotPath, AreCommonPaths, IsCommonCount}
use Rattle.def_evolve.proofs.CommonSlots.{slot_of}
use Rattle.def_evolve.proofs.FieldPlaces.{nodes_from_place, node_there, nodes_end, none_numbered, get_in}
use Rattle.def_evolve.proofs.OneVerdict.{one_count, field_ok}
use Rattle.def_evolve.proofs.RisingLists.{rises_append}

-- ---- the list

-- The paths after the field with this number, where some field has it.
abbrev pub at_number : (Shape → List (List ℕ)) → ℕ → List Field → List (List ℕ)
at_number paths number [] = []
at_number paths number (field ∷ list) = if eqb field.number number then map (λ p. number ∷ p) (paths field.shape) else at_number paths number list

-- The paths inside a bag, and none inside what is no bag.
abbrev in_bag : (Nodes → List (List ℕ)) → Shape → List (List ℕ)
in_bag paths (Bag others) = paths others
in_bag paths other = []

-- The empty path of what is no bag.
abbrev own_path : Shape → List (List ℕ)
own_path (Bag others) = []
own_path other = [] ∷ []

abbrev mutual
  pub common_in : Shape → Shape → List (List ℕ)
  common_in Taint new = own_path new
  common_in (Scalar pick kind) new = own_path new
  common_in (Set kind) new = own_path new
  common_in Counter new = own_path new
  common_in (Map key shape) new = own_path new
  common_in (Bag nodes) new = in_bag (common_of nodes) new

  pub common_of : Nodes → Nodes → List (List ℕ)
  common_of no_node others = []
  common_of (node name number shape nodes) others = at_number (common_in shape) number (fields others) ++ common_of nodes others

-- ---- slots by numbers

-- A path of a bag's slot, by the field that it leads through.
pub record IsPathOf (nodes : Nodes) (numbers : List ℕ) : Type 0 where
  pub field : Field
  pub there : IsIn field (fields nodes)
  pub rest : List ℕ
  pub inside : IsSlotPath field.shape rest
  pub is : field.number ∷ rest ≡ numbers

path_of : (nodes : Nodes) (numbers : List ℕ) → IsSlotPath (Bag nodes) numbers → IsPathOf nodes numbers
path_of nodes numbers s =
    let o = slot_of nodes s.0 s.1 in
    record { field = o.field; there = o.there; rest = (o.inner).numbers; inside = (o.inner, o.inside, refl); is = sym o.numbers ∙ s.2 }

path_back : (nodes : Nodes) (f : Field) (rest : List ℕ) → IsIn f (fields nodes) → IsSlotPath f.shape rest → IsSlotPath (Bag nodes) (f.number ∷ rest)
path_back no_node f rest i s = elim i [ ]
path_back (node name number shape nodes) f rest (inl e) s =
    let own : Field = record { name = name; number = number; shape = shape } in
    subst (λ n. IsSlotPath (Bag (node name number shape nodes)) (n ∷ rest)) (sym (ap (λ (g : Field). g.number) e)) (here (subst (λ (g : Field). IsSlotPath g.shape rest) e s))
  where
    here : IsSlotPath shape rest → IsSlotPath (Bag (node name number shape nodes)) (number ∷ rest)
    here t = (within name number t.0, in_append_first (within name number t.0) (map (within name number) (slots_in shape)) (slots_of nodes) (map_in (within name number) (slots_in shape) t.0 t.1), ap (λ l. number ∷ l) t.2)
path_back (node name number shape nodes) f rest (inr i) s =
    let t = path_back nodes f rest i s in
    (t.0, in_append_second t.0 (map (within name number) (slots_in shape)) (slots_of nodes) t.1, t.2)

-- ---- each common path is in the list, and nothing else

-- Both lead to slots.
abbrev AreBoth : Shape → Shape → List ℕ → Type 0
AreBoth old new numbers = IsSlotPath old numbers × IsSlotPath new numbers

own_there : (own : Shape) (numbers : List ℕ) → numbers ≡ [] → (at : SlotAt) × IsIn at (record { names = []; numbers = []; shape = own } ∷ []) × (at.numbers ≡ numbers)
own_there own numbers e = (record { names = []; numbers = []; shape = own }, inl refl, sym e)

own_back : (own : Shape) (numbers : List ℕ) → (at : SlotAt) × IsIn at (record { names = []; numbers = []; shape = own } ∷ []) × (at.numbers ≡ numbers) → numbers ≡ []
own_back own numbers (at, inl e, f) = sym f ∙ ap (λ (s : SlotAt). s.numbers) e
own_back own numbers (at, inr none, f) = absurd none

abbrev IsLeaf : Shape → Type 0
IsLeaf own = slots_in own ≡ record { names = []; numbers = []; shape = own } ∷ []

leaf_path : (own : Shape) (numbers : List ℕ) → IsLeaf own → IsSlotPath own numbers ↔ (numbers ≡ [])
leaf_path own numbers leaf = (
  (λ s. own_back own numbers (subst (λ l. (at : SlotAt) × IsIn at l × (at.numbers ≡ numbers)) leaf s)),
  λ e. subst (λ l. (at : SlotAt) × IsIn at l × (at.numbers ≡ numbers)) (sym leaf) (own_there own numbers e),
)

both_leaves : (own new : Shape) (numbers : List ℕ) → IsLeaf own → IsLeaf new → IsIn numbers ([] ∷ []) ↔ AreBoth own new numbers
both_leaves own new numbers e f = (
  (λ i. elim i [ inl s ↦ ((leaf_path own numbers e).1 s, (leaf_path new numbers f).1 s) | inr none ↦ absurd none ]),
  λ b. inl ((leaf_path own numbers e).0 b.0),
)

no_empty_path : (nodes : Nodes) (numbers : List ℕ) → IsSlotPath (Bag nodes) numbers → numbers ≡ [] → ⊥
no_empty_path nodes numbers s e = let p = path_of nodes numbers s in let bad : p.field.number ∷ p.rest ≡ [] = p.is ∙ e in cc

each_own : (own new : Shape) (numbers : List ℕ) → IsLeaf own → IsIn numbers (own_path new) ↔ AreBoth own new numbers
each_own own (Bag others) numbers e = ((λ none. elim none [ ]), λ b. absurd (no_empty_path others numbers b.1 ((leaf_path own numbers e).0 b.0)))
each_own own Taint numbers e = both_leaves own Taint numbers e refl
each_own own (Scalar pick kind) numbers e = both_leaves own (Scalar pick kind) numbers e refl
each_own own (Set kind) numbers e = both_leaves own (Set kind) numbers e refl
each_own own Counter numbers e = both_leaves own Counter numbers e refl
each_own own (Map key shape) numbers e = both_leaves own (Map key shape) numbers e refl

bag_and_leaf : (nodes : Nodes) (new : Shape) (numbers : List ℕ) → IsLeaf new → IsIn numbers [] ↔ AreBoth (Bag nodes) new numbers
bag_and_leaf nodes new numbers e = ((λ none. elim none [ ]), λ b. absurd (no_empty_path nodes numbers b.0 ((leaf_path new numbers e).0 b.1)))

-- a path after the field with a number
record IsBehind (paths : Shape → List (List ℕ)) (number : ℕ) (list : List Field) (numbers : List ℕ) : Type 0 where
  field : Field
  there : IsIn field list
  numbered : field.number ≡ number
  rest : List ℕ
  inside : IsIn rest (paths field.shape)
  is : numbers ≡ number ∷ rest

at_number_there : (paths : Shape → List (List ℕ)) (number : ℕ) (list : List Field) (numbers : List ℕ) → IsIn numbers (at_number paths number list) → IsBehind paths number list numbers
at_number_there paths number [] numbers i = elim i [ ]
at_number_there paths number (field ∷ list) numbers i = by (eqb field.number number) refl i (λ j. at_number_there paths number list numbers j)
  where
    by : (t : Bool) → eqb field.number number ≡ t → IsIn numbers (if t then map (λ p. number ∷ p) (paths field.shape) else at_number paths number list)
        → (IsIn numbers (at_number paths number list) → IsBehind paths number list numbers) → IsBehind paths number (field ∷ list) numbers
    by true e j rest =
        let s = in_map (λ p. number ∷ p) (paths field.shape) numbers j in
        record { field = field; there = inl refl; numbered = eqb-true field.number number e; rest = s.0; inside = s.1; is = s.2 }
    by false e j rest =
        let s = rest j in
        record { field = s.field; there = inr s.there; numbered = s.numbered; rest = s.rest; inside = s.inside; is = s.is }

at_number_is : (paths : Shape → List (List ℕ)) (number : ℕ) (others : Nodes) (g : Field) → AreFields others → IsIn g (fields others) → g.number ≡ number
    → at_number paths number (fields others) ≡ map (λ p. number ∷ p) (paths g.shape)
at_number_is paths number no_node g ok i e = elim i [ ]
at_number_is paths number (node name own shape others) g ok (inl s) e =
    let same : own ≡ number = sym (ap (λ (f : Field). f.number) s) ∙ e in
    rw (eq-eqb own number same) (ap (λ (f : Field). map (λ p. number ∷ p) (paths f.shape)) (sym s))
at_number_is paths number (node name own shape others) g ok (inr i) e = by (eqb own number) refl (at_number_is paths number others g ok.4 i e)
  where
    less : own < g.number
    less = (All-at (λ (other : Field). (own < other.number) × (name ≢ other.name)) (fields others) g ok.3 i).0

    by : (t : Bool) → eqb own number ≡ t → at_number paths number (fields others) ≡ map (λ p. number ∷ p) (paths g.shape)
        → (if t then map (λ p. number ∷ p) (paths shape) else at_number paths number (fields others)) ≡ map (λ p. number ∷ p) (paths g.shape)
    by true f rest = let same : own ≡ number = eqb-true own number f in absurd (omega (arith, less, e, same))
    by false f rest = rest

at_number_none : (paths : Shape → List (List ℕ)) (number : ℕ) (list : List Field) → ((g : Field) → IsIn g list → g.number ≢ number) → at_number paths number list ≡ []
at_number_none paths number [] none = refl
at_number_none paths number (field ∷ list) none = by (eqb field.number number) refl (at_number_none paths number list (λ g i. none g (inr i)))
  where
    by : (t : Bool) → eqb field.number number ≡ t → at_number paths number list ≡ [] → (if t then map (λ p. number ∷ p) (paths field.shape) else at_number paths number list) ≡ []
    by true e rest = absurd (none field (inl refl) (eqb-true field.number number e))
    by false e rest = rest

mutual
  pub each_in : (old new : Shape) (numbers : List ℕ) → IsShape new → IsIn numbers (common_in old new) ↔ AreBoth old new numbers
  each_in Taint new numbers ok = each_own Taint new numbers refl
  each_in (Scalar pick kind) new numbers ok = each_own (Scalar pick kind) new numbers refl
  each_in (Set kind) new numbers ok = each_own (Set kind) new numbers refl
  each_in Counter new numbers ok = each_own Counter new numbers refl
  each_in (Map key shape) new numbers ok = each_own (Map key shape) new numbers refl
  each_in (Bag nodes) (Bag others) numbers ok = each_of nodes others numbers ok
  each_in (Bag nodes) Taint numbers ok = bag_and_leaf nodes Taint numbers refl
  each_in (Bag nodes) (Scalar pick kind) numbers ok = bag_and_leaf nodes (Scalar pick kind) numbers refl
  each_in (Bag nodes) (Set kind) numbers ok = bag_and_leaf nodes (Set kind) numbers refl
  each_in (Bag nodes) Counter numbers ok = bag_and_leaf nodes Counter numbers refl
  each_in (Bag nodes) (Map key shape) numbers ok = bag_and_leaf nodes (Map key shape) numbers refl

  pub each_of : (nodes others : Nodes) (numbers : List ℕ) → AreFields others → IsIn numbers (common_of nodes others) ↔ AreBoth (Bag nodes) (Bag others) numbers
  each_of no_node others numbers ok = ((λ none. elim none [ ]), λ b. elim (path_of no_node numbers b.0).there [ ])
  each_of (node name number shape nodes) others numbers ok = (
    (λ i. elim (in_append numbers (at_number (common_in shape) number (fields others)) (common_of nodes others) i) [
      | inl j ↦
          let b = at_number_there (common_in shape) number (fields others) numbers j in
          let s = (each_in shape b.field.shape b.rest (field_ok others b.field ok b.there).1).0 b.inside in (
            subst (IsSlotPath (Bag (node name number shape nodes))) (sym b.is) (path_back (node name number shape nodes) (record { name = name; number = number; shape = shape }) b.rest (inl refl) s.0),
            subst (IsSlotPath (Bag others)) (ap (λ n. n ∷ b.rest) b.numbered ∙ sym b.is) (path_back others b.field b.rest b.there s.1),
          )
      | inr j ↦ let s = (each_of nodes others numbers ok).0 j in ((s.0.0, in_append_second s.0.0 (map (within name number) (slots_in shape)) (slots_of nodes) s.0.1, s.0.2), s.1)
    ]),
    λ b.
        let p = path_of (node name number shape nodes) numbers b.0 in
        elim p.there [
          | inl e ↦
              let q = path_of others numbers b.1 in
              let own : p.field.number ≡ number = ap (λ (f : Field). f.number) e in
              let heads : q.field.number ∷ q.rest ≡ p.field.number ∷ p.rest = q.is ∙ sym p.is in
              let one : q.field.number ≡ number = (let h : q.field.number ≡ p.field.number = cc heads in h) ∙ own in
              let rests : q.rest ≡ p.rest = cc heads in
              let inside : IsIn p.rest (common_in shape q.field.shape) =
              (each_in shape q.field.shape p.rest (field_ok others q.field ok q.there).1).1 (subst (λ (f : Field). IsSlotPath f.shape p.rest) e p.inside, subst (IsSlotPath q.field.shape) rests q.inside) in
              in_append_first numbers (at_number (common_in shape) number (fields others)) (common_of nodes others)
              (subst (IsIn numbers) (sym (at_number_is (common_in shape) number others q.field ok q.there one))
              (subst (λ l. IsIn l (map (λ r. number ∷ r) (common_in shape q.field.shape))) (ap (λ n. n ∷ p.rest) (sym own) ∙ p.is) (map_in (λ r. number ∷ r) (common_in shape q.field.shape) p.rest inside)))
          | inr i ↦ in_append_second numbers (at_number (common_in shape) number (fields others)) (common_of nodes others)
              ((each_of nodes others numbers ok).1 (subst (IsSlotPath (Bag nodes)) p.is (path_back nodes p.field p.rest i p.inside), b.1))
        ],
  )

-- ---- they rise

rises_behind : (number : ℕ) (xs : List (List ℕ)) → Rises (slice_cmp nat_cmp) xs → Rises (slice_cmp nat_cmp) (map (λ p. number ∷ p) xs)
rises_behind number [] r = tt
rises_behind number (x ∷ []) r = tt
rises_behind number (x ∷ y ∷ xs) r = (ap (λ o. ordering_then o (slice_cmp nat_cmp x y)) (tied_itself nat_cmp_total number) ∙ r.0, rises_behind number (y ∷ xs) r.1)

rises_own : (new : Shape) → Rises (slice_cmp nat_cmp) (own_path new)
rises_own (Bag others) = tt
rises_own Taint = tt
rises_own (Scalar pick kind) = tt
rises_own (Set kind) = tt
rises_own Counter = tt
rises_own (Map key shape) = tt

at_number_rises : (paths : Shape → List (List ℕ)) (number : ℕ) (list : List Field) → ((g : Field) → IsIn g list → Rises (slice_cmp nat_cmp) (paths g.shape)) → Rises (slice_cmp nat_cmp) (at_number paths number list)
at_number_rises paths number [] f = tt
at_number_rises paths number (field ∷ list) f = by (eqb field.number number) (at_number_rises paths number list (λ g i. f g (inr i)))
  where
    by : (t : Bool) → Rises (slice_cmp nat_cmp) (at_number paths number list) → Rises (slice_cmp nat_cmp) (if t then map (λ p. number ∷ p) (paths field.shape) else at_number paths number list)
    by true rest = rises_behind number (paths field.shape) (f field (inl refl))
    by false rest = rest

mutual
  rises_in : (old new : Shape) → IsShape old → IsShape new → Rises (slice_cmp nat_cmp) (common_in old new)
  rises_in Taint new ok also = rises_own new
  rises_in (Scalar pick kind) new ok also = rises_own new
  rises_in (Set kind) new ok also = rises_own new
  rises_in Counter new ok also = rises_own new
  rises_in (Map key shape) new ok also = rises_own new
  rises_in (Bag nodes) (Bag others) ok also = rises_of nodes others ok also
  rises_in (Bag nodes) Taint ok also = tt
  rises_in (Bag nodes) (Scalar pick kind) ok also = tt
  rises_in (Bag nodes) (Set kind) ok also = tt
  rises_in (Bag nodes) Counter ok also = tt
  rises_in (Bag nodes) (Map key shape) ok also = tt

  rises_of : (nodes others : Nodes) → AreFields nodes → AreFields others → Rises (slice_cmp nat_cmp) (common_of nodes others)
  rises_of no_node others ok also = tt
  rises_of (node name number shape nodes) others ok also =
      rises_append (slice_cmp nat_cmp) (at_number (common_in shape) number (fields others)) (common_of nodes others)
      (at_number_rises (common_in shape) number (fields others) (λ g i. rises_in shape g.shape ok.2 (field_ok others g also i).1)) (rises_of nodes others ok.4 also) before
    where
      before : (x y : List ℕ) → IsIn x (at_number (common_in shape) number (fields others)) → IsIn y (common_of nodes others) → slice_cmp nat_cmp x y ≡ Less
      before x y i j =
          let b = at_number_there (common_in shape) number (fields others) x i in
          let p = path_of nodes y ((each_of nodes others y also).0 j).0 in
          let less : number < p.field.number = (All-at (λ (other : Field). (number < other.number) × (name ≢ other.name)) (fields nodes) p.field ok.3 p.there).0 in
          let first : nat_cmp number p.field.number ≡ Less = sym (nat_cmp_is number p.field.number Less (omega (arith, less))) in
          ap₂ (slice_cmp nat_cmp) b.is (sym p.is) ∙ ap (λ o. ordering_then o (slice_cmp nat_cmp b.rest p.rest)) first

-- The list has the common paths.
pub common_paths : (old new : Shape) → IsShape old → IsShape new → AreCommonPaths old new (common_in old new)
common_paths old new ok also = record { rises = rises_in old new ok also; each = λ numbers. each_in old new numbers also }

-- So a count of common slots is its length, and its length is one.
pub count_is : (old new : Shape) (n : ℕ) → IsShape old → IsShape new → IsCommonCount old new n → n ≡ length (common_in old new)
count_is old new n ok also count = one_count old new n (length (common_in old new)) count (common_in old new, common_paths old new ok also, refl)

pub count_from : (old new : Shape) (n : ℕ) → IsShape old → IsShape new → n ≡ length (common_in old new) → IsCommonCount old new n
count_from old new n ok also e = (common_in old new, common_paths old new ok also, e)

-- ---- how many there are

own_few : (new : Shape) → length (own_path new) ≤ 1
own_few (Bag others) = omega arith
own_few Taint = omega arith
own_few (Scalar pick kind) = omega arith
own_few (Set kind) = omega arith
own_few Counter = omega arith
own_few (Map key shape) = omega arith

at_number_few : (paths : Shape → List (List ℕ)) (number n : ℕ) (list : List Field) → ((s : Shape) → length (paths s) ≤ n) → length (at_number paths number list) ≤ n
at_number_few paths number n [] f = omega arith
at_number_few paths number n (field ∷ list) f = by (eqb field.number number) (at_number_few paths number n list f)
  where
    by : (t : Bool) → length (at_number paths number list) ≤ n → length (if t then map (λ p. number ∷ p) (paths field.shape) else at_number paths number list) ≤ n
    by true rest = omega (arith, length-map (paths field.shape) (λ p. number ∷ p), f field.shape)
    by false rest = rest

mutual
  few_in : (old new : Shape) → length (common_in old new) ≤ 1 + nodes_under old
  few_in Taint new = own_few new
  few_in (Scalar pick kind) new = own_few new
  few_in (Set kind) new = own_few new
  few_in Counter new = own_few new
  few_in (Map key shape) new = omega (arith, own_few new)
  few_in (Bag nodes) (Bag others) = omega (arith, few_of nodes others)
  few_in (Bag nodes) Taint = omega arith
  few_in (Bag nodes) (Scalar pick kind) = omega arith
  few_in (Bag nodes) (Set kind) = omega arith
  few_in (Bag nodes) Counter = omega arith
  few_in (Bag nodes) (Map key shape) = omega arith

  -- No more than the fields of the old bag, with those inside them.
  pub few_of : (nodes others : Nodes) → length (common_of nodes others) ≤ node_count nodes
  few_of no_node others = omega arith
  few_of (node name number shape nodes) others =
      let first = at_number_few (common_in shape) number (1 + nodes_under shape) (fields others) (λ s. few_in shape s) in
      let rest = few_of nodes others in
      let both = length-append (at_number (common_in shape) number (fields others)) (common_of nodes others) in
      omega (arith, first, rest, both)

-- ---- field by field

module _ (nodes others : Nodes) (also : AreFields others) (i : ℕ) (f : Field) (at : slice_get (fields nodes) i ≡ Some f) where
  -- how many there are from a place on
  turn : length (common_of (nodes_from_place i nodes) others) ≡ length (at_number (common_in f.shape) f.number (fields others)) + length (common_of (nodes_from_place (i + 1) nodes) others)
  turn = ap (λ (n : Nodes). length (common_of n others)) (node_there nodes i f at) ∙ length-append (at_number (common_in f.shape) f.number (fields others)) (common_of (nodes_from_place (i + 1) nodes) others)

  pub no_partner_count : FindsNumber (fields others) f.number None → length (common_of (nodes_from_place i nodes) others) ≡ length (common_of (nodes_from_place (i + 1) nodes) others)
  no_partner_count none =
      let rest = length (common_of (nodes_from_place (i + 1) nodes) others) in
      let alone : 0 + rest ≡ rest = omega arith in
      turn ∙ ap (λ (l : List (List ℕ)). length l + length (common_of (nodes_from_place (i + 1) nodes) others)) (at_number_none (common_in f.shape) f.number (fields others) (λ g j. none_numbered others f.number g none j)) ∙ alone

  pub partner_count : (place : ℕ) (g : Field) → FindsNumber (fields others) f.number (Some (place, g))
      → length (common_of (nodes_from_place i nodes) others) ≡ length (common_in f.shape g.shape) + length (common_of (nodes_from_place (i + 1) nodes) others)
  partner_count place g found =
      turn
      ∙ ap (λ n. n + length (common_of (nodes_from_place (i + 1) nodes) others))
      (ap length (at_number_is (common_in f.shape) f.number others g also (get_in (fields others) place g found.0) found.1) ∙ length-map (common_in f.shape g.shape) (λ p. f.number ∷ p))

pub count_ends : (nodes others : Nodes) (i : ℕ) → length (fields nodes) ≤ i → length (common_of (nodes_from_place i nodes) others) ≡ 0
count_ends nodes others i l = ap (λ (n : Nodes). length (common_of n others)) (nodes_end nodes i l)

-- ---- what is no bag

abbrev pub IsNoBag : Shape → Type 0
IsNoBag shape = (nodes : Nodes) → shape ≢ Bag nodes

pub bag_and_other : (nodes : Nodes) (old new : Shape) → old ≡ Bag nodes → IsNoBag new → 0 ≡ length (common_in old new)
bag_and_other nodes old new e none = subst (λ (s : Shape). 0 ≡ length (common_in s new)) (sym e) (by new none)
  where
    by : (new : Shape) → IsNoBag new → 0 ≡ length (common_in (Bag nodes) new)
    by (Bag others) none = absurd (none others refl)
    by Taint none = refl
    by (Scalar pick kind) none = refl
    by (Set kind) none = refl
    by Counter none = refl
    by (Map key shape) none = refl

-- a shape that is no bag has the paths of itself alone
alone : (old new : Shape) → IsNoBag old → common_in old new ≡ own_path new
alone (Bag nodes) new none = absurd (none nodes refl)
alone Taint new none = refl
alone (Scalar pick kind) new none = refl
alone (Set kind) new none = refl
alone Counter new none = refl
alone (Map key shape) new none = refl

pub other_and_bag : (others : Nodes) (old new : Shape) → IsNoBag old → new ≡ Bag others → 0 ≡ length (common_in old new)
other_and_bag others old new none e = sym (ap length (alone old new none ∙ ap own_path e))

pub other_and_other : (old new : Shape) → IsNoBag old → IsNoBag new → 1 ≡ length (common_in old new)
other_and_other old new none also = sym (ap length (alone old new none) ∙ by new also)
  where
    by : (new : Shape) → IsNoBag new → length (own_path new) ≡ 1
    by (Bag others) also = absurd (also others refl)
    by Taint also = refl
    by (Scalar pick kind) also = refl
    by (Set kind) also = refl
    by Counter also = refl
    by (Map key shape) also = refl
