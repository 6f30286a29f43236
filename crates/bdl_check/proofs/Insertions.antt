-- A bag with one field more: where it is, and what it adds.
use Rattle.std.proofs.Common.{◌≡◌, ◌≢◌, inl, inr, ℕ, ◌+◌, ◌<◌, max, List, [], ◌∷◌, ◌++◌, refl, arith}
use Rattle.std.proofs.lemmas.Bool.{cases_lt}
use Rattle.std.specs.List.{AllByRecursion}
use Rattle.std.specs.List.Sorted.{IsPermutation, IsStrictlyIncreasing, IsStrictlySortedBy}
use Rattle.std.specs.Ordering.{nat_cmp}
use Rattle.std.specs.declared.cmp.Ordering.TheVariants.{Less}
use Rattle.std.proofs.lemmas.Bool.Decides.{nat_tests}
use Rattle.std.proofs.lemmas.List.Kept.{AllPairs-from_increasing}
use Rattle.std.proofs.lemmas.List.Sorted.{All-permutation, IsPermutation-refl, IsPermutation-cons, IsPermutation-swap, IsPermutation-trans, IsPermutation-push_more}
use Rattle.std.proofs.lemmas.Map.Keys.{IsStrictlyIncreasing-from_sorted}
use Rattle.bag_model.specs.Shapes.{Shape, Nodes, fields, node, no_node}
use Rattle.bag_model.specs.Tables.{levels_under, levels, nodes_under, node_count}
use Rattle.bdl_parser.specs.Trees.{BagFieldTree}
use Rattle.bdl_check.specs.Declarations.{Placed}
use Rattle.bdl_check.specs.Layouts.{Layout, IsShapeOf, AreFieldsOf, IsLaidOutInOrder}
use Rattle.bdl_check.proofs.OneLayout.{Precedes, Rising, numbers, precedes_too, rises}
use Rattle.bdl_check.proofs.Lists.{to_all, from_all}

-- ---- lists in ascending order

less : (x y : ℕ) → x < y → nat_cmp x y ≡ Less
less x y lt = grind (arith, nat_tests)

all_less : (n : ℕ) (xs : List BagFieldTree) → Precedes n xs → AllByRecursion (λ y. nat_cmp n y ≡ Less) (numbers xs)
all_less n [] p = tt
all_less n (x ∷ xs) p = (less n x.number p.0, all_less n xs p.1)

strictly : (xs : List BagFieldTree) → Rising xs → IsStrictlySortedBy nat_cmp (numbers xs)
unfolding IsStrictlySortedBy
strictly [] r = tt
strictly (x ∷ xs) r = (all_less x.number xs r.0, strictly xs r.1)

-- What rises step by step rises.
pub increases : (xs : List BagFieldTree) → Rising xs → IsStrictlyIncreasing (numbers xs)
increases xs r = IsStrictlyIncreasing-from_sorted (numbers xs) (strictly xs r)

-- What holds of each holds in any order.
pub all_moved : {A : Type 0} (P : A → Type 0) (xs ys : List A) → IsPermutation xs ys → AllByRecursion P xs → AllByRecursion P ys
all_moved P xs ys p h = from_all P ys (All-permutation P xs ys p (to_all P xs h))

-- The first two of a list change places.
front_swapped : {A : Type 0} (x y : A) (xs : List A) → IsPermutation (x ∷ y ∷ xs) (y ∷ x ∷ xs)
front_swapped x y xs = IsPermutation-swap (x ∷ y ∷ xs) (y ∷ x ∷ xs) 0 1 (omega arith) (omega arith) refl

-- ---- one field more

-- No field of the list has this number.
abbrev pub IsNewNumber : ℕ → List BagFieldTree → Type 0
IsNewNumber number list = AllByRecursion (λ (u : BagFieldTree). number ≢ u.number) list

-- A rising list of fields with another in its place.
record Inserted (ds : List Placed) (L : Layout) (t : BagFieldTree) (s : Shape) (ss : List BagFieldTree) (nodes : Nodes) : Type 0 where
  pub out : List BagFieldTree
  pub more : Nodes
  pub same : IsPermutation (t ∷ ss) out
  pub rising : Rising out
  pub below : (n : ℕ) → n < t.number → Precedes n ss → Precedes n out
  pub each : AreFieldsOf ds L out (fields more)
  pub levels_are : levels more ≡ max (1 + levels_under s) (levels nodes)
  pub count_is : node_count more ≡ 1 + nodes_under s + node_count nodes

module _ (ds : List Placed) (L : Layout) (t : BagFieldTree) (s : Shape) (here : IsShapeOf ds L t.kind s) where
  in_front : (ss : List BagFieldTree) (nodes : Nodes) → Precedes t.number ss → Rising ss → AreFieldsOf ds L ss (fields nodes)
      → Inserted ds L t s ss nodes
  in_front ss nodes p r e = record {
    out = t ∷ ss;
    more = node t.name t.number s nodes;
    same = IsPermutation-refl (t ∷ ss);
    rising = (p, r);
    below = λ n lt q. (lt, q);
    each = (record { name_is = refl; number_is = refl; shape = here }, e);
    levels_are = refl;
    count_is = refl;
  }

  max_turned : (a b c d : ℕ) → d ≡ max a c → max b d ≡ max a (max b c)
  max_turned a b c d e = omega (arith, e)

  behind_first : (u : BagFieldTree) (us : List BagFieldTree) (name : List ℕ) (number : ℕ) (shape : Shape) (nodes : Nodes) → u.number < t.number
      → Rising (u ∷ us)
      → AreFieldsOf ds L (u ∷ us) (fields (node name number shape nodes)) → Inserted ds L t s us nodes
      → Inserted ds L t s (u ∷ us) (node name number shape nodes)
  behind_first u us name number shape nodes lt r e i = record {
    out = u ∷ i.out;
    more = node name number shape i.more;
    same = IsPermutation-trans (t ∷ u ∷ us) (u ∷ t ∷ us) (u ∷ i.out) (front_swapped t u us) (IsPermutation-cons u (t ∷ us) i.out i.same);
    rising = (i.below u.number lt r.0, i.rising);
    below = λ n small q. (q.0, i.below n small q.1);
    each = (e.0, i.each);
    levels_are = max_turned (1 + levels_under s) (1 + levels_under shape) (levels nodes) (levels i.more) i.levels_are;
    count_is = omega (arith, i.count_is);
  }

  insert : (ss : List BagFieldTree) (nodes : Nodes) → Rising ss → IsNewNumber t.number ss → AreFieldsOf ds L ss (fields nodes)
      → Inserted ds L t s ss nodes
  insert [] nodes r n e = in_front [] nodes tt tt e
  insert (u ∷ us) no_node r n e = absurd e
  insert (u ∷ us) (node name number shape nodes) r n e = elim (cases_lt t.number u.number) [
    | inl lt ↦ in_front (u ∷ us) (node name number shape nodes) (lt, precedes_too t.number u.number us lt r.0) r e
    | inr le ↦ (let ne = n.0 in behind_first u us name number shape nodes (omega (arith, le, ne)) r e (insert us nodes r.1 n.1 e.1))
  ]

-- A bag in order with one field more after the others, by its levels and fields.
pub record Added (ds : List Placed) (L : Layout) (list : List BagFieldTree) (nodes : Nodes) (s : Shape) : Type 0 where
  pub more : Nodes
  pub ordered : IsLaidOutInOrder ds L list more
  pub levels_are : levels more ≡ max (1 + levels_under s) (levels nodes)
  pub count_is : node_count more ≡ 1 + nodes_under s + node_count nodes

pub added : (ds : List Placed) (L : Layout) (list : List BagFieldTree) (nodes : Nodes) (t : BagFieldTree) (s : Shape) → IsShapeOf ds L t.kind s
    → IsNewNumber t.number list → IsLaidOutInOrder ds L list nodes
    → Added ds L (list ++ t ∷ []) nodes s
added ds L list nodes t s here new a =
    let i = insert ds L t s here a.sorted nodes (rises a.sorted (AllPairs-from_increasing (numbers a.sorted) a.rising))
    (all_moved (λ (u : BagFieldTree). t.number ≢ u.number) list a.sorted a.same new) a.each in
    record {
      more = i.more;
      ordered = record {
        sorted = i.out;
        same = IsPermutation-push_more list a.sorted i.out t a.same i.same;
        rising = increases i.out i.rising;
        each =
            i.each;
      };
      levels_are = i.levels_are;
      count_is = i.count_is;
    }
