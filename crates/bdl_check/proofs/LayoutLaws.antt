-- The fields of a bag one after another, as they are laid out.
use Rattle.std.proofs.Common.{◌≡◌, ℕ, ◌+◌, ◌<◌, ◌≤◌, ◌==◌, ◌-◌, false, List, [], ◌∷◌, ◌++◌, length, get_or, take, drop, map, sym, ◌∙◌, ap, subst, arith}
use Rattle.std.specs.List.{AllByRecursion, IsDistinct}
use Rattle.std.specs.List.Sorted.{IsPermutation, IsStrictlyIncreasing, IsNonDecreasing, IsNonDecreasingBy}
use Rattle.std.proofs.lemmas.Bool.Decides.{nat_tests}
use Rattle.std.proofs.lemmas.List.{get_or_default, length-map}
use Rattle.std.proofs.lemmas.List.Kept.{AllPairs-from_increasing}
use Rattle.std.proofs.lemmas.List.Sorted.{IsPermutation-map, IsPermutation-sym, IsPermutation-trans}
use Rattle.std.proofs.lemmas.Map.Keys.{IsDistinct-from_apart, IsDistinct-IsPermutation, IsStrictlyIncreasing-from_distinct}
use Rattle.std.proofs.lemmas.Simd.{map-map}
use Rattle.std.proofs.Math.ListN.{get_or-map}
use Rattle.bag_model.specs.Shapes.{Shape, Nodes, Field, fields, node, no_node}
use Rattle.bag_model.specs.Tables.{levels_under, levels}
use Rattle.bdl_parser.specs.Trees.{BagFieldTree}
use Rattle.bdl_check.specs.Declarations.{Placed}
use Rattle.bdl_check.specs.Layouts.{Layout, IsShapeOf, IsFieldOf, AreFieldsOf, IsLaidOut, HasShapeIn}
use Rattle.bdl_check.proofs.BagSizes.{split_at}
use Rattle.bdl_check.proofs.Insertions.{all_moved}
use Rattle.bdl_check.proofs.LayoutRooms.{laid_out, in_order}
use Rattle.bdl_check.proofs.OneLayout.{numbers}

-- ---- evidence of shapes

-- A field of a bag with `room` levels takes one and has a shape in the others.
abbrev pub HasLevels : List Placed → ℕ → BagFieldTree → Type 0
HasLevels ds room t = (s : Shape) × IsShapeOf ds (IsLaidOut ds) t.kind s × (1 + levels_under s ≤ room)

more_levels : (ds : List Placed) (n m : ℕ) → n ≤ m → (ts : List BagFieldTree) → AllByRecursion (HasLevels ds n) ts
    → AllByRecursion (HasLevels ds m) ts
more_levels ds n m le [] h = tt
more_levels ds n m le (t ∷ ts) h = ((h.0.0, h.0.1, let one = h.0.2 in omega (arith, one, le)), more_levels ds n m le ts h.1)

each_level : (ds : List Placed) (ts : List BagFieldTree) (nodes : Nodes) → AreFieldsOf ds (IsLaidOut ds) ts (fields nodes)
    → AllByRecursion (HasLevels ds (levels nodes)) ts
each_level ds [] no_node e = tt
each_level ds [] (node name number shape nodes) e = absurd e
each_level ds (t ∷ ts) no_node e = absurd e
each_level ds (t ∷ ts) (node name number shape nodes) e = (
  (shape, e.0.shape, omega arith),
  more_levels ds (levels nodes) (levels (node name number shape nodes)) (omega arith) ts
      (each_level ds ts nodes e.1),
)

-- Each field of a bag that is laid out has a shape, in whichever order.
pub sorted_levels : (ds : List Placed) (list sorted : List BagFieldTree) (nodes : Nodes) (room : ℕ) → IsLaidOut ds list nodes → levels nodes ≤ room
    → IsPermutation list sorted → AllByRecursion (HasLevels ds room) sorted
sorted_levels ds list sorted nodes room l le p =
    let a = in_order ds list nodes l in
    all_moved (HasLevels ds room) a.sorted sorted (IsPermutation-trans a.sorted list sorted (IsPermutation-sym list a.sorted a.same) p)
    (more_levels ds (levels nodes) room le a.sorted (each_level ds a.sorted nodes a.each))

each_middle : {X : Type 0} (P : X → Type 0) (front : List X) (x : X) (rest : List X) → AllByRecursion P (front ++ x ∷ rest) → P x
each_middle P [] x rest h = h.0
each_middle P (y ∷ front) x rest h = each_middle P front x rest h.1

-- The field in the middle takes a level, and has a shape in one less.
pub middle_level : (ds : List Placed) (front : List BagFieldTree) (t : BagFieldTree) (rest : List BagFieldTree) (room : ℕ)
    → AllByRecursion (HasLevels ds room) (front ++ t ∷ rest) → (1 ≤ room) × HasShapeIn ds t.kind (room - 1)
middle_level ds front t rest room h =
    let here = each_middle (HasLevels ds room) front t rest h in
    let within = here.2 in
    (omega (arith, within), (here.0, here.1, omega (arith, within)))

-- The same of fields as the code has them.
pub item_level : {X : Type 0} (f : X → BagFieldTree) (ds : List Placed) (list : List BagFieldTree) (sorted items : List X) (nodes : Nodes)
    (room i : ℕ) (x : X) → IsLaidOut ds list nodes → levels nodes ≤ room → IsPermutation list (map f sorted)
    → items ≡ sorted → i < length items → x ≡ get_or items i x → (1 ≤ room) × HasShapeIn ds (f x).kind (room - 1)
item_level f ds list sorted items nodes room i x l le p same lt at =
    middle_level ds (map f (take i items)) (f x) (map f (drop (i + 1) items)) room
    (subst (AllByRecursion (HasLevels ds room)) (ap (map f) (sym same) ∙ split_at f items i x lt at)
    (sorted_levels ds list (map f sorted) nodes room l le p))

-- ---- fields one after another

-- A field more at the end.
pub fields_push : (ds : List Placed) (L : Layout) (ts : List BagFieldTree) (fs : List Field) (t : BagFieldTree) (f : Field) → AreFieldsOf ds L ts fs
    → IsFieldOf ds L t f → AreFieldsOf ds L (ts ++ t ∷ []) (fs ++ f ∷ [])
fields_push ds L [] [] t f e one = (one, tt)
fields_push ds L (u ∷ ts) (g ∷ fs) t f e one = (e.0, fields_push ds L ts fs t f e.1 one)
fields_push ds L [] (g ∷ fs) t f e one = absurd e
fields_push ds L (u ∷ ts) [] t f e one = absurd e

-- ---- rising numbers

flips : (x y : ℕ) → (x == y) ≡ (y == x)
flips x y = grind (arith, nat_tests)

apart : (x y : ℕ) → x < y → (x == y) ≡ false
apart x y lt = grind (arith, nat_tests)

distinct : (xs : List ℕ) → IsStrictlyIncreasing xs → IsDistinct (λ x y. x == y) xs
distinct xs up = IsDistinct-from_apart (λ x y. x == y) xs
    (λ i j d lt within. apart (get_or xs i d) (get_or xs j d) (AllPairs-from_increasing xs up i j d lt within))

-- Fields whose numbers don't fall are in ascending order, if the bag has a layout.
pub rising : (ds : List Placed) (list sorted : List BagFieldTree) (nodes : Nodes) → IsLaidOut ds list nodes → IsPermutation list sorted
    → IsNonDecreasing (numbers sorted) → IsStrictlyIncreasing (numbers sorted)
rising ds list sorted nodes l p up =
    let a = in_order ds list nodes l in
    let same = IsPermutation-trans a.sorted list sorted (IsPermutation-sym list a.sorted a.same) p in
    IsStrictlyIncreasing-from_distinct (numbers sorted) up
    (IsDistinct-IsPermutation (λ x y. x == y) flips (numbers a.sorted) (numbers sorted)
    (IsPermutation-map (λ (u : BagFieldTree). u.number) a.sorted sorted same) (distinct (numbers a.sorted) a.rising))

rise : {X : Type 0} (g : X → ℕ) (xs : List X) → IsNonDecreasingBy g xs → IsNonDecreasing (map g xs)
rise g [] h = λ i j d le (lt : j < 0). absurd (omega arith)
rise g (x ∷ xs) h = λ i j d le lt.
    let lj : j < length (x ∷ xs) = omega (arith, lt, length-map (x ∷ xs) g) in
    let a = get_or_default (map g (x ∷ xs)) i d (g x) (omega (arith, le, lt)) ∙ get_or-map g (x ∷ xs) i x in
    let b = get_or_default (map g (x ∷ xs)) j d (g x) lt ∙ get_or-map g (x ∷ xs) j x in
    omega (arith, a, b, h i j x le lj)

-- The same of fields as the code has them.
pub items_rise : {X : Type 0} (f : X → BagFieldTree) (items : List X) → IsNonDecreasingBy (λ x. (f x).number) items
    → IsNonDecreasing (numbers (map f items))
items_rise f items h = subst IsNonDecreasing (sym (map-map (λ (u : BagFieldTree). u.number) f items)) (rise (λ x. (f x).number) items h)

-- Fields in order of number are laid out.
pub sorted_layout : (ds : List Placed) (list sorted : List BagFieldTree) (some nodes : Nodes) → IsLaidOut ds list some → IsPermutation list sorted
    → IsNonDecreasing (numbers sorted) → AreFieldsOf ds (IsLaidOut ds) sorted (fields nodes)
    → IsLaidOut ds list nodes
sorted_layout ds list sorted some nodes l p up each = laid_out ds list nodes
    (record { sorted = sorted; same = p; rising = rising ds list sorted some l p up; each = each })
