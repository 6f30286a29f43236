-- Layouts by other layouts of the bags in place: more room, and as much as is needed.
use Rattle.std.proofs.Common.{ℕ, suc, zero, ◌+◌, ◌≤◌, List, [], ◌∷◌, arith}
use Rattle.bag_model.specs.Shapes.{Shape, Nodes, Field, fields}
use Rattle.bdl_parser.specs.declared.trees.Decl.{Decl}
use Rattle.bdl_parser.specs.declared.trees.Decl.TheVariants.{Bag, Struct}
use Rattle.bdl_parser.specs.Trees as trees
use Rattle.bdl_parser.specs.Trees.{BagFieldTree, TypeTree}
use Rattle.bdl_check.specs.Declarations.{Placed}
use Rattle.bdl_check.specs.Layouts.{Layout, IsShapeOfDecl, IsShapeOf, AreFieldsOf, IsLaidOutInOrder, IsLaidOutWithin, IsLaidOut}

-- What the first lays out so, the second does too.
abbrev pub Grows : Layout → Layout → Type 0
Grows A B = (list : List BagFieldTree) (nodes : Nodes) → A list nodes → B list nodes

decl_grows : (A B : Layout) → Grows A B → (decl : Decl) (s : Shape) → IsShapeOfDecl A decl s → IsShapeOfDecl B decl s
decl_grows A B up (Bag own spot list) s a = (a.0, up list a.0 a.1, a.2)
decl_grows A B up (Struct own spot list) s a = a

-- Shapes and fields stay so.
pub shape_grows : (ds : List Placed) (A B : Layout) → Grows A B → (tree : TypeTree) (s : Shape) → IsShapeOf ds A tree s → IsShapeOf ds B tree s
shape_grows ds A B up (trees.leaf (trees.scalar word) spot) s a = a
shape_grows ds A B up (trees.leaf trees.float spot) s a = absurd a
shape_grows ds A B up (trees.leaf trees.double spot) s a = absurd a
shape_grows ds A B up (trees.leaf trees.taint spot) s a = a
shape_grows ds A B up (trees.leaf trees.counter spot) s a = a
shape_grows ds A B up (trees.leaf (trees.name text) spot) s a = (a.0, a.1, decl_grows A B up a.0.decl s a.2)
shape_grows ds A B up (trees.held holding element spot) s a = a
shape_grows ds A B up (trees.map key value spot) s a = (a.0, a.1, a.2, shape_grows ds A B up value a.1 a.3, a.4)

pub list_grows : (ds : List Placed) (A B : Layout) → Grows A B → (list : List BagFieldTree) (fs : List Field) → AreFieldsOf ds A list fs
    → AreFieldsOf ds B list fs
list_grows ds A B up [] [] a = tt
list_grows ds A B up [] (f ∷ fs) a = absurd a
list_grows ds A B up (t ∷ ts) [] a = absurd a
list_grows ds A B up (t ∷ ts) (f ∷ fs) (here, a) = (
  record { name_is = here.name_is; number_is = here.number_is; shape = shape_grows ds A B up t.kind f.shape here.shape },
  list_grows ds A B up ts
      fs a,
)

order_grows : (ds : List Placed) (A B : Layout) → Grows A B → (list : List BagFieldTree) (nodes : Nodes) → IsLaidOutInOrder ds A list nodes
    → IsLaidOutInOrder ds B list nodes
order_grows ds A B up list nodes a = record {
  sorted = a.sorted;
  same = a.same;
  rising = a.rising;
  each = list_grows ds A B up a.sorted (fields nodes)
      a.each;
}

-- Room may be left.
pub room_grows : (ds : List Placed) (room other : ℕ) → room ≤ other → Grows (IsLaidOutWithin room ds) (IsLaidOutWithin other ds)
room_grows ds zero other le list nodes a = absurd a
room_grows ds (suc room) zero le list nodes a = absurd (omega (arith, le))
room_grows ds (suc room) (suc other) le list nodes a =
    order_grows ds (IsLaidOutWithin room ds) (IsLaidOutWithin other ds) (room_grows ds room other (omega (arith, le))) list nodes a

-- ---- as much room as is needed

decl_within : (ds : List Placed) (decl : Decl) (s : Shape) → IsShapeOfDecl (IsLaidOut ds) decl s
    → (room : ℕ) × IsShapeOfDecl (IsLaidOutWithin room ds) decl s
decl_within ds (Bag own spot list) s a = (a.1.0, (a.0, a.1.1, a.2))
decl_within ds (Struct own spot list) s a = (0, a)

shape_within : (ds : List Placed) (tree : TypeTree) (s : Shape) → IsShapeOf ds (IsLaidOut ds) tree s
    → (room : ℕ) × IsShapeOf ds (IsLaidOutWithin room ds) tree s
shape_within ds (trees.leaf (trees.scalar word) spot) s a = (0, a)
shape_within ds (trees.leaf trees.float spot) s a = absurd a
shape_within ds (trees.leaf trees.double spot) s a = absurd a
shape_within ds (trees.leaf trees.taint spot) s a = (0, a)
shape_within ds (trees.leaf trees.counter spot) s a = (0, a)
shape_within ds (trees.leaf (trees.name text) spot) s a = let w = decl_within ds a.0.decl s a.2 in (w.0, (a.0, a.1, w.1))
shape_within ds (trees.held holding element spot) s a = (0, a)
shape_within ds (trees.map key value spot) s a = let w = shape_within ds value a.1 a.3 in (w.0, (a.0, a.1, a.2, w.1, a.4))

list_within : (ds : List Placed) (list : List BagFieldTree) (fs : List Field) → AreFieldsOf ds (IsLaidOut ds) list fs
    → (room : ℕ) × AreFieldsOf ds (IsLaidOutWithin room ds) list fs
list_within ds [] [] a = (0, tt)
list_within ds [] (f ∷ fs) a = absurd a
list_within ds (t ∷ ts) [] a = absurd a
list_within ds (t ∷ ts) (f ∷ fs) (here, a) =
    let one = shape_within ds t.kind f.shape here.shape in
    let more = list_within ds ts fs a in
    let room = one.0 + more.0 in (
      room,
      (
        record {
          name_is = here.name_is;
          number_is = here.number_is;
          shape = shape_grows ds (IsLaidOutWithin one.0 ds) (IsLaidOutWithin room ds) (room_grows ds one.0 room (omega arith)) t.kind f.shape one.1;
        },
        list_grows ds (IsLaidOutWithin more.0 ds) (IsLaidOutWithin room ds) (room_grows ds more.0 room (omega arith)) ts fs more.1,
      ),
    )

-- A bag is laid out where its fields are in order and the bags in place are laid out.
pub laid_out : (ds : List Placed) (list : List BagFieldTree) (nodes : Nodes) → IsLaidOutInOrder ds (IsLaidOut ds) list nodes → IsLaidOut ds list nodes
laid_out ds list nodes a =
    let within = list_within ds a.sorted (fields nodes) a.each in
    (suc within.0, record { sorted = a.sorted; same = a.same; rising = a.rising; each = within.1 })

within_order : (ds : List Placed) (room : ℕ) (list : List BagFieldTree) (nodes : Nodes) → IsLaidOutWithin room ds list nodes
    → IsLaidOutInOrder ds (IsLaidOut ds) list nodes
within_order ds zero list nodes a = absurd a
within_order ds (suc room) list nodes a = order_grows ds (IsLaidOutWithin room ds) (IsLaidOut ds) (λ _ _ inner. (room, inner)) list nodes a

-- And only there.
pub in_order : (ds : List Placed) (list : List BagFieldTree) (nodes : Nodes) → IsLaidOut ds list nodes → IsLaidOutInOrder ds (IsLaidOut ds) list nodes
in_order ds list nodes a = within_order ds a.0 list nodes a.1
