-- Worked layouts: a bag in a bag, a struct, and fields in another order than that of the text, as fields of tables.
use Rattle.std.proofs.Common.{◌≡◌, ℕ, ◌+◌, ◌<◌, List, [], ◌∷◌, codes, refl, sym, subst, lit<, arith}
use Rattle.std.specs.List.{slice_index}
use Rattle.std.proofs.lemmas.List.Sorted.{IsPermutation-refl, IsPermutation-swap}
use Rattle.bag_model.specs.declared.Pick.TheVariants.{Least, Greatest}
use Rattle.bag_model.specs.declared.words.ScalarWord.TheVariants.{Bool as Boolean, Int32, Uint32, Str}
use Rattle.bag_model.specs.Scalars as scalars
use Rattle.bag_model.specs.Shapes.{Nodes, Scalar, Bag as BagOf, no_node, node}
use Rattle.bdl_check.specs.Declarations.{Placed}
use Rattle.bdl_check.specs.Layouts.{IsLaidOut, IsLaidOutWithin}
use Rattle.bdl_parser.specs.declared.trees.Decl.{Decl}
use Rattle.bdl_parser.specs.declared.trees.Decl.TheVariants.{Bag, Struct}
use Rattle.bdl_parser.specs.declared.trees.Holding.TheVariants.{AsGreatest}
use Rattle.bdl_parser.specs.declared.trees.Spot.{Spot}
use Rattle.bdl_parser.specs.Trees.{BagFieldTree, StructFieldTree, TypeTree, scalar, name, leaf, held}

abbrev here : Spot
here = record { line = 1; column = 1 }

abbrev in_f : Decl → Placed
in_f decl = record { file = codes "f"; decl = decl }

abbrev field : TypeTree → List ℕ → ℕ → BagFieldTree
field kind text number = record { kind = kind; name = text; name_at = here; number = number; number_at = here }

abbrev struct_field : TypeTree → List ℕ → StructFieldTree
struct_field kind text = record { kind = kind; name = text; name_at = here }

-- `bag In { bool ok = 2; } bag Out { In sub = 1; }`
abbrev inner : List BagFieldTree
inner = field (leaf (scalar Boolean) here) (codes "ok") 2 ∷ []

abbrev outer : List BagFieldTree
outer = field (leaf (name (codes "In")) here) (codes "sub") 1 ∷ []

abbrev bags : List Placed
bags = in_f (Bag (codes "In") here inner) ∷ in_f (Bag (codes "Out") here outer) ∷ []

abbrev inner_nodes : Nodes
inner_nodes = node (codes "ok") 2 (Scalar Least (scalars.ScalarKind.One Boolean)) no_node

inner_bag : IsLaidOutWithin 1 bags inner inner_nodes
inner_bag = record {
  sorted = inner;
  same = IsPermutation-refl inner;
  rising = λ k (within : k + 1 < 1). absurd (omega arith);
  each = (record { name_is = refl; number_is = refl; shape = refl }, tt);
}

bag_in_bag : IsLaidOut bags outer (node (codes "sub") 1 (BagOf inner_nodes) no_node)
bag_in_bag = (
  2,
  record {
    sorted = outer;
    same = IsPermutation-refl outer;
    rising = λ k (within : k + 1 < 1). absurd (omega arith);
    each = (record { name_is = refl; number_is = refl; shape = (in_f (Bag (codes "In") here inner), refl, (inner_nodes, inner_bag, refl)) }, tt);
  },
)

-- `struct P { string s; int32 n; } bag B { P p = 0; }`
abbrev struct_fields : List StructFieldTree
struct_fields = struct_field (leaf (scalar Str) here) (codes "s") ∷ struct_field (leaf (scalar Int32) here) (codes "n") ∷ []

abbrev holder : List BagFieldTree
holder = field (leaf (name (codes "P")) here) (codes "p") 0 ∷ []

abbrev with_struct : List Placed
with_struct = in_f (Struct (codes "P") here struct_fields) ∷ in_f (Bag (codes "B") here holder) ∷ []

struct_is_one_value : IsLaidOut with_struct holder (node (codes "p") 0
    (Scalar Least (scalars.ScalarKind.Packed (Str ∷ Int32 ∷ []))) no_node)
struct_is_one_value = (
  1,
  record {
    sorted = holder;
    same = IsPermutation-refl holder;
    rising = λ k (within : k + 1 < 1). absurd (omega arith);
    each = (record { name_is = refl; number_is = refl; shape = (in_f (Struct (codes "P") here struct_fields), refl, refl) }, tt);
  },
)

-- `bag G { greatest<uint32> top = 0; }`
abbrev top : List BagFieldTree
top = field (held AsGreatest (leaf (scalar Uint32) here) here) (codes "top") 0 ∷ []

greatest_is_one_value : IsLaidOut [] top (node (codes "top") 0 (Scalar Greatest (scalars.ScalarKind.One Uint32)) no_node)
greatest_is_one_value = (
  1,
  record {
    sorted = top;
    same = IsPermutation-refl top;
    rising = λ k (within : k + 1 < 1). absurd (omega arith);
    each = (record { name_is = refl; number_is = refl; shape = (scalars.ScalarKind.One Uint32, refl, refl) }, tt);
  },
)

-- `bag B { bool z = 9; bool y = 3; }`
abbrev z : BagFieldTree
z = field (leaf (scalar Boolean) here) (codes "z") 9

abbrev y : BagFieldTree
y = field (leaf (scalar Boolean) here) (codes "y") 3

in_order_of_number : IsLaidOut [] (z ∷ y ∷ []) (node (codes "y") 3 (Scalar Least (scalars.ScalarKind.One Boolean))
    (node (codes "z") 9 (Scalar Least (scalars.ScalarKind.One Boolean)) no_node))
in_order_of_number = (
  1,
  record {
    sorted = y ∷ z ∷ [];
    same = IsPermutation-swap (z ∷ y ∷ []) (y ∷ z ∷ []) 0 1 (omega arith) (omega arith) refl;
    rising = λ k (within : k + 1 < 2). first_of_two k (omega arith);
    each = (record { name_is = refl; number_is = refl; shape = refl }, (record { name_is = refl; number_is = refl; shape = refl }, tt));
  },
)
  where
    first_of_two : (k : ℕ) → k ≡ 0 → slice_index (3 ∷ 9 ∷ []) k < slice_index (3 ∷ 9 ∷ []) (k + 1)
    first_of_two k e = subst (λ (n : ℕ). slice_index (3 ∷ 9 ∷ []) n < slice_index (3 ∷ 9 ∷ []) (n + 1)) (sym e) (lit< tt)
