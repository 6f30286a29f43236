-- What is in a field is less than what is in the bag.
use Rattle.std.proofs.Common.{◌≡◌, ℕ, zero, suc, ◌+◌, ◌≤◌, Some, subst, arith}
use Rattle.std.specs.List.{slice_get}
use Rattle.bag_model.specs.Shapes.{Nodes, Field, fields, no_node, node}
use Rattle.bag_model.specs.Sizes.{shape_size, nodes_size}

-- The field at a place.
pub size_at : (nodes : Nodes) (i : ℕ) (f : Field) → slice_get (fields nodes) i ≡ Some f → 1 + shape_size f.shape ≤ nodes_size nodes
size_at no_node i f at = absurd (cc at)
size_at (node name number shape nodes) zero f at =
    let same : record { name = name; number = number; shape = shape } ≡ f = cc at in
    subst (λ (g : Field). 1 + shape_size g.shape ≤ nodes_size (node name number shape nodes)) same (omega arith)
size_at (node name number shape nodes) (suc i) f at = omega (arith, size_at nodes i f at)
