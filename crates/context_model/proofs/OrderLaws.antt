-- The order of atoms and that of paths are total, and only equal ones tie.
use Rattle.std.specs.Cmp.{IsTotalOrder}
use Rattle.std.specs.Cmp.Lexicographic.{lists_total, nat_list_cmp_total}
use Rattle.std.specs.FinMap.{IsAntisymmetric, slice_cmp-IsAntisymmetric, nat_cmp-IsAntisymmetric}
use Rattle.context_model.specs.Orders.{atom_cmp, path_cmp}

pub atoms_total : IsTotalOrder atom_cmp
atoms_total = nat_list_cmp_total

pub atoms_anti : IsAntisymmetric atom_cmp
atoms_anti = slice_cmp-IsAntisymmetric nat_cmp-IsAntisymmetric

pub paths_total : IsTotalOrder path_cmp
paths_total = lists_total atoms_total

pub paths_anti : IsAntisymmetric path_cmp
paths_anti = slice_cmp-IsAntisymmetric atoms_anti
