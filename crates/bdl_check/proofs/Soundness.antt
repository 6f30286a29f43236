-- What it means for declarations that they have no fault.
use Rattle.std.proofs.Common.{◌≡◌, ℕ, true, List, [], Some, slice_get, map, sym, ◌∙◌, ap}
use Rattle.std.specs.List.{list_all}
use Rattle.std.specs.Option.{is_none}
use Rattle.std.specs.Str.{bytes_eq}
use Rattle.bdl_load.specs.declared.faults.Fault.{Fault}
use Rattle.bdl_check.specs.Checks.{placed_faults}
use Rattle.bdl_check.specs.Declarations.{Placed, decl_name, kind_named}
use Rattle.bdl_check.specs.Faults.{first}
use Rattle.bdl_check.specs.Passes.{are_distinct, passes_decl, pass}
use Rattle.bdl_check.proofs.PassLaws.{faultless_pass}
use Rattle.bdl_check.proofs.Lists.{both_second, all_at}

-- Declarations without a fault pass.
pub faultless_passes : (ds : List Placed) → placed_faults ds ≡ [] → pass ds ≡ true
faultless_passes ds e = sym (faultless_pass ds) ∙ ap (λ (faults : List Fault). is_none (first faults)) e

every_passes : (ds : List Placed) → pass ds ≡ true → list_all (λ d. passes_decl (kind_named ds) d.decl) ds ≡ true
every_passes ds e = both_second (are_distinct bytes_eq (map (λ (d : Placed). decl_name d.decl) ds))
    (list_all (λ (d : Placed). passes_decl (kind_named ds) d.decl) ds) e

-- Of the one with this number.
pub numbered_passes : (ds : List Placed) (number : ℕ) (d : Placed) → pass ds ≡ true → slice_get ds number ≡ Some d
    → passes_decl (kind_named ds) d.decl ≡ true
numbered_passes ds number d e is = all_at (λ (d : Placed). passes_decl (kind_named ds) d.decl) ds number d (every_passes ds e) is
