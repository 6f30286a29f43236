-- The table of a bag among declarations, or why they have none.
use Rattle.std.specs.Prelude.{◌≡◌, ℕ, ◌<◌, ◌≤◌, Option, None, Some, List}
use Rattle.std.specs.Option.{option_and_then}
use Rattle.context_model.specs.declared.TheConstants.{LEVELS_MAX}
use Rattle.bag_model.specs.declared.TheConstants.{FIELDS_MAX}
use Rattle.bdl_load.specs.declared.faults.TheConstants.{FIRST_SPOT}
use Rattle.bag_model.specs.Shapes.{Nodes}
use Rattle.bag_model.specs.Tables.{levels, node_count}
use Rattle.bdl_check.specs.Declarations.{Placed, decl_named}
use Rattle.bdl_check.specs.Layouts.{IsLaidOut}
use Rattle.bdl_load.specs.declared.faults.DefCode.TheVariants.{NoSuchBag, TooDeep, TooManySlots}
use Rattle.bdl_load.specs.declared.faults.Fault.{Fault}
use Rattle.bdl_load.specs.Faults.{found, fault_in}
use Rattle.bdl_parser.specs.declared.trees.Decl.{Decl}
use Rattle.bdl_parser.specs.declared.trees.Decl.TheVariants.{Bag, Struct}
use Rattle.bdl_parser.specs.declared.trees.Spot.{Spot}
use Rattle.bdl_parser.specs.Trees.{BagFieldTree}

-- A bag of a definition: its file, where its name is, and its fields.
pub record BagTree : Type 0 where
  pub file : List ℕ
  pub spot : Spot
  pub list : List BagFieldTree

-- The bag that a declaration of this file is.
abbrev pub bag_in : List ℕ → Decl → Option BagTree
bag_in file (Bag own spot list) = Some (record { file = file; spot = spot; list = list })
bag_in file (Struct own spot list) = None

-- The bag of this name, if there is one.
abbrev pub bag_named : List Placed → List ℕ → Option BagTree
bag_named ds name = option_and_then (λ d. bag_in d.file d.decl) (decl_named ds name)

-- The fields laid out, in no more than 16 levels of headers and 16,384 fields.
pub record FitsTable (ds : List Placed) (list : List BagFieldTree) (nodes : Nodes) : Type 0 where
  pub laid_out : IsLaidOut ds list nodes
  pub shallow : levels nodes ≤ LEVELS_MAX
  pub small : node_count nodes ≤ FIELDS_MAX

-- The fault of a bag whose fields take more levels, or no more but are more fields.
pub data IsUnfit (ds : List Placed) (bag : BagTree) (fault : Fault) : Type 0 where
  deep : (nodes : Nodes) → IsLaidOut ds bag.list nodes → LEVELS_MAX < levels nodes
      → fault ≡ fault_in bag.file (found bag.spot TooDeep) → IsUnfit ds bag fault
  large : (nodes : Nodes) → IsLaidOut ds bag.list nodes → levels nodes ≤ LEVELS_MAX
      → FIELDS_MAX < node_count nodes → fault ≡ fault_in bag.file (found bag.spot TooManySlots)
      → IsUnfit ds bag fault

-- The bag of this name among the declarations, laid out within the limits.
pub record IsTableAmong (ds : List Placed) (name : List ℕ) (nodes : Nodes) : Type 0 where
  pub bag : BagTree
  pub chosen : bag_named ds name ≡ Some bag
  pub fits : FitsTable ds bag.list nodes

-- Why declarations have no table for this name: there is no such bag, which is a fault of the root,
-- or it doesn't fit.
pub data IsUntabled (ds : List Placed) (root name : List ℕ) (fault : Fault) : Type 0 where
  missing : bag_named ds name ≡ None → fault ≡ fault_in root (found FIRST_SPOT NoSuchBag)
      → IsUntabled ds root name fault
  unfit : (bag : BagTree) → bag_named ds name ≡ Some bag → IsUnfit ds bag fault
      → IsUntabled ds root name fault
