-- The chosen bag, by its size.
use Rattle.std.proofs.Common.{◌≡◌, ℕ, ◌≤◌, true, List, [], get_or, Some, None, refl, sym, ◌∙◌, ap, subst, arith}
use Rattle.std.specs.List.{slice_get}
use Rattle.std.specs.Option.{option_and_then}
use Rattle.std.proofs.lemmas.Option.{slice_get_within, slice_get-get_or}
use Rattle.bag_model.specs.Shapes.{Nodes}
use Rattle.bag_model.specs.Tables.{levels, node_count, IsTable}
use Rattle.bdl_load.specs.declared.faults.DefCode.{DefCode}
use Rattle.bdl_load.specs.declared.faults.DefCode.TheVariants.{TooDeep, TooManySlots}
use Rattle.bdl_load.specs.Faults.{found, fault_in}
use Rattle.bdl_parser.specs.Decls.{IsSpelledDecl}
use Rattle.bdl_parser.specs.declared.trees.Decl.{Decl}
use Rattle.bdl_parser.specs.declared.trees.Decl.TheVariants.{Bag, Struct}
use Rattle.bdl_parser.specs.Trees.{BagFieldTree}
use Rattle.bdl_check.specs.declared.sizes.Size.{Size}
use Rattle.bdl_check.specs.Checks.{placed_faults}
use Rattle.bdl_check.specs.Declarations.{Placed, decl_named, number_named, kind_named, AreSpelled}
use Rattle.bdl_check.specs.Layouts.{IsLaidOut}
use Rattle.bdl_check.specs.Passes.{passes_decl}
use Rattle.bdl_check.specs.Sizes.{HasSize, IsSizeOf, AreSizes, IsExcess}
use Rattle.bdl_check.specs.Tables.{BagTree, bag_in, bag_named, FitsTable, IsUnfit}
use Rattle.bdl_check.proofs.OneLayout.{one_layout}
use Rattle.bdl_check.proofs.PassedTypes.{named_at, not_named}
use Rattle.bdl_check.proofs.TableLaws.{AreGood, good_list, all_good, is_table}
use Rattle.bdl_check.proofs.Lists.{and_then_is}

-- ---- by name

-- A name without a number is that of no bag.
pub no_bag : (ds : List Placed) (name : List ℕ) → number_named ds name ≡ None → bag_named ds name ≡ None
no_bag ds name none =
    ap (option_and_then (λ (d : Placed). bag_in d.file d.decl)) (not_named ds name none)

-- The bag of a name is its declaration's.
pub bag_at : (ds : List Placed) (name : List ℕ) (n : ℕ) → number_named ds name ≡ Some n
    → bag_named ds name ≡ option_and_then (λ (d : Placed). bag_in d.file d.decl) (slice_get ds n)
bag_at ds name n e = ap (option_and_then (λ (d : Placed). bag_in d.file d.decl)) (named_at ds name n e)

-- ---- a chosen bag

-- The declaration of a bag, which has the bag's number.
record Chosen (ds : List Placed) (n : ℕ) (bag : BagTree) : Type 0 where
  pub d : Placed
  pub at : slice_get ds n ≡ Some d
  pub is : bag_in d.file d.decl ≡ Some bag

chosen : (ds : List Placed) (name : List ℕ) (n : ℕ) (bag : BagTree) → bag_named ds name ≡ Some bag → number_named ds name ≡ Some n → Chosen ds n bag
chosen ds name n bag e number =
    let d = and_then_is (λ (d : Placed). bag_in d.file d.decl) (slice_get ds n) bag (sym (bag_at ds name n number) ∙ e) in
    record { d = d.0; at = d.1; is = d.2 }

bag_size : (ds : List Placed) (file : List ℕ) (decl : Decl) (bag : BagTree) (size : Size) → bag_in file decl ≡ Some bag → IsSizeOf ds decl size
    → HasSize ds bag.list size
bag_size ds file (Bag own spot list) bag size e h =
    let same : record { file = file; spot = spot; list = list } ≡ bag = cc e in
    subst (λ (bag : BagTree). HasSize ds bag.list size) same h
bag_size ds file (Struct own spot list) bag size e h = absurd (cc e)

-- The chosen bag has the size with its number.
pub chosen_size : (ds : List Placed) (sizes : List Size) (name : List ℕ) (n : ℕ) (bag : BagTree) (s : Size) → bag_named ds name ≡ Some bag
    → number_named ds name ≡ Some n → AreSizes ds sizes → HasSize ds bag.list (get_or sizes n s)
chosen_size ds sizes name n bag s e number all =
    let c = chosen ds name n bag e number in
    let within = slice_get_within ds n c.d c.at in
    let count = all.count in
    bag_size ds c.d.file c.d.decl bag (get_or sizes n s) c.is
    (all.each n c.d (get_or sizes n s) c.at (slice_get-get_or sizes n s (omega (arith, within, count))))

bag_good : (ds : List Placed) (file : List ℕ) (decl : Decl) (bag : BagTree) → bag_in file decl ≡ Some bag → passes_decl (kind_named ds) decl ≡ true
    → IsSpelledDecl decl → AreGood ds bag.list
bag_good ds file (Bag own spot list) bag e p s =
    let same : record { file = file; spot = spot; list = list } ≡ bag = cc e in
    subst (λ (bag : BagTree). AreGood ds bag.list) same (good_list ds own spot list p s)
bag_good ds file (Struct own spot list) bag e p s = absurd (cc e)

-- The chosen bag makes a table where it fits.
pub chosen_table : (ds : List Placed) (name : List ℕ) (bag : BagTree) (nodes : Nodes) → placed_faults ds ≡ [] → AreSpelled ds
    → bag_named ds name ≡ Some bag → FitsTable ds bag.list nodes → IsTable nodes
chosen_table ds name bag nodes none spelled e fits =
    let good = all_good ds none spelled in
    let d = and_then_is (λ (d : Placed). bag_in d.file d.decl) (decl_named ds name) bag e in
    let own = good name d.0 d.1 in
    is_table ds good bag.list nodes (bag_good ds d.0.file d.0.decl bag d.2 own.0 own.1) fits.laid_out fits.shallow fits.small

-- ---- by size

-- A bag that isn't too large fits, however it is laid out.
pub sized_fits : (ds : List Placed) (list : List BagFieldTree) (size : Size) (nodes : Nodes) → HasSize ds list size → IsExcess size None
    → IsLaidOut ds list nodes → FitsTable ds list nodes
sized_fits ds list size nodes h within l =
    let same = one_layout ds list nodes h.nodes l h.laid_out in
    let shallow = within.0 in let small = within.1 in
    let deep = ap levels same in let many = ap node_count same in
    record { laid_out = l; shallow = omega (arith, shallow, deep, h.levels_are); small = omega (arith, small, many, h.fields_are) }

-- One that is too large has a fault.
pub sized_unfit : (ds : List Placed) (bag : BagTree) (size : Size) (code : DefCode) → HasSize ds bag.list size → IsExcess size (Some code)
    → IsUnfit ds bag (fault_in bag.file (found bag.spot code))
sized_unfit ds bag size TooDeep h e = IsUnfit.deep h.nodes h.laid_out (omega (arith, e, h.levels_are)) refl
sized_unfit ds bag size TooManySlots h e =
    let shallow = e.0 in let many = e.1 in
    IsUnfit.large h.nodes h.laid_out (omega (arith, shallow, h.levels_are)) (omega (arith, many, h.fields_are)) refl
sized_unfit ds bag size _ h e = absurd e

-- A bag that isn't too large has a layout in few levels.
pub sized_layout : (ds : List Placed) (list : List BagFieldTree) (size : Size) → HasSize ds list size → IsExcess size None
    → (nodes : Nodes) × IsLaidOut ds list nodes × (levels nodes ≤ 16)
sized_layout ds list size h within = (h.nodes, h.laid_out, (sized_fits ds list size h.nodes h within h.laid_out).shallow)
