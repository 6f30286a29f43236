-- The fields of the load are a table.
use Rattle.std.proofs.Common.{◌≡◌, ℕ, List, [], ◌∷◌, ◌++◌, refl, sym, ap, ◌∙◌, arith, codes}
use Rattle.std.specs.List.{slice_index}
use Rattle.bag_model.specs.declared.Pick.TheVariants.{Least}
use Rattle.bag_model.specs.declared.words.ScalarWord.TheVariants.{Uint32, Fixed32}
use Rattle.bag_model.specs.Scalars as scalars
use Rattle.bag_model.specs.Shapes.{Shape, Nodes, Scalar, Set, Counter, no_node, fields, nodes_from}
use Rattle.bag_model.specs.Tables.{IsTable}
use Rattle.bag_model.proofs.SlotLaws.{from-fields}
use Rattle.field_table.proofs.Shown.{one_more}
use Rattle.load_maker.specs.Loads.{load_table}

pub load_is_table : IsTable load_table
load_is_table = record {
  well_formed = (
    refl,
    omega arith,
    tt,
    ((omega arith, λ e. let n : 108 ≡ 104 = ap (λ (l : List ℕ). slice_index l 0) e in omega (arith, n)), ((omega arith, λ e. let n : 108 ≡ 115 = ap (λ (l : List ℕ). slice_index l 0) e in omega (arith, n)), tt)),
    (
      refl,
      omega arith,
      tt,
      ((omega arith, λ e. let n : 104 ≡ 115 = ap (λ (l : List ℕ). slice_index l 0) e in omega (arith, n)), tt),
      (refl, omega arith, tt, tt, tt),
    ),
  );
  shallow = omega arith;
  small = omega arith;
}

-- Fields that were added one by one are those of the load.
pub three_added : (none one two three : Nodes) (least hits seen : Shape) → none ≡ no_node
    → fields one ≡ fields none ++ (record { name = codes "least"; number = 0; shape = least }) ∷ [] → least ≡ Scalar Least (scalars.ScalarKind.One Fixed32)
    → fields two ≡ fields one ++ (record { name = codes "hits"; number = 1; shape = hits }) ∷ [] → hits ≡ Counter
    → fields three ≡ fields two ++ (record { name = codes "seen"; number = 2; shape = seen }) ∷ [] → seen ≡ Set (scalars.ScalarKind.One Uint32)
    → three ≡ load_table
three_added none one two three least hits seen empty first least_is second hits_is third seen_is =
    let e0 : fields none ≡ [] = ap fields empty in
    let e1 = one_more (fields none) (fields one) [] (codes "least") 0 least (Scalar Least (scalars.ScalarKind.One Fixed32)) e0 first least_is in
    let e2 = one_more (fields one) (fields two) _ (codes "hits") 1 hits Counter e1 second hits_is in
    let e3 = one_more (fields two) (fields three) _ (codes "seen") 2 seen (Set (scalars.ScalarKind.One Uint32)) e2 third seen_is in
    sym (from-fields three) ∙ ap nodes_from e3
