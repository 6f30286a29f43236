-- The slots of a table have names, and shapes of a table.
use Rattle.std.proofs.Common.{◌≡◌, ℕ, zero, suc, ◌<◌, List, [], ◌∷◌, ◌++◌, length, map, Some, true, refl, sym, subst, arith}
use Rattle.std.specs.List.{AllByRecursion, slice_get}
use Rattle.bag_model.specs.Shapes.{Shape, Nodes, Taint, Scalar, Set, Counter, Map, Bag, no_node, node}
use Rattle.bag_model.specs.Slots.{SlotAt, slots_of, slots_in, within, name_path}
use Rattle.bag_model.specs.SlotValues.{HasSlot}
use Rattle.bag_model.specs.Tables.{IsShape, AreFields}
use Rattle.bag_model.specs.Words.{is_name}
use Rattle.bag_model.proofs.SlotPaths.{LeadsFrom, slot_leads}
use Rattle.graph_lines.specs.Forms.{IsWord, IsPath}
use Rattle.write_proof.proofs.Feeds.{name_is}

-- The slot has names, and a shape of a table.
abbrev IsNamed : SlotAt → Type 0
IsNamed at = AllByRecursion IsWord at.names × IsShape at.shape

all_within : (name : List ℕ) (number : ℕ) (ats : List SlotAt) → is_name name ≡ true → AllByRecursion IsNamed ats → AllByRecursion IsNamed (map (within name number) ats)
all_within name number [] is all = tt
all_within name number (at ∷ ats) is all = (((name_is name is, (all.0).0), (all.0).1), all_within name number ats is all.1)

all_both : (ats more : List SlotAt) → AllByRecursion IsNamed ats → AllByRecursion IsNamed more → AllByRecursion IsNamed (ats ++ more)
all_both [] more p q = q
all_both (at ∷ ats) more p q = (p.0, all_both ats more p.1 q)

mutual
  inside_named : (own : Shape) → IsShape own → AllByRecursion IsNamed (slots_in own)
  inside_named Taint s = ((tt, s), tt)
  inside_named (Scalar pick kind) s = ((tt, s), tt)
  inside_named (Set kind) s = ((tt, s), tt)
  inside_named Counter s = ((tt, s), tt)
  inside_named (Map key value) s = ((tt, s), tt)
  inside_named (Bag nodes) s = slots_named nodes s

  slots_named : (nodes : Nodes) → AreFields nodes → AllByRecursion IsNamed (slots_of nodes)
  slots_named no_node s = tt
  slots_named (node name number shape nodes) s =
      all_both (map (within name number) (slots_in shape)) (slots_of nodes) (all_within name number (slots_in shape) s.0 (inside_named shape s.2)) (slots_named nodes s.4)

named_at : (ats : List SlotAt) (place : ℕ) (at : SlotAt) → AllByRecursion IsNamed ats → slice_get ats place ≡ Some at → IsNamed at
named_at [] place at all e = absurd (cc e)
named_at (own ∷ ats) zero at all e = let same : own ≡ at = cc e in subst IsNamed same all.0
named_at (own ∷ ats) (suc place) at all e = named_at ats place at all.1 e

pub slot_shape : (nodes : Nodes) (place : ℕ) (at : SlotAt) → AreFields nodes → HasSlot nodes place at → IsShape at.shape
slot_shape nodes place at fields there = (named_at (slots_of nodes) place at (slots_named nodes fields) there).1

-- The name path of a slot is a path.
pub slot_path : (nodes : Nodes) (place : ℕ) (at : SlotAt) → AreFields nodes → HasSlot nodes place at → IsPath (name_path at)
slot_path nodes place at fields there =
    let leads : LeadsFrom nodes place at = slot_leads nodes place at there in
    let some : 0 < length at.names = subst (λ (l : List (List ℕ)). 0 < length l) (sym leads.is) (omega arith) in
    (at.names, some, (named_at (slots_of nodes) place at (slots_named nodes fields) there).0, refl)
