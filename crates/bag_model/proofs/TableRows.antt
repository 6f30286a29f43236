-- Slots, levels and names of known fields, computed from the definitions.
use Rattle.std.proofs.Common.{◌≡◌, true, false, [], ◌∷◌, map, codes, refl}
use Rattle.bag_model.specs.declared.Pick.TheVariants.{Least}
use Rattle.bag_model.specs.declared.words.ScalarWord.TheVariants.{Fixed32, Str}
use Rattle.bag_model.specs.Scalars as scalars
use Rattle.bag_model.specs.Shapes.{Nodes, Taint, Scalar, Counter, Map, Bag, no_node, node}
use Rattle.bag_model.specs.Sizes.{nodes_size}
use Rattle.bag_model.specs.Slots.{slots_of, dotted, name_path}
use Rattle.bag_model.specs.Tables.{levels, node_count}
use Rattle.bag_model.specs.Words.{is_name}

-- A field `id`, a bag `sub` with a field `ok` and a map to bags `by`, and a counter `hops`.
sample : Nodes
sample =
    node (codes "id") 0 (Scalar Least (scalars.ScalarKind.One Fixed32))
    (node (codes "sub") 1 (Bag (node (codes "ok") 2 Taint (node (codes "by") 5 (Map (scalars.ScalarKind.One Str) (Bag (node (codes "n") 0 Counter no_node))) no_node)))
    (node (codes "hops") 7 Counter no_node))

-- The nested bag's slots are in its place, and a map is one slot.
names_row : map name_path (slots_of sample) ≡ codes "id" ∷ codes "sub.ok" ∷ codes "sub.by" ∷ codes "hops" ∷ []
unfolding sample
names_row = refl

numbers_row : map (λ at. at.numbers) (slots_of sample) ≡ (0 ∷ []) ∷ (1 ∷ 2 ∷ []) ∷ (1 ∷ 5 ∷ []) ∷ (7 ∷ []) ∷ []
unfolding sample
numbers_row = refl

-- `sub`, `by`, a key of it, `n` and a writer.
levels_row : levels sample ≡ 5
unfolding sample
levels_row = refl

-- The field inside the map's values counts, too.
count_row : node_count sample ≡ 6
unfolding sample
count_row = refl

size_row : nodes_size sample ≡ 14
unfolding sample
size_row = refl

dotted_row : dotted (codes "a" ∷ codes "b" ∷ codes "c" ∷ []) ≡ codes "a.b.c"
dotted_row = refl

name_row : is_name (codes "_a9") ≡ true
name_row = refl

empty_row : is_name [] ≡ false
empty_row = refl

digit_row : is_name (codes "9a") ≡ false
digit_row = refl

dot_row : is_name (codes "a.b") ≡ false
dot_row = refl

reserved_row : is_name (codes "counter") ≡ false
reserved_row = refl

-- The case of a letter counts.
case_row : is_name (codes "Counter") ≡ true
case_row = refl
