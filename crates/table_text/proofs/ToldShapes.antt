-- Shapes as lines tell them, and with their fields.
use Rattle.std.proofs.Common.{◌≡◌, ℕ, ◌+◌, ◌≤◌, true, [], refl, sym, ap, arith}
use Rattle.bag_model.specs.Shapes.{Shape, Nodes, Taint, Scalar, Set, Counter, Map, Bag, no_node, node}
use Rattle.bag_model.specs.Tables.{IsShape, AreFields, levels, levels_under}
use Rattle.table_text.specs.Rows.{IsToldShape, map_count}
use Rattle.table_text.specs.Rules.{ends_in_bag}
use Rattle.table_text.specs.TableRows.{told, filled, rows_of, rows_in}

-- A shape that a line tells is its own.
pub told_told : (shape : Shape) → IsToldShape shape → told shape ≡ shape
told_told Taint h = refl
told_told (Scalar pick kind) h = refl
told_told (Set kind) h = refl
told_told Counter h = refl
told_told (Map key value) h = ap (Map key) (told_told value h.1)
told_told (Bag nodes) h = ap Bag (sym h)

pub told_filled : (nodes : Nodes) (shape : Shape) → IsToldShape shape → told (filled nodes shape) ≡ shape
told_filled nodes Taint h = refl
told_filled nodes (Scalar pick kind) h = refl
told_filled nodes (Set kind) h = refl
told_filled nodes Counter h = refl
told_filled nodes (Map key value) h = ap (Map key) (told_filled nodes value h.1)
told_filled nodes (Bag other) h = ap Bag (sym h)

-- No lines follow a shape that a line tells by itself.
pub rows_told : (depth : ℕ) (shape : Shape) → IsToldShape shape → rows_in depth shape ≡ []
rows_told depth Taint h = refl
rows_told depth (Scalar pick kind) h = refl
rows_told depth (Set kind) h = refl
rows_told depth Counter h = refl
rows_told depth (Map key value) h = rows_told depth value h.1
rows_told depth (Bag nodes) h = ap (rows_of depth) h

pub rows_filled : (depth : ℕ) (nodes : Nodes) (shape : Shape) → ends_in_bag shape ≡ true → rows_in depth (filled nodes shape) ≡ rows_of depth nodes
rows_filled depth nodes Taint ends = absurd (cc ends)
rows_filled depth nodes (Scalar pick kind) ends = absurd (cc ends)
rows_filled depth nodes (Set kind) ends = absurd (cc ends)
rows_filled depth nodes Counter ends = absurd (cc ends)
rows_filled depth nodes (Map key value) ends = rows_filled depth nodes value ends
rows_filled depth nodes (Bag other) ends = refl

pub is_shape_told : (shape : Shape) → IsToldShape shape → IsShape shape
is_shape_told Taint h = tt
is_shape_told (Scalar pick kind) h = h
is_shape_told (Set kind) h = h
is_shape_told Counter h = tt
is_shape_told (Map key value) h = (h.0, is_shape_told value h.1)
is_shape_told (Bag no_node) h = tt
is_shape_told (Bag (node name number shape nodes)) h = absurd (cc h)

pub is_shape_filled : (nodes : Nodes) (shape : Shape) → IsToldShape shape → AreFields nodes → IsShape (filled nodes shape)
is_shape_filled nodes Taint h sound = tt
is_shape_filled nodes (Scalar pick kind) h sound = h
is_shape_filled nodes (Set kind) h sound = h
is_shape_filled nodes Counter h sound = tt
is_shape_filled nodes (Map key value) h sound = (h.0, is_shape_filled nodes value h.1 sound)
is_shape_filled nodes (Bag other) h sound = sound

-- The levels of a bag are under those of the maps around it.
pub levels_filled : (nodes : Nodes) (shape : Shape) → IsToldShape shape → ends_in_bag shape ≡ true → levels_under (filled nodes shape) ≡ levels_under shape + levels nodes
levels_filled nodes Taint h ends = absurd (cc ends)
levels_filled nodes (Scalar pick kind) h ends = absurd (cc ends)
levels_filled nodes (Set kind) h ends = absurd (cc ends)
levels_filled nodes Counter h ends = absurd (cc ends)
levels_filled nodes (Map key value) h ends = omega (arith, levels_filled nodes value h.1 ends)
levels_filled nodes (Bag other) h ends = let none : levels other ≡ 0 = ap levels h in omega (arith, none)

-- What a table's shape tells.
pub told_is_told : (shape : Shape) → IsShape shape → IsToldShape (told shape)
told_is_told Taint h = tt
told_is_told (Scalar pick kind) h = h
told_is_told (Set kind) h = h
told_is_told Counter h = tt
told_is_told (Map key value) h = (h.0, told_is_told value h.1)
told_is_told (Bag nodes) h = refl

pub told_levels : (shape : Shape) → levels_under (told shape) ≤ levels_under shape
told_levels Taint = omega arith
told_levels (Scalar pick kind) = omega arith
told_levels (Set kind) = omega arith
told_levels Counter = omega arith
told_levels (Map key value) = omega (arith, told_levels value)
told_levels (Bag nodes) = omega arith

pub told_maps : (shape : Shape) → map_count (told shape) ≤ levels_under shape
told_maps Taint = omega arith
told_maps (Scalar pick kind) = omega arith
told_maps (Set kind) = omega arith
told_maps Counter = omega arith
told_maps (Map key value) = omega (arith, told_maps value)
told_maps (Bag nodes) = omega arith
