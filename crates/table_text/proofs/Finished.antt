-- The table of the fields that all lines said.
use Rattle.std.proofs.Common.{◌≡◌, ℕ, ◌+◌, ◌≤◌, List, [], ◌∷◌, ◌++◌, length, refl, ap, arith}
use Rattle.context_model.specs.declared.TheConstants.{LEVELS_MAX}
use Rattle.bag_model.specs.Shapes.{Nodes}
use Rattle.bag_model.specs.Tables.{IsTable}
use Rattle.field_table.specs.Plain.{nodes_of}
use Rattle.table_text.specs.declared.builder.Builder.{Builder}
use Rattle.table_text.specs.declared.builder.OpenField.{OpenField}
use Rattle.table_text.specs.Builder.{AreOpen, IsSoundBuilder, level_inside, rows_around, rows_so_far, depth_of}
use Rattle.table_text.specs.TableRows.{rows_of}
use Rattle.table_text.proofs.Appended.{count_rows}

none_around : (outer : List OpenField) (nodes : Nodes) → length outer ≡ 0 → rows_around 0 outer ++ rows_of (length outer) nodes ≡ rows_of 0 nodes
none_around [] nodes none = refl
none_around (field ∷ outer) nodes none = absurd (omega (arith, none))

-- The lines are those of the outermost bag's fields.
pub rows_finished : (builder : Builder) → depth_of builder ≡ 0 → rows_so_far builder ≡ rows_of 0 (nodes_of builder.bag.fields)
rows_finished builder none = none_around builder.outer.items (nodes_of builder.bag.fields) none

-- Those fields make a table.
pub table_finished : (builder : Builder) → IsSoundBuilder builder → depth_of builder ≡ 0 → IsTable (nodes_of builder.bag.fields)
table_finished builder sound none =
    let nodes = nodes_of builder.bag.fields in
    record {
      well_formed = sound.bag.sound;
      shallow = omega (arith, sound.bag.shallow);
      small = omega (arith, sound.count, sound.few, ap length (rows_finished builder none), count_rows 0 nodes);
    }

-- Each open field takes a level.
open_levels : (level : ℕ) (outer : List OpenField) (last : ℕ) → AreOpen level outer last → level + length outer ≤ last
open_levels level [] last are = omega (arith, are)
open_levels level (field ∷ outer) last are = omega (arith, open_levels (level_inside level field) outer last are.1)

-- So there are no more than levels.
pub few_open : (builder : Builder) → IsSoundBuilder builder → depth_of builder ≤ LEVELS_MAX
few_open builder sound = omega (arith, open_levels 0 builder.outer.items builder.bag.level sound.outer, sound.bag.shallow)
