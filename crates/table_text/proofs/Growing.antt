-- The fields so far with a bag closed, and with a line more.
use Rattle.std.proofs.Common.{◌≡◌, ◌+◌, ◌<◌, ◌≤◌, true, false, if◌then◌else◌, List, [], ◌∷◌, ◌++◌, map, length, reverse, refl, sym, ap, subst, ◌∙◌, append_assoc, append-nil, length-append, zero-add, arith}
use Rattle.std.specs.List.{AllByRecursion}
use Rattle.text_lines.specs.Readings.{NoneOf}
use Rattle.context_model.specs.Orders.{IsIn}
use Rattle.context_model.specs.declared.TheConstants.{LEVELS_MAX}
use Rattle.bag_model.specs.declared.TheConstants.{FIELDS_MAX}
use Rattle.bag_model.specs.Shapes.{Shape, Nodes, Field, fields, no_node}
use Rattle.bag_model.specs.Tables.{levels_under}
use Rattle.field_table.specs.Plain.{shape_of, nodes_of, IsIndexed, IsIndexedShape}
use Rattle.table_text.specs.declared.builder.Builder.{Builder}
use Rattle.table_text.specs.declared.builder.OpenBag.{OpenBag}
use Rattle.table_text.specs.declared.builder.OpenField.{OpenField}
use Rattle.table_text.specs.declared.rows.Row.{Row as CodeRow}
use Rattle.table_text.specs.Builder.{IsSoundRow, IsBag, AreOpen, IsSoundBuilder, IsFresh, head_name, least_behind, head_of, level_inside, open_row, rows_around, rows_so_far, depth_of, IsFieldBehind}
use Rattle.table_text.specs.Names.{HaveNames}
use Rattle.table_text.specs.Rows.{Row, IsToldShape}
use Rattle.table_text.specs.Rules.{deepest, ends_in_bag, RowBreaks, rules_of_bag}
use Rattle.table_text.specs.TableRows.{filled, rows_of, rows_in}
use Rattle.table_text.specs.Views.{plain_row_of}
use Rattle.table_text.proofs.Appended.{with_field, is_with, rows_with}
use Rattle.table_text.proofs.BagRules.{IsHere, here, may_stand_here}
use Rattle.table_text.proofs.Building.{no_fields, noted, whole, open_push, open_pop, around_push}
use Rattle.table_text.proofs.RuleTests.{may_stand}
use Rattle.table_text.proofs.Siblings.{row_at, latest}
use Rattle.table_text.proofs.ToldShapes.{told_told, told_filled, rows_told, rows_filled, is_shape_told, is_shape_filled, levels_filled}

-- What was said of the bags around, with one more.
around_more : (outer : List OpenField) (field : OpenField)
    → rows_around 0 (outer ++ field ∷ []) ≡ rows_around 0 outer ++ (rows_of (length outer) (nodes_of field.bag.fields) ++ open_row (length outer) field ∷ [])
around_more outer field =
    around_push 0 outer field
    ∙ ap (λ d. rows_around 0 outer ++ (rows_of d (nodes_of field.bag.fields) ++ open_row d field ∷ [])) (zero-add (length outer))

longer : (outer : List OpenField) (field : OpenField) → length (outer ++ field ∷ []) ≡ length outer + 1
longer outer field = omega (arith, length-append outer (field ∷ []))

-- ---- a bag is closed

-- The field with the fields of its bag.
abbrev pub whole_field : Nodes → CodeRow → Field
whole_field inner row = record { name = row.name.now; number = row.number; shape = filled inner (shape_of row.shape) }

closed_rows : (rest : List OpenField) (field : OpenField) (inner next : Nodes) → next ≡ with_field (nodes_of field.bag.fields) (whole_field inner field.row)
    → IsToldShape (shape_of field.row.shape) → ends_in_bag (shape_of field.row.shape) ≡ true
    → rows_around 0 rest ++ rows_of (length rest) next ≡ rows_around 0 (rest ++ field ∷ []) ++ rows_of (length (rest ++ field ∷ [])) inner
closed_rows rest field inner next is telling ends =
    let n = length rest in
    let around = rows_around 0 rest in
    let own = rows_of n (nodes_of field.bag.fields) in
    let shape = shape_of field.row.shape in
    let row = open_row n field in
    let below = rows_of (n + 1) inner in
    let line : row_at n (whole_field inner field.row) ≡ row =
    ap (λ (s : Shape). record { depth = n; name = field.row.name.now; number = field.row.number; shape = s }) (told_filled inner shape telling)
    in
    let one : rows_of n next ≡ own ++ row ∷ below =
    ap (rows_of n) is ∙ rows_with n (nodes_of field.bag.fields) (whole_field inner field.row)
    ∙ ap (λ (r : Row). own ++ r ∷ rows_in (n + 1) (filled inner shape)) line ∙ ap (λ (l : List Row). own ++ row ∷ l) (rows_filled (n + 1) inner shape ends)
    in
    ap (λ (l : List Row). around ++ l) one
    ∙ ap (λ (l : List Row). around ++ l) (sym (append_assoc own (row ∷ []) below))
    ∙ sym (append_assoc around (own ++ row ∷ []) below)
    ∙ ap (λ (l : List Row). l ++ below) (sym (around_more rest field))
    ∙ ap (λ d. rows_around 0 (rest ++ field ∷ []) ++ rows_of d inner) (sym (longer rest field))

-- The same lines, and still sound.
pub record IsClosed (builder next : Builder) : Type 0 where
  pub rows : rows_so_far next ≡ rows_so_far builder
  pub sound : IsSoundBuilder next

pub closing : (builder next : Builder) (field : OpenField) → IsSoundBuilder builder → builder.outer.items ≡ next.outer.items ++ field ∷ [] → next.rows ≡ builder.rows
    → fields (nodes_of next.bag.fields) ≡ fields (nodes_of field.bag.fields) ++ whole_field (nodes_of builder.bag.fields) field.row ∷ []
    → (IsIndexed field.bag.fields → IsIndexedShape field.row.shape → IsIndexed builder.bag.fields → IsIndexed next.bag.fields) → next.bag.names ≡ field.bag.names → next.bag.least ≡ field.bag.least → next.bag.level ≡ field.bag.level
    → IsClosed builder next
closing builder next field sound outer rows more indexed names least own =
    let inner = nodes_of builder.bag.fields in
    let shape = shape_of field.row.shape in
    let last = open_pop 0 next.outer.items builder.bag.level field (subst (λ (l : List OpenField). AreOpen 0 l builder.bag.level) outer sound.outer) in
    let is = last.field_is in
    let with = is_with (nodes_of field.bag.fields) (nodes_of next.bag.fields) (whole_field inner field.row) more in
    let same = closed_rows next.outer.items field inner (nodes_of next.bag.fields) with is.row.told is.ends
    ∙ ap (λ (l : List OpenField). rows_around 0 l ++ rows_of (length l) inner) (sym outer) in
    let level : last.around ≡ next.bag.level = sym (own ∙ is.bag.at_level) in
    let deep : last.around + (1 + levels_under (filled inner shape)) ≤ LEVELS_MAX = omega (arith, levels_filled inner shape is.row.told is.ends, sound.bag.shallow, last.inside) in
    record {
      rows = same;
      sound = record {
        outer = subst (λ l. AreOpen 0 next.outer.items l) level last.rest;
        bag =
            subst (λ l. IsBag next.bag l (fields (nodes_of next.bag.fields))) level
            (whole field.bag next.bag last.around (head_of field.row) (whole_field inner field.row) is.bag refl refl more (indexed is.bag.indexed is.row.indexed sound.bag.indexed) names least own
            is.row.named is.row.numbered (is_shape_filled inner shape is.row.told sound.bag.sound) is.behind deep);
        count = rows ∙ sound.count ∙ ap length (sym same);
        few = omega (arith, rows, sound.few);
      };
    }

-- ---- a line more

-- The lines with one more, still sound, and the innermost bag is the one for the next line.
pub record IsGrown (builder next : Builder) (row : Row) : Type 0 where
  pub rows : rows_so_far next ≡ rows_so_far builder ++ row ∷ []
  pub sound : IsSoundBuilder next
  pub fresh : IsFresh next

fresh_more : (builder next : Builder) (row : Row) (ends : _) → rows_so_far next ≡ rows_so_far builder ++ row ∷ [] → ends_in_bag row.shape ≡ ends
    → (if ends then row.depth + 1 else row.depth) ≡ depth_of next → IsFresh next
fresh_more builder next row ends rows is depth =
    ap (λ (l : List Row). deepest (reverse l)) rows ∙ ap deepest (latest (rows_so_far builder) row)
    ∙ ap (λ b. if b then row.depth + 1 else row.depth) is ∙ depth

count_more : (builder next : Builder) (row : Row) → IsSoundBuilder builder → rows_so_far next ≡ rows_so_far builder ++ row ∷ [] → next.rows ≡ builder.rows + 1 → next.rows ≡ length (rows_so_far next)
count_more builder next row sound rows more =
    omega (arith, more, sound.count, ap length rows, length-append (rows_so_far builder) (row ∷ []))

-- What a line says whose field is allowed in the innermost bag.
pub record IsNext (builder : Builder) (row : CodeRow) : Type 0 where
  pub sound : IsSoundBuilder builder
  pub row_is : IsSoundRow row
  pub depth : row.depth ≡ depth_of builder
  pub number : least_behind (fields (nodes_of builder.bag.fields)) ≤ row.number
  pub name : IsIn row.name.now (map head_name (fields (nodes_of builder.bag.fields))) → ⊥
  pub levels_fit : builder.bag.level + levels_under (shape_of row.shape) < LEVELS_MAX
  pub fewer : builder.rows < FIELDS_MAX

-- The bag with the line noted.
pub record IsNoted (builder : Builder) (row : CodeRow) (bag : OpenBag) : Type 0 where
  pub fields_same : bag.fields ≡ builder.bag.fields
  pub names : HaveNames bag.names (row.name.now ∷ builder.bag.names)
  pub least : bag.least ≡ row.number + 1
  pub level : bag.level ≡ builder.bag.level

module _ (builder : Builder) (row : CodeRow) (bag : OpenBag) (next_row : IsNext builder row) (note : IsNoted builder row bag) where
  bag_noted : IsBag bag builder.bag.level (fields (nodes_of bag.fields) ++ head_of row ∷ [])
  bag_noted = noted builder.bag bag builder.bag.level (head_of row) next_row.sound.bag note.fields_same note.names note.least note.level

  behind : AllByRecursion (IsFieldBehind row.name.now row.number) (fields (nodes_of bag.fields))
  behind =
      subst (λ slots. AllByRecursion (IsFieldBehind row.name.now row.number) (fields (nodes_of slots))) (sym note.fields_same)
      (may_stand (nodes_of builder.bag.fields) row.name.now row.number next_row.sound.bag.sound next_row.number next_row.name)

  -- The line is that of a field with a bag.
  pub opened : (next : Builder) → ends_in_bag (shape_of row.shape) ≡ true → next.outer.items ≡ builder.outer.items ++ (record { bag = bag; row = row }) ∷ []
      → next.rows ≡ builder.rows + 1 → nodes_of next.bag.fields ≡ no_node → IsIndexed next.bag.fields → next.bag.names ≡ [] → next.bag.least ≡ 0
      → next.bag.level ≡ bag.level + levels_under (shape_of row.shape) + 1 → IsGrown builder next (plain_row_of row)
  opened next ends outer rows empty indexed names least level =
      let field : OpenField = record { bag = bag; row = row } in
      let n = depth_of builder in
      let around = rows_around 0 builder.outer.items in
      let own = rows_of n (nodes_of builder.bag.fields) in
      let line : open_row n field ≡ plain_row_of row = ap (λ d. record { depth = d; name = row.name.now; number = row.number; shape = shape_of row.shape }) (sym next_row.depth) in
      let kept : rows_of n (nodes_of bag.fields) ≡ own = ap (λ slots. rows_of n (nodes_of slots)) note.fields_same in
      let all : rows_so_far next ≡ rows_so_far builder ++ plain_row_of row ∷ [] =
      ap (λ (l : List OpenField). rows_around 0 l ++ rows_of (length l) (nodes_of next.bag.fields)) outer
      ∙ ap (λ (m : Nodes). rows_around 0 (builder.outer.items ++ field ∷ []) ++ rows_of (length (builder.outer.items ++ field ∷ [])) m) empty
      ∙ append-nil (rows_around 0 (builder.outer.items ++ field ∷ []))
      ∙ around_more builder.outer.items field
      ∙ ap (λ (l : List Row). around ++ (l ++ open_row n field ∷ [])) kept
      ∙ ap (λ (r : Row). around ++ (own ++ r ∷ [])) line
      ∙ sym (append_assoc around own (plain_row_of row ∷ []))
      in
      let deep : depth_of next ≡ row.depth + 1 = omega (arith, ap length outer, longer builder.outer.items field, next_row.depth) in
      let inside : next.bag.level ≡ level_inside builder.bag.level field = omega (arith, level, note.level) in
      record {
        rows = all;
        sound = record {
          outer =
              subst (λ (l : List OpenField). AreOpen 0 l next.bag.level) (sym outer)
              (subst (λ l. AreOpen 0 (builder.outer.items ++ field ∷ []) l) (sym inside)
              (open_push 0 builder.outer.items builder.bag.level field next_row.sound.outer
              (record { bag = bag_noted; row = next_row.row_is; ends = ends; behind = behind; deep = next_row.levels_fit })));
          bag = no_fields next.bag next.bag.level empty indexed names least refl (omega (arith, inside, next_row.levels_fit));
          count = count_more builder next (plain_row_of row) next_row.sound all rows;
          few = omega (arith, rows, next_row.fewer);
        };
        fresh = fresh_more builder next (plain_row_of row) true all ends (sym deep);
      }

  -- The line is that of a field without a bag.
  pub added : (next : Builder) → ends_in_bag (shape_of row.shape) ≡ false → next.outer.items ≡ builder.outer.items
      → next.rows ≡ builder.rows + 1 → fields (nodes_of next.bag.fields) ≡ fields (nodes_of bag.fields) ++ head_of row ∷ []
      → (IsIndexed bag.fields → IsIndexed next.bag.fields) → next.bag.names ≡ bag.names → next.bag.least ≡ bag.least → next.bag.level ≡ bag.level → IsGrown builder next (plain_row_of row)
  added next ends outer rows more indexed names least level =
      let n = depth_of builder in
      let around = rows_around 0 builder.outer.items in
      let own = rows_of n (nodes_of builder.bag.fields) in
      let shape = shape_of row.shape in
      let with = is_with (nodes_of bag.fields) (nodes_of next.bag.fields) (head_of row) more in
      let line : row_at n (head_of row) ≡ plain_row_of row =
      ap (λ (s : Shape). record { depth = n; name = row.name.now; number = row.number; shape = s }) (told_told shape next_row.row_is.told)
      ∙ ap (λ d. record { depth = d; name = row.name.now; number = row.number; shape = shape }) (sym next_row.depth)
      in
      let one : rows_of n (nodes_of next.bag.fields) ≡ own ++ plain_row_of row ∷ [] =
      ap (rows_of n) with ∙ rows_with n (nodes_of bag.fields) (head_of row)
      ∙ ap (λ slots. rows_of n (nodes_of slots) ++ row_at n (head_of row) ∷ rows_in (n + 1) shape) note.fields_same
      ∙ ap (λ (r : Row). own ++ r ∷ rows_in (n + 1) shape) line ∙ ap (λ (l : List Row). own ++ plain_row_of row ∷ l) (rows_told (n + 1) shape next_row.row_is.told)
      in
      let all : rows_so_far next ≡ rows_so_far builder ++ plain_row_of row ∷ [] =
      ap (λ (l : List OpenField). rows_around 0 l ++ rows_of (length l) (nodes_of next.bag.fields)) outer
      ∙ ap (λ (l : List Row). around ++ l) one ∙ sym (append_assoc around own (plain_row_of row ∷ []))
      in
      let same : builder.bag.level ≡ next.bag.level = sym (level ∙ note.level) in
      record {
        rows = all;
        sound = record {
          outer = subst (λ (l : List OpenField). AreOpen 0 l next.bag.level) (sym outer) (subst (λ l. AreOpen 0 builder.outer.items l) same next_row.sound.outer);
          bag =
              subst (λ l. IsBag next.bag l (fields (nodes_of next.bag.fields))) same
              (whole bag next.bag builder.bag.level (head_of row) (head_of row) bag_noted refl refl more (indexed bag_noted.indexed) names least level
              next_row.row_is.named next_row.row_is.numbered (is_shape_told shape next_row.row_is.told) behind (omega (arith, next_row.levels_fit)));
          count = count_more builder next (plain_row_of row) next_row.sound all rows;
          few = omega (arith, rows, next_row.fewer);
        };
        fresh = fresh_more builder next (plain_row_of row) false all ends (omega (arith, ap length outer, next_row.depth));
      }

-- A line that breaks no rule is the next.
pub is_next : (builder : Builder) (row : CodeRow) → IsSoundBuilder builder → IsSoundRow row → row.depth ≡ depth_of builder → NoneOf (RowBreaks (reverse (rows_so_far builder)) (plain_row_of row)) rules_of_bag → IsNext builder row
is_next builder row sound row_is depth good =
    let before = reverse (rows_so_far builder) in
    let fs = fields (nodes_of builder.bag.fields) in
    let is : IsHere before row.depth builder.bag.level fs builder.rows = subst (λ d. IsHere before d builder.bag.level fs builder.rows) (sym depth) (here builder sound) in
    let may = may_stand_here before builder.bag.level fs builder.rows (plain_row_of row) is good in
    record { sound = sound; row_is = row_is; depth = depth; number = may.number; name = may.name; levels_fit = may.levels; fewer = may.fewer }
