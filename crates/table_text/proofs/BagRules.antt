-- The rules for the next field of the innermost bag, as the code tests them.
use Rattle.std.proofs.Common.{◌≡◌, inl, inr, ℕ, ◌+◌, ◌<◌, ◌≤◌, true, false, List, [], map, length, reverse, refl, sym, subst, ◌∙◌, zero-add, arith}
use Rattle.std.specs.List.{list_any}
use Rattle.std.specs.Str.{bytes_eq}
use Rattle.std.proofs.lemmas.List.{length-reverse}
use Rattle.context_model.specs.Orders.{IsIn}
use Rattle.context_model.specs.declared.TheConstants.{LEVELS_MAX}
use Rattle.bag_model.specs.declared.TheConstants.{FIELDS_MAX}
use Rattle.bag_model.specs.Shapes.{Field, fields}
use Rattle.bag_model.specs.Tables.{levels_under}
use Rattle.field_table.specs.Plain.{nodes_of}
use Rattle.text_lines.specs.Readings.{IsFirstOf, NoneOf}
use Rattle.table_text.specs.declared.builder.Builder.{Builder}
use Rattle.table_text.specs.declared.faults.TableCode.TheVariants.{Order, DuplicateField, TooDeep, TooManySlots}
use Rattle.table_text.specs.Builder.{IsSoundBuilder, head_name, least_behind, depth_of, rows_so_far, rows_around}
use Rattle.table_text.specs.Rows.{Row}
use Rattle.table_text.specs.Rules.{siblings, level_at, IsOutOfOrder, RowBreaks, rules_of_bag}
use Rattle.table_text.proofs.Building.{around_start}
use Rattle.table_text.proofs.RuleTests.{lines_back, row_name, order_broken, order_kept, named_line, line_named, found_in, in_found}
use Rattle.table_text.proofs.Siblings.{IsStart, outermost, start_siblings, start_level}

-- What the lines before say of the innermost bag.
pub record IsHere (before : List Row) (depth level : ℕ) (fs : List Field) (count : ℕ) : Type 0 where
  pub siblings_are : siblings depth before ≡ lines_back depth fs
  pub level_is : level_at depth before ≡ level
  pub count_is : length before ≡ count

pub here : (builder : Builder) → IsSoundBuilder builder → IsHere (reverse (rows_so_far builder)) (depth_of builder) builder.bag.level (fields (nodes_of builder.bag.fields)) builder.rows
here builder sound =
    let outer = builder.outer.items in
    let base = rows_around 0 outer in
    let nodes = nodes_of builder.bag.fields in
    let start : IsStart base (length outer) builder.bag.level =
    subst (λ d. IsStart base d builder.bag.level) (zero-add (length outer)) (around_start [] 0 0 outer builder.bag.level outermost sound.outer)
    in
    record {
      siblings_are = start_siblings base (length outer) builder.bag.level nodes start;
      level_is = start_level base (length outer) builder.bag.level nodes start;
      count_is = length-reverse (rows_so_far builder) ∙ sym sound.count;
    }

module _ (before : List Row) (level : ℕ) (fs : List Field) (count : ℕ) (row : Row) (is : IsHere before row.depth level fs count) where
  pub breaks_order : row.number < least_behind fs → RowBreaks before row Order
  breaks_order less = subst (λ (l : List Row). IsOutOfOrder l row) (sym is.siblings_are) (order_broken row.depth fs row less)

  pub keeps_order : least_behind fs ≤ row.number → RowBreaks before row Order → ⊥
  keeps_order most broken = order_kept row.depth fs row most (subst (λ (l : List Row). IsOutOfOrder l row) is.siblings_are broken)

  pub breaks_name : list_any (bytes_eq row.name) (map head_name fs) ≡ true → RowBreaks before row DuplicateField
  breaks_name found =
      subst (λ (l : List Row). IsIn row.name (map row_name l)) (sym is.siblings_are) (named_line row.depth fs row.name (found_in row.name (map head_name fs) found))

  pub keeps_name : list_any (bytes_eq row.name) (map head_name fs) ≡ false → RowBreaks before row DuplicateField → ⊥
  keeps_name none broken =
      let there = line_named row.depth fs row.name (subst (λ (l : List Row). IsIn row.name (map row_name l)) is.siblings_are broken) in
      let bad : true ≡ false = sym (in_found row.name (map head_name fs) there) ∙ none in cc bad

  pub new_name : (RowBreaks before row DuplicateField → ⊥) → IsIn row.name (map head_name fs) → ⊥
  new_name kept i = kept (subst (λ (l : List Row). IsIn row.name (map row_name l)) (sym is.siblings_are) (named_line row.depth fs row.name i))

  pub breaks_levels : LEVELS_MAX ≤ level + levels_under row.shape → RowBreaks before row TooDeep
  breaks_levels deep = omega (arith, deep, is.level_is)

  pub keeps_levels : level + levels_under row.shape < LEVELS_MAX → RowBreaks before row TooDeep → ⊥
  keeps_levels few broken = omega (arith, few, broken, is.level_is)

  pub breaks_count : FIELDS_MAX ≤ count → RowBreaks before row TooManySlots
  breaks_count many = omega (arith, many, is.count_is)

  pub keeps_count : count < FIELDS_MAX → RowBreaks before row TooManySlots → ⊥
  keeps_count few broken = omega (arith, few, broken, is.count_is)

  -- What a field that breaks no rule is.
  pub record MayStand : Type 0 where
    pub number : least_behind fs ≤ row.number
    pub name : IsIn row.name (map head_name fs) → ⊥
    pub levels : level + levels_under row.shape < LEVELS_MAX
    pub fewer : count < FIELDS_MAX

  pub may_stand_here : NoneOf (RowBreaks before row) rules_of_bag → MayStand
  may_stand_here none = record {
    number = not_less (least_behind fs) row.number (λ less. none.0 (breaks_order less));
    name = new_name none.1.0;
    levels = not_most LEVELS_MAX (level + levels_under row.shape) (λ deep. none.1.1.0 (breaks_levels deep));
    fewer = not_most FIELDS_MAX count (λ many. none.1.1.1.0 (breaks_count many));
  }
    where
      not_less : (a b : ℕ) → (b < a → ⊥) → a ≤ b
      not_less a b none = omega (arith, none)

      not_most : (a b : ℕ) → (a ≤ b → ⊥) → b < a
      not_most a b none = omega (arith, none)

  -- ---- the first rule that is broken

  pub order_first : row.number < least_behind fs → IsFirstOf (RowBreaks before row) rules_of_bag Order
  order_first less = inl (refl, breaks_order less)

  pub name_first : least_behind fs ≤ row.number → list_any (bytes_eq row.name) (map head_name fs) ≡ true → IsFirstOf (RowBreaks before row) rules_of_bag DuplicateField
  name_first most found = inr (keeps_order most, inl (refl, breaks_name found))

  pub levels_first : least_behind fs ≤ row.number → list_any (bytes_eq row.name) (map head_name fs) ≡ false → LEVELS_MAX ≤ level + levels_under row.shape
      → IsFirstOf (RowBreaks before row) rules_of_bag TooDeep
  levels_first most none deep = inr (keeps_order most, inr (keeps_name none, inl (refl, breaks_levels deep)))

  pub count_first : least_behind fs ≤ row.number → list_any (bytes_eq row.name) (map head_name fs) ≡ false → level + levels_under row.shape < LEVELS_MAX → FIELDS_MAX ≤ count
      → IsFirstOf (RowBreaks before row) rules_of_bag TooManySlots
  count_first most none few many = inr (keeps_order most, inr (keeps_name none, inr (keeps_levels few, inl (refl, breaks_count many))))

  pub none_broken : least_behind fs ≤ row.number → list_any (bytes_eq row.name) (map head_name fs) ≡ false → level + levels_under row.shape < LEVELS_MAX → count < FIELDS_MAX
      → NoneOf (RowBreaks before row) rules_of_bag
  none_broken most none few fewer = (keeps_order most, (keeps_name none, (keeps_levels few, (keeps_count fewer, tt))))
