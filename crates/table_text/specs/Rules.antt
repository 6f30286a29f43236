-- The rules for a line that has the form, by the lines before it, of which the latest comes first.
use Rattle.std.specs.Prelude.{◌≡◌, ◌⊎◌, ℕ, ◌+◌, ◌<◌, ◌≤◌, ◌==◌, nat_lt, Bool, true, false, if◌then◌else◌, List, [], ◌∷◌, map, length, reverse}
use Rattle.context_model.specs.Orders.{IsIn}
use Rattle.context_model.specs.declared.TheConstants.{LEVELS_MAX}
use Rattle.bag_model.specs.declared.TheConstants.{FIELDS_MAX}
use Rattle.bag_model.specs.Shapes.{Shape, Map, Bag}
use Rattle.bag_model.specs.Tables.{levels_under}
use Rattle.text_lines.specs.Readings.{Reading, IsFirstOf, NoneOf}
use Rattle.table_text.specs.declared.faults.TableCode.{TableCode}
use Rattle.table_text.specs.declared.faults.TableCode.TheVariants.{Head, Form, Depth, Order, DuplicateField, TooDeep, TooManySlots}
use Rattle.table_text.specs.Rows.{Row, SaysRow}

-- The shape ends in a bag, whose fields the next lines say.
abbrev pub ends_in_bag : Shape → Bool
ends_in_bag (Map key value) = ends_in_bag value
ends_in_bag (Bag nodes) = true
ends_in_bag _ = false

-- The greatest depth that the next line may have: that of the line before it, one more where that
-- one ends in a bag, and 0 for the first line.
abbrev pub deepest : List Row → ℕ
deepest [] = 0
deepest (row ∷ before) = if ends_in_bag row.shape then row.depth + 1 else row.depth

-- The earlier lines of the bag in which a line of this depth is: those of its depth, as far back as
-- there is no line of a lesser depth.
abbrev pub siblings : ℕ → List Row → List Row
siblings depth [] = []
siblings depth (row ∷ before) =
    if nat_lt row.depth depth then []
    else if row.depth == depth then row ∷ siblings depth before
    else siblings depth before

-- The level of the header of a line of this depth: 0 in the outermost bag, and in another one more
-- than that of the bag's own line, and one more for each map in its shape.
abbrev pub level_at : ℕ → List Row → ℕ
level_at depth [] = 0
level_at depth (row ∷ before) =
    if nat_lt row.depth depth then level_at row.depth before +
    (1 + levels_under row.shape) else level_at depth before

-- The number isn't greater than that of the line before in the same bag.
abbrev pub IsOutOfOrder : List Row → Row → Type 0
IsOutOfOrder [] row = ⊥
IsOutOfOrder (other ∷ before) row = row.number ≤ other.number

-- The line breaks the rule of this code after these lines.
abbrev pub RowBreaks : List Row → Row → TableCode → Type 0
RowBreaks before row Head = ⊥
RowBreaks before row Form = ⊥
RowBreaks before row Depth = deepest before < row.depth
RowBreaks before row Order = IsOutOfOrder (siblings row.depth before) row
RowBreaks before row DuplicateField =
    IsIn row.name (map (λ other. other.name) (siblings row.depth before))
RowBreaks before row TooDeep = LEVELS_MAX ≤ level_at row.depth before + levels_under row.shape
RowBreaks before row TooManySlots = FIELDS_MAX ≤ length before

-- The rules for a line whose depth may be, in the order in which they count.
abbrev pub rules_of_bag : List TableCode
rules_of_bag = Order ∷ DuplicateField ∷ TooDeep ∷ TooManySlots ∷ []

-- The rules in the order in which they count.
abbrev pub table_rules : List TableCode
table_rules = Depth ∷ rules_of_bag

-- The line has the form of a field's and breaks no rule.
abbrev pub IsGoodRow : List Row → List ℕ → Row → Type 0
IsGoodRow before text row = SaysRow text row × NoneOf (RowBreaks before row) table_rules

-- The line hasn't the form, or this is the first rule that it breaks.
abbrev pub IsBadRowLine : List Row → List ℕ → TableCode → Type 0
IsBadRowLine before text code =
    (((row : Row) → SaysRow text row → ⊥) × (code ≡ Form))
    ⊎ ((row : Row) × SaysRow text row × IsFirstOf (RowBreaks before row) table_rules code)

-- Lines say fields, each after those before it.
abbrev pub field_lines : Reading Row TableCode
field_lines = record {
  says = λ earlier text row. IsGoodRow (reverse earlier) text row;
  faults = λ earlier text code. IsBadRowLine (reverse earlier) text code;
}
