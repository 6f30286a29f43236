-- What a line says, by its parts.
use Rattle.std.proofs.Common.{◌≡◌, ℕ, true, false, List, sym, ◌∙◌, ap, subst}
use Rattle.std.specs.Fmt.{decimal}
use Rattle.bag_model.specs.Tables.{is_name}
use Rattle.bag_model.specs.Shapes.{Shape}
use Rattle.table_text.specs.declared.TheConstants.{MAPS_MAX}
use Rattle.table_text.specs.declared.faults.TableCode.{TableCode}
use Rattle.table_text.specs.declared.faults.TableCode.TheVariants.{Head, Form, Depth, Order, DuplicateField, TooDeep, TooManySlots}
use Rattle.outside.specs.declared.answers.OrMemory.TheVariants.{Fault}
use Rattle.table_text.specs.Rows.{Row, IsDepth, SaysRow}
use Rattle.table_text.specs.TableTexts.{shape_text}
use Rattle.table_text.specs.Words.{IsFieldNumberText, IsNoDepth, IsShapeText, HasNoParts, parts_line}
use Rattle.table_text.specs.Views.{HasNoRow}
use Rattle.table_text.proofs.Depths.{depth_free, number_free}
use Rattle.text_lines.specs.Words.{HasNoSpace}
use Rattle.table_text.proofs.Parts.{AreSame, same_parts}
use Rattle.table_text.proofs.NameBytes.{name_free}

-- The line is made of these parts.
abbrev pub HasParts : List ℕ → List ℕ → List ℕ → List ℕ → List ℕ → Type 0
HasParts line d n m s = HasNoSpace d × HasNoSpace n × HasNoSpace m × (line ≡ parts_line d n m s)

pub not_parts : (line : List ℕ) → HasNoParts line → (row : Row) → SaysRow line row → ⊥
not_parts line none row says =
    none says.digits (decimal row.number) row.name (shape_text row.shape) (depth_free says.digits row.depth says.deep) (number_free row.number says.numbered) (name_free row.name says.named) says.is

-- What the line says has these parts.
pub parts_said : (line d n m s : List ℕ) → HasParts line d n m s → (row : Row) → (says : SaysRow line row) → AreSame d n m s says.digits (decimal row.number) row.name (shape_text row.shape)
parts_said line d n m s h row says =
    same_parts d n m s says.digits (decimal row.number) row.name (shape_text row.shape) h.0 h.1 h.2
    (depth_free says.digits row.depth says.deep) (number_free row.number says.numbered) (name_free row.name says.named) (sym h.3 ∙ says.is)

pub no_number : (line d n m s : List ℕ) → HasParts line d n m s → ((number : ℕ) → IsFieldNumberText n number → ⊥) → (row : Row) → SaysRow line row → ⊥
no_number line d n m s h none row says = none row.number (says.numbered, (parts_said line d n m s h row says).number)

pub no_name : (line d n m s : List ℕ) → HasParts line d n m s → is_name m ≡ false → (row : Row) → SaysRow line row → ⊥
no_name line d n m s h none row says =
    let bad : true ≡ false = sym says.named ∙ ap is_name (sym (parts_said line d n m s h row says).name) ∙ none in cc bad

pub no_told : (line d n m s : List ℕ) → HasParts line d n m s → ((shape : Shape) → IsShapeText MAPS_MAX s shape → ⊥) → (row : Row) → SaysRow line row → ⊥
no_told line d n m s h none row says = none row.shape (says.told, says.flat, (parts_said line d n m s h row says).shape)

-- A line whose other parts are well is refused as its depth is.
pub no_depth : (line d n m s : List ℕ) → HasParts line d n m s → (number : ℕ) (shape : Shape) → IsFieldNumberText n number → is_name m ≡ true → IsShapeText MAPS_MAX s shape
    → (code : TableCode) → IsNoDepth d code → HasNoRow line (Fault code)
no_depth line d n m s h number shape numbered named told Form none = λ row says.
    none row.depth (subst (λ (text : List ℕ). IsDepth text row.depth) (sym (parts_said line d n m s h row says).depth) says.deep)
no_depth line d n m s h number shape numbered named told Depth (depth, deep, great) = (
  record { depth = depth; name = m; number = number; shape = shape },
  record {
    named = named;
    numbered = numbered.0;
    told = told.0;
    flat = told.1;
    digits = d;
    deep = deep;
    is = h.3 ∙ ap (λ (t : List ℕ). parts_line d t m s) numbered.1 ∙ ap (parts_line d (decimal number) m) told.2;
  },
  great,
)
no_depth line d n m s h number shape numbered named told Head none = none
no_depth line d n m s h number shape numbered named told Order none = none
no_depth line d n m s h number shape numbered named told DuplicateField none = none
no_depth line d n m s h number shape numbered named told TooDeep none = none
no_depth line d n m s h number shape numbered named told TooManySlots none = none
