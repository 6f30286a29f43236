-- The lines that say what a table's fields are.
use Rattle.std.proofs.Common.{◌≡◌, ℕ, ◌+◌, ◌^◌, ◌<◌, ◌≤◌, Bool, true, false, if◌then◌else◌, List, [], ◌∷◌, ◌++◌, length, reverse, refl, sym, ◌∙◌, ap, subst, append_assoc, length-append, arith}
use Rattle.std.specs.Fmt.{decimal}
use Rattle.std.proofs.lemmas.List.{length-reverse}
use Rattle.bag_model.specs.declared.TheConstants.{FIELDS_MAX}
use Rattle.bag_model.specs.Shapes.{Shape, Nodes, Taint, Scalar, Set, Counter, Map, Bag, no_node, node}
use Rattle.text_lines.specs.Lines.{numbered}
use Rattle.text_lines.specs.Readings.{AllSay}
use Rattle.table_text.specs.Rows.{Row}
use Rattle.table_text.specs.Rules.{deepest, ends_in_bag, field_lines}
use Rattle.table_text.specs.TableRows.{told, rows_of, rows_in}
use Rattle.table_text.specs.TableTexts.{kind_text, shape_text, field_line, fields_text, bag_text}
use Rattle.std.specs.Prelude.{codes}
use Rattle.table_text.proofs.Depths.{depth_decimal}
use Rattle.text_lines.proofs.FedLines.{whole, fed_whole}
use Rattle.text_lines.specs.FedLines.{fed_lines}
use Rattle.table_text.specs.Reading.{lines_behind}
use Rattle.table_text.proofs.Siblings.{latest}

-- The line that is printed for what a line says.
abbrev pub row_line : Row → List ℕ
row_line row = field_line (decimal row.depth) row.name row.number row.shape

abbrev pub rows_text : List Row → List ℕ
rows_text [] = []
rows_text (row ∷ rows) = row_line row ++ rows_text rows

pub rows_text-append : (xs ys : List Row) → rows_text (xs ++ ys) ≡ rows_text xs ++ rows_text ys
rows_text-append [] ys = refl
rows_text-append (x ∷ xs) ys = ap (λ (l : List ℕ). row_line x ++ l) (rows_text-append xs ys) ∙ sym (append_assoc (row_line x) (rows_text xs) (rows_text ys))

pub shape_told : (shape : Shape) → shape_text (told shape) ≡ shape_text shape
shape_told Taint = refl
shape_told (Scalar pick kind) = refl
shape_told (Set kind) = refl
shape_told Counter = refl
shape_told (Map key value) = ap (λ (l : List ℕ). codes "map " ++ kind_text key ++ codes " " ++ l) (shape_told value)
shape_told (Bag nodes) = refl

line_told : (depth : ℕ) (name : List ℕ) (number : ℕ) (shape : Shape) → field_line (decimal depth) name number (told shape) ≡ field_line (decimal depth) name number shape
line_told depth name number shape =
    ap (λ (s : List ℕ). (decimal depth ++ 32 ∷ (decimal number ++ 32 ∷ (name ++ 32 ∷ s))) ++ 10 ∷ []) (shape_told shape)

mutual
  -- The lines of a bag's fields are those of what they say.
  pub text_rows : (depth : ℕ) (nodes : Nodes) → rows_text (rows_of depth nodes) ≡ fields_text depth nodes
  text_rows depth no_node = refl
  text_rows depth (node name number shape nodes) =
      ap (λ (l : List ℕ). field_line (decimal depth) name number (told shape) ++ l)
      (rows_text-append (rows_in (depth + 1) shape) (rows_of depth nodes) ∙ ap (λ (l : List ℕ). l ++ rows_text (rows_of depth nodes)) (text_inside (depth + 1) shape)
      ∙ ap (λ (l : List ℕ). bag_text (depth + 1) shape ++ l) (text_rows depth nodes))
      ∙ ap (λ (l : List ℕ). l ++ (bag_text (depth + 1) shape ++ fields_text depth nodes)) (line_told depth name number shape)
      ∙ sym (append_assoc (field_line (decimal depth) name number shape) (bag_text (depth + 1) shape) (fields_text depth nodes))

  pub text_inside : (depth : ℕ) (shape : Shape) → rows_text (rows_in depth shape) ≡ bag_text depth shape
  text_inside depth Taint = refl
  text_inside depth (Scalar pick kind) = refl
  text_inside depth (Set kind) = refl
  text_inside depth Counter = refl
  text_inside depth (Map key value) = text_inside depth value
  text_inside depth (Bag nodes) = text_rows depth nodes

-- ---- lines that say fields

-- The next line is no deeper than there are lines before it.
deep_more : (before : List Row) (row : Row) (n : ℕ) → deepest before ≤ n → (deepest before < row.depth → ⊥) → deepest (row ∷ before) ≤ n + 1
deep_more before row n few kept = by (ends_in_bag row.shape)
  where
    by : (b : Bool) → (if b then row.depth + 1 else row.depth) ≤ n + 1
    by true = omega (arith, few, kept)
    by false = omega (arith, few, kept)

-- The text of the lines is that of what they say.
pub said_text : (number : ℕ) (earlier : List Row) (lines : List (List ℕ)) (rows : List Row) → deepest (reverse earlier) ≤ length earlier → length earlier ≤ FIELDS_MAX
    → AllSay field_lines earlier (numbered number lines) rows → whole lines ≡ rows_text rows
said_text number earlier [] [] shallow few all = refl
said_text number earlier [] (row ∷ rows) shallow few all = absurd all
said_text number earlier (line ∷ lines) [] shallow few all = absurd all
said_text number earlier (line ∷ lines) (row ∷ rows) shallow few all =
    let says = all.0.0 in
    let broken = all.0.1 in
    let kept = broken.0 in
    let more = broken.1.1.1.1.0 in
    let room : length earlier < FIELDS_MAX = omega (arith, more, length-reverse earlier) in
    let low : row.depth < 2 ^ 64 = omega (arith, shallow, few, kept) in
    let grown = length-append earlier (row ∷ []) in
    let rest = said_text (number + 1) (earlier ++ row ∷ []) lines rows
    (subst (λ (l : List Row). deepest l ≤ length (earlier ++ row ∷ [])) (sym (latest earlier row)) (omega (arith, grown, deep_more (reverse earlier) row (length earlier) shallow kept)))
    (omega (arith, grown, room)) all.1 in
    ap (λ (l : List ℕ). l ++ whole lines) (says.is ∙ ap (λ (d : List ℕ). field_line d row.name row.number row.shape) (depth_decimal says.digits row.depth says.deep low))
    ∙ ap (λ (l : List ℕ). row_line row ++ l) rest

-- Lines that say what a table's lines say are the text of its fields.
pub table_read : (rest : List ℕ) (rows : List Row) (table : Nodes) → AllSay field_lines [] (lines_behind rest) rows → rows_of 0 table ≡ rows → rest ≡ fields_text 0 table
table_read rest rows table all is =
    sym (fed_whole rest) ∙ said_text 2 [] (fed_lines rest) rows (omega arith) (omega arith) all ∙ ap rows_text (sym is) ∙ text_rows 0 table
