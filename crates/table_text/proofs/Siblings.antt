-- The lines after a point in a table's lines: their siblings and their level.
use Rattle.std.proofs.Common.{◌≡◌, ℕ, ◌+◌, ◌<◌, ◌≤◌, List, [], ◌∷◌, ◌++◌, map, reverse, refl, sym, ap, ◌∙◌, append_assoc, append-nil, arith}
use Rattle.std.specs.List.{AllByRecursion}
use Rattle.std.proofs.lemmas.Bool.Decides.{nat_tests}
use Rattle.std.proofs.lemmas.List.{reverse-append}
use Rattle.bag_model.specs.Shapes.{Shape, Nodes, Field, fields, Taint, Scalar, Set, Counter, Map, Bag, no_node, node}
use Rattle.bag_model.specs.Tables.{levels_under}
use Rattle.table_text.specs.Rows.{Row}
use Rattle.table_text.specs.Rules.{siblings, level_at}
use Rattle.table_text.specs.TableRows.{told_row, rows_of, rows_in}

-- The latest of some lines comes first in their reverse.
pub latest : (base : List Row) (row : Row) → reverse (base ++ row ∷ []) ≡ row ∷ reverse base
latest base row = reverse-append base (row ∷ [])

-- ---- the lines in bags below

abbrev pub IsBelow : ℕ → Row → Type 0
IsBelow depth row = depth ≤ row.depth

below_append : (depth : ℕ) (xs ys : List Row) → AllByRecursion (IsBelow depth) xs → AllByRecursion (IsBelow depth) ys → AllByRecursion (IsBelow depth) (xs ++ ys)
below_append depth [] ys p q = q
below_append depth (x ∷ xs) ys p q = (p.0, below_append depth xs ys p.1 q)

below_less : (depth : ℕ) (xs : List Row) → AllByRecursion (IsBelow (depth + 1)) xs → AllByRecursion (IsBelow depth) xs
below_less depth [] p = tt
below_less depth (x ∷ xs) p = (omega (arith, p.0), below_less depth xs p.1)

mutual
  pub rows_below : (depth : ℕ) (nodes : Nodes) → AllByRecursion (IsBelow depth) (rows_of depth nodes)
  rows_below depth no_node = tt
  rows_below depth (node name number shape nodes) =
      (omega arith, below_append depth (rows_in (depth + 1) shape) (rows_of depth nodes) (below_less depth (rows_in (depth + 1) shape) (inside_below (depth + 1) shape)) (rows_below depth nodes))

  pub inside_below : (depth : ℕ) (shape : Shape) → AllByRecursion (IsBelow depth) (rows_in depth shape)
  inside_below depth Taint = tt
  inside_below depth (Scalar pick kind) = tt
  inside_below depth (Set kind) = tt
  inside_below depth Counter = tt
  inside_below depth (Map key value) = inside_below depth value
  inside_below depth (Bag nodes) = rows_below depth nodes

-- ---- one line more

pub sibling_below : (depth : ℕ) (row : Row) (before : List Row) → depth < row.depth → siblings depth (row ∷ before) ≡ siblings depth before
sibling_below depth row before below = grind (arith, nat_tests)

pub sibling_at : (depth : ℕ) (row : Row) (before : List Row) → row.depth ≡ depth → siblings depth (row ∷ before) ≡ row ∷ siblings depth before
sibling_at depth row before at = grind (arith, nat_tests)

pub sibling_above : (depth : ℕ) (row : Row) (before : List Row) → row.depth < depth → siblings depth (row ∷ before) ≡ []
sibling_above depth row before above = grind (arith, nat_tests)

pub level_below : (depth : ℕ) (row : Row) (before : List Row) → depth ≤ row.depth → level_at depth (row ∷ before) ≡ level_at depth before
level_below depth row before below = grind (arith, nat_tests)

pub level_above : (depth : ℕ) (row : Row) (before : List Row) → row.depth < depth → level_at depth (row ∷ before) ≡ level_at row.depth before + (1 + levels_under row.shape)
level_above depth row before above = grind (arith, nat_tests)

-- ---- many lines more

skip_siblings : (depth : ℕ) (base rows : List Row) → AllByRecursion (IsBelow (depth + 1)) rows → siblings depth (reverse (base ++ rows)) ≡ siblings depth (reverse base)
skip_siblings depth base [] all = ap (λ (l : List Row). siblings depth (reverse l)) (append-nil base)
skip_siblings depth base (row ∷ rows) all =
    ap (λ (l : List Row). siblings depth (reverse l)) (sym (append_assoc base (row ∷ []) rows))
    ∙ skip_siblings depth (base ++ row ∷ []) rows all.1
    ∙ ap (siblings depth) (latest base row)
    ∙ sibling_below depth row (reverse base) (omega (arith, all.0))

skip_levels : (depth : ℕ) (base rows : List Row) → AllByRecursion (IsBelow depth) rows → level_at depth (reverse (base ++ rows)) ≡ level_at depth (reverse base)
skip_levels depth base [] all = ap (λ (l : List Row). level_at depth (reverse l)) (append-nil base)
skip_levels depth base (row ∷ rows) all =
    ap (λ (l : List Row). level_at depth (reverse l)) (sym (append_assoc base (row ∷ []) rows))
    ∙ skip_levels depth (base ++ row ∷ []) rows all.1
    ∙ ap (level_at depth) (latest base row)
    ∙ level_below depth row (reverse base) all.0

-- What the line of a field said.
abbrev pub row_at : ℕ → Field → Row
row_at depth field = told_row depth field.name field.number field.shape

-- After the lines of a bag's fields these are the siblings.
pub siblings_behind : (depth : ℕ) (base : List Row) (nodes : Nodes)
    → siblings depth (reverse (base ++ rows_of depth nodes)) ≡ reverse (map (row_at depth) (fields nodes)) ++ siblings depth (reverse base)
siblings_behind depth base no_node = ap (λ (l : List Row). siblings depth (reverse l)) (append-nil base)
siblings_behind depth base (node name number shape nodes) =
    let row = told_row depth name number shape in
    let inner = rows_in (depth + 1) shape in
    let near = base ++ row ∷ [] in
    let heads = map (row_at depth) (fields nodes) in
    ap (λ (l : List Row). siblings depth (reverse l)) (sym (append_assoc base (row ∷ []) (inner ++ rows_of depth nodes)) ∙ sym (append_assoc near inner (rows_of depth nodes)))
    ∙ siblings_behind depth (near ++ inner) nodes
    ∙ ap (λ (l : List Row). reverse heads ++ l)
    (skip_siblings depth near inner (inside_below (depth + 1) shape) ∙ ap (siblings depth) (latest base row) ∙ sibling_at depth row (reverse base) refl)
    ∙ sym (append_assoc (reverse heads) (row ∷ []) (siblings depth (reverse base)))
    ∙ ap (λ (l : List Row). l ++ siblings depth (reverse base)) (sym (reverse-append (row ∷ []) heads))

pub level_behind : (depth : ℕ) (base : List Row) (nodes : Nodes) → level_at depth (reverse (base ++ rows_of depth nodes)) ≡ level_at depth (reverse base)
level_behind depth base nodes = skip_levels depth base (rows_of depth nodes) (rows_below depth nodes)

-- ---- where a bag's lines begin

-- There is no line of the bag before, and its fields' headers have this level.
pub record IsStart (base : List Row) (depth level : ℕ) : Type 0 where
  pub first : siblings depth (reverse base) ≡ []
  pub level_is : level_at depth (reverse base) ≡ level

pub outermost : IsStart [] 0 0
outermost = record { first = refl; level_is = refl }

pub start_siblings : (base : List Row) (depth level : ℕ) (nodes : Nodes) → IsStart base depth level
    → siblings depth (reverse (base ++ rows_of depth nodes)) ≡ reverse (map (row_at depth) (fields nodes))
start_siblings base depth level nodes start =
    siblings_behind depth base nodes ∙ ap (λ (l : List Row). reverse (map (row_at depth) (fields nodes)) ++ l) start.first ∙ append-nil (reverse (map (row_at depth) (fields nodes)))

pub start_level : (base : List Row) (depth level : ℕ) (nodes : Nodes) → IsStart base depth level → level_at depth (reverse (base ++ rows_of depth nodes)) ≡ level
start_level base depth level nodes start = level_behind depth base nodes ∙ start.level_is

-- A bag begins after the line of its field.
pub bag_start : (base : List Row) (depth level : ℕ) (nodes : Nodes) (row : Row) → IsStart base depth level → row.depth ≡ depth
    → IsStart ((base ++ rows_of depth nodes) ++ row ∷ []) (depth + 1) (level + (1 + levels_under row.shape))
bag_start base depth level nodes row start at =
    let before = base ++ rows_of depth nodes in
    record {
      first = ap (siblings (depth + 1)) (latest before row) ∙ sibling_above (depth + 1) row (reverse before) (omega (arith, at));
      level_is =
          ap (level_at (depth + 1)) (latest before row) ∙ level_above (depth + 1) row (reverse before) (omega (arith, at))
          ∙ ap (λ d. level_at d (reverse before) + (1 + levels_under row.shape)) at
          ∙ ap (λ l. l + (1 + levels_under row.shape)) (start_level base depth level nodes start);
    }
