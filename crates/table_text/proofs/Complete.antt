-- The lines of a table's text say its fields, and break no rule.
use Rattle.std.proofs.Common.{◌≡◌, ◌≢◌, inl, inr, ℕ, ◌+◌, ◌^◌, ◌<◌, ◌≤◌, Bool, true, false, if◌then◌else◌, List, [], ◌∷◌, ◌++◌, map, length, reverse, refl, sym, ◌∙◌, ap, subst, append_assoc, append-nil, length-append, arith}
use Rattle.std.specs.Fmt.{decimal}
use Rattle.std.specs.List.{AllByRecursion, list_any}
use Rattle.std.specs.Str.{bytes_eq}
use Rattle.std.proofs.lemmas.List.{length-reverse}
use Rattle.context_model.specs.Orders.{IsIn}
use Rattle.context_model.specs.declared.TheConstants.{LEVELS_MAX}
use Rattle.bag_model.specs.declared.TheConstants.{FIELDS_MAX}
use Rattle.bag_model.specs.Shapes.{Shape, Nodes, Field, fields, Taint, Scalar, Set, Counter, Map, Bag, no_node, node}
use Rattle.bag_model.specs.Tables.{IsShape, AreFields, IsTable, is_name, levels, levels_under, node_count, nodes_under}
use Rattle.text_lines.specs.Lines.{numbered}
use Rattle.text_lines.specs.Readings.{AllSay}
use Rattle.table_text.specs.Builder.{IsFieldBehind, head_name, least_behind}
use Rattle.table_text.specs.Rows.{Row, SaysRow}
use Rattle.table_text.specs.Rules.{deepest, ends_in_bag, IsGoodRow, field_lines}
use Rattle.text_lines.specs.FedLines.{fed_lines}
use Rattle.table_text.specs.Reading.{lines_behind}
use Rattle.table_text.specs.TableRows.{told, told_row, rows_of, rows_in}
use Rattle.table_text.specs.TableTexts.{fields_text}
use Rattle.table_text.proofs.Appended.{all_push, with_field, fields_with, rows_with, count_inside}
use Rattle.table_text.proofs.BagRules.{IsHere, none_broken}
use Rattle.table_text.proofs.Depths.{decimal_depth}
use Rattle.table_text.proofs.LineTexts.{row_line, rows_text, text_rows}
use Rattle.table_text.proofs.Printable.{cut_said}
use Rattle.table_text.proofs.RuleTests.{found_in}
use Rattle.table_text.proofs.Siblings.{IsBelow, IsStart, outermost, row_at, latest, inside_below, start_siblings, start_level, bag_start}
use Rattle.table_text.proofs.ToldShapes.{told_is_told, told_levels, told_maps}

-- After these lines each of the next says what it is printed for.
abbrev pub AllGood : List Row → List Row → Type 0
AllGood earlier [] = Unit {0}
AllGood earlier (row ∷ rows) = IsGoodRow (reverse earlier) (row_line row) row × AllGood (earlier ++ row ∷ []) rows

good_append : (earlier xs ys : List Row) → AllGood earlier xs → AllGood (earlier ++ xs) ys → AllGood earlier (xs ++ ys)
good_append earlier [] ys p q = subst (λ (l : List Row). AllGood l ys) (append-nil earlier) q
good_append earlier (x ∷ xs) ys p q = (p.0, good_append (earlier ++ x ∷ []) xs ys p.1 (subst (λ (l : List Row). AllGood l ys) (sym (append_assoc earlier (x ∷ []) xs)) q))

-- ---- depths

row_deep : (row : Row) (before : List Row) → row.depth ≤ deepest (row ∷ before)
row_deep row before = by (ends_in_bag row.shape)
  where
    by : (b : Bool) → row.depth ≤ (if b then row.depth + 1 else row.depth)
    by true = omega arith
    by false = omega arith

-- After lines of a bag the next may be as deep as they are.
still_deep : (depth : ℕ) (base rows : List Row) → depth ≤ deepest (reverse base) → AllByRecursion (IsBelow depth) rows → depth ≤ deepest (reverse (base ++ rows))
still_deep depth base [] deep all = subst (λ (l : List Row). depth ≤ deepest (reverse l)) (sym (append-nil base)) deep
still_deep depth base (row ∷ rows) deep all =
    let one : depth ≤ deepest (reverse (base ++ row ∷ [])) = subst (λ (l : List Row). depth ≤ deepest l) (sym (latest base row)) (omega (arith, row_deep row (reverse base), all.0)) in
    subst (λ (l : List Row). depth ≤ deepest (reverse l)) (append_assoc base (row ∷ []) rows) (still_deep depth (base ++ row ∷ []) rows one all.1)

bag_deep : (base : List Row) (row : Row) → ends_in_bag row.shape ≡ true → row.depth + 1 ≤ deepest (reverse (base ++ row ∷ []))
bag_deep base row ends =
    subst (λ (l : List Row). row.depth + 1 ≤ deepest l) (sym (latest base row)) (subst (λ b. row.depth + 1 ≤ (if b then row.depth + 1 else row.depth)) (sym ends) (omega arith))

told_ends : (shape : Shape) → ends_in_bag (told shape) ≡ ends_in_bag shape
told_ends Taint = refl
told_ends (Scalar pick kind) = refl
told_ends (Set kind) = refl
told_ends Counter = refl
told_ends (Map key value) = told_ends value
told_ends (Bag nodes) = refl

below_too : (depth : ℕ) (rows : List Row) → AllByRecursion (IsBelow (depth + 1)) rows → AllByRecursion (IsBelow depth) rows
below_too depth [] all = tt
below_too depth (row ∷ rows) all = (omega (arith, all.0), below_too depth rows all.1)

-- ---- numbers and names

-- Each of the fields comes after all of the earlier ones.
abbrev pub StandBehind : Nodes → List Field → Type 0
StandBehind front fs = AllByRecursion (λ (field : Field). AllByRecursion (IsFieldBehind field.name field.number) (fields front)) fs

behind_none : (fs : List Field) → StandBehind no_node fs
behind_none [] = tt
behind_none (f ∷ fs) = (tt, behind_none fs)

behind_more : (front : Nodes) (first : Field) (fs : List Field) → StandBehind front fs → AllByRecursion (λ (other : Field). (first.number < other.number) × (first.name ≢ other.name)) fs
    → StandBehind (with_field front first) fs
behind_more front first [] all more = tt
behind_more front first (f ∷ fs) all more = (
  subst (AllByRecursion (IsFieldBehind f.name f.number)) (sym (fields_with front first)) (all_push (IsFieldBehind f.name f.number) (fields front) first all.0 more.0),
  behind_more front first fs all.1 more.1,
)

least_low : (fs : List Field) (name : List ℕ) (number : ℕ) → AllByRecursion (IsFieldBehind name number) fs → least_behind fs ≤ number
least_low [] name number all = omega arith
least_low (f ∷ []) name number all = omega (arith, all.0.0)
least_low (f ∷ g ∷ more) name number all = least_low (g ∷ more) name number all.1

name_new : (fs : List Field) (name : List ℕ) (number : ℕ) → AllByRecursion (IsFieldBehind name number) fs → IsIn name (map head_name fs) → ⊥
name_new [] name number all i = i
name_new (f ∷ fs) name number all (inl e) = all.0.1 (sym e)
name_new (f ∷ fs) name number all (inr i) = name_new fs name number all.1 i

not_found : (name : List ℕ) (names : List (List ℕ)) → (IsIn name names → ⊥) → list_any (bytes_eq name) names ≡ false
not_found name names new = by (list_any (bytes_eq name) names) refl
  where
    by : (b : Bool) → list_any (bytes_eq name) names ≡ b → b ≡ false
    by true found = absurd (new (found_in name names found))
    by false found = refl

-- ---- levels

-- The levels of the bag that a shape ends in.
abbrev levels_inside : Shape → ℕ
levels_inside (Map key value) = levels_inside value
levels_inside (Bag nodes) = levels nodes
levels_inside _ = 0

split_levels : (shape : Shape) → levels_under shape ≡ levels_under (told shape) + levels_inside shape
split_levels Taint = refl
split_levels (Scalar pick kind) = refl
split_levels (Set kind) = refl
split_levels Counter = refl
split_levels (Map key value) = omega (arith, split_levels value)
split_levels (Bag nodes) = omega arith

-- ---- fields

-- The line of a field says it.
says_line : (depth : ℕ) (name : List ℕ) (number : ℕ) (shape : Shape) → depth < LEVELS_MAX → is_name name ≡ true → number < 2 ^ 16 → IsShape shape → levels_under shape ≤ LEVELS_MAX
    → SaysRow (row_line (told_row depth name number shape)) (told_row depth name number shape)
says_line depth name number shape low named numbered shaped few = record {
  named = named;
  numbered = numbered;
  told = told_is_told shape shaped;
  flat = omega (arith, told_maps shape, few);
  digits = decimal depth;
  deep = decimal_depth depth (omega (arith, low));
  is = refl;
}

-- A point in the lines of a table where the fields of a bag begin, after those before it.
pub record IsPoint (base : List Row) (depth level : ℕ) : Type 0 where
  pub start : IsStart base depth level
  pub low : depth ≤ level

one_good : (base : List Row) (depth level : ℕ) (front : Nodes) (first : Field) → IsPoint base depth level → depth ≤ deepest (reverse (base ++ rows_of depth front))
    → is_name first.name ≡ true → first.number < 2 ^ 16 → IsShape first.shape → AllByRecursion (IsFieldBehind first.name first.number) (fields front)
    → level + (1 + levels_under first.shape) ≤ LEVELS_MAX → length (base ++ rows_of depth front) < FIELDS_MAX
    → IsGoodRow (reverse (base ++ rows_of depth front)) (row_line (row_at depth first)) (row_at depth first)
one_good base depth level front first point deep named numbered shaped behind few room =
    let earlier = base ++ rows_of depth front in
    let here : IsHere (reverse earlier) depth level (fields front) (length earlier) = record {
      siblings_are = start_siblings base depth level front point.start;
      level_is = start_level base depth level front point.start;
      count_is = length-reverse earlier;
    } in (
      says_line depth first.name first.number first.shape (omega (arith, point.low, few)) named numbered shaped (omega (arith, few)),
      (
        λ (broken : deepest (reverse earlier) < depth). omega (arith, deep, broken),
        none_broken (reverse earlier) level (fields front) (length earlier) (row_at depth first) here (least_low (fields front) first.name first.number behind)
            (not_found first.name (map head_name (fields front)) (name_new (fields front) first.name first.number behind)) (omega (arith, told_levels first.shape, few)) room,
      ),
    )

mutual
  -- The lines of the fields after the earlier ones.
  pub good_fields : (base : List Row) (depth level : ℕ) (front nodes : Nodes) → IsPoint base depth level → depth ≤ deepest (reverse (base ++ rows_of depth front))
      → AreFields nodes → StandBehind front (fields nodes) → level + levels nodes ≤ LEVELS_MAX → length (base ++ rows_of depth front) + node_count nodes ≤ FIELDS_MAX
      → AllGood (base ++ rows_of depth front) (rows_of depth nodes)
  good_fields base depth level front no_node point deep sound behind few small = tt
  good_fields base depth level front (node name number shape nodes) point deep sound behind few small =
      let first : Field = record { name = name; number = number; shape = shape } in
      let row = row_at depth first in
      let earlier = base ++ rows_of depth front in
      let near = earlier ++ row ∷ [] in
      let inner = rows_in (depth + 1) shape in
      let one = one_good base depth level front first point deep sound.0 sound.1 sound.2 behind.0 (omega (arith, few)) (omega (arith, small)) in
      let below : IsPoint near (depth + 1) (level + (1 + levels_under (told shape))) =
      record { start = bag_start base depth level front row point.start refl; low = omega (arith, point.low) }
      in
      let longer = length-append earlier (row ∷ []) in
      let within = good_inside near (depth + 1) (level + (1 + levels_under (told shape))) shape below
      (λ ends. bag_deep earlier row (told_ends shape ∙ ends)) sound.2 (omega (arith, few, split_levels shape)) (omega (arith, small, longer)) in
      let same : near ++ inner ≡ base ++ rows_of depth (with_field front first) =
      append_assoc earlier (row ∷ []) inner ∙ append_assoc base (rows_of depth front) (row ∷ inner) ∙ ap (λ (l : List Row). base ++ l) (sym (rows_with depth front first))
      in
      let grown = subst (λ (l : List Row). depth ≤ deepest (reverse l)) (append_assoc base (rows_of depth front) (row ∷ inner) ∙ ap (λ (l : List Row). base ++ l) (sym (rows_with depth front first)))
      (still_deep depth earlier (row ∷ inner) deep (omega arith, below_too depth inner (inside_below (depth + 1) shape))) in
      let count = length-append near inner in
      let rest = good_fields base depth level (with_field front first) nodes point grown sound.4 (behind_more front first (fields nodes) behind.1 sound.3)
      (omega (arith, few)) (omega (arith, small, longer, count, count_inside (depth + 1) shape, ap length same)) in
      (one, good_append near inner (rows_of depth nodes) within (subst (λ (l : List Row). AllGood l (rows_of depth nodes)) (sym same) rest))

  -- The lines of the fields of the bag that a shape ends in.
  good_inside : (base : List Row) (depth level : ℕ) (shape : Shape) → IsPoint base depth level → (ends_in_bag shape ≡ true → depth ≤ deepest (reverse base))
      → IsShape shape → level + levels_inside shape ≤ LEVELS_MAX → length base + nodes_under shape ≤ FIELDS_MAX → AllGood base (rows_in depth shape)
  good_inside base depth level Taint point deep shaped few small = tt
  good_inside base depth level (Scalar pick kind) point deep shaped few small = tt
  good_inside base depth level (Set kind) point deep shaped few small = tt
  good_inside base depth level Counter point deep shaped few small = tt
  good_inside base depth level (Map key value) point deep shaped few small = good_inside base depth level value point deep shaped.1 few small
  good_inside base depth level (Bag nodes) point deep shaped few small =
      subst (λ (l : List Row). AllGood l (rows_of depth nodes)) (append-nil base)
      (good_fields base depth level no_node nodes point (subst (λ (l : List Row). depth ≤ deepest (reverse l)) (sym (append-nil base)) (deep refl)) shaped (behind_none (fields nodes)) few
      (omega (arith, small, ap length (append-nil base))))

-- ---- texts

fed_good : (earlier rows : List Row) → AllGood earlier rows → fed_lines (rows_text rows) ≡ map row_line rows
fed_good earlier [] all = refl
fed_good earlier (row ∷ rows) all =
    cut_said (row_line row) row all.0.0 (rows_text rows) ∙ ap (λ (l : List (List ℕ)). row_line row ∷ l) (fed_good (earlier ++ row ∷ []) rows all.1)

say_good : (number : ℕ) (earlier rows : List Row) → AllGood earlier rows → AllSay field_lines earlier (numbered number (map row_line rows)) rows
say_good number earlier [] all = tt
say_good number earlier (row ∷ rows) all = (all.0, say_good (number + 1) (earlier ++ row ∷ []) rows all.1)

-- The lines of a table's text say what its fields are.
pub table_says : (nodes : Nodes) → IsTable nodes → AllSay field_lines [] (lines_behind (fields_text 0 nodes)) (rows_of 0 nodes)
table_says nodes is =
    let good = good_fields [] 0 0 no_node nodes (record { start = outermost; low = omega arith }) (omega arith) is.well_formed (behind_none (fields nodes)) (omega (arith, is.shallow)) (omega (arith, is.small)) in
    let lines : fed_lines (fields_text 0 nodes) ≡ map row_line (rows_of 0 nodes) = ap fed_lines (sym (text_rows 0 nodes)) ∙ fed_good [] (rows_of 0 nodes) good in
    subst (λ (l : List (List ℕ)). AllSay field_lines [] (numbered 2 l) (rows_of 0 nodes)) (sym lines) (say_good 2 [] (rows_of 0 nodes) good)
