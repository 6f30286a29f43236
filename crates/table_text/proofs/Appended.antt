-- A field more at the end of a bag.
use Rattle.std.proofs.Common.{◌≡◌, ℕ, ◌+◌, ◌^◌, ◌<◌, max, true, List, [], ◌∷◌, ◌++◌, length, refl, sym, ap, subst, ◌∙◌, append_assoc, append-nil, length-append, arith}
use Rattle.std.specs.Prelude.{◌≢◌}
use Rattle.std.specs.List.{AllByRecursion}
use Rattle.bag_model.specs.Shapes.{Shape, Nodes, Field, fields, nodes_from, Taint, Scalar, Set, Counter, Map, Bag, no_node, node}
use Rattle.bag_model.specs.Tables.{IsShape, AreFields, is_name, levels, levels_under, node_count, nodes_under}
use Rattle.bag_model.proofs.SlotLaws.{from-fields}
use Rattle.table_text.specs.Builder.{IsFieldBehind}
use Rattle.table_text.specs.Rows.{Row}
use Rattle.table_text.specs.TableRows.{rows_of, rows_in}
use Rattle.table_text.proofs.Siblings.{row_at}

pub all_push : {A : Type 0} (P : A → Type 0) (xs : List A) (x : A) → AllByRecursion P xs → P x → AllByRecursion P (xs ++ x ∷ [])
all_push P [] x h p = (p, tt)
all_push P (y ∷ xs) x h p = (h.0, all_push P xs x h.1 p)

-- The fields with one more.
abbrev pub with_field : Nodes → Field → Nodes
with_field no_node field = node field.name field.number field.shape no_node
with_field (node name number shape nodes) field = node name number shape (with_field nodes field)

pub fields_with : (nodes : Nodes) (field : Field) → fields (with_field nodes field) ≡ fields nodes ++ field ∷ []
fields_with no_node field = refl
fields_with (node name number shape nodes) field = ap (λ (l : List Field). record { name = name; number = number; shape = shape } ∷ l) (fields_with nodes field)

pub is_with : (nodes next : Nodes) (field : Field) → fields next ≡ fields nodes ++ field ∷ [] → next ≡ with_field nodes field
is_with nodes next field e = sym (from-fields next) ∙ ap nodes_from (e ∙ sym (fields_with nodes field)) ∙ from-fields (with_field nodes field)

pub sound_with : (nodes : Nodes) (field : Field) → AreFields nodes → is_name field.name ≡ true → field.number < 2 ^ 16 → IsShape field.shape
    → AllByRecursion (IsFieldBehind field.name field.number) (fields nodes) → AreFields (with_field nodes field)
sound_with no_node field sound named numbered shaped behind = (named, numbered, shaped, tt, tt)
sound_with (node name number shape nodes) field sound named numbered shaped behind = (
  sound.0,
  sound.1,
  sound.2,
  subst (AllByRecursion (λ (other : Field). (number < other.number) × (name ≢ other.name))) (sym (fields_with nodes field))
      (all_push (λ (other : Field). (number < other.number) × (name ≢ other.name)) (fields nodes) field sound.3 behind.0),
  sound_with nodes field sound.4 named numbered shaped behind.1,
)

pub levels_with : (nodes : Nodes) (field : Field) → levels (with_field nodes field) ≡ max (levels nodes) (1 + levels_under field.shape)
levels_with no_node field = omega arith
levels_with (node name number shape nodes) field = omega (arith, levels_with nodes field)

pub rows_with : (depth : ℕ) (nodes : Nodes) (field : Field) → rows_of depth (with_field nodes field) ≡ rows_of depth nodes ++ (row_at depth field ∷ rows_in (depth + 1) field.shape)
rows_with depth no_node field = ap (λ (l : List Row). row_at depth field ∷ l) (append-nil (rows_in (depth + 1) field.shape))
rows_with depth (node name number shape nodes) field =
    let row = row_at depth (record { name = name; number = number; shape = shape }) in
    let inner = rows_in (depth + 1) shape in
    ap (λ (l : List Row). row ∷ (inner ++ l)) (rows_with depth nodes field)
    ∙ ap (λ (l : List Row). row ∷ l) (sym (append_assoc inner (rows_of depth nodes) (row_at depth field ∷ rows_in (depth + 1) field.shape)))

mutual
  -- There are as many lines as fields.
  pub count_rows : (depth : ℕ) (nodes : Nodes) → length (rows_of depth nodes) ≡ node_count nodes
  count_rows depth no_node = refl
  count_rows depth (node name number shape nodes) =
      omega (arith, length-append (rows_in (depth + 1) shape) (rows_of depth nodes), count_inside (depth + 1) shape, count_rows depth nodes)

  pub count_inside : (depth : ℕ) (shape : Shape) → length (rows_in depth shape) ≡ nodes_under shape
  count_inside depth Taint = refl
  count_inside depth (Scalar pick kind) = refl
  count_inside depth (Set kind) = refl
  count_inside depth Counter = refl
  count_inside depth (Map key value) = count_inside depth value
  count_inside depth (Bag nodes) = count_rows depth nodes
