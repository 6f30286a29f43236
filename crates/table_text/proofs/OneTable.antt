-- What lines say is that of one table's fields.
use Rattle.std.proofs.Common.{◌≡◌, ℕ, ◌+◌, ◌<◌, List, [], ◌∷◌, ◌++◌, refl, sym, ◌∙◌, ap, append_assoc, append-nil, arith}
use Rattle.bag_model.specs.Shapes.{Shape, Nodes, Taint, Scalar, Set, Counter, Map, Bag, no_node, node}
use Rattle.table_text.specs.Rows.{Row}
use Rattle.table_text.specs.TableRows.{told, told_row, rows_of, rows_in}

-- The first of the lines isn't as deep.
abbrev IsShallow : ℕ → List Row → Type 0
IsShallow depth [] = Unit {0}
IsShallow depth (row ∷ rows) = row.depth < depth

shallow_behind : (depth : ℕ) (nodes : Nodes) (rows : List Row) → IsShallow depth rows → IsShallow (depth + 1) (rows_of depth nodes ++ rows)
shallow_behind depth no_node [] low = tt
shallow_behind depth no_node (row ∷ rows) low = omega (arith, low)
shallow_behind depth (node name number shape nodes) rows low = omega arith

not_shallow : (depth : ℕ) (row : Row) (rows x : List Row) → x ≡ row ∷ rows → row.depth ≡ depth → IsShallow depth x → ⊥
not_shallow depth row rows [] e at low = cc e
not_shallow depth row rows (other ∷ x) e at low = let same : other ≡ row = cc e in omega (arith, ap (λ (r : Row). r.depth) same, at, low)

mutual
  pub same_rows : (depth : ℕ) (a b : Nodes) (x y : List Row) → IsShallow depth x → IsShallow depth y → rows_of depth a ++ x ≡ rows_of depth b ++ y → (a ≡ b) × (x ≡ y)
  same_rows depth no_node no_node x y p q e = (refl, e)
  same_rows depth no_node (node name number shape nodes) x y p q e =
      absurd (not_shallow depth (told_row depth name number shape) ((rows_in (depth + 1) shape ++ rows_of depth nodes) ++ y) x e refl p)
  same_rows depth (node name number shape nodes) no_node x y p q e =
      absurd (not_shallow depth (told_row depth name number shape) ((rows_in (depth + 1) shape ++ rows_of depth nodes) ++ x) y (sym e) refl q)
  same_rows depth (node name number shape nodes) (node n m s more) x y p q e =
      let row : told_row depth name number shape ≡ told_row depth n m s = cc e in
      let behind : (rows_in (depth + 1) shape ++ rows_of depth nodes) ++ x ≡ (rows_in (depth + 1) s ++ rows_of depth more) ++ y = cc e in
      let inside = same_inside (depth + 1) shape s (rows_of depth nodes ++ x) (rows_of depth more ++ y) (ap (λ (r : Row). r.shape) row)
      (shallow_behind depth nodes x p) (shallow_behind depth more y q)
      (sym (append_assoc (rows_in (depth + 1) shape) (rows_of depth nodes) x) ∙ behind ∙ append_assoc (rows_in (depth + 1) s) (rows_of depth more) y) in
      let rest = same_rows depth nodes more x y p q inside.1 in
      (λ i. node (row i).name (row i).number (inside.0 i) (rest.0 i), rest.1)

  same_inside : (depth : ℕ) (s t : Shape) (x y : List Row) → told s ≡ told t → IsShallow depth x → IsShallow depth y → rows_in depth s ++ x ≡ rows_in depth t ++ y → (s ≡ t) × (x ≡ y)
  same_inside depth Taint Taint x y is p q e = (refl, e)
  same_inside depth Taint t x y is p q e = absurd (cc is)
  same_inside depth Counter Counter x y is p q e = (refl, e)
  same_inside depth Counter t x y is p q e = absurd (cc is)
  same_inside depth (Scalar a j) (Scalar b k) x y is p q e = (is, e)
  same_inside depth (Scalar a j) t x y is p q e = absurd (cc is)
  same_inside depth (Set j) (Set k) x y is p q e = (is, e)
  same_inside depth (Set j) t x y is p q e = absurd (cc is)
  same_inside depth (Map j s) (Map k t) x y is p q e =
      let keys : j ≡ k = cc is in
      let values : told s ≡ told t = cc is in
      let inside = same_inside depth s t x y values p q e in
      (λ i. Map (keys i) (inside.0 i), inside.1)
  same_inside depth (Map j s) t x y is p q e = absurd (cc is)
  same_inside depth (Bag a) (Bag b) x y is p q e = let inside = same_rows depth a b x y p q e in (ap Bag inside.0, inside.1)
  same_inside depth (Bag a) t x y is p q e = absurd (cc is)

pub one_table : (a b : Nodes) → rows_of 0 a ≡ rows_of 0 b → a ≡ b
one_table a b e = (same_rows 0 a b [] [] tt tt (append-nil (rows_of 0 a) ∙ e ∙ sym (append-nil (rows_of 0 b)))).0
