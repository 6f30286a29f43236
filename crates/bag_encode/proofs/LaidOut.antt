-- The trees of values: they are in order, and their paths are those of the layout.
use Rattle.std.proofs.Common.{◌≡◌, ◌≢◌, ℕ, ◌+◌, ◌-◌, ◌*◌, ◌^◌, ◌<◌, ◌≤◌, ◌⊎◌, ◌↔◌, inl, inr, true, false, List, [], ◌∷◌, ◌++◌, length, map, Some, None, refl, ap, ◌∙◌, subst, arith}
use Rattle.std.specs.List.{AllByRecursion}
use Rattle.std.proofs.lemmas.List.{length-append}
use Rattle.context_model.specs.Atoms.{Atom}
use Rattle.context_model.specs.Kinds.{atom_of, HasKind}
use Rattle.context_model.specs.Kinds.Kind.{Datum, Indexed, Keyed}
use Rattle.context_model.specs.KeyedMerge.{keys_of, EachPair, IsAt}
use Rattle.context_model.specs.Orders.{Path, atom_cmp, IsIn, Rises}
use Rattle.context_model.specs.Varints.{unsigned_varint}
use Rattle.context_model.proofs.GreedyElements.{All-at}
use Rattle.context_model.proofs.MergeLaws.{EachPair-at}
use Rattle.bag_model.specs.Scalars.{ScalarKind, ScalarValue, scalar_cmp, IsScalarOf, spelling}
use Rattle.bag_model.specs.Shapes.{Shape, Nodes, Field, fields, Taint, Scalar, Set, Counter, Map, Bag, no_node, node}
use Rattle.bag_model.specs.Tables.{IsShape, AreFields, levels_under, levels}
use Rattle.bag_model.specs.Values.{Value, Entries, Values, Taint, Scalar, Set, Counter, Map, Bag, no_entry, entry, no_value, value, pairs, IsOfShape, AreOfShapes}
use Rattle.bag_model.specs.Joins.{IsBottom, AreBottom}
use Rattle.bag_model.specs.Readings.{datum_path, key_path, node_path}
use Rattle.bag_model.specs.Encodings.{InLayout, InLayouts}
use Rattle.bag_model.proofs.LayoutLaws.{number_wide}
use Rattle.bag_model.proofs.OfShape.{IsEntryOf}
use Rattle.bag_model.proofs.SpellingOrder.{spelling-less}
use Rattle.bag_walks.proofs.Gathering.{same_first}
use Rattle.bag_walks.proofs.Sets as sets
use Rattle.bag_walks.proofs.Turns.{index_order}
use Rattle.bag_encode.specs.Values.{Trees, bare, leaf, trees_by, header_over, scalar_datum, key_header, writer_header, trees_of, field_trees}
use Rattle.bag_encode.proofs.TreeLaws.{tree_paths, in_trees_by, trees_by_in, over_paths, over_bare, IsBefore, IsBefore-over, AreTrees, AreTrees-by, AreTrees-over}

-- ---- there is nothing exactly for bottom

mutual
  pub bottom_bare : (shape : Shape) (n : ℕ) (v : Value) → IsBottom v → trees_of shape n v ≡ bare
  bottom_bare Taint n (Taint false) b = refl
  bottom_bare Taint n (Taint true) b = absurd (cc b)
  bottom_bare Taint n v b = refl
  bottom_bare (Scalar pick kind) n (Scalar own None) b = refl
  bottom_bare (Scalar pick kind) n (Scalar own (Some v)) b = absurd (cc b)
  bottom_bare (Scalar pick kind) n v b = refl
  bottom_bare (Set kind) n (Set own []) b = refl
  bottom_bare (Set kind) n (Set own (v ∷ vs)) b = absurd (cc b)
  bottom_bare (Set kind) n v b = refl
  bottom_bare Counter n (Counter []) b = refl
  bottom_bare Counter n (Counter (e ∷ es)) b = absurd (cc b)
  bottom_bare Counter n v b = refl
  bottom_bare (Map kind shape) n (Map no_entry) b = refl
  bottom_bare (Map kind shape) n (Map (entry key v es)) b = absurd (cc b)
  bottom_bare (Map kind shape) n v b = refl
  bottom_bare (Bag nodes) n (Bag vs) b = bottoms_bare nodes n vs b
  bottom_bare (Bag nodes) n v b = refl

  pub bottoms_bare : (nodes : Nodes) (n : ℕ) (vs : Values) → AreBottom vs → field_trees nodes n vs ≡ bare
  bottoms_bare no_node n vs b = refl
  bottoms_bare (node name number shape nodes) n no_value b = refl
  bottoms_bare (node name number shape nodes) n (value v vs) b =
      ap (λ (t : Trees). header_over (atom_of (Indexed n number)) t (field_trees nodes n vs)) (bottom_bare shape (n + 1) v b.0) ∙ bottoms_bare nodes n vs b.1

mutual
  pub bare_bottom : (shape : Shape) (n : ℕ) (v : Value) → IsOfShape shape v → trees_of shape n v ≡ bare → IsBottom v
  bare_bottom Taint n (Taint false) o e = refl
  bare_bottom Taint n (Taint true) o e = absurd (cc e)
  bare_bottom Taint n v o e = absurd o
  bare_bottom (Scalar pick kind) n (Scalar own None) o e = refl
  bare_bottom (Scalar pick kind) n (Scalar own (Some v)) o e = absurd (cc e)
  bare_bottom (Scalar pick kind) n v o e = absurd o
  bare_bottom (Set kind) n (Set own []) o e = refl
  bare_bottom (Set kind) n (Set own (v ∷ vs)) o e = absurd (cc e)
  bare_bottom (Set kind) n v o e = absurd o
  bare_bottom Counter n (Counter []) o e = refl
  bare_bottom Counter n (Counter (c ∷ cs)) o e = absurd (cc e)
  bare_bottom Counter n v o e = absurd o
  bare_bottom (Map kind shape) n (Map no_entry) o e = refl
  bare_bottom (Map kind shape) n (Map (entry key v es)) o e = absurd (cc e)
  bare_bottom (Map kind shape) n v o e = absurd o
  bare_bottom (Bag nodes) n (Bag vs) o e = bare_bottoms nodes n vs o e
  bare_bottom (Bag nodes) n v o e = absurd o

  bare_bottoms : (nodes : Nodes) (n : ℕ) (vs : Values) → AreOfShapes nodes vs → field_trees nodes n vs ≡ bare → AreBottom vs
  bare_bottoms no_node n no_value o e = tt
  bare_bottoms no_node n (value v vs) o e = absurd o
  bare_bottoms (node name number shape nodes) n no_value o e = absurd o
  bare_bottoms (node name number shape nodes) n (value v vs) o e =
      let both = over_bare (atom_of (Indexed n number)) (trees_of shape (n + 1) v) (field_trees nodes n vs) e in
      (bare_bottom shape (n + 1) v o.0 both.0, bare_bottoms nodes n vs o.1 both.1)

-- ---- the paths

module _ {K X : Type 0} where
  in_pairs : (es : List (K × X)) (e : K × X) → IsIn e es → IsAt e.0 e.1 es
  in_pairs [] e none = absurd none
  in_pairs (d ∷ es) e (inl same) = inl (ap (λ (x : K × X). x.0) same, ap (λ (x : K × X). x.1) same)
  in_pairs (d ∷ es) e (inr i) = inr (in_pairs es e i)

  at_in : (es : List (K × X)) (k : K) (v : X) → IsAt k v es → IsIn (k, v) es
  at_in [] k v none = absurd none
  at_in (d ∷ es) k v (inl same) = inl (λ i. (same.0 i, same.1 i))
  at_in (d ∷ es) k v (inr i) = inr (at_in es k v i)

counter_paths : (q : Path) (counts : List (List ℕ × ℕ)) (p : Path)
    → IsIn p (tree_paths q (trees_of Counter (length q) (Counter counts))) ↔ InLayout Counter q (Counter counts) p
counter_paths q counts p = (to, from)
  where
    to : IsIn p (tree_paths q (trees_by (writer_header (length q)) (λ e. leaf (atom_of (Datum (unsigned_varint e.1)))) counts)) → InLayout Counter q (Counter counts) p
    to i =
        let (e, at, f) = in_trees_by (writer_header (length q)) (λ e. leaf (atom_of (Datum (unsigned_varint e.1)))) q counts p i in
        (e.0, e.1, in_pairs counts e at, elim f [ inl own ↦ inl own | inr j ↦ elim j [ inl own ↦ inr own | inr none ↦ absurd none ] ])

    from : InLayout Counter q (Counter counts) p → IsIn p (tree_paths q (trees_by (writer_header (length q)) (λ e. leaf (atom_of (Datum (unsigned_varint e.1)))) counts))
    from l = trees_by_in (writer_header (length q)) (λ e. leaf (atom_of (Datum (unsigned_varint e.1)))) q counts p (l.0, l.1) (at_in counts l.0 l.1 l.2)
        (elim l.3 [ inl own ↦ inl own | inr own ↦ inr (inl own) ])

set_paths : (kind : ScalarKind) (q : Path) (vs : List ScalarValue) (p : Path)
    → IsIn p (tree_paths q (trees_by (scalar_datum kind) (λ _. bare) vs)) ↔ ((v : ScalarValue) × IsIn v vs × (p ≡ datum_path q (spelling kind v)))
set_paths kind q vs p = (
  λ i. (let (v, at, f) = in_trees_by (scalar_datum kind) (λ _. bare) q vs p i in (v, at, elim f [ inl own ↦ own | inr none ↦ absurd none ])),
  λ l. trees_by_in (scalar_datum kind) (λ _. bare) q vs p l.0 l.1 (inl l.2),
)

-- The paths of a value's trees after q are those of its layout.
abbrev AreLaid : Shape → ℕ → Path → Value → Type 0
AreLaid shape n q v = (p : Path) → IsIn p (tree_paths q (trees_of shape n v)) ↔ InLayout shape q v p

map_paths : (kind : ScalarKind) (shape : Shape) (q : Path) (es : Entries) → ((key : List ℕ) (v : Value) → IsOfShape shape v → AreLaid shape (length q + 1) (key_path q key) v)
    → IsOfShape (Map kind shape) (Map es) → AreLaid (Map kind shape) (length q) q (Map es)
map_paths kind shape q es below o p = (to, from)
  where
    of_shape : (key : ScalarValue) (v : Value) → IsAt key v (pairs es) → IsOfShape shape v
    of_shape key v at = (EachPair-at (IsEntryOf kind shape) (pairs es) key v o.1 at).1

    to : IsIn p (tree_paths q (trees_by (key_header (length q) kind) (λ e. trees_of shape (length q + 1) e.1) (pairs es))) → InLayout (Map kind shape) q (Map es) p
    to i =
        let (e, at, f) = in_trees_by (key_header (length q) kind) (λ e. trees_of shape (length q + 1) e.1) q (pairs es) p i in
        let there = in_pairs (pairs es) e at in
        (e.0, e.1, there, elim f [ inl own ↦ inl own | inr j ↦ inr ((below (spelling kind e.0) e.1 (of_shape e.0 e.1 there) p).0 j) ])

    from : InLayout (Map kind shape) q (Map es) p → IsIn p (tree_paths q (trees_by (key_header (length q) kind) (λ e. trees_of shape (length q + 1) e.1) (pairs es)))
    from l = trees_by_in (key_header (length q) kind) (λ e. trees_of shape (length q + 1) e.1) q (pairs es) p (l.0, l.1) (at_in (pairs es) l.0 l.1 l.2)
        (elim l.3 [ inl own ↦ inl own | inr d ↦ inr ((below (spelling kind l.0) l.1 (of_shape l.0 l.1 l.2) p).1 d) ])

-- one level below q
one_below : (shape : Shape) (q : Path) (a : Atom) (v : Value) → AreLaid shape (length (q ++ a ∷ [])) (q ++ a ∷ []) v → AreLaid shape (length q + 1) (q ++ a ∷ []) v
one_below shape q a v laid = subst (λ n. AreLaid shape n (q ++ a ∷ []) v) (length-append q (a ∷ [])) laid

field_paths : (number : ℕ) (shape : Shape) (q : Path) (v : Value) (behind : Trees) (Rest : Path → Type 0) → IsOfShape shape v → AreLaid shape (length q + 1) (node_path q number) v
    → ((p : Path) → IsIn p (tree_paths q behind) ↔ Rest p)
    → (p : Path) → IsIn p (tree_paths q (header_over (atom_of (Indexed (length q) number)) (trees_of shape (length q + 1) v) behind))
    ↔ ((¬ (IsBottom v) × ((p ≡ node_path q number) ⊎ InLayout shape (node_path q number) v p)) ⊎ Rest p)
field_paths number shape q v behind Rest o laid rest p = ((λ i. to (over.0 i)), λ l. over.1 (from l))
  where
    over : IsIn p (tree_paths q (header_over (atom_of (Indexed (length q) number)) (trees_of shape (length q + 1) v) behind))
        ↔ (((trees_of shape (length q + 1) v ≢ bare) × ((p ≡ node_path q number) ⊎ IsIn p (tree_paths (node_path q number) (trees_of shape (length q + 1) v)))) ⊎ IsIn p (tree_paths q behind))
    over = over_paths (atom_of (Indexed (length q) number)) (trees_of shape (length q + 1) v) behind q p

    to : ((trees_of shape (length q + 1) v ≢ bare) × ((p ≡ node_path q number) ⊎ IsIn p (tree_paths (node_path q number) (trees_of shape (length q + 1) v)))) ⊎ IsIn p (tree_paths q behind)
        → (¬ (IsBottom v) × ((p ≡ node_path q number) ⊎ InLayout shape (node_path q number) v p)) ⊎ Rest p
    to (inl own) = inl ((λ b. own.0 (bottom_bare shape (length q + 1) v b)), elim own.1 [ inl e ↦ inl e | inr j ↦ inr ((laid p).0 j) ])
    to (inr j) = inr ((rest p).0 j)

    from : (¬ (IsBottom v) × ((p ≡ node_path q number) ⊎ InLayout shape (node_path q number) v p)) ⊎ Rest p
        → ((trees_of shape (length q + 1) v ≢ bare) × ((p ≡ node_path q number) ⊎ IsIn p (tree_paths (node_path q number) (trees_of shape (length q + 1) v)))) ⊎ IsIn p (tree_paths q behind)
    from (inl own) = inl ((λ e. own.0 (bare_bottom shape (length q + 1) v o e)), elim own.1 [ inl e ↦ inl e | inr d ↦ inr ((laid p).1 d) ])
    from (inr r) = inr ((rest p).1 r)

mutual
  pub paths-laid : (shape : Shape) (q : Path) (v : Value) → IsOfShape shape v → AreLaid shape (length q) q v
  paths-laid Taint q (Taint false) o p = ((λ none. absurd none), λ l. absurd (cc l.0))
  paths-laid Taint q (Taint true) o p = ((λ i. elim i [ inl e ↦ (refl, e) | inr none ↦ absurd none ]), λ l. inl l.1)
  paths-laid Taint q v o p = absurd o
  paths-laid (Scalar pick kind) q (Scalar own None) o p = ((λ none. none), λ none. none)
  paths-laid (Scalar pick kind) q (Scalar own (Some v)) o p = ((λ i. elim i [ inl e ↦ e | inr none ↦ absurd none ]), λ e. inl e)
  paths-laid (Scalar pick kind) q v o p = absurd o
  paths-laid (Set kind) q (Set own vs) o p = set_paths kind q vs p
  paths-laid (Set kind) q v o p = absurd o
  paths-laid Counter q (Counter counts) o p = counter_paths q counts p
  paths-laid Counter q v o p = absurd o
  paths-laid (Map kind shape) q (Map es) o p =
      map_paths kind shape q es (λ key v u. one_below shape q (atom_of (Keyed (length q) key)) v (paths-laid shape (key_path q key) v u)) o p
  paths-laid (Map kind shape) q v o p = absurd o
  paths-laid (Bag nodes) q (Bag vs) o p = paths-laid_fields nodes q vs o p
  paths-laid (Bag nodes) q v o p = absurd o

  pub paths-laid_fields : (nodes : Nodes) (q : Path) (vs : Values) → AreOfShapes nodes vs → (p : Path) → IsIn p (tree_paths q (field_trees nodes (length q) vs)) ↔ InLayouts nodes q vs p
  paths-laid_fields no_node q no_value o p = ((λ none. none), λ none. none)
  paths-laid_fields no_node q (value v vs) o p = absurd o
  paths-laid_fields (node name number shape nodes) q no_value o p = absurd o
  paths-laid_fields (node name number shape nodes) q (value v vs) o p =
      field_paths number shape q v (field_trees nodes (length q) vs) (InLayouts nodes q vs) o.0
      (one_below shape q (atom_of (Indexed (length q) number)) v (paths-laid shape (node_path q number) v o.0)) (λ r. paths-laid_fields nodes q vs o.1 r) p

-- ---- the order

-- the atoms of a set's elements, a counter's writers and a map's keys rise
data_rise : (kind : ScalarKind) (vs : List ScalarValue) → Rises scalar_cmp vs → AllByRecursion (IsScalarOf kind) vs → Rises atom_cmp (map (scalar_datum kind) vs)
data_rise kind [] r f = tt
data_rise kind (v ∷ []) r f = tt
data_rise kind (v ∷ w ∷ vs) r f = (same_first 0 (spelling kind v) (spelling kind w) ∙ spelling-less kind v w f.0 f.1.0 r.0, data_rise kind (w ∷ vs) r.1 f.1)

writers_rise : (n : ℕ) (counts : List (List ℕ × ℕ)) → Rises atom_cmp (keys_of counts) → Rises atom_cmp (map (writer_header n) counts)
writers_rise n [] r = tt
writers_rise n (c ∷ []) r = tt
writers_rise n (c ∷ d ∷ counts) r = (same_first (249 - 8 * n) c.0 d.0 ∙ r.0, writers_rise n (d ∷ counts) r.1)

keys_rise : (n : ℕ) (kind : ScalarKind) (shape : Shape) (es : List (ScalarValue × Value)) → Rises scalar_cmp (keys_of es) → EachPair (IsEntryOf kind shape) es → Rises atom_cmp (map (key_header n kind) es)
keys_rise n kind shape [] r f = tt
keys_rise n kind shape (e ∷ []) r f = tt
keys_rise n kind shape (e ∷ d ∷ es) r f =
    (same_first (249 - 8 * n) (spelling kind e.0) (spelling kind d.0) ∙ spelling-less kind e.0 d.0 f.0.0 f.1.0.0 r.0, keys_rise n kind shape (d ∷ es) r.1 f.1)

datum_kind : (payload : List ℕ) → HasKind (atom_of (Datum payload))
datum_kind payload = record { kind = Datum payload; fits = tt; spelled = refl }

key_kind : (n : ℕ) (key : List ℕ) → n < 16 → HasKind (atom_of (Keyed n key))
key_kind n key few = record { kind = Keyed n key; fits = few; spelled = refl }

pub index_kind : (n number : ℕ) → n < 16 → number < 2 ^ 64 → HasKind (atom_of (Indexed n number))
index_kind n number few fits = record { kind = Indexed n number; fits = (few, fits); spelled = refl }

datum_leaf : (n : ℕ) (payload : List ℕ) → AreTrees n (leaf (atom_of (Datum payload)))
datum_leaf n payload = (datum_kind payload, inr (payload, refl, refl), tt, tt, tt)

set_trees : (kind : ScalarKind) (n : ℕ) (vs : List ScalarValue) → Rises scalar_cmp vs → AllByRecursion (IsScalarOf kind) vs → AreTrees n (trees_by (scalar_datum kind) (λ _. bare) vs)
set_trees kind n vs r f =
    AreTrees-by (scalar_datum kind) (λ _. bare) n vs (λ v i. (datum_kind (spelling kind v), inr (spelling kind v, refl, refl), tt)) (data_rise kind vs r f)

counter_trees : (n : ℕ) (counts : List (List ℕ × ℕ)) → n < 16 → Rises atom_cmp (keys_of counts) → AreTrees n (trees_of Counter n (Counter counts))
counter_trees n counts few r =
    AreTrees-by (writer_header n) (λ e. leaf (atom_of (Datum (unsigned_varint e.1)))) n counts
    (λ c i. (key_kind n c.0 few, inl (sets.key_header n c.0 few), datum_leaf (n + 1) (unsigned_varint c.1))) (writers_rise n counts r)

map_trees : (kind : ScalarKind) (shape : Shape) (n : ℕ) (es : Entries) → n < 16 → ((v : Value) → IsOfShape shape v → AreTrees (n + 1) (trees_of shape (n + 1) v))
    → IsOfShape (Map kind shape) (Map es) → AreTrees n (trees_of (Map kind shape) n (Map es))
map_trees kind shape n es few below o =
    AreTrees-by (key_header n kind) (λ e. trees_of shape (n + 1) e.1) n (pairs es)
    (λ e i. (key_kind n (spelling kind e.0) few, inl (sets.key_header n (spelling kind e.0) few), below e.1 (EachPair-at (IsEntryOf kind shape) (pairs es) e.0 e.1 o.1 (in_pairs (pairs es) e i)).1))
    (keys_rise n kind shape (pairs es) o.0 o.1)

-- A header comes before those of fields with greater numbers.
before_fields : (n number : ℕ) (nodes : Nodes) (vs : Values) → AreFields nodes → ((f : Field) → IsIn f (fields nodes) → number < f.number) → IsBefore (atom_of (Indexed n number)) (field_trees nodes n vs)
before_fields n number no_node vs w f = tt
before_fields n number (node name other shape nodes) no_value w f = tt
before_fields n number (node name other shape nodes) (value v vs) w f =
    IsBefore-over (atom_of (Indexed n number)) (atom_of (Indexed n other)) (trees_of shape (n + 1) v) (field_trees nodes n vs)
    (index_order n number other (f (record { name = name; number = other; shape = shape }) (inl refl)) (number_wide other w.1))
    (before_fields n number nodes vs w.4 (λ g i. f g (inr i)))

mutual
  -- The trees of a value of a shape are in order.
  pub AreTrees-laid : (shape : Shape) (n : ℕ) (v : Value) → IsShape shape → IsOfShape shape v → n + levels_under shape ≤ 16 → AreTrees n (trees_of shape n v)
  AreTrees-laid Taint n (Taint false) w o l = tt
  AreTrees-laid Taint n (Taint true) w o l = datum_leaf n []
  AreTrees-laid Taint n v w o l = absurd o
  AreTrees-laid (Scalar pick kind) n (Scalar own None) w o l = tt
  AreTrees-laid (Scalar pick kind) n (Scalar own (Some v)) w o l = datum_leaf n (spelling kind v)
  AreTrees-laid (Scalar pick kind) n v w o l = absurd o
  AreTrees-laid (Set kind) n (Set own vs) w o l = set_trees kind n vs o.1 o.2
  AreTrees-laid (Set kind) n v w o l = absurd o
  AreTrees-laid Counter n (Counter counts) w o l = counter_trees n counts (omega (arith, l)) o.0
  AreTrees-laid Counter n v w o l = absurd o
  AreTrees-laid (Map kind shape) n (Map es) w o l =
      let few : n < 16 = omega (arith, l) in
      let under : (n + 1) + levels_under shape ≤ 16 = omega (arith, l) in
      map_trees kind shape n es few (λ v u. AreTrees-laid shape (n + 1) v w.1 u under) o
  AreTrees-laid (Map kind shape) n v w o l = absurd o
  AreTrees-laid (Bag nodes) n (Bag vs) w o l = AreTrees-laid_fields nodes n vs w o l
  AreTrees-laid (Bag nodes) n v w o l = absurd o

  pub AreTrees-laid_fields : (nodes : Nodes) (n : ℕ) (vs : Values) → AreFields nodes → AreOfShapes nodes vs → n + levels nodes ≤ 16 → AreTrees n (field_trees nodes n vs)
  AreTrees-laid_fields no_node n vs w o l = tt
  AreTrees-laid_fields (node name number shape nodes) n no_value w o l = absurd o
  AreTrees-laid_fields (node name number shape nodes) n (value v vs) w o l =
      let few : n < 16 = omega (arith, l) in
      let under : (n + 1) + levels_under shape ≤ 16 = omega (arith, l) in
      let behind : n + levels nodes ≤ 16 = omega (arith, l) in
      let header = sets.index_header n number few in
      AreTrees-over (atom_of (Indexed n number)) (trees_of shape (n + 1) v) (field_trees nodes n vs) n (index_kind n number few (number_wide number w.1)) header.0 header.1
      (before_fields n number nodes vs w.4 (λ f i. (All-at (λ (other : Field). (number < other.number) × (name ≢ other.name)) (fields nodes) f w.3 i).0))
      (AreTrees-laid shape (n + 1) v w.2 o.0 under) (AreTrees-laid_fields nodes n vs w.4 o.1 behind)
