-- A bag that is laid out makes a table, if the declarations pass and are spelled.
use Rattle.std.proofs.Common.{◌≡◌, ◌≢◌, ℕ, suc, zero, ◌^◌, ◌<◌, ◌≤◌, ◌==◌, ◌&&◌, Bool, true, false, not, List, [], ◌∷◌, Option, Some, None, refl, sym, subst, ◌∙◌, true≢false}
use Rattle.std.specs.Bool.{one_answer}
use Rattle.std.specs.List.{AllByRecursion, IsDistinct, list_any, list_all, cons_option}
use Rattle.std.specs.Str.{bytes_eq}
use Rattle.std.proofs.lemmas.List.Kept.{AllPairs-from_increasing}
use Rattle.std.proofs.lemmas.List.Sorted.{IsPermutation-map}
use Rattle.std.proofs.lemmas.Map.Keys.{IsDistinct-IsPermutation, IsDistinct-head, IsDistinct-tail}
use Rattle.std.proofs.lemmas.Option.{slice_get_within, get_or_from_slice_get}
use Rattle.std.proofs.lemmas.Slice.Eq.{bytes_eq-Decides}
use Rattle.bag_model.specs.Scalars as scalars
use Rattle.bag_model.specs.Shapes.{Shape, Nodes, Field, fields, no_node, node}
use Rattle.bag_model.specs.Tables.{is_name, IsScalarKind, IsKeyKind, IsShape, AreFields, levels, node_count, IsTable}
use Rattle.bdl_parser.specs.Decls.{IsSpelledField, IsSpelledDecl}
use Rattle.bdl_parser.specs.declared.trees.Decl.{Decl}
use Rattle.bdl_parser.specs.declared.trees.Decl.TheVariants.{Bag, Struct}
use Rattle.bdl_parser.specs.declared.trees.Holding.TheVariants.{AsSet, AsGreatest}
use Rattle.bdl_parser.specs.declared.trees.Spot.{Spot}
use Rattle.bdl_parser.specs.Trees as trees
use Rattle.bdl_parser.specs.Trees.{TypeTree, BagFieldTree, StructFieldTree}
use Rattle.bdl_check.specs.declared.declarations.DeclKind.{DeclKind}
use Rattle.bdl_check.specs.declared.types.Role.TheVariants.{BagField, StructField, Key}
use Rattle.bdl_check.specs.Checks.{placed_faults}
use Rattle.bdl_check.specs.Declarations.{Placed, decl_named, kind_named, AreSpelled}
use Rattle.bdl_check.specs.Fields.{numbers_of, bag_field_names, struct_names_of}
use Rattle.bdl_check.specs.Layouts.{Layout, word_of_type, struct_words, kind_of_decl, kind_in, IsShapeOfDecl, IsShapeOf, AreFieldsOf, IsLaidOutInOrder, IsLaidOutWithin, IsLaidOut}
use Rattle.bdl_check.specs.Passes.{are_distinct, passes_name, passes_type, passes_decl}
use Rattle.bdl_check.specs.Types.{Kinds}
use Rattle.bdl_check.proofs.BagSizes.{or_first, or_second, not_so}
use Rattle.bdl_check.proofs.Insertions.{all_moved}
use Rattle.bdl_check.proofs.OneLayout.{Precedes, Rising, numbers, rises, same_some}
use Rattle.bdl_check.proofs.PassedTypes.{number_of, key_kind, map_key, map_value}
use Rattle.context_model.specs.declared.TheConstants.{LEVELS_MAX}
use Rattle.bag_model.specs.declared.TheConstants.{FIELDS_MAX}
use Rattle.bdl_check.proofs.Soundness.{faultless_passes, numbered_passes}
use Rattle.bdl_check.proofs.Lists.{both_first, both_second, and_then_is}

-- ---- structs

no_struct_name : (kind : Option DeclKind) → passes_name StructField kind ≡ true → ⊥
no_struct_name None e = (cc)
no_struct_name (Some kind) e = (cc)

struct_word : (kinds : Kinds) (t : TypeTree) → passes_type kinds StructField t ≡ true → (word : scalars.Word) × (word_of_type t ≡ Some word)
struct_word kinds (trees.leaf (trees.scalar word) spot) e = (_, refl)
struct_word kinds (trees.leaf trees.float spot) e = absurd (cc e)
struct_word kinds (trees.leaf trees.double spot) e = absurd (cc e)
struct_word kinds (trees.leaf trees.taint spot) e = absurd (cc e)
struct_word kinds (trees.leaf trees.counter spot) e = absurd (cc e)
struct_word kinds (trees.leaf (trees.name text) spot) e = absurd (no_struct_name (kinds text) e)
struct_word kinds (trees.held holding element spot) e = absurd (cc e)
struct_word kinds (trees.map key value spot) e = absurd (cc e)

some_words : (o : Option scalars.Word) (word : scalars.Word) (words : List scalars.Word) → o ≡ Some word → cons_option o words ≢ []
some_words None word words e h = (cc e)
some_words (Some other) word words e h = (cc h)

struct_good : (kinds : Kinds) (decl : Decl) (kind : scalars.ScalarKind) → passes_decl kinds decl ≡ true → kind_of_decl decl ≡ Some kind → IsScalarKind kind
struct_good kinds (Bag own spot list) kind p e = absurd (cc e)
struct_good kinds (Struct own spot []) kind p e = absurd (cc p)
struct_good kinds (Struct own spot (f ∷ fs)) kind p e =
    let types = both_first (list_all (λ (g : StructFieldTree). passes_type kinds StructField g.kind) (f ∷ fs))
    (are_distinct bytes_eq (struct_names_of (f ∷ fs))) p in
    let word = struct_word kinds f.kind (both_first (passes_type kinds StructField f.kind)
    (list_all (λ (g : StructFieldTree). passes_type kinds StructField g.kind) fs) types) in
    let same : scalars.ScalarKind.Packed (struct_words (f ∷ fs)) ≡ kind = (cc e) in
    subst IsScalarKind same (some_words (word_of_type f.kind) word.0 (struct_words fs) word.1)

-- ---- lists

all_true : {X : Type 0} (p : X → Bool) (xs : List X) → list_all p xs ≡ true → AllByRecursion (λ x. p x ≡ true) xs
all_true p [] e = tt
all_true p (x ∷ xs) e = (both_first (p x) (list_all p xs) e, all_true p xs (both_second (p x) (list_all p xs) e))

none_true : {X : Type 0} (p : X → Bool) (xs : List X) → list_any p xs ≡ false → AllByRecursion (λ x. p x ≡ false) xs
none_true p [] e = tt
none_true p (x ∷ xs) e = (or_first (p x) (list_any p xs) e, none_true p xs (or_second (p x) (list_any p xs) e))

distinct_names : {X : Type 0} (alike : X → X → Bool) (xs : List X) → are_distinct alike xs ≡ true → IsDistinct alike xs
unfolding IsDistinct
distinct_names alike [] e = tt
distinct_names alike (x ∷ xs) e = (
  none_true (alike x) xs (not_so (list_any (alike x) xs) (both_first (not (list_any (alike x) xs)) (are_distinct alike xs) e)),
  distinct_names alike xs (both_second (not (list_any (alike x) xs)) (are_distinct alike xs) e),
)

names_differ : (x y : List ℕ) → bytes_eq x y ≡ false → x ≢ y
names_differ x y e same = true≢false (sym ((bytes_eq-Decides x y).1 same) ∙ e)

flips_names : (x y : List ℕ) → bytes_eq x y ≡ bytes_eq y x
flips_names x y = one_answer (bytes_eq x y) (bytes_eq y x) (bytes_eq-Decides x y)
    (λ h. sym ((bytes_eq-Decides y x).0 h), λ h. (bytes_eq-Decides y x).1 (sym h))

-- ---- fields of tables

-- Fields that pass and are spelled.
pub record AreGood (ds : List Placed) (list : List BagFieldTree) : Type 0 where
  pub types : AllByRecursion (λ (t : BagFieldTree). passes_type (kind_named ds) BagField t.kind ≡ true) list
  pub names : IsDistinct bytes_eq (bag_field_names list)
  pub spelled : AllByRecursion IsSpelledField list

-- The fields of a bag that passes and is spelled.
pub good_list : (ds : List Placed) (own : List ℕ) (spot : Spot) (list : List BagFieldTree) → passes_decl (kind_named ds) (Bag own spot list) ≡ true
    → IsSpelledDecl (Bag own spot list) → AreGood ds list
good_list ds own spot list p s =
    let types = list_all (λ (t : BagFieldTree). passes_type (kind_named ds) BagField t.kind) list in
    let numbers = are_distinct (λ a b. a == b) (numbers_of list) in
    let names = are_distinct bytes_eq (bag_field_names list) in
    record {
      types = all_true (λ (t : BagFieldTree). passes_type (kind_named ds) BagField t.kind) list (both_first types (numbers && names) p);
      names = distinct_names bytes_eq (bag_field_names list) (both_second numbers names (both_second types (numbers && names) p));
      spelled = s;
    }

-- Each declaration passes and is spelled.
abbrev pub AllGood : List Placed → Type 0
AllGood ds = (text : List ℕ) (d : Placed) → decl_named ds text ≡ Some d → (passes_decl (kind_named ds) d.decl ≡ true) × IsSpelledDecl d.decl

-- Declarations without faults pass.
pub all_good : (ds : List Placed) → placed_faults ds ≡ [] → AreSpelled ds → AllGood ds
all_good ds none spelled text d e =
    let n = number_of ds text d e in (
      numbered_passes ds n.0 d (faultless_passes ds none) n.2,
      subst (λ (d : Placed). IsSpelledDecl d.decl) (get_or_from_slice_get ds n.0 d d n.2)
          (spelled n.0 d (slice_get_within ds n.0 d n.2)),
    )

-- What is laid out so has the fields of a table.
abbrev Makes : List Placed → Layout → Type 0
Makes ds L = (list : List BagFieldTree) (nodes : Nodes) → AreGood ds list → L list nodes → AreFields nodes

module _ (ds : List Placed) (good : AllGood ds) where
  element_good : (t : TypeTree) (kind : scalars.ScalarKind) → kind_in ds t ≡ Some kind → IsScalarKind kind
  element_good (trees.leaf (trees.scalar word) spot) kind e = let same : scalars.ScalarKind.One word ≡ kind = (cc e) in subst IsScalarKind same tt
  element_good (trees.leaf trees.float spot) kind e = absurd (cc e)
  element_good (trees.leaf trees.double spot) kind e = absurd (cc e)
  element_good (trees.leaf trees.taint spot) kind e = absurd (cc e)
  element_good (trees.leaf trees.counter spot) kind e = absurd (cc e)
  element_good (trees.leaf (trees.name text) spot) kind e =
      let d = and_then_is (λ (d : Placed). kind_of_decl d.decl) (decl_named ds text) kind e in
      struct_good (kind_named ds) d.0.decl kind (good text d.0 d.1).0 d.2
  element_good (trees.held holding element spot) kind e = absurd (cc e)
  element_good (trees.map key value spot) kind e = absurd (cc e)

  key_good : (t : TypeTree) (kind : scalars.ScalarKind) → passes_type (kind_named ds) Key t ≡ true → kind_in ds t ≡ Some kind → IsKeyKind kind
  key_good t kind p e =
      let word = key_kind ds t p in
      subst IsKeyKind (same_some (kind_in ds t) (scalars.ScalarKind.One word.0) kind word.1 e) tt

  decl_good : (L : Layout) → Makes ds L → (decl : Decl) (s : Shape) → passes_decl (kind_named ds) decl ≡ true → IsSpelledDecl decl
      → IsShapeOfDecl L decl s → IsShape s
  decl_good L makes (Bag own spot list) s p spelled a = subst IsShape (sym a.2) (makes list a.0 (good_list ds own spot list p spelled) a.1)
  decl_good L makes (Struct own spot list) s p spelled a = subst IsShape (sym a)
      (struct_good (kind_named ds) (Struct own spot list) (scalars.ScalarKind.Packed (struct_words list)) p refl)

  shape_good : (L : Layout) → Makes ds L → (t : TypeTree) (s : Shape) → passes_type (kind_named ds) BagField t ≡ true → IsShapeOf ds L t s → IsShape s
  shape_good L makes (trees.leaf (trees.scalar word) spot) s p a = subst IsShape (sym a) tt
  shape_good L makes (trees.leaf trees.float spot) s p a = absurd a
  shape_good L makes (trees.leaf trees.double spot) s p a = absurd a
  shape_good L makes (trees.leaf trees.taint spot) s p a = subst IsShape (sym a) tt
  shape_good L makes (trees.leaf trees.counter spot) s p a = subst IsShape (sym a) tt
  shape_good L makes (trees.leaf (trees.name text) spot) s p a = let here = good text a.0 a.1 in decl_good L makes a.0.decl s here.0 here.1 a.2
  shape_good L makes (trees.held AsSet element spot) s p a = subst IsShape (sym a.2) (element_good element a.0 a.1)
  shape_good L makes (trees.held AsGreatest element spot) s p a = subst IsShape (sym a.2) (element_good element a.0 a.1)
  shape_good L makes (trees.map key value spot) s p a =
      subst IsShape (sym a.4) (
        key_good key a.0 (map_key (kind_named ds) key value spot p) a.2,
        shape_good L makes value a.1
            (map_value (kind_named ds) key value spot p) a.3,
      )

  behind : (L : Layout) (t : BagFieldTree) (ts : List BagFieldTree) (fs : List Field) → AreFieldsOf ds L ts fs → Precedes t.number ts
      → AllByRecursion (λ y. bytes_eq t.name y ≡ false) (bag_field_names ts)
      → AllByRecursion (λ (other : Field). (t.number < other.number) × (t.name ≢ other.name)) fs
  behind L t [] [] e o d = tt
  behind L t (u ∷ ts) (f ∷ fs) e o d = (
    (subst (λ n. t.number < n) (sym e.0.number_is) o.0, subst (λ (n : List ℕ). t.name ≢ n) (sym e.0.name_is) (names_differ t.name u.name d.0)),
    behind L t ts fs e.1 o.1 d.1,
  )
  behind L t [] (f ∷ fs) e o d = absurd e
  behind L t (u ∷ ts) [] e o d = absurd e

  fields_good : (L : Layout) → Makes ds L → (ts : List BagFieldTree) (nodes : Nodes) → AreFieldsOf ds L ts (fields nodes) → AreGood ds ts → Rising ts
      → AreFields nodes
  fields_good L makes [] no_node e g r = tt
  fields_good L makes (t ∷ ts) (node name number shape more) e g r =
      let names = IsDistinct-head bytes_eq t.name (bag_field_names ts) g.names in
      let rest = behind L t ts (fields more) e.1 r.0 names in (
        subst (λ (n : List ℕ). is_name n ≡ true) (sym e.0.name_is) g.spelled.0.0,
        subst (λ n. n < 2 ^ 16) (sym e.0.number_is) g.spelled.0.1,
        shape_good L makes t.kind shape g.types.0 e.0.shape,
        subst (λ n. AllByRecursion (λ (other : Field). (n < other.number) × (name ≢ other.name)) (fields more)) (sym e.0.number_is)
            (subst (λ (n : List ℕ). AllByRecursion (λ (other : Field). (t.number < other.number) × (n ≢ other.name)) (fields more)) (sym e.0.name_is)
            rest),
        fields_good L makes ts more e.1 (record {
          types = g.types.1;
          names = IsDistinct-tail bytes_eq t.name (bag_field_names ts) g.names;
          spelled =
              g.spelled.1;
        }) r.1,
      )
  fields_good L makes [] (node name number shape more) e g r = absurd e
  fields_good L makes (t ∷ ts) no_node e g r = absurd e

  order_good : (L : Layout) → Makes ds L → (list : List BagFieldTree) (nodes : Nodes) → AreGood ds list → IsLaidOutInOrder ds L list nodes → AreFields nodes
  order_good L makes list nodes g a =
      let sorted : AreGood ds a.sorted = record {
        types = all_moved (λ (t : BagFieldTree). passes_type (kind_named ds) BagField t.kind ≡ true) list a.sorted a.same g.types;
        names = IsDistinct-IsPermutation bytes_eq flips_names (bag_field_names list) (bag_field_names a.sorted)
            (IsPermutation-map (λ (u : BagFieldTree). u.name) list a.sorted a.same) g.names;
        spelled = all_moved IsSpelledField list a.sorted a.same g.spelled;
      } in
      fields_good L makes a.sorted nodes a.each sorted (rises a.sorted (AllPairs-from_increasing (numbers a.sorted) a.rising))

  within_good : (room : ℕ) → Makes ds (IsLaidOutWithin room ds)
  within_good zero list nodes g a = absurd a
  within_good (suc room) list nodes g a = order_good (IsLaidOutWithin room ds) (within_good room) list nodes g a

  -- A bag in few levels with few fields makes a table.
  pub is_table : (list : List BagFieldTree) (nodes : Nodes) → AreGood ds list → IsLaidOut ds list nodes → levels nodes ≤ LEVELS_MAX
      → node_count nodes ≤ FIELDS_MAX → IsTable nodes
  is_table list nodes g l shallow small = record { well_formed = within_good l.0 list nodes g l.1; shallow = shallow; small = small }
