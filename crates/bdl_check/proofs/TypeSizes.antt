-- The sizes of types, of bags with one field more, and of declarations.
use Rattle.std.proofs.Common.{◌≡◌, ℕ, ◌<◌, ◌+◌, min, max, true, List, [], ◌∷◌, ◌++◌, length, get_or, Some, Box, Global, ◌⊎◌, inl, inr, refl, sym, ◌∙◌, subst, arith}
use Rattle.std.specs.List.{slice_get}
use Rattle.std.proofs.lemmas.List.Sorted.{IsPermutation-refl}
use Rattle.std.proofs.lemmas.Option.{slice_get_within, slice_get-get_or}
use Rattle.bag_model.specs.declared.Pick.TheVariants.{Least, Greatest}
use Rattle.bag_model.specs.Scalars as scalars
use Rattle.bag_model.specs.Shapes.{Taint, Scalar, Set, Counter, Map, Bag as BagOf, no_node}
use Rattle.bag_model.specs.Tables.{levels}
use Rattle.bdl_parser.specs.declared.trees.Decl.{Decl}
use Rattle.bdl_parser.specs.declared.trees.Decl.TheVariants.{Bag, Struct}
use Rattle.bdl_parser.specs.declared.trees.Spot.{Spot}
use Rattle.bdl_parser.specs.declared.trees.Holding.{Holding}
use Rattle.bdl_parser.specs.declared.trees.Holding.TheVariants.{AsSet, AsGreatest}
use Rattle.bdl_parser.specs.declared.trees.TypeForm as TypeForms
use Rattle.bdl_parser.specs.declared.trees.TypeForm.{TypeForm}
use Rattle.bdl_parser.specs.declared.trees.TypeNode.{TypeNode}
use Rattle.bdl_parser.specs.Views.{tree_at, tree_of}
use Rattle.bdl_parser.specs.Trees as trees
use Rattle.bdl_parser.specs.Trees.{TypeTree, BagFieldTree}
use Rattle.bdl_check.specs.declared.sizes.Size.{Size}
use Rattle.bdl_check.specs.declared.types.Role.TheVariants.{BagField}
use Rattle.bdl_check.specs.Declarations.{Placed, decl_named, number_named, kind_named}
use Rattle.bdl_check.specs.Layouts.{struct_words, IsShapeOfDecl, IsLaidOut}
use Rattle.bdl_check.specs.Passes.{passes_type}
use Rattle.bdl_check.specs.Sizes.{HasTypeSize, HasSize, IsSizeOf, AreKnown}
use Rattle.bdl_check.proofs.Insertions.{IsNewNumber, added}
use Rattle.bdl_check.proofs.LayoutRooms.{laid_out, in_order}
use Rattle.bdl_check.proofs.PassedTypes.{named_at, declared, element_kind, key_kind, map_key}
use Rattle.bdl_check.specs.declared.sizes.TheConstants.{LEVELS_CAP, FIELDS_CAP}

abbrev pub size : ℕ → ℕ → Size
size levels fields = record { levels = levels; fields = fields }

-- A counter takes a level.
pub counter_size : (ds : List Placed) (spot : Spot) (l f : ℕ) → l ≡ min (1 + 0) LEVELS_CAP → f ≡ 0
    → HasTypeSize ds (trees.leaf trees.counter spot) (size l f)
counter_size ds spot l f el ef = record { shape = Counter; is = refl; levels_are = el; fields_are = ef }

-- A map takes one more than its values.
pub map_size : (ds : List Placed) (key value : TypeTree) (spot : Spot) (under : Size) (l f : ℕ)
    → passes_type (kind_named ds) BagField (trees.map key value spot) ≡ true
    → HasTypeSize ds value under → l ≡ min (1 + under.levels) LEVELS_CAP → f ≡ under.fields → HasTypeSize ds (trees.map key value spot) (size l f)
map_size ds key value spot under l f p h el ef =
    let word = key_kind ds key (map_key (kind_named ds) key value spot p) in
    let kind = scalars.ScalarKind.One word.0 in
    record {
      shape = Map kind h.shape;
      is = (kind, h.shape, word.1, h.is, refl);
      levels_are = omega (arith, el, h.levels_are);
      fields_are = ef ∙ h.fields_are;
    }

-- What holds elements takes none.
pub held_size : (ds : List Placed) (holding : Holding) (element : TypeTree) (spot : Spot)
    → passes_type (kind_named ds) BagField (trees.held holding element spot) ≡ true → HasTypeSize ds (trees.held holding element spot) (size 0 0)
held_size ds AsSet element spot p =
    let kind = element_kind ds element p in
    record { shape = Set kind.0; is = (kind.0, kind.1, refl); levels_are = refl; fields_are = refl }
held_size ds AsGreatest element spot p =
    let kind = element_kind ds element p in
    record { shape = Scalar Greatest kind.0; is = (kind.0, kind.1, refl); levels_are = refl; fields_are = refl }

decl_size : (ds : List Placed) (text : List ℕ) (spot : Spot) (d : Placed) (s : Size) → decl_named ds text ≡ Some d → IsSizeOf ds d.decl s
    → HasTypeSize ds (trees.leaf (trees.name text) spot) s
decl_size ds text spot d s e h = by d.decl refl h
  where
    by : (decl : Decl) → d.decl ≡ decl → IsSizeOf ds decl s → HasTypeSize ds (trees.leaf (trees.name text) spot) s
    by (Bag own at list) is h = record {
      shape = BagOf h.nodes;
      is = (d, e, subst (λ (decl : Decl). IsShapeOfDecl (IsLaidOut ds) decl (BagOf h.nodes)) (sym is) (h.nodes, h.laid_out, refl));
      levels_are = h.levels_are;
      fields_are = h.fields_are;
    }
    by (Struct own at list) is h = record {
      shape = Scalar Least (scalars.ScalarKind.Packed (struct_words list));
      is = (d, e, subst (λ (decl : Decl). IsShapeOfDecl (IsLaidOut ds) decl (Scalar Least (scalars.ScalarKind.Packed (struct_words list)))) (sym is) refl);
      levels_are = h.0;
      fields_are = h.1;
    }

-- A name takes what its declaration does.
pub name_size : (ds : List Placed) (sizes : List Size) (text : List ℕ) (spot : Spot) (n : ℕ) (s : Size) → length sizes ≡ length ds
    → AreKnown ds sizes (text ∷ [])
    → passes_type (kind_named ds) BagField (trees.leaf (trees.name text) spot) ≡ true → number_named ds text ≡ Some n
    → HasTypeSize ds (trees.leaf (trees.name text) spot) (get_or sizes n s)
name_size ds sizes text spot n s count known p e =
    let d = declared ds BagField text p in
    let there : slice_get ds n ≡ Some d.0 = sym (named_at ds text n e) ∙ d.1 in
    let within = slice_get_within ds n d.0 there in
    let found = slice_get-get_or sizes n s (omega (arith, within, count)) in
    decl_size ds text spot d.0 (get_or sizes n s) d.1 (known.0 n e d.0 (get_or sizes n s) there found)

-- ---- bags

-- A bag with no field.
pub empty_size : (ds : List Placed) → HasSize ds [] (size 0 0)
empty_size ds = record {
  nodes = no_node;
  laid_out = (1, record { sorted = []; same = IsPermutation-refl []; rising = λ k (lt : k + 1 < 0). absurd (omega arith); each = tt });
  levels_are = refl;
  fields_are = refl;
}

-- A bag with one field more.
pub more_size : (ds : List Placed) (list : List BagFieldTree) (t : BagFieldTree) (bag under new : Size) → HasSize ds list bag
    → HasTypeSize ds t.kind under → IsNewNumber t.number list
    → new.levels ≡ min (max (1 + under.levels) bag.levels) LEVELS_CAP → new.fields ≡ min (1 + under.fields + bag.fields) FIELDS_CAP
    → HasSize ds (list ++ t ∷ []) new
more_size ds list t bag under new h u fresh el ef =
    let a = added ds (IsLaidOut ds) list h.nodes t u.shape u.is fresh (in_order ds list h.nodes h.laid_out) in
    record {
      nodes = a.more;
      laid_out = laid_out ds (list ++ t ∷ []) a.more a.ordered;
      levels_are = omega (arith, el, a.levels_are, h.levels_are, u.levels_are);
      fields_are = omega (arith, ef, a.count_is, h.fields_are, u.fields_are);
    }

-- ---- names that are known

-- Of two lists of names that are known each is.
pub known_left : (ds : List Placed) (sizes : List Size) (xs ys : List (List ℕ)) → AreKnown ds sizes (xs ++ ys) → AreKnown ds sizes xs
known_left ds sizes [] ys h = tt
known_left ds sizes (x ∷ xs) ys h = (h.0, known_left ds sizes xs ys h.1)

pub known_right : (ds : List Placed) (sizes : List Size) (xs ys : List (List ℕ)) → AreKnown ds sizes (xs ++ ys) → AreKnown ds sizes ys
known_right ds sizes [] ys h = h
known_right ds sizes (x ∷ xs) ys h = known_right ds sizes xs ys h.1

-- ---- the depth of a type

-- How many maps are inside one another.
abbrev pub map_depth : TypeTree → ℕ
map_depth (trees.leaf l spot) = 0
map_depth (trees.held holding element spot) = 0
map_depth (trees.map key value spot) = 1 + map_depth value

-- A word, a taint and what holds elements take none.
pub flat_size : (ds : List Placed) (at : Spot) (form : TypeForm)
    → ((word : scalars.Word) × (form ≡ TypeForms.Scalar word)) ⊎
    ((form ≡ TypeForms.Taint) ⊎ (((element : Box TypeNode Global) × (form ≡ TypeForms.Set element)) ⊎
    ((element : Box TypeNode Global) × (form ≡ TypeForms.Greatest element))))
    → passes_type (kind_named ds) BagField (tree_at at form) ≡ true → HasTypeSize ds (tree_at at form) (size 0 0)
flat_size ds at form (inl word) p =
    subst (λ (form : TypeForm). HasTypeSize ds (tree_at at form) (size 0 0)) (sym word.1)
    (record { shape = _; is = refl; levels_are = refl; fields_are = refl })
flat_size ds at form (inr (inl taint)) p =
    subst (λ (form : TypeForm). HasTypeSize ds (tree_at at form) (size 0 0)) (sym taint)
    (record { shape = Taint; is = refl; levels_are = refl; fields_are = refl })
flat_size ds at form (inr (inr (inl element))) p =
    subst (λ (form : TypeForm). HasTypeSize ds (tree_at at form) (size 0 0)) (sym element.1)
    (held_size ds AsSet (tree_of element.0.value) at
    (subst (λ (form : TypeForm). passes_type (kind_named ds) BagField (tree_at at form) ≡ true) element.1 p))
flat_size ds at form (inr (inr (inr element))) p =
    subst (λ (form : TypeForm). HasTypeSize ds (tree_at at form) (size 0 0)) (sym element.1)
    (held_size ds AsGreatest (tree_of element.0.value) at
    (subst (λ (form : TypeForm). passes_type (kind_named ds) BagField (tree_at at form) ≡ true) element.1 p))
