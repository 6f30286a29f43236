-- Names of declarations, and types that pass.
use Rattle.std.proofs.Common.{◌≡◌, ℕ, ◌<◌, Bool, true, false, List, length, Option, Some, None, cond, refl, sym, ◌∙◌, ap, arith}
use Rattle.std.specs.List.{find, position, position_or_len, slice_get}
use Rattle.std.specs.Option.{option_map, option_and_then}
use Rattle.std.specs.Str.{bytes_eq}
use Rattle.std.proofs.lemmas.List.Folds.{find_at}
use Rattle.std.proofs.lemmas.Option.{slice_get_within}
use Rattle.bag_model.specs.Scalars as scalars
use Rattle.bdl_parser.specs.declared.trees.Decl.{Decl}
use Rattle.bdl_parser.specs.declared.trees.Decl.TheVariants.{Bag, Struct}
use Rattle.bdl_parser.specs.declared.trees.Spot.{Spot}
use Rattle.bdl_parser.specs.Trees as trees
use Rattle.bdl_parser.specs.Trees.{TypeTree}
use Rattle.bdl_check.specs.declared.declarations.DeclKind.{DeclKind}
use Rattle.bdl_check.specs.declared.types.Role.{Role}
use Rattle.bdl_check.specs.declared.types.Role.TheVariants.{BagField, Element, Key, MapValue}
use Rattle.bdl_check.specs.Declarations.{Placed, decl_name, decl_kind, decl_named, number_named, kind_named}
use Rattle.bdl_check.specs.Layouts.{struct_words, kind_of_decl, kind_in}
use Rattle.bdl_check.specs.Passes.{may_name, passes_name, passes_type}
use Rattle.bdl_check.specs.Types.{Kinds}
use Rattle.bdl_check.proofs.Lists.{both_first, both_second}

-- ---- names and numbers

some_where : (b : Bool) (x n : ℕ) → cond b (Some x) None ≡ Some n → x ≡ n
some_where true x n e = (cc)
some_where false x n e = absurd (cc e)

-- The first that passes is at its position.
pub found_at : {X : Type 0} (p : X → Bool) (xs : List X) (n : ℕ) → position p xs ≡ Some n → find p xs ≡ slice_get xs n
found_at p xs n e = find_at p xs ∙ ap (slice_get xs) (some_where _ (position_or_len p xs) n e)

-- What is found has a position.
pub position_of : {X : Type 0} (p : X → Bool) (xs : List X) (x : X) → find p xs ≡ Some x
    → (n : ℕ) × (position p xs ≡ Some n) × (slice_get xs n ≡ Some x)
position_of p xs x e =
    let there = sym (find_at p xs) ∙ e in
    let within : position_or_len p xs < length xs = slice_get_within xs (position_or_len p xs) x there in
    (position_or_len p xs, grind (arith, within), there)

-- The declaration of a name has its number.
pub named_at : (ds : List Placed) (text : List ℕ) (n : ℕ) → number_named ds text ≡ Some n → decl_named ds text ≡ slice_get ds n
named_at ds text n e = found_at (λ (d : Placed). bytes_eq (decl_name d.decl) text) ds n e

pub number_of : (ds : List Placed) (text : List ℕ) (d : Placed) → decl_named ds text ≡ Some d
    → (n : ℕ) × (number_named ds text ≡ Some n) × (slice_get ds n ≡ Some d)
number_of ds text d e = position_of (λ (d : Placed). bytes_eq (decl_name d.decl) text) ds d e

unfound : {X : Type 0} (p : X → Bool) (xs : List X) (o : Option X) → position p xs ≡ None → find p xs ≡ o → find p xs ≡ None
unfound p xs None none e = e
unfound p xs (Some x) none e = absurd (let n = position_of p xs x e in let same = sym none ∙ n.1 in cc same)

-- A name without a number is that of no declaration.
pub not_named : (ds : List Placed) (text : List ℕ) → number_named ds text ≡ None → decl_named ds text ≡ None
not_named ds text none = unfound (λ (d : Placed). bytes_eq (decl_name d.decl) text) ds (decl_named ds text) none refl

-- A name that passes is that of a declaration which is allowed there.
declared_in : {X : Type 0} (role : Role) (f : X → DeclKind) (o : Option X) → passes_name role (option_map f o) ≡ true
    → (x : X) × (o ≡ Some x) × (may_name role (f x) ≡ true)
declared_in role f None e = absurd (cc e)
declared_in role f (Some x) e = (x, refl, e)

pub declared : (ds : List Placed) (role : Role) (text : List ℕ) → passes_name role (kind_named ds text) ≡ true
    → (d : Placed) × (decl_named ds text ≡ Some d) × (may_name role (decl_kind d.decl) ≡ true)
declared ds role text e = declared_in role (λ (d : Placed). decl_kind d.decl) (decl_named ds text) e

-- ---- elements, keys and values

struct_kind : (decl : Decl) → may_name Element (decl_kind decl) ≡ true → (kind : scalars.ScalarKind) × (kind_of_decl decl ≡ Some kind)
struct_kind (Bag own spot list) e = absurd (cc e)
struct_kind (Struct own spot list) e = (scalars.ScalarKind.Packed (struct_words list), refl)

and_then_at : {X Y : Type 0} (f : X → Option Y) (o : Option X) (x : X) (y : Y) → o ≡ Some x → f x ≡ Some y → option_and_then f o ≡ Some y
and_then_at f o x y e h = ap (option_and_then f) e ∙ h

-- An element that passes is a kind of scalars.
pub element_kind : (ds : List Placed) (t : TypeTree) → passes_type (kind_named ds) Element t ≡ true
    → (kind : scalars.ScalarKind) × (kind_in ds t ≡ Some kind)
element_kind ds (trees.leaf (trees.scalar word) spot) e = (_, refl)
element_kind ds (trees.leaf trees.float spot) e = absurd (cc e)
element_kind ds (trees.leaf trees.double spot) e = absurd (cc e)
element_kind ds (trees.leaf trees.taint spot) e = absurd (cc e)
element_kind ds (trees.leaf trees.counter spot) e = absurd (cc e)
element_kind ds (trees.leaf (trees.name text) spot) e =
    let d = declared ds Element text e in
    let kind = struct_kind d.0.decl d.2 in
    (kind.0, and_then_at (λ (d : Placed). kind_of_decl d.decl) (decl_named ds text) d.0 kind.0 d.1 kind.1)
element_kind ds (trees.held holding element spot) e = absurd (cc e)
element_kind ds (trees.map key value spot) e = absurd (cc e)

-- A key that passes is a word.
pub key_kind : (ds : List Placed) (t : TypeTree) → passes_type (kind_named ds) Key t ≡ true
    → (word : scalars.Word) × (kind_in ds t ≡ Some (scalars.ScalarKind.One word))
key_kind ds (trees.leaf (trees.scalar word) spot) e = (_, refl)
key_kind ds (trees.leaf trees.float spot) e = absurd (cc e)
key_kind ds (trees.leaf trees.double spot) e = absurd (cc e)
key_kind ds (trees.leaf trees.taint spot) e = absurd (cc e)
key_kind ds (trees.leaf trees.counter spot) e = absurd (cc e)
key_kind ds (trees.leaf (trees.name text) spot) e = let d = declared ds Key text e in absurd (cc d.2)
key_kind ds (trees.held holding element spot) e = absurd (cc e)
key_kind ds (trees.map key value spot) e = absurd (cc e)

value_name : (kind : Option DeclKind) → passes_name MapValue kind ≡ passes_name BagField kind
value_name None = refl
value_name (Some kind) = refl

-- What may be the value of a map may be a field.
pub as_value : (kinds : Kinds) (t : TypeTree) → passes_type kinds MapValue t ≡ passes_type kinds BagField t
as_value kinds (trees.leaf (trees.scalar word) spot) = refl
as_value kinds (trees.leaf trees.float spot) = refl
as_value kinds (trees.leaf trees.double spot) = refl
as_value kinds (trees.leaf trees.taint spot) = refl
as_value kinds (trees.leaf trees.counter spot) = refl
as_value kinds (trees.leaf (trees.name text) spot) = value_name (kinds text)
as_value kinds (trees.held holding element spot) = refl
as_value kinds (trees.map key value spot) = refl

-- The key and the value of a map that passes.
pub map_key : (kinds : Kinds) (key value : TypeTree) (spot : Spot) → passes_type kinds BagField (trees.map key value spot) ≡ true
    → passes_type kinds Key key ≡ true
map_key kinds key value spot e = both_first _ (passes_type kinds MapValue value) e

pub map_value : (kinds : Kinds) (key value : TypeTree) (spot : Spot) → passes_type kinds BagField (trees.map key value spot) ≡ true
    → passes_type kinds BagField value ≡ true
map_value kinds key value spot e = sym (as_value kinds value) ∙ both_second (passes_type kinds Key key) _ e
