-- Declarations have no fault exactly where they pass.
use Rattle.std.proofs.Common.{◌≡◌, ℕ, Bool, true, false, not, cond, ◌&&◌, ◌||◌, ◌==◌, List, [], ◌∷◌, ◌++◌, Option, None, Some, map, refl, sym, ◌∙◌, ap}
use Rattle.std.proofs.lemmas.List.{map-append}
use Rattle.std.proofs.lemmas.List.Concat.{flat_map-cons}
use Rattle.std.proofs.lemmas.List.Folds.{list_all-append}
use Rattle.std.specs.List.{list_any, list_all}
use Rattle.std.specs.Option.{is_some, is_none}
use Rattle.std.specs.Str.{bytes_eq}
use Rattle.bdl_load.specs.declared.faults.DefCode.TheVariants.{DuplicateName, DuplicateNumber, DuplicateField}
use Rattle.bdl_load.specs.declared.faults.Finding.{Finding}
use Rattle.bdl_check.specs.declared.declarations.DeclKind.{DeclKind}
use Rattle.bdl_check.specs.declared.declarations.DeclKind.TheVariants.{Bag as IsBag, Struct as IsStruct}
use Rattle.bdl_check.specs.declared.types.Role.{Role}
use Rattle.bdl_check.specs.declared.types.Role.TheVariants.{BagField, StructField, Element, Key, MapValue}
use Rattle.bdl_check.specs.Checks.{faults_in_file, name_fault, name_faults, declaration_faults, placed_faults}
use Rattle.bdl_check.specs.Declarations.{Placed, decl_name, decl_place, decl_named, kind_named}
use Rattle.bdl_check.proofs.NameLaws.{is_some-kind}
use Rattle.bdl_check.specs.Faults.{first, when}
use Rattle.bdl_load.specs.Faults.{found, fault_in}
use Rattle.bdl_check.specs.Fields.{is_number_among, is_name_among, numbers_of, bag_field_names, struct_names_of, bag_field_faults, bag_faults, struct_field_faults, struct_faults, decl_faults}
use Rattle.bdl_check.specs.Passes.{are_distinct, takes_any_type, passes_name, passes_leaf, passes_type, passes_decl, pass}
use Rattle.bdl_check.specs.Types.{Kinds, node_faults_at, node_faults, type_faults}
use Rattle.bdl_parser.specs.declared.trees.Decl.{Decl}
use Rattle.bdl_parser.specs.declared.trees.Decl.TheVariants.{Bag, Struct}
use Rattle.bdl_parser.specs.declared.trees.Holding.{Holding}
use Rattle.bdl_parser.specs.declared.trees.Spot.{Spot}
use Rattle.bdl_parser.specs.Trees.{Leaf, TypeTree, BagFieldTree, StructFieldTree, scalar, float, double, taint, counter, name, leaf, held, map as map_of}

-- A list has nothing in it.
abbrev pub nothing : {A : Type 0} → List A → Bool
nothing xs = is_none (first xs)

nothing_append : {A : Type 0} (xs ys : List A) → nothing (xs ++ ys) ≡ (nothing xs && nothing ys)
nothing_append [] ys = refl
nothing_append (x ∷ xs) ys = refl

nothing_map : {A B : Type 0} (f : A → B) (xs : List A) → nothing (map f xs) ≡ nothing xs
nothing_map f [] = refl
nothing_map f (x ∷ xs) = refl

nothing_when : (b : Bool) (finding : Finding) → nothing (when b finding) ≡ not b
nothing_when true finding = refl
nothing_when false finding = refl

-- A name that was declared as this, or not at all.
name_passes : (spot : Spot) (role : Role) (kind : Option DeclKind)
    → nothing (node_faults_at spot (λ _. kind) role (leaf (name []) spot)) ≡ passes_name role kind
name_passes spot BagField None = refl
name_passes spot StructField None = refl
name_passes spot Element None = refl
name_passes spot Key None = refl
name_passes spot MapValue None = refl
name_passes spot BagField (Some kind) = refl
name_passes spot StructField (Some kind) = refl
name_passes spot Element (Some IsBag) = refl
name_passes spot Element (Some IsStruct) = refl
name_passes spot Key (Some kind) = refl
name_passes spot MapValue (Some kind) = refl

leaf_passes : (kinds : Kinds) (role : Role) (l : Leaf) (spot : Spot) → nothing (node_faults kinds role (leaf l spot)) ≡ passes_leaf kinds role l
leaf_passes kinds BagField (scalar word) spot = refl
leaf_passes kinds StructField (scalar word) spot = refl
leaf_passes kinds Element (scalar word) spot = refl
leaf_passes kinds Key (scalar word) spot = refl
leaf_passes kinds MapValue (scalar word) spot = refl
leaf_passes kinds role float spot = refl
leaf_passes kinds role double spot = refl
leaf_passes kinds BagField taint spot = refl
leaf_passes kinds StructField taint spot = refl
leaf_passes kinds Element taint spot = refl
leaf_passes kinds Key taint spot = refl
leaf_passes kinds MapValue taint spot = refl
leaf_passes kinds BagField counter spot = refl
leaf_passes kinds StructField counter spot = refl
leaf_passes kinds Element counter spot = refl
leaf_passes kinds Key counter spot = refl
leaf_passes kinds MapValue counter spot = refl
leaf_passes kinds BagField (name text) spot = name_passes spot BagField (kinds text)
leaf_passes kinds StructField (name text) spot = name_passes spot StructField (kinds text)
leaf_passes kinds Element (name text) spot = name_passes spot Element (kinds text)
leaf_passes kinds Key (name text) spot = name_passes spot Key (kinds text)
leaf_passes kinds MapValue (name text) spot = name_passes spot MapValue (kinds text)

held_passes : (kinds : Kinds) (role : Role) (holding : Holding) (element : TypeTree) (spot : Spot)
    → nothing (node_faults kinds role (held holding element spot)) ≡ takes_any_type role
held_passes kinds BagField holding element spot = refl
held_passes kinds StructField holding element spot = refl
held_passes kinds Element holding element spot = refl
held_passes kinds Key holding element spot = refl
held_passes kinds MapValue holding element spot = refl

map_passes : (kinds : Kinds) (role : Role) (key value : TypeTree) (spot : Spot)
    → nothing (node_faults kinds role (map_of key value spot)) ≡ takes_any_type role
map_passes kinds BagField key value spot = refl
map_passes kinds StructField key value spot = refl
map_passes kinds Element key value spot = refl
map_passes kinds Key key value spot = refl
map_passes kinds MapValue key value spot = refl

-- A type has no fault exactly where it passes.
type_passes : (kinds : Kinds) (role : Role) (tree : TypeTree) → nothing (type_faults kinds role tree) ≡ passes_type kinds role tree
type_passes kinds role (leaf l spot) = leaf_passes kinds role l spot
type_passes kinds role (held holding element spot) =
    nothing_append (node_faults kinds role (held holding element spot)) (type_faults kinds Element element)
    ∙ (λ i. held_passes kinds role holding element spot i && type_passes kinds Element element i)
type_passes kinds role (map_of key value spot) =
    nothing_append (node_faults kinds role (map_of key value spot)) (type_faults kinds Key key ++ type_faults kinds MapValue value)
    ∙ (λ i. map_passes kinds role key value spot i && nothing_append (type_faults kinds Key key) (type_faults kinds MapValue value) i)
    ∙ (λ i. takes_any_type role && (type_passes kinds Key key i && type_passes kinds MapValue value i))

-- None is like one of the earlier ones.
abbrev is_fresh : {A : Type 0} → (A → A → Bool) → List A → List A → Bool
is_fresh alike earlier [] = true
is_fresh alike earlier (x ∷ xs) = not (list_any (λ other. alike other x) earlier) && is_fresh alike (earlier ++ x ∷ []) xs

-- No earlier one is like one of these.
abbrev is_apart : {A : Type 0} → (A → A → Bool) → List A → List A → Bool
is_apart alike earlier xs = list_all (λ e. not (list_any (alike e) xs)) earlier

apart_none : {A : Type 0} (alike : A → A → Bool) (earlier : List A) → is_apart alike earlier [] ≡ true
apart_none alike [] = refl
apart_none alike (e ∷ earlier) = apart_none alike earlier

crossed : (p q r s : Bool) → (not (p || q) && (not r && s)) ≡ (not (p || r) && (not q && s))
crossed true q r s = refl
crossed false true true s = refl
crossed false true false s = refl
crossed false false r s = refl

apart_more : {A : Type 0} (alike : A → A → Bool) (earlier : List A) (x : A) (xs : List A)
    → is_apart alike earlier (x ∷ xs) ≡ (not (list_any (λ other. alike other x) earlier) && is_apart alike earlier xs)
apart_more alike [] x xs = refl
apart_more alike (e ∷ earlier) x xs =
    (λ i. not (alike e x || list_any (alike e) xs) && apart_more alike earlier x xs i)
    ∙ crossed (alike e x) (list_any (alike e) xs) (list_any (λ other. alike other x) earlier) (is_apart alike earlier xs)

regrouped : (n p q d : Bool) → (n && ((p && (q && true)) && d)) ≡ ((n && p) && (q && d))
regrouped false p q d = refl
regrouped true false q d = refl
regrouped true true true d = refl
regrouped true true false d = refl

-- Looking back from each one finds nothing exactly where all are distinct.
fresh_is : {A : Type 0} (alike : A → A → Bool) (earlier xs : List A)
    → is_fresh alike earlier xs ≡ (is_apart alike earlier xs && are_distinct alike xs)
fresh_is alike earlier [] = sym (λ i. apart_none alike earlier i && true)
fresh_is alike earlier (x ∷ xs) =
    (λ i. not (list_any (λ other. alike other x) earlier) && fresh_is alike (earlier ++ x ∷ []) xs i)
    ∙ (λ i. not (list_any (λ other. alike other x) earlier) &&
    (list_all-append (λ e. not (list_any (alike e) xs)) earlier (x ∷ []) i && are_distinct alike xs))
    ∙ regrouped (not (list_any (λ other. alike other x) earlier)) (is_apart alike earlier xs) (not (list_any (alike x) xs)) (are_distinct alike xs)
    ∙ sym (λ i. apart_more alike earlier x xs i && (not (list_any (alike x) xs) && are_distinct alike xs))

three_by_three : (a b c x y z : Bool) → ((a && (b && c)) && (x && (y && z))) ≡ ((a && x) && ((b && y) && (c && z)))
three_by_three false b c x y z = refl
three_by_three true false c true y z = refl
three_by_three true false c false y z = refl
three_by_three true true false true true z = refl
three_by_three true true false true false z = refl
three_by_three true true false false y z = refl
three_by_three true true true x y z = refl

two_by_two : (a b x y : Bool) → ((a && b) && (x && y)) ≡ ((a && x) && (b && y))
two_by_two false b x y = refl
two_by_two true false true y = refl
two_by_two true false false y = refl
two_by_two true true x y = refl

bag_field_passes : (kinds : Kinds) (earlier : List BagFieldTree) (field : BagFieldTree) →
    nothing (bag_field_faults kinds earlier field)
    ≡ (passes_type kinds BagField field.kind && (not (is_number_among field.number (numbers_of earlier)) && not
    (is_name_among field.name (bag_field_names earlier))))
bag_field_passes kinds earlier field =
    let number : List Finding = when (is_number_among field.number (numbers_of earlier)) (found field.number_at DuplicateNumber) in
    let text : List Finding = when (is_name_among field.name (bag_field_names earlier)) (found field.name_at DuplicateField) in
    nothing_append (type_faults kinds BagField field.kind) (number ++ text)
    ∙ (λ i. type_passes kinds BagField field.kind i && nothing_append number text i)
    ∙ (λ i. passes_type kinds BagField field.kind &&
    (nothing_when (is_number_among field.number (numbers_of earlier)) (found field.number_at DuplicateNumber) i
    && nothing_when (is_name_among field.name (bag_field_names earlier)) (found field.name_at DuplicateField) i))

bag_passes : (kinds : Kinds) (earlier fields : List BagFieldTree) →
    nothing (bag_faults kinds earlier fields)
    ≡ (list_all (λ f. passes_type kinds BagField f.kind) fields &&
    (is_fresh (λ a b. a == b) (numbers_of earlier) (numbers_of fields) && is_fresh bytes_eq (bag_field_names earlier) (bag_field_names fields)))
bag_passes kinds earlier [] = refl
bag_passes kinds earlier (field ∷ fields) =
    nothing_append (bag_field_faults kinds earlier field) (bag_faults kinds (earlier ++ field ∷ []) fields)
    ∙ (λ i. bag_field_passes kinds earlier field i && bag_passes kinds (earlier ++ field ∷ []) fields i)
    ∙ (λ i. (passes_type kinds BagField field.kind &&
    (not (is_number_among field.number (numbers_of earlier)) && not (is_name_among field.name (bag_field_names earlier))))
    && (list_all (λ f. passes_type kinds BagField f.kind) fields
    && (is_fresh (λ a b. a == b) (map-append (λ (f : BagFieldTree). f.number) earlier (field ∷ []) i) (numbers_of fields)
    && is_fresh bytes_eq (map-append (λ (f : BagFieldTree). f.name) earlier (field ∷ []) i) (bag_field_names fields))))
    ∙ three_by_three (passes_type kinds BagField field.kind) (not (is_number_among field.number (numbers_of earlier)))
    (not (is_name_among field.name (bag_field_names earlier)))
    (list_all (λ f. passes_type kinds BagField f.kind) fields)
    (is_fresh (λ a b. a == b) (numbers_of earlier ++ field.number ∷ []) (numbers_of fields))
    (is_fresh bytes_eq (bag_field_names earlier ++ field.name ∷ []) (bag_field_names fields))

struct_field_passes : (kinds : Kinds) (earlier : List StructFieldTree) (field : StructFieldTree) →
    nothing (struct_field_faults kinds earlier field) ≡
    (passes_type kinds StructField field.kind && not (is_name_among field.name (struct_names_of earlier)))
struct_field_passes kinds earlier field =
    let text : List Finding = when (is_name_among field.name (struct_names_of earlier)) (found field.name_at DuplicateField) in
    nothing_append (type_faults kinds StructField field.kind) text
    ∙ (λ i. type_passes kinds StructField field.kind i && nothing_when (is_name_among field.name (struct_names_of earlier))
    (found field.name_at DuplicateField) i)

struct_passes : (kinds : Kinds) (earlier fields : List StructFieldTree) →
    nothing (struct_faults kinds earlier fields) ≡ (list_all (λ f. passes_type kinds StructField f.kind) fields && is_fresh bytes_eq
    (struct_names_of earlier) (struct_names_of fields))
struct_passes kinds earlier [] = refl
struct_passes kinds earlier (field ∷ fields) =
    nothing_append (struct_field_faults kinds earlier field) (struct_faults kinds (earlier ++ field ∷ []) fields)
    ∙ (λ i. struct_field_passes kinds earlier field i && struct_passes kinds (earlier ++ field ∷ []) fields i)
    ∙ (λ i. (passes_type kinds StructField field.kind && not (is_name_among field.name (struct_names_of earlier)))
    && (list_all (λ f. passes_type kinds StructField f.kind) fields && is_fresh bytes_eq
    (map-append (λ (f : StructFieldTree). f.name) earlier (field ∷ []) i) (struct_names_of fields)))
    ∙ two_by_two (passes_type kinds StructField field.kind) (not (is_name_among field.name (struct_names_of earlier)))
    (list_all (λ f. passes_type kinds StructField f.kind) fields)
    (is_fresh bytes_eq (struct_names_of earlier ++ field.name ∷ []) (struct_names_of fields))

-- A declaration has no fault of its own exactly where it passes.
decl_passes : (kinds : Kinds) (decl : Decl) → nothing (decl_faults kinds decl) ≡ passes_decl kinds decl
decl_passes kinds (Bag called spot fields) =
    bag_passes kinds [] fields
    ∙ (λ i. list_all (λ f. passes_type kinds BagField f.kind) fields &&
    (fresh_is (λ a b. a == b) [] (numbers_of fields) i && fresh_is bytes_eq [] (bag_field_names fields) i))
decl_passes kinds (Struct called spot []) = refl
decl_passes kinds (Struct called spot (field ∷ fields)) =
    struct_passes kinds [] (field ∷ fields)
    ∙ (λ i. list_all (λ f. passes_type kinds StructField f.kind) (field ∷ fields) && fresh_is bytes_eq [] (struct_names_of (field ∷ fields)) i)

decls_pass : (kinds : Kinds) (ds : List Placed) → nothing (declaration_faults kinds ds) ≡ list_all (λ d. passes_decl kinds d.decl) ds
decls_pass kinds [] = refl
decls_pass kinds (d ∷ ds) =
    ap nothing (flat_map-cons (λ (d : Placed). faults_in_file d.file (decl_faults kinds d.decl)) d ds)
    ∙ nothing_append (faults_in_file d.file (decl_faults kinds d.decl)) (declaration_faults kinds ds)
    ∙ (λ i. nothing_map (fault_in d.file) (decl_faults kinds d.decl) i && decls_pass kinds ds i)
    ∙ (λ i. decl_passes kinds d.decl i && list_all (λ e. passes_decl kinds e.decl) ds)

either_way : (b : Bool) (d : Placed) (rest : Option Placed) → is_some (cond b (Some d) rest) ≡ (b || is_some rest)
either_way true d rest = refl
either_way false d rest = refl

named_among : (ds : List Placed) (text : List ℕ) → is_some (decl_named ds text) ≡ is_name_among text (map (λ d. decl_name d.decl) ds)
named_among [] text = refl
named_among (d ∷ ds) text = either_way (bytes_eq (decl_name d.decl) text) d (decl_named ds text)
    ∙ (λ i. bytes_eq (decl_name d.decl) text || named_among ds text i)

-- A name was declared exactly where it is the name of a declaration.
declared_is : (ds : List Placed) (text : List ℕ) → is_some (kind_named ds text) ≡ is_name_among text (map (λ d. decl_name d.decl) ds)
declared_is ds text = is_some-kind ds text ∙ named_among ds text

names_pass : (earlier ds : List Placed) → nothing (name_faults earlier ds) ≡ is_fresh bytes_eq (map (λ d. decl_name d.decl) earlier)
    (map (λ d. decl_name d.decl) ds)
names_pass earlier [] = refl
names_pass earlier (d ∷ ds) =
    nothing_append (faults_in_file d.file (name_fault (is_some (kind_named earlier (decl_name d.decl))) d.decl)) (name_faults (earlier ++ d ∷ []) ds)
    ∙ (λ i. nothing_map (fault_in d.file) (name_fault (is_some (kind_named earlier (decl_name d.decl))) d.decl) i && names_pass (earlier ++ d ∷ []) ds
    i)
    ∙ (λ i. nothing_when (is_some (kind_named earlier (decl_name d.decl))) (found (decl_place d.decl) DuplicateName) i
    && is_fresh bytes_eq (map-append (λ (e : Placed). decl_name e.decl) earlier (d ∷ []) i) (map (λ e. decl_name e.decl) ds))
    ∙ (λ i. not (declared_is earlier (decl_name d.decl) i) && is_fresh bytes_eq (map (λ e. decl_name e.decl) earlier ++ decl_name d.decl ∷ [])
    (map (λ e. decl_name e.decl) ds))

-- Declarations have no fault exactly where they pass.
pub faultless_pass : (ds : List Placed) → is_none (first (placed_faults ds)) ≡ pass ds
faultless_pass ds =
    nothing_append (name_faults [] ds) (declaration_faults (kind_named ds) ds)
    ∙ (λ i. names_pass [] ds i && decls_pass (kind_named ds) ds i)
    ∙ (λ i. fresh_is bytes_eq [] (map (λ d. decl_name d.decl) ds) i && list_all (λ d. passes_decl (kind_named ds) d.decl) ds)
