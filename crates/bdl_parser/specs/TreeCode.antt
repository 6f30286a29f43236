-- Codes of trees, by which a proof tells values of the lists apart. They say nothing of a
-- definition.
use Rattle.std.specs.Prelude.{◌≡◌, ℕ, List, ◌⊎◌, ◌==◌, if◌then◌else◌}
use Rattle.std.specs.Coded.{Coded, code_by, coded×, coded⊎, coded_ℕ, coded_list}
use Rattle.std.proofs.Common.{refl, inl, inr, ap, subst, sym}
use Rattle.bag_model.specs.Scalars.{Word}
use Rattle.bag_model.specs.ShapeCode.{word_code}
use Rattle.bdl_parser.specs.declared.trees.Holding.{Holding}
use Rattle.bdl_parser.specs.declared.trees.Holding.TheVariants.{AsSet, AsGreatest}
use Rattle.bdl_parser.specs.declared.trees.Spot.{Spot}
use Rattle.bdl_parser.specs.Trees.{Leaf, TypeTree, BagFieldTree, StructFieldTree, scalar, float, double, taint, counter, name, leaf, held, map}
use base.Stored.{Gv, gnil, gnum, gcons}

-- The code of places in a text.
abbrev pub spot_code : Coded Spot
spot_code =
    code_by (ℕ × ℕ) (coded× coded_ℕ coded_ℕ) (λ spot. (spot.line, spot.column))
    (λ p. record { line = p.0; column = p.1 }) (λ _. refl)

-- A word of one value, a name, or one of four others.
abbrev pub LeafParts : Type 0
LeafParts = Word ⊎ (List ℕ ⊎ ℕ)

-- A type of one word by its part: the scalar's word, the name, or the number of another word.
abbrev pub leaf_parts : Leaf → LeafParts
leaf_parts (scalar word) = inl word
leaf_parts (name text) = inr (inl text)
leaf_parts float = inr (inr 0)
leaf_parts double = inr (inr 1)
leaf_parts taint = inr (inr 2)
leaf_parts counter = inr (inr 3)

-- The type of one word that has this part.
abbrev pub leaf_back : LeafParts → Leaf
leaf_back (inl word) = scalar word
leaf_back (inr (inl text)) = name text
leaf_back (inr (inr n)) =
    if n == 0 then float else (if n == 1 then double else (if n == 2 then taint else counter))

-- A type of one word comes back from its part.
pub leaf_undone : (l : Leaf) → leaf_back (leaf_parts l) ≡ l
leaf_undone (scalar word) = refl
leaf_undone (name text) = refl
leaf_undone float = refl
leaf_undone double = refl
leaf_undone taint = refl
leaf_undone counter = refl

-- The code of types of one word, by their parts.
abbrev pub leaf_code : Coded Leaf
leaf_code =
    code_by LeafParts (coded⊎ word_code
    (coded⊎ (coded_list coded_ℕ) coded_ℕ)) leaf_parts leaf_back leaf_undone

-- The number that stands for `set` or `greatest`.
abbrev pub holding_number : Holding → ℕ
holding_number AsSet = 0
holding_number AsGreatest = 1

-- The word, `set` or `greatest`, that a number stands for.
abbrev pub holding_back : ℕ → Holding
holding_back n = if n == 0 then AsSet else AsGreatest

-- The words `set` and `greatest` come back from their numbers.
pub holding_undone : (holding : Holding) → holding_back (holding_number holding) ≡ holding
holding_undone AsSet = refl
holding_undone AsGreatest = refl

-- The code of the words `set` and `greatest`, by their numbers.
abbrev pub holding_code : Coded Holding
holding_code = code_by ℕ coded_ℕ holding_number holding_back holding_undone

-- A type as a tree of numbers, by which a proof tells types apart.
abbrev pub tree_gv : TypeTree → Gv
tree_gv (leaf l spot) = gcons gnil (gcons (leaf_code.code l) (spot_code.code spot))
tree_gv (held holding inner spot) =
    gcons (holding_code.code holding) (gcons (tree_gv inner) (spot_code.code spot))
tree_gv (map key value spot) =
    gcons (gcons gnil gnil) (gcons (gcons (tree_gv key) (tree_gv value)) (spot_code.code spot))

-- The left part of a tree of numbers.
abbrev left : Gv → Gv
left gnil = gnil
left (gnum n) = gnil
left (gcons a b) = a

-- The right part of a tree of numbers.
abbrev right : Gv → Gv
right gnil = gnil
right (gnum n) = gnil
right (gcons a b) = b

-- The tree is empty.
abbrev IsNil : Gv → Type 0
IsNil gnil = Unit {0}
IsNil (gnum n) = ⊥
IsNil (gcons a b) = ⊥

-- The tree is a number.
abbrev IsNum : Gv → Type 0
IsNum gnil = ⊥
IsNum (gnum n) = Unit {0}
IsNum (gcons a b) = ⊥

-- Types with equal trees are equal.
pub tree_inj : (x y : TypeTree) → tree_gv x ≡ tree_gv y → x ≡ y
tree_inj (leaf l spot) (leaf m place) p = λ i.
    leaf (leaf_code.inj l m (ap (λ g. left (right g)) p) i)
    (spot_code.inj spot place (ap (λ g. right (right g)) p) i)
tree_inj (held h t spot) (held g u place) p = λ i.
    held (holding_code.inj h g (ap left p) i) (tree_inj t u (ap (λ g. left (right g)) p) i)
    (spot_code.inj spot place (ap (λ g. right (right g)) p) i)
tree_inj (map k t spot) (map j u place) p = λ i.
    map (tree_inj k j (ap (λ g. left (left (right g))) p) i)
    (tree_inj t u (ap (λ g. right (left (right g))) p) i)
    (spot_code.inj spot place (ap (λ g. right (right g)) p) i)
tree_inj (leaf l spot) (held g u place) p = absurd (subst IsNil (ap left p) tt)
tree_inj (leaf l spot) (map j u place) p = absurd (subst IsNil (ap left p) tt)
tree_inj (held h t spot) (leaf m place) p = absurd (subst IsNum (ap left p) tt)
tree_inj (held h t spot) (map j u place) p = absurd (subst IsNum (ap left p) tt)
tree_inj (map k t spot) (leaf m place) p = absurd (subst IsNil (sym (ap left p)) tt)
tree_inj (map k t spot) (held g u place) p = absurd (subst IsNum (sym (ap left p)) tt)

-- The code of types, by their trees.
abbrev pub tree_code : Coded TypeTree
tree_code = record { code = tree_gv; inj = tree_inj }

-- The code of names.
abbrev pub name_code : Coded (List ℕ)
name_code = coded_list coded_ℕ

-- The type, the name with its place and the number with its place of a bag's field.
abbrev pub BagFieldParts : Type 0
BagFieldParts = TypeTree × (List ℕ × (Spot × (ℕ × Spot)))

-- The code of a bag's field, by its parts.
abbrev pub bag_field_code : Coded BagFieldTree
bag_field_code =
    code_by BagFieldParts
    (coded× tree_code (coded× name_code (coded× spot_code (coded× coded_ℕ spot_code))))
    (λ field. (field.kind, (field.name, (field.name_at, (field.number, field.number_at)))))
    (λ p. record { kind = p.0; name = p.1.0; name_at = p.1.1.0; number = p.1.1.1.0; number_at = p.1.1.1.1 }) (λ _. refl)

-- The type and the name with its place of a struct's field.
abbrev pub StructFieldParts : Type 0
StructFieldParts = TypeTree × (List ℕ × Spot)

-- The code of a struct's field, by its parts.
abbrev pub struct_field_code : Coded StructFieldTree
struct_field_code =
    code_by StructFieldParts (coded× tree_code (coded× name_code spot_code))
    (λ field. (field.kind, (field.name, field.name_at)))
    (λ p. record { kind = p.0; name = p.1.0; name_at = p.1.1 }) (λ _. refl)

-- The code of the fields of a bag.
abbrev pub bag_fields_code : Coded (List BagFieldTree)
bag_fields_code = coded_list bag_field_code

-- The code of the fields of a struct.
abbrev pub struct_fields_code : Coded (List StructFieldTree)
struct_fields_code = coded_list struct_field_code
