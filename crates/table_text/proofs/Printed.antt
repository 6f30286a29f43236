-- The lines of a bag's fields, field by field.
use Rattle.std.proofs.Common.{◌≡◌, ℕ, ◌+◌, ◌≤◌, zero, suc, List, [], ◌∷◌, ◌++◌, take, length, Some, refl, sym, ap, ◌∙◌, append_assoc, add-one, arith}
use Rattle.std.specs.Fmt.{decimal}
use Rattle.std.specs.List.{flat_map, slice_get}
use Rattle.std.proofs.lemmas.List.{take_all}
use Rattle.bag_model.specs.Shapes.{Nodes, Field, fields, no_node, node}
use Rattle.bag_model.specs.Tables.{levels, levels_under}
use Rattle.table_text.specs.TableTexts.{field_line, fields_text, bag_text}
use Rattle.table_text.proofs.Places.{flat_more}

-- The line of a field, and those of the bag that it ends in.
abbrev pub one_text : ℕ → Field → List ℕ
one_text depth field = field_line (decimal depth) field.name field.number field.shape ++ bag_text (depth + 1) field.shape

pub fields_text-flat : (depth : ℕ) (nodes : Nodes) → fields_text depth nodes ≡ flat_map (one_text depth) (fields nodes)
fields_text-flat depth no_node = refl
fields_text-flat depth (node name number shape nodes) =
    ap (λ (l : List ℕ). one_text depth (record { name = name; number = number; shape = shape }) ++ l) (fields_text-flat depth nodes)

-- A turn of the loop over the fields.
pub next_field : (depth : ℕ) (front before line after : List ℕ) (nodes : Nodes) (at : ℕ) (field : Field)
    → before ≡ front ++ flat_map (one_text depth) (take at (fields nodes))
    → line ≡ before ++ field_line (decimal depth) field.name field.number field.shape → after ≡ line ++ bag_text (depth + 1) field.shape
    → slice_get (fields nodes) at ≡ Some field → after ≡ front ++ flat_map (one_text depth) (take (at + 1) (fields nodes))
next_field depth front before line after nodes at field so_far own inside is =
    let own_line = field_line (decimal depth) field.name field.number field.shape in
    let behind = bag_text (depth + 1) field.shape in
    inside ∙ ap (λ (l : List ℕ). l ++ behind) own ∙ append_assoc before own_line behind
    ∙ ap (λ (l : List ℕ). l ++ one_text depth field) so_far
    ∙ append_assoc front (flat_map (one_text depth) (take at (fields nodes))) (one_text depth field)
    ∙ ap (λ (l : List ℕ). front ++ l) (sym (flat_more (one_text depth) (fields nodes) at field is))
    ∙ ap (λ (n : ℕ). front ++ flat_map (one_text depth) (take n (fields nodes))) (sym (add-one at))

-- Its end.
pub all_fields : (depth : ℕ) (front after : List ℕ) (nodes : Nodes) (at : ℕ)
    → after ≡ front ++ flat_map (one_text depth) (take at (fields nodes)) → length (fields nodes) ≤ at → after ≡ front ++ fields_text depth nodes
all_fields depth front after nodes at so_far over =
    so_far ∙ ap (λ (l : List Field). front ++ flat_map (one_text depth) l) (take_all at (fields nodes) over)
    ∙ ap (λ (l : List ℕ). front ++ l) (sym (fields_text-flat depth nodes))

-- A field takes fewer levels than the bag around it.
pub field_levels : (nodes : Nodes) (at : ℕ) (field : Field) → slice_get (fields nodes) at ≡ Some field → 1 + levels_under field.shape ≤ levels nodes
field_levels no_node at field is = absurd (cc is)
field_levels (node name number shape nodes) zero field is =
    let same : record { name = name; number = number; shape = shape } ≡ field = cc is in
    omega (arith, ap (λ (f : Field). levels_under f.shape) same)
field_levels (node name number shape nodes) (suc at) field is = omega (arith, field_levels nodes at field is)

-- Four parts with a space between two of them and a line feed at the end, put out one after another.
pub four_parts : (old a1 a2 a3 a4 a5 a6 a7 a8 d n m s : List ℕ) → a1 ≡ old ++ d → a2 ≡ a1 ++ 32 ∷ [] → a3 ≡ a2 ++ n → a4 ≡ a3 ++ 32 ∷ []
    → a5 ≡ a4 ++ m → a6 ≡ a5 ++ 32 ∷ [] → a7 ≡ a6 ++ s → a8 ≡ a7 ++ 10 ∷ []
    → a8 ≡ old ++ ((d ++ 32 ∷ (n ++ 32 ∷ (m ++ 32 ∷ s))) ++ 10 ∷ [])
four_parts old a1 a2 a3 a4 a5 a6 a7 a8 d n m s e1 e2 e3 e4 e5 e6 e7 e8 =
    let whole : a8 ≡ (((((((old ++ d) ++ 32 ∷ []) ++ n) ++ 32 ∷ []) ++ m) ++ 32 ∷ []) ++ s) ++ 10 ∷ [] = cc in
    whole ∙ simp append_assoc
