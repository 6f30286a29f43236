-- A text is that of one shape, and a line says one field.
use Rattle.std.proofs.Common.{◌≡◌, ℕ, Some, List, [], ◌∷◌, ◌++◌, map, refl, sym, ◌∙◌, ap, append_assoc}
use Rattle.std.specs.Prelude.{codes}
use Rattle.std.specs.Fmt.{decimal}
use Rattle.std.specs.List.{join_with_byte}
use Rattle.std.specs.Str.Parse.{digits_value}
use Rattle.bag_model.specs.declared.Pick.TheVariants.{Least, Greatest}
use Rattle.bag_model.specs.Scalars.{Word, ScalarKind}
use Rattle.bag_model.specs.Scalars as scalars
use Rattle.bag_model.specs.Shapes.{Shape, Taint, Scalar, Set, Counter, Map, Bag}
use Rattle.bag_model.specs.Tables.{IsScalarKind}
use Rattle.bag_model.specs.Words.{word_text, word_named}
use Rattle.bag_model.proofs.WordTexts.{word_back}
use Rattle.table_text.specs.Rows.{Row, SaysRow, IsToldShape}
use Rattle.table_text.specs.TableTexts.{kind_text, shape_text}
use Rattle.table_text.proofs.Depths.{depth_free, number_free, same_number}
use Rattle.text_lines.proofs.Separated.{same_cut, pieces}
use Rattle.text_lines.proofs.FedLines.{unsnoc}
use Rattle.table_text.proofs.Parts.{same_parts}
use Rattle.table_text.proofs.NameBytes.{name_free}
use Rattle.table_text.proofs.ShapeTexts.{differ, word_free, unopened, pieces_are}

one_word : (a b : Word) → word_text a ≡ word_text b → a ≡ b
one_word a b e = let same : Some a ≡ Some b = sym (word_back a) ∙ ap word_named e ∙ word_back b in cc same

one_list : (a b : List Word) → map word_text a ≡ map word_text b → a ≡ b
one_list [] [] e = refl
one_list [] (y ∷ b) e = absurd (cc e)
one_list (x ∷ a) [] e = absurd (cc e)
one_list (x ∷ a) (y ∷ b) e =
    let texts : word_text x ≡ word_text y = cc e in
    let more : map word_text a ≡ map word_text b = cc e in
    let first = one_word x y texts in
    let rest = one_list a b more in
    cc (first, rest)

one_kind : (a b : ScalarKind) → IsScalarKind a → IsScalarKind b → kind_text a ≡ kind_text b → a ≡ b
one_kind (scalars.ScalarKind.One x) (scalars.ScalarKind.One y) p q e = ap scalars.ScalarKind.One (one_word x y e)
one_kind (scalars.ScalarKind.One x) (scalars.ScalarKind.Packed ys) p q e = absurd (unopened x (join_with_byte 44 (map word_text ys) ++ 41 ∷ []) e)
one_kind (scalars.ScalarKind.Packed xs) (scalars.ScalarKind.One y) p q e = absurd (unopened y (join_with_byte 44 (map word_text xs) ++ 41 ∷ []) (sym e))
one_kind (scalars.ScalarKind.Packed xs) (scalars.ScalarKind.Packed ys) p q e =
    let left = join_with_byte 44 (map word_text xs) in
    let right = join_with_byte 44 (map word_text ys) in
    let behind : left ++ 41 ∷ [] ≡ right ++ 41 ∷ [] = cc e in
    let same = unsnoc left right 41 41 behind in
    ap scalars.ScalarKind.Packed (one_list xs ys (sym (pieces_are left xs (p, refl)) ∙ ap (pieces 44) same ∙ pieces_are right ys (q, refl)))

pub one_shape : (a b : Shape) → IsToldShape a → IsToldShape b → shape_text a ≡ shape_text b → a ≡ b
one_shape Taint Taint p q e = refl
one_shape Taint (Scalar Least k) p q e = absurd (differ (codes "taint") (shape_text (Scalar Least k)) refl e)
one_shape Taint (Scalar Greatest k) p q e = absurd (differ (codes "taint") (shape_text (Scalar Greatest k)) refl e)
one_shape Taint b p q e = absurd (differ (codes "taint") (shape_text b) refl e)
one_shape Counter Counter p q e = refl
one_shape Counter (Scalar Least k) p q e = absurd (differ (codes "counter") (shape_text (Scalar Least k)) refl e)
one_shape Counter (Scalar Greatest k) p q e = absurd (differ (codes "counter") (shape_text (Scalar Greatest k)) refl e)
one_shape Counter b p q e = absurd (differ (codes "counter") (shape_text b) refl e)
one_shape (Bag m) (Bag n) p q e = ap Bag (p ∙ sym q)
one_shape (Bag m) (Scalar Least k) p q e = absurd (differ (codes "bag") (shape_text (Scalar Least k)) refl e)
one_shape (Bag m) (Scalar Greatest k) p q e = absurd (differ (codes "bag") (shape_text (Scalar Greatest k)) refl e)
one_shape (Bag m) b p q e = absurd (differ (codes "bag") (shape_text b) refl e)
one_shape (Scalar Least j) (Scalar Least k) p q e = let texts : kind_text j ≡ kind_text k = cc e in ap (Scalar Least) (one_kind j k p q texts)
one_shape (Scalar Least j) (Scalar Greatest k) p q e = absurd (differ (shape_text (Scalar Least j)) (shape_text (Scalar Greatest k)) refl e)
one_shape (Scalar Least j) b p q e = absurd (differ (shape_text (Scalar Least j)) (shape_text b) refl e)
one_shape (Scalar Greatest j) (Scalar Greatest k) p q e = let texts : kind_text j ≡ kind_text k = cc e in ap (Scalar Greatest) (one_kind j k p q texts)
one_shape (Scalar Greatest j) (Scalar Least k) p q e = absurd (differ (shape_text (Scalar Greatest j)) (shape_text (Scalar Least k)) refl e)
one_shape (Scalar Greatest j) b p q e = absurd (differ (shape_text (Scalar Greatest j)) (shape_text b) refl e)
one_shape (Set j) (Set k) p q e = let texts : kind_text j ≡ kind_text k = cc e in ap Set (one_kind j k p q texts)
one_shape (Set j) (Scalar Least k) p q e = absurd (differ (shape_text (Set j)) (shape_text (Scalar Least k)) refl e)
one_shape (Set j) (Scalar Greatest k) p q e = absurd (differ (shape_text (Set j)) (shape_text (Scalar Greatest k)) refl e)
one_shape (Set j) b p q e = absurd (differ (shape_text (Set j)) (shape_text b) refl e)
one_shape (Map (scalars.ScalarKind.One j) s) (Map (scalars.ScalarKind.One k) t) p q e =
    let behind : word_text j ++ codes " " ++ shape_text s ≡ word_text k ++ codes " " ++ shape_text t = cc e in
    let cut = same_cut 32 (word_text j) (word_text k) (shape_text s) (shape_text t) (word_free j) (word_free k)
    (sym (append_assoc (word_text j) (codes " ") (shape_text s)) ∙ behind ∙ append_assoc (word_text k) (codes " ") (shape_text t)) in
    let keys = one_word j k cut.0 in
    let values = one_shape s t p.1 q.1 cut.1 in
    cc (keys, values)
one_shape (Map (scalars.ScalarKind.One j) s) (Map (scalars.ScalarKind.Packed ks) t) p q e = absurd q.0
one_shape (Map (scalars.ScalarKind.Packed js) s) b p q e = absurd p.0
one_shape (Map (scalars.ScalarKind.One j) s) (Scalar Least k) p q e = absurd (differ (shape_text (Map (scalars.ScalarKind.One j) s)) (shape_text (Scalar Least k)) refl e)
one_shape (Map (scalars.ScalarKind.One j) s) (Scalar Greatest k) p q e = absurd (differ (shape_text (Map (scalars.ScalarKind.One j) s)) (shape_text (Scalar Greatest k)) refl e)
one_shape (Map (scalars.ScalarKind.One j) s) b p q e = absurd (differ (shape_text (Map (scalars.ScalarKind.One j) s)) (shape_text b) refl e)

-- What a line says is one.
pub one_row : (text : List ℕ) (a b : Row) → SaysRow text a → SaysRow text b → a ≡ b
one_row text a b p q =
    let same = same_parts p.digits (decimal a.number) a.name (shape_text a.shape) q.digits (decimal b.number) b.name (shape_text b.shape)
    (depth_free p.digits a.depth p.deep) (number_free a.number p.numbered) (name_free a.name p.named)
    (depth_free q.digits b.depth q.deep) (number_free b.number q.numbered) (name_free b.name q.named) (sym p.is ∙ q.is) in
    let depths : a.depth ≡ b.depth = sym p.deep.value ∙ ap (digits_value 10) same.depth ∙ q.deep.value in
    let numbers : a.number ≡ b.number = same_number a.number b.number p.numbered q.numbered same.number in
    let shapes : a.shape ≡ b.shape = one_shape a.shape b.shape p.told q.told same.shape in
    λ i. record { depth = depths i; name = same.name i; number = numbers i; shape = shapes i }
