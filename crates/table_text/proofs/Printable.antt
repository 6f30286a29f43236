-- Lines that say fields have one line feed, at their end.
use Rattle.std.proofs.Common.{◌≡◌, ℕ, ◌^◌, ◌<◌, true, List, [], ◌∷◌, ◌++◌, map, refl, sym, ◌∙◌, ap, append_assoc, arith}
use Rattle.std.specs.Prelude.{codes}
use Rattle.std.specs.Fmt.{decimal}
use Rattle.std.specs.List.{join_with_byte}
use Rattle.bag_model.specs.declared.Pick.TheVariants.{Least, Greatest}
use Rattle.bag_model.specs.Scalars as scalars
use Rattle.bag_model.specs.Scalars.{Word, ScalarKind}
use Rattle.bag_model.specs.Shapes.{Shape, Taint, Scalar, Set, Counter, Map, Bag}
use Rattle.bag_model.specs.Words.{is_name, word_text}
use Rattle.table_text.specs.Rows.{Row, SaysRow}
use Rattle.text_lines.specs.FedLines.{fed_lines}
use Rattle.table_text.specs.TableTexts.{kind_text, shape_text}
use Rattle.text_lines.specs.Words.{IsFree}
use Rattle.text_lines.proofs.FedLines.{fed_line}
use Rattle.text_lines.proofs.Separated.{free_append}
use Rattle.text_lines.proofs.WordBytes.{free_word}
use Rattle.text_lines.proofs.Numbers.{digits_free, number_free}
use Rattle.table_text.proofs.NameBytes.{name_word}
use Rattle.table_text.proofs.WordReads.{is_scalar}

number_fed : (n : ℕ) → n < 2 ^ 16 → IsFree 10 (decimal n)
number_fed n small = number_free 10 n (omega arith) (omega (arith, small))

name_fed : (text : List ℕ) → is_name text ≡ true → IsFree 10 text
name_fed text is = free_word 10 text refl (name_word text is)

word_fed : (word : Word) → IsFree 10 (word_text word)
word_fed word = free_word 10 (word_text word) refl (is_scalar word)

joined_fed : (words : List Word) → IsFree 10 (join_with_byte 44 (map word_text words))
joined_fed [] = refl
joined_fed (word ∷ []) = word_fed word
joined_fed (word ∷ next ∷ more) = free_append 10 (word_text word) (44 ∷ join_with_byte 44 (map word_text (next ∷ more))) (word_fed word) (joined_fed (next ∷ more))

kind_fed : (kind : ScalarKind) → IsFree 10 (kind_text kind)
kind_fed (scalars.ScalarKind.One word) = word_fed word
kind_fed (scalars.ScalarKind.Packed words) = free_append 10 (40 ∷ join_with_byte 44 (map word_text words)) (41 ∷ []) (joined_fed words) refl

shape_fed : (shape : Shape) → IsFree 10 (shape_text shape)
shape_fed Taint = refl
shape_fed (Scalar Least kind) = kind_fed kind
shape_fed (Scalar Greatest kind) = kind_fed kind
shape_fed (Set kind) = kind_fed kind
shape_fed Counter = refl
shape_fed (Map key value) =
    free_append 10 (codes "map " ++ kind_text key ++ codes " ") (shape_text value) (free_append 10 (codes "map " ++ kind_text key) (codes " ") (kind_fed key) refl) (shape_fed value)
shape_fed (Bag nodes) = refl

-- What is before the line feed of a field's line.
front_of : List ℕ → Row → List ℕ
front_of digits row = digits ++ 32 ∷ (decimal row.number ++ 32 ∷ (row.name ++ 32 ∷ shape_text row.shape))

front_fed : (text : List ℕ) (row : Row) → (says : SaysRow text row) → IsFree 10 (front_of says.digits row)
unfolding front_of
front_fed text row says =
    let inner = free_append 10 row.name (32 ∷ shape_text row.shape) (name_fed row.name says.named) (shape_fed row.shape) in
    let middle = free_append 10 (decimal row.number) (32 ∷ (row.name ++ 32 ∷ shape_text row.shape)) (number_fed row.number says.numbered) inner in
    free_append 10 says.digits (32 ∷ (decimal row.number ++ 32 ∷ (row.name ++ 32 ∷ shape_text row.shape))) (digits_free 10 says.digits (omega arith) says.deep.digits_are.1) middle

-- A line that says a field is cut from what follows it.
pub cut_said : (text : List ℕ) (row : Row) → SaysRow text row → (rest : List ℕ) → fed_lines (text ++ rest) ≡ text ∷ fed_lines rest
unfolding front_of
cut_said text row says rest =
    let front = front_of says.digits row in
    let is : text ≡ front ++ 10 ∷ [] = says.is in
    ap (λ (l : List ℕ). fed_lines (l ++ rest)) is ∙ ap fed_lines (append_assoc front (10 ∷ []) rest) ∙ fed_line front rest (front_fed text row says)
    ∙ ap (λ (l : List ℕ). l ∷ fed_lines rest) (sym is)
