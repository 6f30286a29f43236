-- The words of structs.
use Rattle.std.proofs.Common.{◌≡◌, ℕ, List, [], ◌∷◌, ◌++◌, None, Some, map, get_or, slice_get, refl, sym, ◌∙◌, ap}
use Rattle.std.specs.List.{cons_option}
use Rattle.std.specs.Option.{option_map}
use Rattle.std.proofs.lemmas.List.Elements.{filter_map-append}
use Rattle.std.proofs.lemmas.Option.{slice_get-map, get_or_from_slice_get}
use Rattle.bag_model.specs.Scalars as scalars
use Rattle.bdl_parser.specs.declared.trees.Spot.{Spot}
use Rattle.bdl_parser.specs.declared.trees.TypeForm as TypeForms
use Rattle.bdl_parser.specs.declared.trees.TypeForm.{TypeForm}
use Rattle.bdl_parser.specs.Trees.{StructFieldTree}
use Rattle.bdl_parser.specs.Views.{tree_at}
use Rattle.bdl_check.specs.Declarations.{Placed}
use Rattle.bdl_check.specs.Layouts.{word_of_type, struct_words, words_of_decl}

-- A field more has a word more, if its type is one.
words_more : (front : List StructFieldTree) (t : StructFieldTree)
    → struct_words (front ++ t ∷ []) ≡ struct_words front ++ cons_option (word_of_type t.kind) []
words_more front t = filter_map-append (λ (field : StructFieldTree). word_of_type field.kind) front (t ∷ [])

-- A field whose type is a word adds the word.
pub word_more : (front : List StructFieldTree) (t : StructFieldTree) (at : Spot) (form : TypeForm) (word : scalars.Word) → t.kind ≡ tree_at at form
    → form ≡ TypeForms.Scalar word → struct_words front ++ word ∷ [] ≡ struct_words (front ++ t ∷ [])
word_more front t at form word kind is =
    sym (words_more front t ∙ ap (λ tree. struct_words front ++ cons_option (word_of_type tree) []) (kind ∙ ap (tree_at at) is))

no_word : (at : Spot) (form : TypeForm) → ((word : scalars.Word) → form ≡ TypeForms.Scalar word → ⊥) → word_of_type (tree_at at form) ≡ None
no_word at (TypeForms.Scalar word) not = absurd (not word refl)
no_word at TypeForms.Float not = refl
no_word at TypeForms.Double not = refl
no_word at TypeForms.Taint not = refl
no_word at TypeForms.Counter not = refl
no_word at (TypeForms.Set' p inner form) not = refl
no_word at (TypeForms.Greatest' p inner form) not = refl
no_word at (TypeForms.Map' p key form q value body) not = refl
no_word at (TypeForms.Name text) not = refl

append_none : {X : Type 0} (xs : List X) → xs ++ [] ≡ xs
append_none [] = refl
append_none (x ∷ xs) = ap (λ ys. x ∷ ys) (append_none xs)

-- Any other adds none.
pub no_more : (front : List StructFieldTree) (t : StructFieldTree) (at : Spot) (form : TypeForm) → t.kind ≡ tree_at at form
    → ((word : scalars.Word) → form ≡ TypeForms.Scalar word → ⊥) → struct_words front ≡ struct_words (front ++ t ∷ [])
no_more front t at form kind not =
    sym (words_more front t ∙ ap (λ o. struct_words front ++ cons_option o []) (ap word_of_type kind ∙ no_word at form not)
    ∙ append_none (struct_words front))

-- The words of the declaration with this number, where those of all are listed.
pub words_at : (ds : List Placed) (lists : List (List scalars.Word)) (number : ℕ) (d : Placed) (other : List scalars.Word)
    → lists ≡ map (λ (d : Placed). words_of_decl d.decl) ds → slice_get ds number ≡ Some d →
    get_or lists number other ≡ words_of_decl d.decl
words_at ds lists number d other are there =
    get_or_from_slice_get lists number (words_of_decl d.decl) other
    (ap (λ (all : List (List scalars.Word)). slice_get all number) are ∙ slice_get-map (λ (d : Placed). words_of_decl d.decl) ds number
    ∙ ap (option_map (λ (d : Placed). words_of_decl d.decl)) there)
