-- The text of an array of objects.
use Rattle.std.proofs.Common.{◌≡◌, ℕ, Bool, true, false, List, [], ◌∷◌, ◌++◌, length, refl, sym, ap, ◌∙◌, append_assoc, append-nil, arith}
use Rattle.std.proofs.lemmas.Bool.Decides.{nat_tests}
use Rattle.text_model.specs.Commas.{comma_before}
use Rattle.serde_json.specs.Data.{Data}
use Rattle.serde_json.specs.View.{items_of}
use Rattle.serde_json.specs.Written.{compact_text, items_text, comma_if}

-- The texts of objects, each after a comma except the first.
abbrev pub row_text : Bool → List Data → List ℕ
row_text later [] = []
row_text later (d ∷ objects) = comma_if later ++ (compact_text d ++ row_text true objects)

-- A bracket closes them.
pub row_closed : (later : Bool) (objects : List Data) → items_text later (items_of objects) ≡ row_text later objects ++ 93 ∷ []
row_closed later [] = refl
row_closed later (d ∷ objects) =
    ap (λ (l : List ℕ). comma_if later ++ (compact_text d ++ l)) (row_closed true objects)
    ∙ ap (λ (l : List ℕ). comma_if later ++ l) (sym (append_assoc (compact_text d) (row_text true objects) (93 ∷ [])))
    ∙ sym (append_assoc (comma_if later) (compact_text d ++ row_text true objects) (93 ∷ []))

row_later : (objects : List Data) (d : Data) → row_text true (objects ++ d ∷ []) ≡ row_text true objects ++ (44 ∷ compact_text d)
row_later [] d = ap (λ (l : List ℕ). 44 ∷ l) (append-nil (compact_text d))
row_later (e ∷ objects) d =
    ap (λ (l : List ℕ). 44 ∷ (compact_text e ++ l)) (row_later objects d)
    ∙ ap (λ (l : List ℕ). 44 ∷ l) (sym (append_assoc (compact_text e) (row_text true objects) (44 ∷ compact_text d)))

-- One object more follows a comma, unless it is the first.
pub row_more : (at : ℕ) (objects : List Data) (d : Data) → length objects ≡ at → row_text false (objects ++ d ∷ []) ≡ (row_text false objects ++ comma_before at) ++ compact_text d
row_more at [] d many =
    let none : comma_before at ≡ [] = grind (arith, nat_tests) in
    append-nil (compact_text d) ∙ ap (λ (l : List ℕ). l ++ compact_text d) (sym none)
row_more at (e ∷ objects) d many =
    let some : comma_before at ≡ 44 ∷ [] = grind (arith, nat_tests) in
    ap (λ (l : List ℕ). compact_text e ++ l) (row_later objects d)
    ∙ sym (append_assoc (compact_text e) (row_text true objects) (44 ∷ compact_text d))
    ∙ sym (append_assoc (compact_text e ++ row_text true objects) (44 ∷ []) (compact_text d))
    ∙ ap (λ (l : List ℕ). ((compact_text e ++ row_text true objects) ++ l) ++ compact_text d) (sym some)
