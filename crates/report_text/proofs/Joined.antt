-- Texts that are joined by commas one after another.
use Rattle.std.proofs.Common.{◌≡◌, ℕ, zero, suc, ◌+◌, ◌≤◌, List, [], ◌∷◌, ◌++◌, length, take, Some, sym, ap, ◌∙◌, append_assoc, add-one, arith}
use Rattle.std.specs.List.{slice_get}
use Rattle.std.proofs.lemmas.Bool.Decides.{nat_tests}
use Rattle.std.proofs.lemmas.List.{take_all}
use Rattle.text_model.specs.Commas.{comma_joined, comma_before}

-- The first `at` texts, joined.
abbrev pub first_joined : ℕ → List (List ℕ) → List ℕ
first_joined at texts = comma_joined (take at texts)

comma_more : (j : ℕ) → comma_before (suc j) ≡ 44 ∷ []
comma_more j = grind (arith, nat_tests)

-- One text more is a comma more, except before the first, and the text.
joined_more : (texts : List (List ℕ)) (at : ℕ) (text : List ℕ) → slice_get texts at ≡ Some text
    → first_joined (suc at) texts ≡ first_joined at texts ++ (comma_before at ++ text)
joined_more [] at text is = absurd (cc is)
joined_more (x ∷ xs) zero text is = cc is
joined_more (x ∷ []) (suc i) text is = absurd (cc is)
joined_more (x ∷ y ∷ ys) (suc zero) text is =
    let same : y ≡ text = cc is in
    ap (λ (t : List ℕ). x ++ 44 ∷ t) same ∙ ap (λ (t : List ℕ). x ++ (t ++ text)) (sym (comma_more 0))
joined_more (x ∷ y ∷ ys) (suc (suc j)) text is =
    ap (λ (t : List ℕ). x ++ 44 ∷ t) (joined_more (y ∷ ys) (suc j) text is)
    ∙ ap (λ (t : List ℕ). x ++ 44 ∷ (first_joined (suc j) (y ∷ ys) ++ (t ++ text))) (comma_more j)
    ∙ sym (append_assoc x (44 ∷ first_joined (suc j) (y ∷ ys)) (44 ∷ text))
    ∙ ap (λ (t : List ℕ). (x ++ 44 ∷ first_joined (suc j) (y ∷ ys)) ++ (t ++ text)) (sym (comma_more (suc j)))

-- A turn of a loop that puts out texts: a comma, except before the first, and a text.
pub next_text : (front before middle after : List ℕ) (texts : List (List ℕ)) (at : ℕ) (text : List ℕ)
    → before ≡ front ++ first_joined at texts → middle ≡ before ++ comma_before at → after ≡ middle ++ text
    → slice_get texts at ≡ Some text → after ≡ front ++ first_joined (at + 1) texts
next_text front before middle after texts at text so_far comma then is =
    then
    ∙ ap (λ (l : List ℕ). l ++ text) (comma ∙ ap (λ (l : List ℕ). l ++ comma_before at) so_far)
    ∙ append_assoc (front ++ first_joined at texts) (comma_before at) text
    ∙ append_assoc front (first_joined at texts) (comma_before at ++ text)
    ∙ ap (λ (l : List ℕ). front ++ l) (sym (joined_more texts at text is))
    ∙ ap (λ (n : ℕ). front ++ first_joined n texts) (sym (add-one at))

-- Its end, where no text is left, and what closes the texts.
pub closed : (old opening before after closing : List ℕ) (texts : List (List ℕ)) (at : ℕ)
    → before ≡ (old ++ opening) ++ first_joined at texts → length texts ≤ at → after ≡ before ++ closing
    → after ≡ old ++ ((opening ++ comma_joined texts) ++ closing)
closed old opening before after closing texts at so_far over then =
    then
    ∙ ap (λ (l : List ℕ). l ++ closing) (so_far ∙ ap (λ (l : List (List ℕ)). (old ++ opening) ++ comma_joined l) (take_all at texts over))
    ∙ ap (λ (l : List ℕ). l ++ closing) (append_assoc old opening (comma_joined texts))
    ∙ append_assoc old (opening ++ comma_joined texts) closing

-- Three parts that are put out one after another.
pub three_parts : (start one two all a b c : List ℕ) → one ≡ start ++ a → two ≡ one ++ b → all ≡ two ++ c → all ≡ start ++ ((a ++ b) ++ c)
three_parts start one two all a b c first second third =
    third
    ∙ ap (λ (l : List ℕ). l ++ c) (second ∙ ap (λ (l : List ℕ). l ++ b) first ∙ append_assoc start a b)
    ∙ append_assoc start (a ++ b) c

-- A part that is read in two steps.
pub read_part : (start after bytes text part : List ℕ) → after ≡ start ++ bytes → bytes ≡ text → text ≡ part → after ≡ start ++ part
read_part start after bytes text part put first second = put ∙ ap (λ (l : List ℕ). start ++ l) (first ∙ second)
