-- What is at a place of a list, as loops read it, and texts that are joined by commas one after
-- another.
use Rattle.std.proofs.Common.{◌≡◌, ℕ, zero, suc, ◌+◌, ◌<◌, ◌≤◌, List, [], ◌∷◌, ◌++◌, take, length, map, get_or, Option, Some, refl, sym, ap, ◌∙◌, append_assoc, append-nil, add-one, arith}
use Rattle.std.specs.List.{flat_map, slice_get, join_with_byte}
use Rattle.std.specs.Option.{option_map}
use Rattle.std.proofs.lemmas.Option.{slice_get-map, slice_get-get_or}

-- What a list answers at a place.
pub answered : {A B : Type 0} (f : A → B) (answer : Option A) (a : A) (xs : List B) (at : ℕ)
    → option_map f answer ≡ slice_get xs at → answer ≡ Some a → slice_get xs at ≡ Some (f a)
answered f answer a xs at is found = sym is ∙ ap (option_map f) found

-- The item of a slice that is the list.
pub seen : {A : Type 0} (items : List A) (other : A) (xs : List A) (at : ℕ)
    → items ≡ xs → at < length items → slice_get xs at ≡ Some (get_or items at other)
seen items other xs at view within = ap (λ l. slice_get l at) (sym view) ∙ slice_get-get_or items at other within

-- What is made of it.
pub mapped : {A B : Type 0} (g : A → B) (xs : List A) (at : ℕ) (a : A) → slice_get xs at ≡ Some a → slice_get (map g xs) at ≡ Some (g a)
mapped g xs at a is = slice_get-map g xs at ∙ ap (option_map g) is

-- An element more.
pub flat_more : {A : Type 0} (f : A → List ℕ) (xs : List A) (at : ℕ) (x : A) → slice_get xs at ≡ Some x
    → flat_map f (take (suc at) xs) ≡ flat_map f (take at xs) ++ f x
flat_more f [] at x is = absurd (cc is)
flat_more f (y ∷ xs) zero x is = let same : y ≡ x = cc is in append-nil (f y) ∙ ap f same
flat_more f (y ∷ xs) (suc at) x is = ap (λ (l : List ℕ). f y ++ l) (flat_more f xs at x is) ∙ sym (append_assoc (f y) (flat_map f (take at xs)) (f x))

-- The comma before the text that has this number of texts before it: none before the first.
abbrev pub comma_before : ℕ → List ℕ
comma_before zero = []
comma_before (suc at) = 44 ∷ []

pub comma_some : (at : ℕ) → 0 < at → comma_before at ≡ 44 ∷ []
comma_some zero some = absurd (omega arith)
comma_some (suc at) some = refl

pub comma_none : (at : ℕ) → at ≤ 0 → comma_before at ≡ []
comma_none zero none = refl
comma_none (suc at) none = absurd (omega arith)

-- One text more is a comma more, except before the first, and the text.
joined_more : (texts : List (List ℕ)) (at : ℕ) (text : List ℕ) → slice_get texts at ≡ Some text
    → join_with_byte 44 (take (suc at) texts) ≡ join_with_byte 44 (take at texts) ++ (comma_before at ++ text)
joined_more [] at text is = absurd (cc is)
joined_more (x ∷ xs) zero text is = cc is
joined_more (x ∷ []) (suc i) text is = absurd (cc is)
joined_more (x ∷ y ∷ ys) (suc zero) text is =
    let same : y ≡ text = cc is in
    ap (λ (t : List ℕ). x ++ 44 ∷ t) same
joined_more (x ∷ y ∷ ys) (suc (suc j)) text is =
    ap (λ (t : List ℕ). x ++ 44 ∷ t) (joined_more (y ∷ ys) (suc j) text is)
    ∙ sym (append_assoc x (44 ∷ join_with_byte 44 (take (suc j) (y ∷ ys))) (44 ∷ text))

-- A turn of a loop that puts out texts: a comma, except before the first, and a text.
pub next_text : (front before middle after : List ℕ) (texts : List (List ℕ)) (at : ℕ) (text : List ℕ)
    → before ≡ front ++ join_with_byte 44 (take at texts) → middle ≡ before ++ comma_before at → after ≡ middle ++ text
    → slice_get texts at ≡ Some text → after ≡ front ++ join_with_byte 44 (take (at + 1) texts)
next_text front before middle after texts at text so_far comma then is =
    then
    ∙ ap (λ (l : List ℕ). l ++ text) (comma ∙ ap (λ (l : List ℕ). l ++ comma_before at) so_far)
    ∙ append_assoc (front ++ join_with_byte 44 (take at texts)) (comma_before at) text
    ∙ append_assoc front (join_with_byte 44 (take at texts)) (comma_before at ++ text)
    ∙ ap (λ (l : List ℕ). front ++ l) (sym (joined_more texts at text is))
    ∙ ap (λ (n : ℕ). front ++ join_with_byte 44 (take n texts)) (sym (add-one at))
