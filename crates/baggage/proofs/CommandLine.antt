-- The words of a command line are its texts without the first.
use Rattle.std.proofs.Common.{◌≡◌, ◌<◌, ◌↔◌, IsSome, ℕ, List, [], ◌∷◌, ◌++◌, length, map, drop, Option, Some, None, refl, sym, ap, ◌∙◌, append_assoc, append-nil, arith}
use Rattle.std.specs.Option.{option_to_list}

-- After the first text are those that are left once it was taken.
pub behind_first : {A : Type 0} (f : A → List ℕ) (first : Option A) (before after : List A) (count : ℕ) → before ≡ option_to_list first ++ after
    → count ≡ length before → IsSome first ↔ (0 < count) → map f after ≡ drop 1 (map f before)
behind_first f None [] [] count is counted some = refl
behind_first f None [] (x ∷ after) count is counted some = absurd (cc)
behind_first f None (x ∷ before) after count is counted some = cc (some.1 (omega arith))
behind_first f (Some x) before after count is counted some = sym (ap (λ texts. drop 1 (map f texts)) is)

-- A text goes over from those that are left to the words.
pub one_more : {A : Type 0} (f : A → List ℕ) (x : A) (before after : List A) (words new all : List (List ℕ)) → before ≡ x ∷ after → new ≡ words ++ f x ∷ []
    → words ++ map f before ≡ all → new ++ map f after ≡ all
one_more f x before after words new all is added whole =
    ap (λ (w : List (List ℕ)). w ++ map f after) added ∙ append_assoc words (f x ∷ []) (map f after) ∙ sym (ap (λ texts. words ++ map f texts) is) ∙ whole

-- Where none is left, the words are all.
pub none_left : {A : Type 0} (f : A → List ℕ) (rest : List A) (words all : List (List ℕ)) → length rest ≡ 0 → words ++ map f rest ≡ all → words ≡ all
none_left f [] words all none whole = sym (append-nil words) ∙ whole
none_left f (x ∷ rest) words all none whole = absurd (omega arith)
