-- Two structs field by field, and the parts of a way one by one.
use Rattle.std.proofs.Common.{◌≡◌, ◌↔◌, ℕ, zero, suc, ◌+◌, ◌<◌, ◌≤◌, List, [], ◌∷◌, ◌++◌, length, map, drop, take, get_or, All, Option, Some, refl, sym, ap, ◌∙◌, subst, subst₂, arith, add-one, append_assoc}
use Rattle.std.specs.List.{slice_get}
use Rattle.std.proofs.lemmas.List.{drop_more}
use Rattle.context_model.specs.Orders.{IsIn}
use Rattle.bag_model.specs.declared.words.ScalarWord.TheVariants.{Bool as Boolean}
use Rattle.bag_model.specs.Scalars as model
use Rattle.bag_model.specs.Slots.{dotted}
use Rattle.def_evolve.specs.Widening.{AreWider, wider_words}
use Rattle.bag_model.specs.Words.{word_text}
use Rattle.def_evolve.specs.BreakLists.{spaced}

-- ---- lists by places

pub drop_there : {A : Type 0} (xs : List A) (i : ℕ) (x : A) → slice_get xs i ≡ Some x → drop i xs ≡ x ∷ drop (i + 1) xs
drop_there {A = A} xs i x at = by xs i at ∙ ap (λ n. x ∷ drop n xs) (sym (add-one i))
  where
    by : (xs : List A) (i : ℕ) → slice_get xs i ≡ Some x → drop i xs ≡ x ∷ drop (suc i) xs
    by [] i e = absurd (cc e)
    by (y ∷ xs) zero e = let same : y ≡ x = cc e in ap (λ z. z ∷ xs) same
    by (y ∷ xs) (suc i) e = by xs i e

pub take_there : {A : Type 0} (xs : List A) (i : ℕ) (x : A) → slice_get xs i ≡ Some x → take (i + 1) xs ≡ take i xs ++ x ∷ []
take_there {A = A} xs i x at = ap (λ n. take n xs) (add-one i) ∙ by xs i at
  where
    by : (xs : List A) (i : ℕ) → slice_get xs i ≡ Some x → take (suc i) xs ≡ take i xs ++ x ∷ []
    by [] i e = absurd (cc e)
    by (y ∷ xs) zero e = let same : y ≡ x = cc e in ap (λ z. z ∷ []) same
    by (y ∷ xs) (suc i) e = ap (λ l. y ∷ l) (by xs i e)

-- ---- structs

pub wider_long : (words more : List model.Word) → AreWider words more → length words ≡ length more
wider_long [] [] w = refl
wider_long [] (wider ∷ more) w = absurd w
wider_long (word ∷ words) [] w = absurd w
wider_long (word ∷ words) (wider ∷ more) w = ap suc (wider_long words more w.1)

-- The word at a place of a list.
abbrev pub word_at : List model.Word → ℕ → model.Word
word_at words i = get_or words i Boolean

words_turn : (words : List model.Word) (i : ℕ) → i < length words → drop i words ≡ word_at words i ∷ drop (i + 1) words
words_turn words i within = drop_more words i Boolean within

module _ (words more : List model.Word) (i : ℕ) (within : i < length words) (also : i < length more) where
  -- Of the structs from a field on: that field, and the rest.
  pub wider_turn : AreWider (drop i words) (drop i more) ↔ (IsIn (word_at more i) (wider_words (word_at words i)) × AreWider (drop (i + 1) words) (drop (i + 1) more))
  wider_turn =
      (subst₂ AreWider (words_turn words i within) (words_turn more i also), subst₂ AreWider (sym (words_turn words i within)) (sym (words_turn more i also)))

-- ---- ways

pub dotted_more : (x : List ℕ) (xs : List (List ℕ)) (y : List ℕ) → dotted ((x ∷ xs) ++ y ∷ []) ≡ dotted (x ∷ xs) ++ 46 ∷ y
dotted_more x [] y = refl
dotted_more x (z ∷ xs) y = ap (λ l. x ++ 46 ∷ l) (dotted_more z xs y) ∙ sym (append_assoc x (46 ∷ dotted (z ∷ xs)) (46 ∷ y))

module _ {A : Type 0} (f : A → List ℕ) where
  -- The text of a way with one more part.
  text_first : (way : List A) (part : A) → slice_get way 0 ≡ Some part → dotted (map f (take 1 way)) ≡ f part
  text_first [] part e = absurd (cc e)
  text_first (p ∷ way) part e = let same : p ≡ part = cc e in ap f same

  text_more : (way : List A) (i : ℕ) (part : A) → 0 < i → slice_get way i ≡ Some part → dotted (map f (take (i + 1) way)) ≡ dotted (map f (take i way)) ++ 46 ∷ f part
  text_more [] i part l e = absurd (cc e)
  text_more (p ∷ way) zero part l e = absurd (omega (arith, l))
  text_more (p ∷ way) (suc i) part l e =
      ap (λ ps. dotted (map f ps)) (take_there (p ∷ way) (suc i) part e)
      ∙ ap dotted (map_append (p ∷ take i way) (part ∷ []))
      ∙ dotted_more (f p) (map f (take i way)) (f part)
    where
      map_append : (xs ys : List A) → map f (xs ++ ys) ≡ map f xs ++ map f ys
      map_append [] ys = refl
      map_append (x ∷ xs) ys = ap (λ l. f x ∷ l) (map_append xs ys)

  -- A step of the loop that writes a way: the first part, and each after a dot.
  pub step_first : (way : List A) (i : ℕ) (part : A) (before after : List ℕ) → i ≤ 0 → slice_get way i ≡ Some part → before ≡ dotted (map f (take i way)) → after ≡ before ++ f part
      → after ≡ dotted (map f (take (i + 1) way))
  step_first way zero part before after l at e g = g ∙ ap (λ l. l ++ f part) e ∙ sym (text_first way part at)
  step_first way (suc i) part before after l at e g = absurd (omega (arith, l))

  pub step_more : (way : List A) (i : ℕ) (part : A) (before middle after : List ℕ) → 0 < i → slice_get way i ≡ Some part → before ≡ dotted (map f (take i way)) → middle ≡ before ++ 46 ∷ []
      → after ≡ middle ++ f part → after ≡ dotted (map f (take (i + 1) way))
  step_more way i part before middle after l at e g h =
      h ∙ ap (λ l. l ++ f part) (g ∙ ap (λ l. l ++ 46 ∷ []) e) ∙ append_assoc (dotted (map f (take i way))) (46 ∷ []) (f part) ∙ sym (text_more way i part l at)

-- ---- the words of a struct

-- Words after spaces, as far as they are written.
pub spaced_turn : (items words : List model.Word) (i : ℕ) (whole before middle after : List ℕ) → items ≡ words → i < length items
    → before ++ spaced (drop i words) ≡ whole → middle ≡ before ++ 32 ∷ [] → after ≡ middle ++ word_text (word_at items i) → after ++ spaced (drop (i + 1) words) ≡ whole
spaced_turn items words i whole before middle after same within e g h =
    let x = word_at items i in
    let turn : drop i words ≡ x ∷ drop (i + 1) words = subst (λ (ws : List model.Word). drop i ws ≡ x ∷ drop (i + 1) ws) same (words_turn items i within) in
    ap (λ text. text ++ spaced (drop (i + 1) words)) (h ∙ ap (λ text. text ++ word_text x) g)
    ∙ ap (λ text. text ++ spaced (drop (i + 1) words)) (append_assoc before (32 ∷ []) (word_text x))
    ∙ append_assoc before (32 ∷ word_text x) (spaced (drop (i + 1) words))
    ∙ sym (ap (λ ws. before ++ spaced ws) turn)
    ∙ e
