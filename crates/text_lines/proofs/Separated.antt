-- Texts without a byte, and texts that are joined by it.
use Rattle.std.proofs.Common.{◌≡◌, ℕ, ◌+◌, ◌-◌, ◌<◌, ◌==◌, ◌||◌, suc, Bool, true, false, List, [], ◌∷◌, ◌++◌, length, get_or, take, drop, refl, sym, ◌∙◌, ap, arith}
use Rattle.std.specs.Prelude.{◌≢◌}
use Rattle.std.specs.List.{AllByRecursion, list_any, slice_split, onto_first, join_with_byte}
use Rattle.std.proofs.lemmas.Bool.{eq-eqb, ne_eqb}
use Rattle.std.proofs.lemmas.List.{get_or-take, length-take-le}
use Rattle.std.proofs.lemmas.Grind.{common_steps}
use Rattle.std.proofs.lemmas.List.Folds.{list_any-append}
use Rattle.std.proofs.lemmas.List.Splits.{slice_split-cons_yes, slice_split-cons_no}
use Rattle.text_lines.specs.Words.{IsFree}

pub or_false : (a b : Bool) → a ≡ false → b ≡ false → (a || b) ≡ false
or_false false b p q = q
or_false true b p q = absurd (cc p)

or_left : (a b : Bool) → (a || b) ≡ false → a ≡ false
or_left false b p = refl
or_left true b p = p

or_right : (a b : Bool) → (a || b) ≡ false → b ≡ false
or_right false b p = p
or_right true b p = absurd (cc p)

pub head_free : (sep x : ℕ) (a : List ℕ) → IsFree sep (x ∷ a) → (x == sep) ≡ false
head_free sep x a h = or_left (x == sep) (list_any (λ b. b == sep) a) h

pub tail_free : (sep x : ℕ) (a : List ℕ) → IsFree sep (x ∷ a) → IsFree sep a
tail_free sep x a h = or_right (x == sep) (list_any (λ b. b == sep) a) h

not_head : (sep x : ℕ) (a : List ℕ) → IsFree sep (x ∷ a) → x ≡ sep → ⊥
not_head sep x a h is = let bad : true ≡ false = sym (eq-eqb x sep is) ∙ head_free sep x a h in cc bad

-- A text without the byte has no part before it and after it.
pub free_there : (sep : ℕ) (a c s : List ℕ) → IsFree sep a → a ≡ c ++ sep ∷ s → ⊥
free_there sep [] [] s h is = cc is
free_there sep [] (y ∷ c) s h is = cc is
free_there sep (x ∷ a) [] s h is = not_head sep x a h (cc is)
free_there sep (x ∷ a) (y ∷ c) s h is = let rest : a ≡ c ++ sep ∷ s = cc is in free_there sep a c s (tail_free sep x a h) rest

-- A text is cut at its first such byte in one way.
pub same_cut : (sep : ℕ) (a b x y : List ℕ) → IsFree sep a → IsFree sep b → a ++ sep ∷ x ≡ b ++ sep ∷ y → (a ≡ b) × (x ≡ y)
same_cut sep [] [] x y p q e = (refl, cc e)
same_cut sep [] (d ∷ b) x y p q e = absurd (let first : d ≡ sep = cc e in not_head sep d b q first)
same_cut sep (c ∷ a) [] x y p q e = absurd (let first : c ≡ sep = cc e in not_head sep c a p first)
same_cut sep (c ∷ a) (d ∷ b) x y p q e =
    let first : c ≡ d = cc e in
    let behind : a ++ sep ∷ x ≡ b ++ sep ∷ y = cc e in
    let rest = same_cut sep a b x y (tail_free sep c a p) (tail_free sep d b q) behind in
    (cc (first, rest.0), rest.1)

pub free_from : (sep : ℕ) (text : List ℕ) → ((k : ℕ) → k < length text → get_or text k 0 ≢ sep) → IsFree sep text
free_from sep [] h = refl
free_from sep (b ∷ bs) h =
    or_false (b == sep) (list_any (λ byte. byte == sep) bs) (ne_eqb b sep (h 0 (omega arith))) (free_from sep bs (λ k less. h (suc k) (omega (arith, less))))

pub free_take : (sep : ℕ) (text : List ℕ) (n : ℕ) → n < length text → ((k : ℕ) → k < n → get_or text k 0 ≢ sep) → IsFree sep (take n text)
free_take sep text n within h =
    free_from sep (take n text) (λ k less.
    let front : k < n = omega (arith, less, length-take-le n text, within) in
    λ is. h k front (sym (get_or-take n text k 0 front) ∙ is))

-- A byte more that is another.
pub free_cons : (sep byte : ℕ) (bytes : List ℕ) → byte ≢ sep → IsFree sep bytes → IsFree sep (byte ∷ bytes)
free_cons sep byte bytes other free = or_false (byte == sep) (list_any (λ b. b == sep) bytes) (ne_eqb byte sep other) free

-- The bytes around the one at a place.
pub around : (sep : ℕ) (text : List ℕ) (at : ℕ) → at < length text → get_or text at 0 ≡ sep
    → text ≡ take at text ++ sep ∷ take (length text - (at + 1)) (drop (at + 1) text)
around sep text at within is = grind (arith, common_steps)

pub free_append : (sep : ℕ) (a b : List ℕ) → IsFree sep a → IsFree sep b → IsFree sep (a ++ b)
free_append sep a b p q =
    list_any-append (λ byte. byte == sep) a b ∙ or_false (list_any (λ byte. byte == sep) a) (list_any (λ byte. byte == sep) b) p q

-- ---- pieces between separators

-- The pieces of a text between these bytes.
abbrev pub pieces : ℕ → List ℕ → List (List ℕ)
pieces sep text = slice_split (λ byte. byte == sep) text

pieces_cut : (sep : ℕ) (a rest : List ℕ) → IsFree sep a → pieces sep (a ++ sep ∷ rest) ≡ a ∷ pieces sep rest
pieces_cut sep [] rest h = slice_split-cons_yes (λ byte. byte == sep) sep rest (eq-eqb sep sep refl)
pieces_cut sep (c ∷ a) rest h =
    slice_split-cons_no (λ byte. byte == sep) c (a ++ sep ∷ rest) (head_free sep c a h) ∙ ap (onto_first c) (pieces_cut sep a rest (tail_free sep c a h))

pieces_whole : (sep : ℕ) (a : List ℕ) → IsFree sep a → pieces sep a ≡ a ∷ []
pieces_whole sep [] h = refl
pieces_whole sep (c ∷ a) h =
    slice_split-cons_no (λ byte. byte == sep) c a (head_free sep c a h) ∙ ap (onto_first c) (pieces_whole sep a (tail_free sep c a h))

-- The pieces of joined texts are these texts.
pub pieces_joined : (sep : ℕ) (texts : List (List ℕ)) → 0 < length texts → AllByRecursion (IsFree sep) texts → pieces sep (join_with_byte sep texts) ≡ texts
pieces_joined sep [] some all = absurd (omega (arith, some))
pieces_joined sep (a ∷ []) some all = pieces_whole sep a all.0
pieces_joined sep (a ∷ b ∷ more) some all =
    pieces_cut sep a (join_with_byte sep (b ∷ more)) all.0 ∙ ap (λ (l : List (List ℕ)). a ∷ l) (pieces_joined sep (b ∷ more) (omega arith) all.1)

-- Joined texts say which texts were joined.
pub same_joined : (sep : ℕ) (a b : List (List ℕ)) → 0 < length a → 0 < length b → AllByRecursion (IsFree sep) a → AllByRecursion (IsFree sep) b → join_with_byte sep a ≡ join_with_byte sep b → a ≡ b
same_joined sep a b p q f g e = sym (pieces_joined sep a p f) ∙ ap (pieces sep) e ∙ pieces_joined sep b q g
