-- A list that is read word by word.
use Rattle.std.proofs.Common.{◌≡◌, ℕ, ◌+◌, ◌<◌, zero, suc, List, [], ◌∷◌, ◌++◌, length, map, get_or, take, refl, sym, ◌∙◌, ap, subst, arith}
use Rattle.std.specs.Fmt.{decimal}
use Rattle.std.specs.List.{AllByRecursion, join_with_byte}
use Rattle.std.proofs.lemmas.List.{take_more, take_all}
use Rattle.std.proofs.lemmas.List.Splits.{join_with_byte-slice_split}
use Rattle.graph_lines.specs.Forms.{IsNumber, IsPath}
use Rattle.text_lines.specs.Words.{HasNoSpace}
use Rattle.graph_lines.specs.Reading.{IsNumberText, AreNumbers, ArePaths}
use Rattle.text_lines.proofs.Separated.{pieces, pieces_joined}
use Rattle.graph_lines.proofs.Names.{paths_free}
use Rattle.graph_lines.proofs.Decimals.{numbers_free}
use Rattle.graph_lines.proofs.Paths.{piece_some}

pub all_push : {A : Type 0} (P : A → Type 0) (xs : List A) (x : A) → AllByRecursion P xs → P x → AllByRecursion P (xs ++ x ∷ [])
all_push P [] x h p = (p, tt)
all_push P (y ∷ xs) x h p = (h.0, all_push P xs x h.1 p)

all_at : {A : Type 0} (P : A → Type 0) (xs : List A) (k : ℕ) (d : A) → AllByRecursion P xs → k < length xs → P (get_or xs k d)
all_at P [] k d h less = absurd (omega (arith, less))
all_at P (x ∷ xs) zero d h less = h.0
all_at P (x ∷ xs) (suc k) d h less = all_at P xs k d h.1 (omega (arith, less))

-- A word more.
pub one_more : (words every : List (List ℕ)) (k : ℕ) (word : List ℕ) → words ≡ take k every → (k < length every) × (word ≡ get_or every k word)
    → words ++ word ∷ [] ≡ take (k + 1) every
one_more words every k word so_far turn =
    ap (λ (l : List (List ℕ)). l ++ word ∷ []) so_far ∙ ap (λ (w : List ℕ). take k every ++ w ∷ []) turn.1 ∙ sym (take_more every k word turn.0)

-- All words were read.
pub whole_text : (text : List ℕ) (words : List (List ℕ)) (k : ℕ) → words ≡ take k (pieces 32 text) → k ≡ length (pieces 32 text)
    → (0 < length words) × (text ≡ join_with_byte 32 words)
whole_text text words k so_far all =
    let same : words ≡ pieces 32 text = so_far ∙ take_all k (pieces 32 text) (omega (arith, all)) in
    (omega (arith, ap length same, piece_some 32 text), sym (join_with_byte-slice_split 32 text) ∙ ap (join_with_byte 32) (sym same))

-- Each word of a text of such words is one of these.
word_fits : (P : List ℕ → Type 0) (text : List ℕ) (words : List (List ℕ)) (k : ℕ) (word : List ℕ) → AllByRecursion P words → AllByRecursion HasNoSpace words
    → 0 < length words → text ≡ join_with_byte 32 words → (k < length (pieces 32 text)) × (word ≡ get_or (pieces 32 text) k word) → P word
word_fits P text words k word all free some is turn =
    let same : pieces 32 text ≡ words = ap (pieces 32) is ∙ pieces_joined 32 words some free in
    let at : word ≡ get_or words k word = turn.1 ∙ ap (λ (l : List (List ℕ)). get_or l k word) same in
    subst P (sym at) (all_at P words k word all (omega (arith, ap length same, turn.0)))

pub not_paths : (text : List ℕ) (k : ℕ) (word : List ℕ) → (k < length (pieces 32 text)) × (word ≡ get_or (pieces 32 text) k word) → (IsPath word → ⊥)
    → (paths : List (List ℕ)) → ArePaths text paths → ⊥
not_paths text k word turn bad paths h = bad (word_fits IsPath text paths k word h.1 (paths_free paths h.1) h.0 h.2 turn)

-- The text is that of some number.
abbrev IsSomeNumber : List ℕ → Type 0
IsSomeNumber word = (n : ℕ) × IsNumberText word n

number_texts : (numbers : List ℕ) → AllByRecursion IsNumber numbers → AllByRecursion IsSomeNumber (map decimal numbers)
number_texts [] h = tt
number_texts (n ∷ ns) h = ((n, (h.0, refl)), number_texts ns h.1)

some_mapped : (numbers : List ℕ) → 0 < length numbers → 0 < length (map decimal numbers)
some_mapped [] some = absurd (omega (arith, some))
some_mapped (n ∷ ns) some = omega arith

pub some_numbers : (numbers : List ℕ) → 0 < length (map decimal numbers) → 0 < length numbers
some_numbers [] some = absurd (omega (arith, some))
some_numbers (n ∷ ns) some = omega arith

pub not_numbers : (text : List ℕ) (k : ℕ) (word : List ℕ) → (k < length (pieces 32 text)) × (word ≡ get_or (pieces 32 text) k word) → ((n : ℕ) → IsNumberText word n → ⊥)
    → (numbers : List ℕ) → AreNumbers text numbers → ⊥
not_numbers text k word turn bad numbers h =
    let fits = word_fits IsSomeNumber text (map decimal numbers) k word (number_texts numbers h.1) (numbers_free numbers h.1) (some_mapped numbers h.0) h.2 turn in
    bad fits.0 fits.1
