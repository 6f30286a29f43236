-- The forms of lines: a line says one entry, and words are made of characters.
use Rattle.std.proofs.Common.{◌≡◌, ◌≢◌, ℕ, ◌==◌, true, false, List, [], ◌∷◌, ◌++◌, refl, sym, ap, ◌∙◌, subst, arith}
use Rattle.std.specs.Prelude.{codes}
use Rattle.std.specs.Fmt.{decimal}
use Rattle.std.specs.List.{AllByRecursion}
use Rattle.std.specs.Str.{IsUtf8, IsAscii}
use Rattle.std.proofs.lemmas.Bool.{eq-eqb}
use Rattle.std.proofs.lemmas.Fmt.{IsAscii-decimal}
use Rattle.std.proofs.lemmas.Str.{IsUtf8-from_ascii, IsAscii-append}
use Rattle.std.proofs.lemmas.Str.Ascii.{IsAscii-nil, IsAscii-cons}
use Rattle.bag_model.specs.Slots.{dotted}
use Rattle.graph_lines.specs.Forms.{IsNumber, IsWord, IsPath}
use Rattle.graph_lines.proofs.Decimals.{one_number, same_number, small_number}
use Rattle.text_lines.specs.Words.{HasNoSpace, IsCut}
use Rattle.text_lines.proofs.FedLines.{unsnoc}
use Rattle.text_lines.proofs.Separated.{same_cut}
use Rattle.text_lines.proofs.WordBytes.{word_ascii}
use Rattle.write_proof.specs.Entries.{Entry, Why, ValueText, Reach, Uses, IsSoundEntry, entry_text, HasEntryForm}
use Rattle.write_proof.specs.Views.{IsOfWords, IsInWords}

-- ---- a line says one entry

abbrev first_byte : List ℕ → ℕ
first_byte [] = 0
first_byte (byte ∷ bytes) = byte

-- Texts that begin with different bytes differ.
apart : (a b : List ℕ) → (first_byte a == first_byte b) ≡ false → a ≡ b → ⊥
apart a b differ e = let bad : true ≡ false = sym (eq-eqb (first_byte a) (first_byte b) (ap first_byte e)) ∙ differ in cc bad

one_entry : (a b : Entry) → IsSoundEntry a → IsSoundEntry b → entry_text a ≡ entry_text b → a ≡ b
one_entry (Why m way) (Why n path) p q e =
    let behind : decimal m ++ 32 ∷ way ≡ decimal n ++ 32 ∷ path = cc e in
    let same = one_number m n way path p.0 q.0 behind in
    λ i. Why (same.0 i) (same.1 i)
one_entry (Why m way) (ValueText text) p q e = absurd (apart (entry_text (Why m way)) (entry_text (ValueText text)) refl e)
one_entry (Why m way) (Reach w child) p q e = absurd (apart (entry_text (Why m way)) (entry_text (Reach w child)) refl e)
one_entry (Why m way) (Uses w) p q e = absurd (apart (entry_text (Why m way)) (entry_text (Uses w)) refl e)
one_entry (ValueText text) (Why n path) p q e = absurd (apart (entry_text (ValueText text)) (entry_text (Why n path)) refl e)
one_entry (ValueText text) (ValueText other) p q e = let behind : text ≡ other = cc e in ap ValueText behind
one_entry (ValueText text) (Reach w child) p q e = absurd (apart (entry_text (ValueText text)) (entry_text (Reach w child)) refl e)
one_entry (ValueText text) (Uses w) p q e = absurd (apart (entry_text (ValueText text)) (entry_text (Uses w)) refl e)
one_entry (Reach v other) (Why n path) p q e = absurd (apart (entry_text (Reach v other)) (entry_text (Why n path)) refl e)
one_entry (Reach v other) (ValueText text) p q e = absurd (apart (entry_text (Reach v other)) (entry_text (ValueText text)) refl e)
one_entry (Reach v other) (Reach w child) p q e =
    let behind : decimal v ++ 32 ∷ decimal other ≡ decimal w ++ 32 ∷ decimal child = cc e in
    let same = one_number v w (decimal other) (decimal child) p.0 q.0 behind in
    let one = same_number other child p.1 q.1 same.1 in
    λ i. Reach (same.0 i) (one i)
one_entry (Reach v other) (Uses w) p q e = absurd (apart (entry_text (Reach v other)) (entry_text (Uses w)) refl e)
one_entry (Uses v) (Why n path) p q e = absurd (apart (entry_text (Uses v)) (entry_text (Why n path)) refl e)
one_entry (Uses v) (ValueText text) p q e = absurd (apart (entry_text (Uses v)) (entry_text (ValueText text)) refl e)
one_entry (Uses v) (Reach w child) p q e = absurd (apart (entry_text (Uses v)) (entry_text (Reach w child)) refl e)
one_entry (Uses v) (Uses w) p q e = let behind : decimal v ≡ decimal w = cc e in ap Uses (same_number v w p q behind)

-- A line says one entry.
pub one_form : (line : List ℕ) (a b : Entry) → HasEntryForm line a → HasEntryForm line b → a ≡ b
one_form line a b f g = one_entry a b f.0 g.0 (unsnoc (entry_text a) (entry_text b) 10 10 (sym f.1 ∙ g.1))

-- ---- the first word

-- Words that begin with none of the three words say nothing.
pub other_words : (text first rest : List ℕ) → HasNoSpace first → IsCut text first rest → (first ≡ codes "why" → ⊥) → (first ≡ codes "reach" → ⊥) → (first ≡ codes "uses" → ⊥)
    → (entry : Entry) → IsInWords text entry → ⊥
other_words text first rest free cut a b c (Why n path) says = a (sym (same_cut 32 (codes "why") first (decimal n ++ 32 ∷ path) rest refl free (sym says.2 ∙ cut)).0)
other_words text first rest free cut a b c (ValueText other) says = says.0
other_words text first rest free cut a b c (Reach w child) says = b (sym (same_cut 32 (codes "reach") first (decimal w ++ 32 ∷ decimal child) rest refl free (sym says.2 ∙ cut)).0)
other_words text first rest free cut a b c (Uses w) says = c (sym (same_cut 32 (codes "uses") first (decimal w) rest refl free (sym says.2 ∙ cut)).0)

-- ---- characters

names_ascii : (names : List (List ℕ)) → AllByRecursion IsWord names → IsAscii (dotted names)
names_ascii [] h = IsAscii-nil
names_ascii (a ∷ []) h = word_ascii a h.0
names_ascii (a ∷ b ∷ names) h =
    IsAscii-append a (46 ∷ dotted (b ∷ names)) (word_ascii a h.0) (IsAscii-cons 46 (dotted (b ∷ names)) (omega arith) (names_ascii (b ∷ names) h.1))

path_ascii : (path : List ℕ) → IsPath path → IsAscii path
path_ascii path h = subst IsAscii (sym h.3) (names_ascii h.0 h.2)

number_ascii : (n : ℕ) → IsNumber n → IsAscii (decimal n)
number_ascii n h = IsAscii-decimal n (small_number n h)

spaced_ascii : (a b : List ℕ) → IsAscii a → IsAscii b → IsAscii (a ++ 32 ∷ b)
spaced_ascii a b p q = IsAscii-append a (32 ∷ b) p (IsAscii-cons 32 b (omega arith) q)

words_ascii : (entry : Entry) → IsOfWords entry → IsSoundEntry entry → IsAscii (entry_text entry)
words_ascii (Why n path) words sound =
    spaced_ascii (codes "why") (decimal n ++ 32 ∷ path) (word_ascii (codes "why") refl)
    (spaced_ascii (decimal n) path (number_ascii n sound.0) (path_ascii path sound.1))
words_ascii (ValueText text) words sound = absurd words
words_ascii (Reach w child) words sound =
    spaced_ascii (codes "reach") (decimal w ++ 32 ∷ decimal child) (word_ascii (codes "reach") refl)
    (spaced_ascii (decimal w) (decimal child) (number_ascii w sound.0) (number_ascii child sound.1))
words_ascii (Uses w) words sound = spaced_ascii (codes "uses") (decimal w) (word_ascii (codes "uses") refl) (number_ascii w sound)

-- The words of an entry are made of characters.
pub words_utf8 : (entry : Entry) → IsOfWords entry → IsSoundEntry entry → IsUtf8 (entry_text entry)
words_utf8 entry words sound = IsUtf8-from_ascii (entry_text entry) (words_ascii entry words sound)

-- A line whose text is neither that of a value nor made of characters says nothing.
pub no_characters : (line text : List ℕ) → line ≡ text ++ 10 ∷ [] → ((rest : List ℕ) → text ≢ codes "value " ++ rest) → (IsUtf8 text → ⊥) → (entry : Entry) → HasEntryForm line entry → ⊥
no_characters line text is plain bad entry form = by entry form (unsnoc text (entry_text entry) 10 10 (sym is ∙ form.1))
  where
    by : (entry : Entry) → HasEntryForm line entry → text ≡ entry_text entry → ⊥
    by (Why n path) form same = bad (subst IsUtf8 (sym same) (words_utf8 (Why n path) tt form.0))
    by (ValueText rest) form same = plain rest same
    by (Reach w child) form same = bad (subst IsUtf8 (sym same) (words_utf8 (Reach w child) tt form.0))
    by (Uses w) form same = bad (subst IsUtf8 (sym same) (words_utf8 (Uses w) tt form.0))
