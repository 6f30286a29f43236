-- Wider kinds: their values and spellings, and that a kind is wider than another or not.
use Rattle.std.proofs.Common.{◌≡◌, inl, inr, ◌↔◌, ℕ, true, false, List, [], ◌∷◌, ◌++◌, nat_cmp, refl, sym, ap, ap₂, ◌∙◌, subst}
use Rattle.std.specs.List.{AllByRecursion}
use Rattle.std.specs.Ordering.{on}
use Rattle.std.specs.FinMap.{nat_cmp-IsAntisymmetric}
use Rattle.std.proofs.lemmas.Cmp.{on_total, nat_cmp_total}
use Rattle.context_model.specs.Orders.{IsIn}
use Rattle.context_model.proofs.GreedyElements.{All-at}
use Rattle.bag_model.specs.declared.words.ScalarWord.TheVariants.{Int32, Int64, Sint32, Sint64, Uint32}
use Rattle.bag_model.specs.Scalars.{Word, SpellingForm, UnsignedVarint, SignedVarint, spelling_form_of, ScalarKind, Plain, Signed, Unsigned, ScalarValue, IsOfForm, ArePlainsOf, IsScalarOf, plain_spelling, field_spelling, packed_spelling, spelling}
use Rattle.bag_model.specs.ShapeCode.{word_number, word_back, word_undone}
use Rattle.bag_model.specs.Typed.{IsSpelling}
use Rattle.bag_model.proofs.NumberCodes.{unsigned_wide, signed_wide}
use Rattle.bag_model.proofs.PairLaws.{is_in_or_not}
use Rattle.bag_model.proofs.SpellingOrder.{spelling-one}
use Rattle.bag_model.proofs.SpellingTests.{Decided}
use Rattle.def_evolve.specs.Widening.{wider_words, AreWider, Widens, WiderKindsSpellAlike}

-- ---- words

-- Each value of the first form is one of the second, and is spelled alike, by itself and as a field of a struct.
abbrev StandsFor : SpellingForm → SpellingForm → Type 0
StandsFor form wider =
    (v : Plain) → IsOfForm form v
    → IsOfForm wider v × (plain_spelling wider v ≡ plain_spelling form v) × (field_spelling wider v ≡ field_spelling form v)

itself : (form : SpellingForm) → StandsFor form form
itself form v h = (h, refl, refl)

unsigned_up : StandsFor (UnsignedVarint false) (UnsignedVarint true)
unsigned_up (Unsigned n) h = (unsigned_wide false n h, refl, refl)
unsigned_up v h = absurd (search h)

signed_up : StandsFor (SignedVarint false) (SignedVarint true)
signed_up (Signed z) h = (signed_wide false z h, refl, refl)
signed_up v h = absurd (search h)

wider_stand : (word : Word) → AllByRecursion (λ wider. StandsFor (spelling_form_of word) (spelling_form_of wider)) (wider_words word)
wider_stand Int32 = (itself (SignedVarint false), (itself (SignedVarint false), (signed_up, (signed_up, tt))))
wider_stand Sint32 = (itself (SignedVarint false), (itself (SignedVarint false), (signed_up, (signed_up, tt))))
wider_stand Int64 = (itself (SignedVarint true), (itself (SignedVarint true), tt))
wider_stand Sint64 = (itself (SignedVarint true), (itself (SignedVarint true), tt))
wider_stand Uint32 = (itself (UnsignedVarint false), (unsigned_up, tt))
wider_stand word = (itself (spelling_form_of word), tt)

wider_word : (word wider : Word) → IsIn wider (wider_words word) → StandsFor (spelling_form_of word) (spelling_form_of wider)
wider_word word wider i = All-at (λ other. StandsFor (spelling_form_of word) (spelling_form_of other)) (wider_words word) wider (wider_stand word) i

-- ---- kinds

wider_packed : (words more : List Word) (vs : List Plain) → AreWider words more → ArePlainsOf words vs
    → ArePlainsOf more vs × (packed_spelling more vs ≡ packed_spelling words vs)
wider_packed [] [] [] w p = (tt, refl)
wider_packed (word ∷ words) (wider ∷ more) (v ∷ vs) w p =
    let first = wider_word word wider w.0 v p.0 in
    let rest = wider_packed words more vs w.1 p.1 in
    ((first.0, rest.0), ap₂ (λ a b. a ++ b) first.2 rest.1)
wider_packed words more vs w p = absurd (search (w, p))

wider_kind : (kind wider : ScalarKind) (v : ScalarValue) → Widens kind wider → IsScalarOf kind v → IsScalarOf wider v × (spelling wider v ≡ spelling kind v)
wider_kind (ScalarKind.One word) (ScalarKind.One wider) (ScalarValue.One v) w h = let s = wider_word word wider w v h in (s.0, s.1)
wider_kind (ScalarKind.Packed words) (ScalarKind.Packed more) (ScalarValue.Packed vs) w h = wider_packed words more vs w h
wider_kind kind wider v w h = absurd (search (w, h))

pub wider_kinds_spell_alike : WiderKindsSpellAlike
wider_kinds_spell_alike = record {
  values = λ kind wider v w h. (wider_kind kind wider v w h).0;
  spellings = λ kind wider v w h. (wider_kind kind wider v w h).1;
}

-- What spells a value of a kind spells one of a wider kind.
pub wider_spelling : (kind wider : ScalarKind) (bytes : List ℕ) → Widens kind wider → IsSpelling kind bytes → IsSpelling wider bytes
wider_spelling kind wider bytes w s = let up = wider_kind kind wider s.0 w s.1 in (s.0, up.0, s.2 ∙ sym up.1)

-- The values of a kind that are spelled in a set of bytes are those of the wider kind, where all that is there is spelled as the kind says.
pub same_values : (kind wider : ScalarKind) (S : List ℕ → Type 0) → Widens kind wider → ((bytes : List ℕ) → S bytes → IsSpelling kind bytes) → (v : ScalarValue)
    → (IsScalarOf kind v × S (spelling kind v)) ↔ (IsScalarOf wider v × S (spelling wider v))
same_values kind wider S w typed v = (
  (λ h. let up = wider_kind kind wider v w h.0 in (up.0, subst S (sym up.1) h.1)),
  λ h. down h (typed (spelling wider v) h.1),
)
  where
    down : IsScalarOf wider v × S (spelling wider v) → IsSpelling kind (spelling wider v) → IsScalarOf kind v × S (spelling kind v)
    down h s =
        let up = wider_kind kind wider s.0 w s.1 in
        let one : v ≡ s.0 = spelling-one wider v s.0 h.0 up.0 (s.2 ∙ sym up.1) in
        (subst (IsScalarOf kind) (sym one) s.1, subst S (s.2 ∙ ap (spelling kind) (sym one)) h.1)

-- ---- a kind is wider or not

word_or_not : (word : Word) (words : List Word) → Decided (IsIn word words)
word_or_not word words =
    is_in_or_not (on word_number nat_cmp) (on_total word_number nat_cmp_total)
    (λ a b e. sym (word_undone a) ∙ ap word_back (nat_cmp-IsAntisymmetric (word_number a) (word_number b) e) ∙ word_undone b) word words

both_or_not : {A B : Type 0} → Decided A → Decided B → Decided (A × B)
both_or_not (inl a) (inl b) = inl (a, b)
both_or_not (inl a) (inr none) = inr (λ s. none s.1)
both_or_not (inr none) b = inr (λ s. none s.0)

wider_or_not : (words more : List Word) → Decided (AreWider words more)
wider_or_not [] [] = inl tt
wider_or_not [] (wider ∷ more) = inr (λ none. none)
wider_or_not (word ∷ words) [] = inr (λ none. none)
wider_or_not (word ∷ words) (wider ∷ more) = both_or_not (word_or_not wider (wider_words word)) (wider_or_not words more)

pub widens_or_not : (kind wider : ScalarKind) → Decided (Widens kind wider)
widens_or_not (ScalarKind.One word) (ScalarKind.One wider) = word_or_not wider (wider_words word)
widens_or_not (ScalarKind.One word) (ScalarKind.Packed more) = inr (λ none. none)
widens_or_not (ScalarKind.Packed words) (ScalarKind.One wider) = inr (λ none. none)
widens_or_not (ScalarKind.Packed words) (ScalarKind.Packed more) = wider_or_not words more

-- What isn't found not to widen widens.
pub told_wider : (kind wider : ScalarKind) → ((Widens kind wider → ⊥) → ⊥) → Widens kind wider
told_wider kind wider f = by (widens_or_not kind wider)
  where
    by : Decided (Widens kind wider) → Widens kind wider
    by (inl w) = w
    by (inr none) = absurd (f none)
