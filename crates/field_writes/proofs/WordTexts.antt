-- What the code reads of a word.
use Rattle.std.proofs.Common.{◌≡◌, ◌⊎◌, ℕ, ◌^◌, ◌<◌, Bool, List, codes, ◌++◌, inl, inr, refl, sym, ◌∙◌, subst, ℤ, FitsSigned, Ok}
use Rattle.std.specs.Fmt.{decimal, signed_decimal}
use Rattle.std.specs.Int.{w64}
use Rattle.std.proofs.lemmas.Fmt.{decimal_injective}
use Rattle.hex.specs.Hex.{decode_of}
use Rattle.bag_model.specs.declared.words.ScalarWord.TheVariants.{Bytes}
use Rattle.bag_model.specs.Scalars as scalars
use Rattle.bag_model.specs.Scalars.{Word, Plain, Signed, Unsigned, Octets, SpellingForm, IsOfForm, IsPlainOf, spelling_form_of}
use Rattle.field_writes.specs.Literals.{HasSign, HasNoSign}
use Rattle.field_writes.proofs.Apart.{IsWordText, signed_fits, signed_one, unsigned_fits}

-- A value of a word with a sign is a number with a sign.
signed_only : (form : SpellingForm) (wide : Bool) (v : Plain) → (form ≡ scalars.SpellingForm.SignedVarint wide) ⊎ (form ≡ scalars.SpellingForm.SignedFixedBytes wide) → IsOfForm form v
    → (z : ℤ) × (v ≡ Signed z)
signed_only form wide v is p =
    elim is [ inl e ↦ varint wide v (subst (λ f. IsOfForm f v) e p) | inr e ↦ fixed wide v (subst (λ f. IsOfForm f v) e p) ]
  where
    varint : (wide : Bool) (v : Plain) → IsOfForm (scalars.SpellingForm.SignedVarint wide) v → (z : ℤ) × (v ≡ Signed z)
    varint wide (Signed z) p = (z, refl)
    varint wide _ p = absurd p

    fixed : (wide : Bool) (v : Plain) → IsOfForm (scalars.SpellingForm.SignedFixedBytes wide) v → (z : ℤ) × (v ≡ Signed z)
    fixed wide (Signed z) p = (z, refl)
    fixed wide _ p = absurd p

unsigned_only : (form : SpellingForm) (wide : Bool) (v : Plain) → (form ≡ scalars.SpellingForm.UnsignedVarint wide) ⊎ (form ≡ scalars.SpellingForm.FixedBytes wide) → IsOfForm form v
    → (n : ℕ) × (v ≡ Unsigned n)
unsigned_only form wide v is p =
    elim is [ inl e ↦ varint wide v (subst (λ f. IsOfForm f v) e p) | inr e ↦ fixed wide v (subst (λ f. IsOfForm f v) e p) ]
  where
    varint : (wide : Bool) (v : Plain) → IsOfForm (scalars.SpellingForm.UnsignedVarint wide) v → (n : ℕ) × (v ≡ Unsigned n)
    varint wide (Unsigned n) p = (n, refl)
    varint wide _ p = absurd p

    fixed : (wide : Bool) (v : Plain) → IsOfForm (scalars.SpellingForm.FixedBytes wide) v → (n : ℕ) × (v ≡ Unsigned n)
    fixed wide (Unsigned n) p = (n, refl)
    fixed wide _ p = absurd p

-- Where the number of the text doesn't fit the word, no value does.
pub no_signed : (word : Word) (text : List ℕ) (z : ℤ) → HasSign word → text ≡ signed_decimal z → FitsSigned w64 z → (IsPlainOf word (Signed z) → ⊥)
    → (a : Plain) → IsWordText word a text → ⊥
no_signed word text z sign e fits none a p =
    let only = signed_only (spelling_form_of word) sign.0 a sign.1 p.0 in
    let q = subst (λ (v : Plain). IsWordText word v text) only.1 p in
    let same : only.0 ≡ z = signed_one only.0 z (signed_fits (spelling_form_of word) only.0 q.0) fits (sym q.1 ∙ e) in
    none (subst (λ (y : ℤ). IsPlainOf word (Signed y)) same q.0)

pub no_unsigned_of : (word : Word) (text : List ℕ) (n : ℕ) → HasNoSign word → text ≡ decimal n → n < 2 ^ 64 → (IsPlainOf word (Unsigned n) → ⊥)
    → (a : Plain) → IsWordText word a text → ⊥
no_unsigned_of word text n sign e small none a p =
    let only = unsigned_only (spelling_form_of word) sign.0 a sign.1 p.0 in
    let q = subst (λ (v : Plain). IsWordText word v text) only.1 p in
    let same : only.0 ≡ n = decimal_injective only.0 n (unsigned_fits (spelling_form_of word) only.0 q.0) small (sym q.1 ∙ e) in
    none (subst (λ (m : ℕ). IsPlainOf word (Unsigned m)) same q.0)

-- A text that says no bytes is no literal of a byte string.
pub no_octets : (text : List ℕ) → ((bytes : List ℕ) → (digits : List ℕ) × (text ≡ codes "0x" ++ digits) × (decode_of digits ≡ Ok bytes) → ⊥)
    → (a : Plain) → IsWordText Bytes a text → ⊥
no_octets text none (Octets bytes) p = none bytes p.1
no_octets text none _ p = absurd p.0
