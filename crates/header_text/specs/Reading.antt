-- What a part of a header's value carries.
use Rattle.std.specs.Prelude.{◌≡◌, ◌≢◌, ℕ, List, [], ◌∷◌, ◌++◌, length, Option, None, Some}
use Rattle.base64.specs.GeneralPurpose.{IsBytes}
use Rattle.context_model.specs.Atoms.{Atom}
use Rattle.context_model.specs.ContextFault.{IsContextOf}
use Rattle.header_text.specs.Texts.{header_text, letters}

-- The part is the text of the bytes of this context, in either form.
abbrev pub Carries : List ℕ → List Atom → Type 0
Carries part list =
    (bytes : List ℕ) × IsBytes bytes × IsContextOf list bytes × (part ≡ header_text bytes)

-- What a part is read as: the context that it carries, or nothing where it carries none.
abbrev pub IsReadFrom : List ℕ → Option (List Atom) → Type 0
IsReadFrom part (Some list) = Carries part list
IsReadFrom part None = (list : List Atom) → Carries part list → ⊥

-- The context of one marker: it says that all may be missing.
abbrev pub lost_list : List Atom
lost_list = [] ∷ []

-- The context that counts for a part: what is read of it, or the lost one.
abbrev pub counted_context : Option (List Atom) → List Atom
counted_context (Some list) = list
counted_context None = lost_list

-- ---- steps of the reading

-- The part is these letters, a dot and six more; or there is no such dot.
abbrev pub IsCutAtCheck : List ℕ → Option (List ℕ × List ℕ) → Type 0
IsCutAtCheck part (Some (front, check)) = (length check ≡ 6) × (part ≡ front ++ 46 ∷ check)
IsCutAtCheck part None =
    (front check : List ℕ) → length check ≡ 6 → part ≢ front ++ 46 ∷ check

-- The text is the letters of these bytes, or of none.
abbrev pub AreLettersOf : List ℕ → Option (List ℕ) → Type 0
AreLettersOf text (Some bytes) = IsBytes bytes × (text ≡ letters bytes)
AreLettersOf text None = (bytes : List ℕ) → IsBytes bytes → text ≢ letters bytes

-- The part is the text of these bytes, or of none.
abbrev pub IsCarriedBy : List ℕ → Option (List ℕ) → Type 0
IsCarriedBy part (Some bytes) = IsBytes bytes × (part ≡ header_text bytes)
IsCarriedBy part None = (bytes : List ℕ) → IsBytes bytes → part ≢ header_text bytes
