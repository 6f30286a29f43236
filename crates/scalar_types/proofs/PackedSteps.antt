-- The walks over the fields of a struct, in terms of the fields that are left.
use Rattle.std.proofs.lemmas.Bool.Decides.{nat_tests}
use Rattle.std.proofs.Common.{◌≡◌, ◌↔◌, ℕ, Bool, IsTrue, ◌==◌, List, [], ◌∷◌, ◌++◌, map, length, sym, refl, ap, ◌∙◌, subst, append_assoc, arith}
use Rattle.bag_model.specs.Scalars.{Word, SpellingForm, Plain, spelling_form_of, IsOfForm, ArePlainsOf, field_spelling, packed_spelling}
use Rattle.bag_model.proofs.Codes.{code_rest}
use Rattle.bag_model.proofs.SpellingOrder.{field_code}
use Rattle.scalar_types.specs.declared.scalars.Scalar.{Scalar}
use Rattle.scalar_types.specs.Scalars.{plain_of}
use Rattle.scalar_types.specs.Codec.{Spells, IsSpelled}
use Rattle.scalar_types.specs.Fronts.{Begins}

-- The values are of the words.
abbrev pub Fit : List Word → List Scalar → Type 0
Fit words values = ArePlainsOf words (map plain_of values)

-- The fields of values of these words.
abbrev pub fields : List Word → List Plain → List ℕ
fields words values = packed_spelling words values

-- The bytes are the fields of these values.
abbrev pub SpellsFields : List Word → List ℕ → List Plain → Type 0
SpellsFields words bytes = Spells (ArePlainsOf words) (fields words) bytes

-- The bytes are the fields of some values.
abbrev pub FieldsSpelled : List Word → List ℕ → Type 0
FieldsSpelled words bytes = IsSpelled (ArePlainsOf words) (fields words) bytes

-- one value for each word
pub fits-length : (words : List Word) (vs : List Plain) → ArePlainsOf words vs → length words ≡ length vs
fits-length [] [] h = refl
fits-length (word ∷ words) (v ∷ vs) h = let more : length words ≡ length vs = fits-length words vs h.1 in omega arith
fits-length words vs h = absurd h

-- The first field of some bytes, by the word's form.
abbrev pub FirstField : Word → List ℕ → Plain → List ℕ → Type 0
FirstField word rest v after = Begins (IsOfForm (spelling_form_of word)) (field_spelling (spelling_form_of word)) rest v after

pub first_field : (word : Word) (f : SpellingForm) → f ≡ spelling_form_of word → (rest : List ℕ) (v : Plain) (after : List ℕ)
    → Begins (IsOfForm f) (field_spelling f) rest v after → FirstField word rest v after
first_field word f e rest v after b = subst (λ g. Begins (IsOfForm g) (field_spelling g) rest v after) e b

-- a first field and the fields after it
pub fields_more : (word : Word) (words : List Word) (rest after : List ℕ) (v : Plain) (vs : List Plain)
    → FirstField word rest v after → SpellsFields words after vs → SpellsFields (word ∷ words) rest (v ∷ vs)
fields_more word words rest after v vs b s = record {
  fit = (b.fit, s.fit);
  same = ap (λ l. field_spelling (spelling_form_of word) v ++ l) s.same ∙ b.same;
}

-- the fields after the first one
pub fields_less : (word : Word) (words : List Word) (rest after : List ℕ) (v : Plain)
    → FirstField word rest v after → FieldsSpelled (word ∷ words) rest → FieldsSpelled words after
fields_less word words rest after v b s = by s.0 s.1
  where
    by : (vs : List Plain) → SpellsFields (word ∷ words) rest vs → FieldsSpelled words after
    by [] s = absurd s.fit
    by (w ∷ ws) s = (
      ws,
      record {
        fit = s.fit.1;
        same = code_rest (field_code (spelling_form_of word)) w v (fields words ws) after s.fit.0 b.fit (s.same ∙ sym b.same);
      },
    )

-- a field put after others, and the fields after it
pub fields_put : (word : Word) (words : List Word) (value : Scalar) (values : List Scalar) (f : SpellingForm) → f ≡ spelling_form_of word
    → (before after all : List ℕ) → after ≡ before ++ field_spelling f (plain_of value)
    → before ++ fields (word ∷ words) (map plain_of (value ∷ values)) ≡ all → after ++ fields words (map plain_of values) ≡ all
fields_put word words value values f e before after all put so_far =
    ap (λ l. l ++ fields words (map plain_of values)) put
    ∙ append_assoc before (field_spelling f (plain_of value)) (fields words (map plain_of values))
    ∙ ap (λ g. before ++ (field_spelling g (plain_of value) ++ fields words (map plain_of values))) e
    ∙ so_far

-- no fields
pub no_fields : (rest : List ℕ) → rest ≡ [] → SpellsFields [] rest []
no_fields rest e = record { fit = tt; same = sym e }

pub only_no_fields : (rest : List ℕ) → FieldsSpelled [] rest → rest ≡ []
only_no_fields rest s = by s.0 s.1
  where
    by : (vs : List Plain) → SpellsFields [] rest vs → rest ≡ []
    by [] s = sym s.same
    by (v ∷ vs) s = absurd s.fit

-- a test of the length says whether something is left
pub is_nothing_left : (rest : List ℕ) (b : Bool) → b ≡ (length rest == 0) → IsTrue b ↔ (rest ≡ [])
is_nothing_left [] b e = (λ t. refl, λ h. subst IsTrue (sym e) refl)
is_nothing_left (x ∷ rest) b e = (λ t. absurd (grind (arith, nat_tests, e, t)), λ h. cc)
