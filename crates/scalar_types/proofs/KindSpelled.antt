-- What a kind's values spell: the same as the plain values of its word, or of its fields.
use Rattle.std.proofs.Common.{◌≡◌, ◌↔◌, ℕ, List, Result, Ok, Err, IfOk, sym, refl, subst}
use Rattle.bag_model.specs.Scalars as model
use Rattle.bag_model.specs.Scalars.{Word, SpellingForm, spelling_form_of, IsOfForm, ArePlainsOf, IsScalarOf, plain_spelling, packed_spelling, spelling}
use Rattle.bag_model.specs.Typed.{IsSpelling}
use Rattle.scalar_types.specs.declared.scalars.Scalar.{Scalar}
use Rattle.scalar_types.specs.declared.scalars.Scalar.TheVariants.{Packed as PackedScalar}
use Rattle.scalar_types.specs.declared.codec.TakeFault.{TakeFault}
use Rattle.scalar_types.specs.Codec.{Spells, IsSpelled}
use Rattle.scalar_types.specs.Scalars.{IsPlain, plain_of, value_of}
use Rattle.scalar_types.specs.KindCodec.{scalar_of, value_back}

-- The value is spelled so as one of the plain kind.
abbrev pub SpellsKind : model.ScalarKind → List ℕ → Scalar → Type 0
SpellsKind kind bytes = Spells (λ v. IsScalarOf kind (value_of v)) (λ v. spelling kind (value_of v)) bytes

abbrev pub KindSpelled : model.ScalarKind → List ℕ → Type 0
KindSpelled kind bytes = IsSpelled (λ v. IsScalarOf kind (value_of v)) (λ v. spelling kind (value_of v)) bytes

plain_value : (v : Scalar) → IsPlain v → value_of v ≡ model.ScalarValue.One (plain_of v)
plain_value (PackedScalar values) h = absurd h
plain_value v h = refl

-- some plain value is that of a value
with_scalar : (kind : model.ScalarKind) (bytes : List ℕ) (x : model.ScalarValue) → Spells (IsScalarOf kind) (spelling kind) bytes x → KindSpelled kind bytes
with_scalar kind bytes x s =
    let back : Spells (IsScalarOf kind) (spelling kind) bytes (value_of (scalar_of x)) = subst (Spells (IsScalarOf kind) (spelling kind) bytes) (sym (value_back x)) s in
    (scalar_of x, record { fit = back.fit; same = back.same })

-- So is what the kind spells.
pub spelling_told : (kind : model.ScalarKind) (bytes : List ℕ) → KindSpelled kind bytes ↔ IsSpelling kind bytes
spelling_told kind bytes = (
  λ s. (value_of s.0, s.1.fit, sym s.1.same),
  λ (x, fits, is). with_scalar kind bytes x record { fit = fits; same = sym is },
)

-- ---- a word

as_word : (word : Word) (bytes : List ℕ) (x : model.ScalarValue) → Spells (IsScalarOf (model.ScalarKind.One word)) (spelling (model.ScalarKind.One word)) bytes x
    → IsSpelled (IsOfForm (spelling_form_of word)) (plain_spelling (spelling_form_of word)) bytes
as_word word bytes (model.ScalarValue.One v) s = (v, record { fit = s.fit; same = s.same })
as_word word bytes (model.ScalarValue.Packed vs) s = absurd s.fit

word_alone : (word : Word) (bytes : List ℕ) → IsSpelled (IsOfForm (spelling_form_of word)) (plain_spelling (spelling_form_of word)) bytes ↔ KindSpelled (model.ScalarKind.One word) bytes
word_alone word bytes = (
  λ s. with_scalar (model.ScalarKind.One word) bytes (model.ScalarValue.One s.0) record { fit = s.1.fit; same = s.1.same },
  λ s. as_word word bytes (value_of s.0) record { fit = s.1.fit; same = s.1.same },
)

pub word_spelled : (word : Word) (f : SpellingForm) → f ≡ spelling_form_of word → (bytes : List ℕ)
    → IsSpelled (IsOfForm f) (plain_spelling f) bytes ↔ KindSpelled (model.ScalarKind.One word) bytes
word_spelled word f e bytes =
    subst (λ g. IsSpelled (IsOfForm g) (plain_spelling g) bytes ↔ KindSpelled (model.ScalarKind.One word) bytes) (sym e) (word_alone word bytes)

word_spells : (word : Word) (f : SpellingForm) → f ≡ spelling_form_of word → (bytes : List ℕ) (v : Scalar) → IsPlain v
    → Spells (IsOfForm f) (plain_spelling f) bytes (plain_of v) → SpellsKind (model.ScalarKind.One word) bytes v
word_spells word f e bytes v p s =
    let formed : Spells (IsOfForm (spelling_form_of word)) (plain_spelling (spelling_form_of word)) bytes (plain_of v) = subst (λ g. Spells (IsOfForm g) (plain_spelling g) bytes (plain_of v)) e s in
    let alone : Spells (IsScalarOf (model.ScalarKind.One word)) (spelling (model.ScalarKind.One word)) bytes (model.ScalarValue.One (plain_of v)) = record { fit = formed.fit; same = formed.same } in
    let valued : Spells (IsScalarOf (model.ScalarKind.One word)) (spelling (model.ScalarKind.One word)) bytes (value_of v) =
    subst (Spells (IsScalarOf (model.ScalarKind.One word)) (spelling (model.ScalarKind.One word)) bytes) (sym (plain_value v p)) alone in
    record { fit = valued.fit; same = valued.same }

pub word_taken : (word : Word) (f : SpellingForm) → f ≡ spelling_form_of word → (bytes : List ℕ) (r : Result Scalar TakeFault)
    → IfOk r IsPlain → IfOk r (λ v. Spells (IsOfForm f) (plain_spelling f) bytes (plain_of v)) → IfOk r (SpellsKind (model.ScalarKind.One word) bytes)
word_taken word f e bytes (Ok v) p s = word_spells word f e bytes v p s
word_taken word f e bytes (Err fault) p s = tt

-- ---- a struct

as_struct : (words : List Word) (bytes : List ℕ) (x : model.ScalarValue) → Spells (IsScalarOf (model.ScalarKind.Packed words)) (spelling (model.ScalarKind.Packed words)) bytes x
    → IsSpelled (ArePlainsOf words) (packed_spelling words) bytes
as_struct words bytes (model.ScalarValue.One v) s = absurd s.fit
as_struct words bytes (model.ScalarValue.Packed vs) s = (vs, record { fit = s.fit; same = s.same })

pub struct_spelled : (words : List Word) (bytes : List ℕ) → IsSpelled (ArePlainsOf words) (packed_spelling words) bytes ↔ KindSpelled (model.ScalarKind.Packed words) bytes
struct_spelled words bytes = (
  λ s. with_scalar (model.ScalarKind.Packed words) bytes (model.ScalarValue.Packed s.0) record { fit = s.1.fit; same = s.1.same },
  λ s. as_struct words bytes (value_of s.0) record { fit = s.1.fit; same = s.1.same },
)
