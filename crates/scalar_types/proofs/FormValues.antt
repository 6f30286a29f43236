-- What is spelled in a form, and what begins with it: the same as with the values that the form's codec has.
use Rattle.std.proofs.Common.{◌≡◌, ◌↔◌, ℕ, Bool, true, false, List, Option, Some, None, IfSome, Bor, sym, ◌∙◌}
use Rattle.std.specs.Prelude.{IsUtf8}
use Rattle.context_model.specs.Varints.{unsigned_varint, signed_varint}
use Rattle.bag_model.specs.Scalars.{Plain, Truth, Signed, Unsigned, Text, Octets, TruthByte, UnsignedVarint, SignedVarint, FixedBytes, SignedFixedBytes, TextBytes, RawBytes, IsUnsigned, IsSigned, IsOfForm, truth_bytes, fixed_bytes, signed_fixed_bytes, terminated, plain_spelling, field_spelling}
use Rattle.bag_model.proofs.Codes.{code_apart}
use Rattle.bag_model.proofs.NumberCodes.{ended_code}
use Rattle.scalar_types.specs.Codec.{Spells, IsSpelled, AlwaysFits}
use Rattle.scalar_types.specs.Fronts.{Begins, BeginsWithSome}
use Rattle.scalar_types.specs.Escapes.{FitsOpen}

-- ---- alone

truth_value : (bytes : List ℕ) (v : Plain) → Spells (IsOfForm TruthByte) (plain_spelling TruthByte) bytes v → IsSpelled {V = Bool} AlwaysFits truth_bytes bytes
truth_value bytes (Truth v) s = (v, record { fit = s.fit; same = s.same })
truth_value bytes v s = absurd s.fit

pub truth_spelled : (bytes : List ℕ) → IsSpelled {V = Bool} AlwaysFits truth_bytes bytes ↔ IsSpelled (IsOfForm TruthByte) (plain_spelling TruthByte) bytes
truth_spelled bytes = (λ s. (Truth s.0, record { fit = s.1.fit; same = s.1.same }), λ s. truth_value bytes s.0 s.1)

unsigned_value : (wide : Bool) (bytes : List ℕ) (v : Plain) → Spells (IsOfForm (UnsignedVarint wide)) (plain_spelling (UnsignedVarint wide)) bytes v → IsSpelled (IsUnsigned wide) unsigned_varint bytes
unsigned_value wide bytes (Unsigned v) s = (v, record { fit = s.fit; same = s.same })
unsigned_value wide bytes v s = absurd s.fit

pub unsigned_spelled : (wide : Bool) (bytes : List ℕ) → IsSpelled (IsUnsigned wide) unsigned_varint bytes ↔ IsSpelled (IsOfForm (UnsignedVarint wide)) (plain_spelling (UnsignedVarint wide)) bytes
unsigned_spelled wide bytes = (λ s. (Unsigned s.0, record { fit = s.1.fit; same = s.1.same }), λ s. unsigned_value wide bytes s.0 s.1)

signed_value : (wide : Bool) (bytes : List ℕ) (v : Plain) → Spells (IsOfForm (SignedVarint wide)) (plain_spelling (SignedVarint wide)) bytes v → IsSpelled (IsSigned wide) signed_varint bytes
signed_value wide bytes (Signed v) s = (v, record { fit = s.fit; same = s.same })
signed_value wide bytes v s = absurd s.fit

pub signed_spelled : (wide : Bool) (bytes : List ℕ) → IsSpelled (IsSigned wide) signed_varint bytes ↔ IsSpelled (IsOfForm (SignedVarint wide)) (plain_spelling (SignedVarint wide)) bytes
signed_spelled wide bytes = (λ s. (Signed s.0, record { fit = s.1.fit; same = s.1.same }), λ s. signed_value wide bytes s.0 s.1)

fixed_value : (wide : Bool) (bytes : List ℕ) (v : Plain) → Spells (IsOfForm (FixedBytes wide)) (plain_spelling (FixedBytes wide)) bytes v → IsSpelled (IsUnsigned wide) (fixed_bytes wide) bytes
fixed_value wide bytes (Unsigned v) s = (v, record { fit = s.fit; same = s.same })
fixed_value wide bytes v s = absurd s.fit

pub fixed_spelled : (wide : Bool) (bytes : List ℕ) → IsSpelled (IsUnsigned wide) (fixed_bytes wide) bytes ↔ IsSpelled (IsOfForm (FixedBytes wide)) (plain_spelling (FixedBytes wide)) bytes
fixed_spelled wide bytes = (λ s. (Unsigned s.0, record { fit = s.1.fit; same = s.1.same }), λ s. fixed_value wide bytes s.0 s.1)

signed_fixed_value : (wide : Bool) (bytes : List ℕ) (v : Plain) → Spells (IsOfForm (SignedFixedBytes wide)) (plain_spelling (SignedFixedBytes wide)) bytes v → IsSpelled (IsSigned wide) (signed_fixed_bytes wide) bytes
signed_fixed_value wide bytes (Signed v) s = (v, record { fit = s.fit; same = s.same })
signed_fixed_value wide bytes v s = absurd s.fit

pub signed_fixed_spelled : (wide : Bool) (bytes : List ℕ) → IsSpelled (IsSigned wide) (signed_fixed_bytes wide) bytes ↔ IsSpelled (IsOfForm (SignedFixedBytes wide)) (plain_spelling (SignedFixedBytes wide)) bytes
signed_fixed_spelled wide bytes = (λ s. (Signed s.0, record { fit = s.1.fit; same = s.1.same }), λ s. signed_fixed_value wide bytes s.0 s.1)

text_value : (bytes : List ℕ) (v : Plain) → Spells (IsOfForm TextBytes) (plain_spelling TextBytes) bytes v → IsSpelled {V = List ℕ} IsUtf8 (λ v. v) bytes
text_value bytes (Text v) s = (v, record { fit = s.fit; same = s.same })
text_value bytes v s = absurd s.fit

pub text_spelled : (bytes : List ℕ) → IsSpelled {V = List ℕ} IsUtf8 (λ v. v) bytes ↔ IsSpelled (IsOfForm TextBytes) (plain_spelling TextBytes) bytes
text_spelled bytes = (λ s. (Text s.0, record { fit = s.1.fit; same = s.1.same }), λ s. text_value bytes s.0 s.1)

raw_value : (bytes : List ℕ) (v : Plain) → Spells (IsOfForm RawBytes) (plain_spelling RawBytes) bytes v → IsSpelled {V = List ℕ} AlwaysFits (λ v. v) bytes
raw_value bytes (Octets v) s = (v, record { fit = s.fit; same = s.same })
raw_value bytes v s = absurd s.fit

pub raw_spelled : (bytes : List ℕ) → IsSpelled {V = List ℕ} AlwaysFits (λ v. v) bytes ↔ IsSpelled (IsOfForm RawBytes) (plain_spelling RawBytes) bytes
raw_spelled bytes = (λ s. (Octets s.0, record { fit = s.1.fit; same = s.1.same }), λ s. raw_value bytes s.0 s.1)

-- ---- as the first field of some bytes

text_field : (bytes : List ℕ) (v : Plain) (rest : List ℕ) → Begins (IsOfForm TextBytes) (field_spelling TextBytes) bytes v rest → BeginsWithSome (FitsOpen true) terminated bytes
text_field bytes (Text v) rest b = (v, (rest, record { fit = b.fit; same = b.same }))
text_field bytes v rest b = absurd b.fit

-- bytes that begin with a field which is no text begin with no text
pub no_text_begins : (bytes v rest : List ℕ) → Begins AlwaysFits terminated bytes v rest → (IsSpelled {V = List ℕ} IsUtf8 (λ w. w) v → ⊥)
    → BeginsWithSome (IsOfForm TextBytes) (field_spelling TextBytes) bytes → ⊥
no_text_begins bytes v rest b none some =
    let text : BeginsWithSome (FitsOpen true) terminated bytes = text_field bytes some.0 some.1.0 some.1.1 in
    let one : text.0 ≡ v = code_apart ended_code text.0 v text.1.0 rest tt tt (text.1.1.same ∙ sym b.same) in
    none (text.0, record { fit = text.1.1.fit; same = one })

pub text_skipped : (bytes : List ℕ) (r : Option (Bor (List ℕ))) → IfSome r (λ rest. (v : List ℕ) × Begins (FitsOpen true) terminated bytes v rest.now)
    → IfSome r (λ rest. (v : Plain) × Begins (IsOfForm TextBytes) (field_spelling TextBytes) bytes v rest.now)
text_skipped bytes None h = tt
text_skipped bytes (Some rest) h = (Text h.0, record { fit = h.1.fit; same = h.1.same })

pub raw_skipped : (bytes : List ℕ) (r : Option (Bor (List ℕ))) → IfSome r (λ rest. (v : List ℕ) × Begins (FitsOpen false) terminated bytes v rest.now)
    → IfSome r (λ rest. (v : Plain) × Begins (IsOfForm RawBytes) (field_spelling RawBytes) bytes v rest.now)
raw_skipped bytes None h = tt
raw_skipped bytes (Some rest) h = (Octets h.0, record { fit = h.1.fit; same = h.1.same })
