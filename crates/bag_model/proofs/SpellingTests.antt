-- Some bytes spell a value of a kind or not.
use Rattle.std.proofs.Common.{◌≡◌, ◌⊎◌, inl, inr, ℕ, zero, suc, ℤ, pos, negsuc, ◌^◌, ◌<◌, Bool, true, false, List, [], ◌∷◌, ◌++◌, IsUtf8, eqb, refl, sym, ap, ◌∙◌, subst, append-nil, arith, eqb-true, eq-eqb}
use Rattle.std.specs.Str.{is_utf8}
use Rattle.std.proofs.lemmas.Str.{IsUtf8-from_is_utf8, is_utf8-from_IsUtf8}
use Rattle.context_model.specs.Varints.{unsigned_varint, signed_varint}
use Rattle.bag_model.specs.Scalars.{Word, SpellingForm, TruthByte, UnsignedVarint, SignedVarint, FixedBytes, SignedFixedBytes, TextBytes, RawBytes, spelling_form_of, ScalarKind, Plain, Truth, Signed, Unsigned, Text, Octets, ScalarValue, IsUnsigned, IsSigned, IsOfForm, ArePlainsOf, IsScalarOf, fixed_bytes, signed_fixed_bytes, terminated, plain_spelling, field_spelling, packed_spelling, spelling}
use Rattle.bag_model.specs.Typed.{IsSpelling, IsCount}
use Rattle.bag_model.proofs.Codes.{code_apart, code_rest}
use Rattle.bag_model.proofs.NumberCodes.{ended_code}
use Rattle.bag_model.proofs.SpellingOrder.{field_code}

-- It holds, or it doesn't.
abbrev pub Decided : Type 0 → Type 0
Decided A = A ⊎ (A → ⊥)

-- ---- numbers below a bound

module _ (P : ℕ → Type 0) (test : (n : ℕ) → Decided (P n)) where
  -- P holds of some number below the bound, or of none.
  some_below : (bound : ℕ) → Decided ((n : ℕ) × (n < bound) × P n)
  some_below zero = inr (λ s. omega (arith, s.1))
  some_below (suc bound) = by (test bound) (some_below bound)
    where
      last_or_less : (n : ℕ) → n < suc bound → (n ≡ bound) ⊎ (n < bound)
      last_or_less n l = grind arith

      by : Decided (P bound) → Decided ((n : ℕ) × (n < bound) × P n) → Decided ((n : ℕ) × (n < suc bound) × P n)
      by (inl p) rest = inl (bound, omega arith, p)
      by (inr no_one) (inl s) = inl (s.0, omega (arith, s.1), s.2)
      by (inr no_one) (inr none) = inr (λ s. elim (last_or_less s.0 s.1) [ inl e ↦ no_one (subst P e s.2) | inr l ↦ none (s.0, l, s.2) ])

-- ---- prefixes

-- the code is at the beginning of the bytes
abbrev Begins : List ℕ → List ℕ → Type 0
Begins code bytes = (rest : List ℕ) × (bytes ≡ code ++ rest)

begins : (code bytes : List ℕ) → Decided (Begins code bytes)
begins [] bytes = inl (bytes, refl)
begins (c ∷ code) [] = inr (λ s. cc s.1)
begins (c ∷ code) (b ∷ bytes) = by (eqb c b) refl (begins code bytes)
  where
    by : (t : Bool) → eqb c b ≡ t → Decided (Begins code bytes) → Decided (Begins (c ∷ code) (b ∷ bytes))
    by true e (inl s) = inl (s.0, λ i. sym (eqb-true c b e) i ∷ s.1 i)
    by true e (inr none) = inr (λ s. none (s.0, let f : b ∷ bytes ≡ c ∷ code ++ s.0 = s.1 in cc))
    by false e rest = inr (λ s. let f : b ∷ bytes ≡ c ∷ code ++ s.0 = s.1 in let same : c ≡ b = cc in let clash : true ≡ false = sym (eq-eqb c b same) ∙ e in cc)

-- a value with such a code, and what follows
abbrev Fronted : {V : Type 0} → (V → Type 0) → (V → List ℕ) → List ℕ → Type 0
Fronted {V} fits code bytes = (v : V) × fits v × Begins (code v) bytes

-- a number with its sign, and without it, is below this
abbrev half : Bool → ℕ
half false = 2 ^ 31
half true = 2 ^ 63

abbrev whole : Bool → ℕ
whole false = 2 ^ 32
whole true = 2 ^ 64

unsigned_small : (wide : Bool) (n : ℕ) → IsUnsigned wide n → n < whole wide
unsigned_small false n h = h
unsigned_small true n h = h

unsigned_fits : (wide : Bool) (n : ℕ) → n < whole wide → IsUnsigned wide n
unsigned_fits false n l = l
unsigned_fits true n l = l

pos_small : (wide : Bool) (n : ℕ) → IsSigned wide (pos n) → n < half wide
pos_small false n h = h.sfits
pos_small true n h = h.sfits

negsuc_small : (wide : Bool) (n : ℕ) → IsSigned wide (negsuc n) → n < half wide
negsuc_small false n h = h.sfits
negsuc_small true n h = h.sfits

pos_fits : (wide : Bool) (n : ℕ) → n < half wide → IsSigned wide (pos n)
pos_fits false n l = record { sfits = l }
pos_fits true n l = record { sfits = l }

negsuc_fits : (wide : Bool) (n : ℕ) → n < half wide → IsSigned wide (negsuc n)
negsuc_fits false n l = record { sfits = l }
negsuc_fits true n l = record { sfits = l }

unsigned_front : (wide : Bool) (code : ℕ → List ℕ) (bytes : List ℕ) → Decided (Fronted (IsUnsigned wide) code bytes)
unsigned_front wide code bytes = by (some_below (λ n. Begins (code n) bytes) (λ n. begins (code n) bytes) (whole wide))
  where
    by : Decided ((n : ℕ) × (n < whole wide) × Begins (code n) bytes) → Decided (Fronted (IsUnsigned wide) code bytes)
    by (inl s) = inl (s.0, unsigned_fits wide s.0 s.1, s.2)
    by (inr none) = inr (λ s. none (s.0, unsigned_small wide s.0 s.1, s.2))

signed_front : (wide : Bool) (code : ℤ → List ℕ) (bytes : List ℕ) → Decided (Fronted (IsSigned wide) code bytes)
signed_front wide code bytes = by (some_below (λ n. Begins (code (pos n)) bytes) (λ n. begins (code (pos n)) bytes) (half wide)) (some_below (λ n. Begins (code (negsuc n)) bytes) (λ n. begins (code (negsuc n)) bytes) (half wide))
  where
    neither : (((n : ℕ) × (n < half wide) × Begins (code (pos n)) bytes) → ⊥) → (((n : ℕ) × (n < half wide) × Begins (code (negsuc n)) bytes) → ⊥) → (z : ℤ) → IsSigned wide z → Begins (code z) bytes → ⊥
    neither no_pos no_neg (pos n) h b = no_pos (n, pos_small wide n h, b)
    neither no_pos no_neg (negsuc n) h b = no_neg (n, negsuc_small wide n h, b)

    by : Decided ((n : ℕ) × (n < half wide) × Begins (code (pos n)) bytes) → Decided ((n : ℕ) × (n < half wide) × Begins (code (negsuc n)) bytes) → Decided (Fronted (IsSigned wide) code bytes)
    by (inl s) more = inl (pos s.0, pos_fits wide s.0 s.1, s.2)
    by (inr no_pos) (inl s) = inl (negsuc s.0, negsuc_fits wide s.0 s.1, s.2)
    by (inr no_pos) (inr no_neg) = inr (λ s. neither no_pos no_neg s.0 s.1 s.2)

-- ---- escaped bytes

abbrev Anything : List ℕ → Type 0
Anything bs = Unit {0}

not_empty : (bs rest : List ℕ) → [] ≡ terminated bs ++ rest → ⊥
not_empty [] rest e = cc
not_empty (zero ∷ bs) rest e = cc
not_empty (suc c ∷ bs) rest e = cc

not_zero : (bs rest : List ℕ) → 0 ∷ [] ≡ terminated bs ++ rest → ⊥
not_zero [] rest e = cc
not_zero (zero ∷ bs) rest e = cc
not_zero (suc c ∷ bs) rest e = cc

behind_byte : (c : ℕ) (more bs rest : List ℕ) → suc c ∷ more ≡ terminated bs ++ rest → Fronted Anything terminated more
behind_byte c more [] rest e = absurd (cc e)
behind_byte c more (zero ∷ bs) rest e = absurd (cc e)
behind_byte c more (suc d ∷ bs) rest e = let tails : more ≡ terminated bs ++ rest = cc in (bs, tt, (rest, tails))

behind_zero : (b : ℕ) (more bs rest : List ℕ) → 0 ∷ b ∷ more ≡ terminated bs ++ rest → (b ≡ 1) ⊎ ((b ≡ 255) × Fronted Anything terminated more)
behind_zero b more [] rest e = let one : b ≡ 1 = cc in inl one
behind_zero b more (zero ∷ bs) rest e = let all : b ≡ 255 = cc in let tails : more ≡ terminated bs ++ rest = cc in inr (all, (bs, tt, (rest, tails)))
behind_zero b more (suc d ∷ bs) rest e = absurd (cc e)

ended_front : (bytes : List ℕ) → Decided (Fronted Anything terminated bytes)
ended_front [] = inr (λ s. not_empty s.0 s.2.0 s.2.1)
ended_front (suc c ∷ more) = by (ended_front more)
  where
    by : Decided (Fronted Anything terminated more) → Decided (Fronted Anything terminated (suc c ∷ more))
    by (inl s) = inl (suc c ∷ s.0, tt, (s.2.0, ap (λ l. suc c ∷ l) s.2.1))
    by (inr none) = inr (λ s. none (behind_byte c more s.0 s.2.0 s.2.1))
ended_front (zero ∷ []) = inr (λ s. not_zero s.0 s.2.0 s.2.1)
ended_front (zero ∷ b ∷ more) = by (eqb b 1) refl (eqb b 255) refl (ended_front more)
  where
    apart : (n : ℕ) → eqb b n ≡ false → b ≡ n → ⊥
    apart n e same = let clash : true ≡ false = sym (eq-eqb b n same) ∙ e in cc

    by : (t : Bool) → eqb b 1 ≡ t → (u : Bool) → eqb b 255 ≡ u → Decided (Fronted Anything terminated more) → Decided (Fronted Anything terminated (0 ∷ b ∷ more))
    by true e u f rest = inl ([], tt, (more, λ i. 0 ∷ eqb-true b 1 e i ∷ more))
    by false e true f (inl s) = inl (0 ∷ s.0, tt, (s.2.0, λ i. 0 ∷ eqb-true b 255 f i ∷ s.2.1 i))
    by false e true f (inr none) = inr (λ s. elim (behind_zero b more s.0 s.2.0 s.2.1) [ inl one ↦ apart 1 e one | inr t ↦ none t.1 ])
    by false e false f rest = inr (λ s. elim (behind_zero b more s.0 s.2.0 s.2.1) [ inl one ↦ apart 1 e one | inr t ↦ apart 255 f t.0 ])

utf8_or_not : (bs : List ℕ) → Decided (IsUtf8 bs)
utf8_or_not bs = by (is_utf8 bs) refl
  where
    by : (t : Bool) → is_utf8 bs ≡ t → Decided (IsUtf8 bs)
    by true e = inl (IsUtf8-from_is_utf8 bs e)
    by false e = inr (λ u. let clash : true ≡ false = sym (is_utf8-from_IsUtf8 bs u) ∙ e in cc)

-- ---- a field of a struct

truth_front : (bytes : List ℕ) → Decided (Fronted (IsOfForm TruthByte) (field_spelling TruthByte) bytes)
truth_front bytes = by (begins (0 ∷ []) bytes) (begins (1 ∷ []) bytes)
  where
    neither : (Begins (0 ∷ []) bytes → ⊥) → (Begins (1 ∷ []) bytes → ⊥) → (v : Plain) → IsOfForm TruthByte v → Begins (field_spelling TruthByte v) bytes → ⊥
    neither no_zero no_one (Truth true) h b = no_one b
    neither no_zero no_one (Truth false) h b = no_zero b
    neither no_zero no_one v h b = absurd h

    by : Decided (Begins (0 ∷ []) bytes) → Decided (Begins (1 ∷ []) bytes) → Decided (Fronted (IsOfForm TruthByte) (field_spelling TruthByte) bytes)
    by (inl s) more = inl (Truth false, tt, s)
    by (inr no_zero) (inl s) = inl (Truth true, tt, s)
    by (inr no_zero) (inr no_one) = inr (λ s. neither no_zero no_one s.0 s.1 s.2)

-- The bytes begin with a field of this form, or with none.
field_front : (form : SpellingForm) (bytes : List ℕ) → Decided (Fronted (IsOfForm form) (field_spelling form) bytes)
field_front TruthByte bytes = truth_front bytes
field_front (UnsignedVarint wide) bytes = by (unsigned_front wide unsigned_varint bytes)
  where
    value : (v : Plain) → IsOfForm (UnsignedVarint wide) v → Begins (field_spelling (UnsignedVarint wide) v) bytes → Fronted (IsUnsigned wide) unsigned_varint bytes
    value (Unsigned n) h b = (n, h, b)
    value v h b = absurd h

    by : Decided (Fronted (IsUnsigned wide) unsigned_varint bytes) → Decided (Fronted (IsOfForm (UnsignedVarint wide)) (field_spelling (UnsignedVarint wide)) bytes)
    by (inl s) = inl (Unsigned s.0, s.1, s.2)
    by (inr none) = inr (λ s. none (value s.0 s.1 s.2))
field_front (SignedVarint wide) bytes = by (signed_front wide signed_varint bytes)
  where
    value : (v : Plain) → IsOfForm (SignedVarint wide) v → Begins (field_spelling (SignedVarint wide) v) bytes → Fronted (IsSigned wide) signed_varint bytes
    value (Signed z) h b = (z, h, b)
    value v h b = absurd h

    by : Decided (Fronted (IsSigned wide) signed_varint bytes) → Decided (Fronted (IsOfForm (SignedVarint wide)) (field_spelling (SignedVarint wide)) bytes)
    by (inl s) = inl (Signed s.0, s.1, s.2)
    by (inr none) = inr (λ s. none (value s.0 s.1 s.2))
field_front (FixedBytes wide) bytes = by (unsigned_front wide (fixed_bytes wide) bytes)
  where
    value : (v : Plain) → IsOfForm (FixedBytes wide) v → Begins (field_spelling (FixedBytes wide) v) bytes → Fronted (IsUnsigned wide) (fixed_bytes wide) bytes
    value (Unsigned n) h b = (n, h, b)
    value v h b = absurd h

    by : Decided (Fronted (IsUnsigned wide) (fixed_bytes wide) bytes) → Decided (Fronted (IsOfForm (FixedBytes wide)) (field_spelling (FixedBytes wide)) bytes)
    by (inl s) = inl (Unsigned s.0, s.1, s.2)
    by (inr none) = inr (λ s. none (value s.0 s.1 s.2))
field_front (SignedFixedBytes wide) bytes = by (signed_front wide (signed_fixed_bytes wide) bytes)
  where
    value : (v : Plain) → IsOfForm (SignedFixedBytes wide) v → Begins (field_spelling (SignedFixedBytes wide) v) bytes → Fronted (IsSigned wide) (signed_fixed_bytes wide) bytes
    value (Signed z) h b = (z, h, b)
    value v h b = absurd h

    by : Decided (Fronted (IsSigned wide) (signed_fixed_bytes wide) bytes) → Decided (Fronted (IsOfForm (SignedFixedBytes wide)) (field_spelling (SignedFixedBytes wide)) bytes)
    by (inl s) = inl (Signed s.0, s.1, s.2)
    by (inr none) = inr (λ s. none (value s.0 s.1 s.2))
field_front TextBytes bytes = by (ended_front bytes)
  where
    value : (v : Plain) → IsOfForm TextBytes v → Begins (field_spelling TextBytes v) bytes → (bs : List ℕ) × IsUtf8 bs × Begins (terminated bs) bytes
    value (Text bs) h b = (bs, h, b)
    value v h b = absurd h

    text : (s : Fronted Anything terminated bytes) → Decided (IsUtf8 s.0) → Decided (Fronted (IsOfForm TextBytes) (field_spelling TextBytes) bytes)
    text s (inl u) = inl (Text s.0, u, s.2)
    text s (inr none) = inr (λ t. let v = value t.0 t.1 t.2 in none (subst IsUtf8 (code_apart ended_code v.0 s.0 v.2.0 s.2.0 tt tt (sym v.2.1 ∙ s.2.1)) v.1))

    by : Decided (Fronted Anything terminated bytes) → Decided (Fronted (IsOfForm TextBytes) (field_spelling TextBytes) bytes)
    by (inl s) = text s (utf8_or_not s.0)
    by (inr none) = inr (λ s. let v = value s.0 s.1 s.2 in none (v.0, tt, v.2))
field_front RawBytes bytes = by (ended_front bytes)
  where
    value : (v : Plain) → IsOfForm RawBytes v → Begins (field_spelling RawBytes v) bytes → Fronted Anything terminated bytes
    value (Octets bs) h b = (bs, tt, b)
    value v h b = absurd h

    by : Decided (Fronted Anything terminated bytes) → Decided (Fronted (IsOfForm RawBytes) (field_spelling RawBytes) bytes)
    by (inl s) = inl (Octets s.0, tt, s.2)
    by (inr none) = inr (λ s. none (value s.0 s.1 s.2))

-- ---- a whole value

empty_or_not : (bytes : List ℕ) → Decided (bytes ≡ [])
empty_or_not [] = inl refl
empty_or_not (b ∷ bytes) = inr (λ e. cc e)

-- all of the bytes are one field
field_whole : (form : SpellingForm) (bytes : List ℕ) → Decided ((v : Plain) × IsOfForm form v × (bytes ≡ field_spelling form v))
field_whole form bytes = by (field_front form bytes)
  where
    rest : (s : Fronted (IsOfForm form) (field_spelling form) bytes) → Decided (s.2.0 ≡ []) → Decided ((v : Plain) × IsOfForm form v × (bytes ≡ field_spelling form v))
    rest s (inl e) = inl (s.0, s.1, s.2.1 ∙ ap (λ l. field_spelling form s.0 ++ l) e ∙ append-nil (field_spelling form s.0))
    rest s (inr more) = inr (λ v. more (sym (code_rest (field_code form) v.0 s.0 [] s.2.0 v.1 s.1 (append-nil (field_spelling form v.0) ∙ sym v.2 ∙ s.2.1))))

    by : Decided (Fronted (IsOfForm form) (field_spelling form) bytes) → Decided ((v : Plain) × IsOfForm form v × (bytes ≡ field_spelling form v))
    by (inl s) = rest s (empty_or_not s.2.0)
    by (inr none) = inr (λ v. none (v.0, v.1, ([], v.2 ∙ sym (append-nil (field_spelling form v.0)))))

plain_whole : (form : SpellingForm) (bytes : List ℕ) → Decided ((v : Plain) × IsOfForm form v × (bytes ≡ plain_spelling form v))
plain_whole TruthByte bytes = field_whole TruthByte bytes
plain_whole (UnsignedVarint wide) bytes = field_whole (UnsignedVarint wide) bytes
plain_whole (SignedVarint wide) bytes = field_whole (SignedVarint wide) bytes
plain_whole (FixedBytes wide) bytes = field_whole (FixedBytes wide) bytes
plain_whole (SignedFixedBytes wide) bytes = field_whole (SignedFixedBytes wide) bytes
plain_whole TextBytes bytes = by (utf8_or_not bytes)
  where
    value : (v : Plain) → IsOfForm TextBytes v → bytes ≡ plain_spelling TextBytes v → IsUtf8 bytes
    value (Text bs) h e = subst IsUtf8 (sym e) h
    value v h e = absurd h

    by : Decided (IsUtf8 bytes) → Decided ((v : Plain) × IsOfForm TextBytes v × (bytes ≡ plain_spelling TextBytes v))
    by (inl u) = inl (Text bytes, u, refl)
    by (inr none) = inr (λ s. none (value s.0 s.1 s.2))
plain_whole RawBytes bytes = inl (Octets bytes, tt, refl)

-- all of the bytes are the fields of a struct
packed_whole : (words : List Word) (bytes : List ℕ) → Decided ((vs : List Plain) × ArePlainsOf words vs × (bytes ≡ packed_spelling words vs))
packed_whole [] bytes = by (empty_or_not bytes)
  where
    none_of : (vs : List Plain) → ArePlainsOf [] vs → bytes ≡ packed_spelling [] vs → bytes ≡ []
    none_of vs h e = e

    by : Decided (bytes ≡ []) → Decided ((vs : List Plain) × ArePlainsOf [] vs × (bytes ≡ packed_spelling [] vs))
    by (inl e) = inl ([], tt, e)
    by (inr more) = inr (λ s. more (none_of s.0 s.1 s.2))
packed_whole (word ∷ words) bytes = by (field_front (spelling_form_of word) bytes) (λ more. packed_whole words more)
  where
    form : SpellingForm
    form = spelling_form_of word

    parts : (vs : List Plain) → ArePlainsOf (word ∷ words) vs → bytes ≡ packed_spelling (word ∷ words) vs
        → (v : Plain) × (us : List Plain) × IsOfForm form v × ArePlainsOf words us × (bytes ≡ field_spelling form v ++ packed_spelling words us)
    parts [] h e = absurd h
    parts (v ∷ us) h e = (v, us, h.0, h.1, e)

    all : (s : Fronted (IsOfForm form) (field_spelling form) bytes) → Decided ((us : List Plain) × ArePlainsOf words us × (s.2.0 ≡ packed_spelling words us))
        → Decided ((vs : List Plain) × ArePlainsOf (word ∷ words) vs × (bytes ≡ packed_spelling (word ∷ words) vs))
    all s (inl t) = inl (s.0 ∷ t.0, (s.1, t.1), s.2.1 ∙ ap (λ l. field_spelling form s.0 ++ l) t.2)
    all s (inr none) = inr (λ u.
        let t = parts u.0 u.1 u.2 in
        none (t.1, t.3, code_rest (field_code form) s.0 t.0 s.2.0 (packed_spelling words t.1) s.1 t.2 (sym s.2.1 ∙ t.4)))

    by : Decided (Fronted (IsOfForm form) (field_spelling form) bytes)
        → ((more : List ℕ) → Decided ((us : List Plain) × ArePlainsOf words us × (more ≡ packed_spelling words us)))
        → Decided ((vs : List Plain) × ArePlainsOf (word ∷ words) vs × (bytes ≡ packed_spelling (word ∷ words) vs))
    by (inl s) rest = all s (rest s.2.0)
    by (inr none) rest = inr (λ u. let t = parts u.0 u.1 u.2 in none (t.0, t.2, (packed_spelling words t.1, t.4)))

-- Some bytes spell a value of the kind, or none.
pub spelling_or_not : (kind : ScalarKind) (bytes : List ℕ) → Decided (IsSpelling kind bytes)
spelling_or_not (ScalarKind.One word) bytes = by (plain_whole (spelling_form_of word) bytes)
  where
    one : (v : ScalarValue) → IsScalarOf (ScalarKind.One word) v → bytes ≡ spelling (ScalarKind.One word) v → (w : Plain) × IsOfForm (spelling_form_of word) w × (bytes ≡ plain_spelling (spelling_form_of word) w)
    one (ScalarValue.One v) h e = (v, h, e)
    one (ScalarValue.Packed vs) h e = absurd h

    by : Decided ((v : Plain) × IsOfForm (spelling_form_of word) v × (bytes ≡ plain_spelling (spelling_form_of word) v)) → Decided (IsSpelling (ScalarKind.One word) bytes)
    by (inl s) = inl (ScalarValue.One s.0, s.1, s.2)
    by (inr none) = inr (λ s. none (one s.0 s.1 s.2))
spelling_or_not (ScalarKind.Packed words) bytes = by (packed_whole words bytes)
  where
    packed : (v : ScalarValue) → IsScalarOf (ScalarKind.Packed words) v → bytes ≡ spelling (ScalarKind.Packed words) v → (ws : List Plain) × ArePlainsOf words ws × (bytes ≡ packed_spelling words ws)
    packed (ScalarValue.One v) h e = absurd h
    packed (ScalarValue.Packed vs) h e = (vs, h, e)

    by : Decided ((vs : List Plain) × ArePlainsOf words vs × (bytes ≡ packed_spelling words vs)) → Decided (IsSpelling (ScalarKind.Packed words) bytes)
    by (inl s) = inl (ScalarValue.Packed s.0, s.1, s.2)
    by (inr none) = inr (λ s. none (packed s.0 s.1 s.2))

-- They are a count of 64 bits, or no count.
pub count_or_not : (bytes : List ℕ) → Decided (IsCount bytes)
count_or_not bytes = by (field_whole (UnsignedVarint true) bytes)
  where
    count : (v : Plain) → IsOfForm (UnsignedVarint true) v → bytes ≡ field_spelling (UnsignedVarint true) v → IsCount bytes
    count (Unsigned n) h e = (n, h, e)
    count v h e = absurd h

    by : Decided ((v : Plain) × IsOfForm (UnsignedVarint true) v × (bytes ≡ field_spelling (UnsignedVarint true) v)) → Decided (IsCount bytes)
    by (inl s) = inl (count s.0 s.1 s.2)
    by (inr none) = inr (λ s. none (Unsigned s.0, s.1, s.2))

pub nothing_or_not : (bytes : List ℕ) → Decided (bytes ≡ [])
nothing_or_not = empty_or_not
