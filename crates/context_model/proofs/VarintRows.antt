-- Varints computed: the shortest and the longest number of some lengths.
use Rattle.std.proofs.Common.{◌≡◌, ◌-◌, ◌^◌, ◌∷◌, [], pos, negsuc, refl}
use Rattle.context_model.specs.Varints.{unsigned_form, unsigned_tail, unsigned_varint, natural_form, natural_tail, complement, signed_form, signed_tail, signed_varint}

u0 : unsigned_varint 0 ≡ 0 ∷ []
unfolding unsigned_varint unsigned_form unsigned_tail
u0 = refl

u127 : unsigned_varint 127 ≡ 0x7f ∷ []
unfolding unsigned_varint unsigned_form unsigned_tail
u127 = refl

u128 : unsigned_varint 128 ≡ 0x80 ∷ 0x80 ∷ []
unfolding unsigned_varint unsigned_form unsigned_tail
u128 = refl

u16383 : unsigned_varint 16383 ≡ 0xbf ∷ 0xff ∷ []
unfolding unsigned_varint unsigned_form unsigned_tail
u16383 = refl

u16384 : unsigned_varint 16384 ≡ 0xc0 ∷ 0x40 ∷ 0 ∷ []
unfolding unsigned_varint unsigned_form unsigned_tail
u16384 = refl

u_eight : unsigned_varint (2 ^ 56 - 1) ≡ 0xfe ∷ 0xff ∷ 0xff ∷ 0xff ∷ 0xff ∷ 0xff ∷ 0xff ∷ 0xff ∷ []
unfolding unsigned_varint unsigned_form unsigned_tail
u_eight = refl

u_nine : unsigned_varint (2 ^ 56) ≡ 0xff ∷ 1 ∷ 0 ∷ 0 ∷ 0 ∷ 0 ∷ 0 ∷ 0 ∷ 0 ∷ []
unfolding unsigned_varint unsigned_form unsigned_tail
u_nine = refl

u_last : unsigned_varint (2 ^ 64 - 1) ≡ 0xff ∷ 0xff ∷ 0xff ∷ 0xff ∷ 0xff ∷ 0xff ∷ 0xff ∷ 0xff ∷ 0xff ∷ []
unfolding unsigned_varint unsigned_form unsigned_tail
u_last = refl

s_minus65 : signed_varint (negsuc 64) ≡ 0x3f ∷ 0xbf ∷ []
unfolding signed_varint signed_form signed_tail natural_form natural_tail complement
s_minus65 = refl

s_minus64 : signed_varint (negsuc 63) ≡ 0x40 ∷ []
unfolding signed_varint signed_form signed_tail natural_form natural_tail complement
s_minus64 = refl

s_minus1 : signed_varint (negsuc 0) ≡ 0x7f ∷ []
unfolding signed_varint signed_form signed_tail natural_form natural_tail complement
s_minus1 = refl

s0 : signed_varint (pos 0) ≡ 0x80 ∷ []
unfolding signed_varint signed_form signed_tail natural_form natural_tail complement
s0 = refl

s63 : signed_varint (pos 63) ≡ 0xbf ∷ []
unfolding signed_varint signed_form signed_tail natural_form natural_tail complement
s63 = refl

s64 : signed_varint (pos 64) ≡ 0xc0 ∷ 0x40 ∷ []
unfolding signed_varint signed_form signed_tail natural_form natural_tail complement
s64 = refl

s_last : signed_varint (pos (2 ^ 63 - 1)) ≡ 0xff ∷ 0x7f ∷ 0xff ∷ 0xff ∷ 0xff ∷ 0xff ∷ 0xff ∷ 0xff ∷ 0xff ∷ []
unfolding signed_varint signed_form signed_tail natural_form natural_tail complement
s_last = refl

s_first : signed_varint (negsuc (2 ^ 63 - 1)) ≡ 0 ∷ 0x80 ∷ 0 ∷ 0 ∷ 0 ∷ 0 ∷ 0 ∷ 0 ∷ 0 ∷ []
unfolding signed_varint signed_form signed_tail natural_form natural_tail complement
s_first = refl
